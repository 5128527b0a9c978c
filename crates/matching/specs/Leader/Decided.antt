-- What counts as decided, as a test that a step makes (`leader_step_by` takes one) and as a claim (`CommitBy` and `leader_rows_by` take one).
--     Reflects                 the test passes exactly where the claim holds
--     value_number, DecidedBy  the claim that a test itself makes
-- Assumes nothing.
use Rattle.std.specs.Prelude.{ℕ, Bool, true, ◌↔◌, ◌≡◌}
use Rattle.message.specs.Form.{is_value}
use Rattle.paxos_commit.specs.PaxosCommit.{Val, prepared, aborted, none}
use Rattle.matching.specs.Reading.{val_of}

abbrev pub Reflects : (ℕ → ℕ → Bool) → (ℕ → Val → Type 0) → Type 0
Reflects isDecided Decided = (i v : ℕ) → is_value v ≡ true → (isDecided i v ≡ true) ↔ Decided i (val_of v)

abbrev pub value_number : Val → ℕ
value_number prepared = 1
value_number aborted = 2
value_number none = 0

abbrev pub DecidedBy : (ℕ → ℕ → Bool) → ℕ → Val → Type 0
DecidedBy isDecided i v = isDecided i (value_number v) ≡ true
