-- What counts as decided, as a test that a step makes (`leader_step_by` takes one) and as a claim (`CommitBy` and `leader_rows_by` take one).
--     reflects_by              which it reflects
-- Assumes nothing.
use Rattle.std.specs.Prelude.{ℕ, Bool, true, false, cond, ◌↔◌, ◌≡◌, refl, leb, eqb}
use Rattle.std.proofs.Common.{arith, eqb-true, leb-true}
use Rattle.std.proofs.lemmas.Bool.{eqb-false}
use Rattle.message.proofs.Outcome.Laws.{both}
use Rattle.message.specs.Form.{is_value}
use Rattle.paxos_commit.specs.PaxosCommit.{prepared, aborted}
use Rattle.matching.specs.Leader.Decided.{Reflects, DecidedBy}

pub reflects_by : (isDecided : ℕ → ℕ → Bool) → Reflects isDecided (DecidedBy isDecided)
unfolding is_value
reflects_by isDecided i v h = go (eqb v 1) refl
  where
    go : (b : Bool) → eqb v 1 ≡ b → (isDecided i v ≡ true) ↔ DecidedBy isDecided i (cond b prepared aborted)
    go true e = let one : v ≡ 1 = eqb-true v 1 e in rw one (λ d. d, λ d. d)
    go false e =
        let other : v ≡ 1 → ⊥ = eqb-false v 1 e in
        let least = leb-true 1 v (both (leb 1 v) (leb v 2) h).0 in
        let most = leb-true v 2 (both (leb 1 v) (leb v 2) h).1 in
        let two : v ≡ 2 = omega (arith, other) in rw two (λ d. d, λ d. d)
