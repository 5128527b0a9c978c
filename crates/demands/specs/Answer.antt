-- What demand 1 says of every call's answer.
--     AcceptedOr               an acceptance, or one refusal number from the documents: one of these
--     one_to14, to14_and20   the numbers of a call that judges tables and an event; and of one that is lent a summary
--     KeepsOwn, KeepsLeader    that, of a role's own call, and a refusal leaves what it was lent
-- Its laws are in proofs/Answer/Laws.antt. Assumes nothing.
use Rattle.std.specs.Prelude.{ℕ, ◌⊎◌, ◌≡◌}
use mathlib.Core.List.{List, [], ◌∷◌, Memᴰ}
use Rattle.message.specs.Outcome.{Outcome, accepted, refused}
use Rattle.change.specs.Change.{Step}
use Rattle.leader.specs.Leader.{LeaderStep}

-- an acceptance, or one of these refusal numbers
abbrev pub AcceptedOr : {A : Type 0} → List ℕ → Outcome A → Type 0
AcceptedOr {A} numbers answer = ((a : A) × (answer ≡ accepted a)) ⊎ ((k : ℕ) × Memᴰ k numbers × (answer ≡ refused k))

abbrev pub one_to14 : List ℕ
one_to14 = 1 ∷ 2 ∷ 3 ∷ 4 ∷ 5 ∷ 6 ∷ 7 ∷ 8 ∷ 9 ∷ 10 ∷ 11 ∷ 12 ∷ 13 ∷ 14 ∷ []

-- 20 too (document 02, Paper 5)
abbrev pub to14_and20 : List ℕ
to14_and20 = 20 ∷ one_to14

-- a weight's or an acceptor's own call that was lent this table of the role and this N
abbrev pub KeepsOwn : List ℕ → List ℕ → Step → Type 0
KeepsOwn table network s = AcceptedOr one_to14 s.answer × ((k : ℕ) → s.answer ≡ refused k → (s.table ≡ table) × (s.network ≡ network))

-- a leader's, which was lent its bytes of the summary too
abbrev pub KeepsLeader : List ℕ → List ℕ → List ℕ → LeaderStep → Type 0
KeepsLeader inbox summary network s =
    AcceptedOr to14_and20 s.step.answer
    × ((k : ℕ) → s.step.answer ≡ refused k → (s.step.table ≡ inbox) × (s.step.network ≡ network) × (s.summary ≡ summary))
