-- The rows of "Refusals by place" for a call, document 01's sentence "The lowest number that applies is returned", and the first row that applies,
-- for the calls of document 02 that check a row out of order.
--     Rows, row        the rows of a call in order, each with its number and when it applies; `guard` where that speaks of published states:
--                      row 12, which applies where the action is not enabled (that an accepted call is the action is said beside it)
--     Applies          some row with this number applies
--     Lowest           the answer is refused with k exactly where row k applies and none with a lower number does, and accepted exactly
--                      where no row applies
--     First, InOrder   row k is the first that applies; the answer is refused with k exactly where it is, and accepted exactly where no row
--                      applies: for the calls that check a row after one with a higher number
-- Its laws are in proofs/Rows/Laws.antt and proofs/Rows/Named.antt. Assumes nothing.
use Rattle.std.specs.Prelude.{ℕ, ◌<◌, ◌↔◌, ◌≡◌}
use Rattle.message.specs.Outcome.{Outcome, accepted, refused}

pub data Rows : Type 2 where
  end : Rows
  guard : ℕ → Type 1 → Rows → Rows

abbrev pub row : ℕ → Type 0 → Rows → Rows
row number applies rest = guard number (applies × Unit {1}) rest

-- one or the other, of propositions about published states
pub data Either (A B : Type 1) : Type 1 where
  here : A → Either A B
  below : B → Either A B

abbrev pub Applies : Rows → ℕ → Type 1
Applies end k = Unit {1} → ⊥
Applies (guard number applies rest) k = Either ((k ≡ number) × applies) (Applies rest k)

-- the first row that applies has the number k
abbrev pub First : Rows → ℕ → Type 1
First end k = Unit {1} → ⊥
First (guard number applies rest) k = Either ((k ≡ number) × applies) ((applies → ⊥) × First rest k)

pub record InOrder {A : Type 0} (rows : Rows) (answer : Outcome A) : Type 1 where
  pub refuses : (k : ℕ) → (answer ≡ refused k) ↔ First rows k
  pub accepts : ((a : A) × (answer ≡ accepted a)) ↔ ((k : ℕ) → Applies rows k → ⊥)

pub record Lowest {A : Type 0} (rows : Rows) (answer : Outcome A) : Type 1 where
  pub refuses : (k : ℕ) → (answer ≡ refused k) ↔ (Applies rows k × ((j : ℕ) → j < k → Applies rows j → ⊥))
  pub accepts : ((a : A) × (answer ≡ accepted a)) ↔ ((k : ℕ) → Applies rows k → ⊥)
