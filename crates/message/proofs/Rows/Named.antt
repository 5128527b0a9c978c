-- One row of "Refusals by place".
--     RowOf                      the row with a number, if the rows have it once: with numbers and rows written out it computes to that row
--     row_applies, applies_row   it applies exactly where its number does
--     Passed, first_passed       of two rows written out, that the one before the first that applies does not
-- Assumes nothing.
use Rattle.std.specs.Prelude.{ℕ, Bool, true, false, ◌≡◌, refl, eqb}
use Rattle.std.proofs.Common.{eqb-true}
use Rattle.std.proofs.lemmas.Bool.{eqb-false}
use Rattle.message.specs.Rows.{Rows, end, guard, Either, here, below, Applies, First}

abbrev pub Named : Bool → Type 1 → Type 1 → Type 1
Named true A B = Either A B
Named false A B = B

abbrev pub RowOf : Rows → ℕ → Type 1
RowOf end k = Unit {1} → ⊥
RowOf (guard number applies rest) k = Named (eqb k number) applies (RowOf rest k)

named_applies : (k n : ℕ) (A B C : Type 1) → (B → C) → (b : Bool) → eqb k n ≡ b → Either ((k ≡ n) × A) B → Named b A C
named_applies k n A B C next true e (here h) = here h.1
named_applies k n A B C next true e (below h) = below (next h)
named_applies k n A B C next false e (here h) = absurd (eqb-false k n e h.0)
named_applies k n A B C next false e (below h) = next h

applies_named : (k n : ℕ) (A B C : Type 1) → (C → B) → (b : Bool) → eqb k n ≡ b → Named b A C → Either ((k ≡ n) × A) B
applies_named k n A B C next true e (here h) = here (eqb-true k n e, h)
applies_named k n A B C next true e (below h) = below (next h)
applies_named k n A B C next false e h = below (next h)

pub row_applies : (rows : Rows) (k : ℕ) → Applies rows k → RowOf rows k
row_applies end k h = h
row_applies (guard n t rest) k h = named_applies k n t (Applies rest k) (RowOf rest k) (row_applies rest k) (eqb k n) refl h

pub applies_row : (rows : Rows) (k : ℕ) → RowOf rows k → Applies rows k
applies_row end k h = h
applies_row (guard n t rest) k h = applies_named k n t (Applies rest k) (RowOf rest k) (applies_row rest k) (eqb k n) refl h

-- row j, where row k is the first that applies: it does not, if it stands before row k
abbrev pub Skips : Bool → Bool → Type 1 → Type 1 → Type 1
Skips true b A B = Unit {1}
Skips false true A B = A → ⊥
Skips false false A B = B

abbrev pub Passed : Rows → ℕ → ℕ → Type 1
Passed end k j = Unit {1}
Passed (guard number applies rest) k j = Skips (eqb k number) (eqb j number) applies (Passed rest k j)

skips_first : (k n : ℕ) (A B C : Type 1) → (B → C) → (s b : Bool) → eqb k n ≡ s → Either ((k ≡ n) × A) ((A → ⊥) × B) → Skips s b A C
skips_first k n A B C next true b e h = tt
skips_first k n A B C next false true e (here h) = absurd (eqb-false k n e h.0)
skips_first k n A B C next false true e (below h) = h.0
skips_first k n A B C next false false e (here h) = absurd (eqb-false k n e h.0)
skips_first k n A B C next false false e (below h) = next h.1

pub first_passed : (rows : Rows) (k j : ℕ) → First rows k → Passed rows k j
first_passed end k j f = tt
first_passed (guard n t rest) k j f = skips_first k n t (First rest k) (Passed rest k j) (first_passed rest k j) (eqb k n) (eqb j n) refl f
