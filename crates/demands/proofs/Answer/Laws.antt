-- A call that answers one of its rows that applies.
--     is_among        the rows' numbers are among these
--     accepted_or     so the call answers an acceptance or such a number
-- Assumes nothing.
use Rattle.std.specs.Prelude.{ℕ, Bool, true, false, ◌&&◌, ◌||◌, ◌≡◌, refl, eqb}
use Rattle.std.proofs.lemmas.Bool.{false≢true}
use mathlib.Core.List.{List, [], ◌∷◌, Memᴰ}
use Rattle.std.proofs.Common.{inl, inr, eqb-true}
use Rattle.message.specs.Outcome.{Outcome, accepted, refused}
use Rattle.message.proofs.Outcome.Laws.{both}
use Rattle.message.specs.Rows.{Rows, end, guard, here, below, Applies}
use Rattle.demands.specs.Answer.{AcceptedOr}

is_in : ℕ → List ℕ → Bool
is_in k [] = false
is_in k (n ∷ ns) = eqb k n || is_in k ns

unfoldable pub is_among : List ℕ → Rows → Bool
unfolding is_in
is_among numbers end = true
is_among numbers (guard number applies rest) = is_in number numbers && is_among numbers rest

in_member : (k : ℕ) (l : List ℕ) → is_in k l ≡ true → Memᴰ k l
unfolding is_in
in_member k [] e = absurd (false≢true e)
in_member k (n ∷ ns) e = go (eqb k n) refl e (in_member k ns)
  where
    go : (b : Bool) → eqb k n ≡ b → (b || is_in k ns) ≡ true → (is_in k ns ≡ true → Memᴰ k ns) → Memᴰ k (n ∷ ns)
    go true same e more = Memᴰ.head (eqb-true k n same)
    go false other e more = Memᴰ.tail (more e)

applies_among : (numbers : List ℕ) (rows : Rows) → is_among numbers rows ≡ true → (k : ℕ) → Applies rows k → Memᴰ k numbers
unfolding is_among
applies_among numbers end among k h = absurd (h tt)
applies_among numbers (guard n t rest) among k (here h) = rw h.0 (in_member n numbers (both (is_in n numbers) (is_among numbers rest) among).0)
applies_among numbers (guard n t rest) among k (below h) = applies_among numbers rest (both (is_in n numbers) (is_among numbers rest) among).1 k h

pub accepted_or : {A : Type 0} (numbers : List ℕ) (rows : Rows) → is_among numbers rows ≡ true → (answer : Outcome A)
    → ((k : ℕ) → answer ≡ refused k → Applies rows k) → AcceptedOr numbers answer
accepted_or numbers rows among (accepted a) applies = inl (a, refl)
accepted_or numbers rows among (refused k) applies = inr (k, applies_among numbers rows among k (applies k refl), refl)
