-- For all, and for some, of the numbers below a count: the tests as propositions.
--     for_all_all, all_for_all, for_all_fails, for_some_some, some_for_some, for_some_none
--     for_some_zero, for_some_next   no number, and one more
-- Assumes nothing.
use Prim.Native.Nat.{ℕ, zero, suc, ◌+◌, ◌<◌}
use Rattle.std.specs.Prelude.{Bool, ◌&&◌, ◌||◌, ◌⊎◌, ◌≡◌}
use Rattle.std.proofs.Math.Bool.{true, false, or_comm}
use Rattle.std.proofs.lemmas.Bool.{false≢true}
use Rattle.std.proofs.Math.Logic.{inl, inr}
use Rattle.std.proofs.Math.Path.{refl, ap}
use Rattle.std.proofs.Common.{sym, ◌∙◌, not-suc-le-zero, add-one, arith}
use Rattle.std.proofs.Math.Decide.{ℕ_discrete}
use Rattle.std.proofs.Math.Nat.{le_refl}
use Rattle.message.proofs.Outcome.Laws.{both}
use Rattle.inbox.specs.Inbox.{for_all, for_some}

module _ (test : ℕ → Bool) where
  below_suc : (i n : ℕ) → i < suc n → (i ≡ n) ⊎ (i < n)
  below_suc i n h = elim (ℕ_discrete i n) [ yes e ↦ inl e | no k ↦ inr (omega (arith, k)) ]

  pub for_all_all : (n : ℕ) → for_all n test ≡ true → (i : ℕ) → i < n → test i ≡ true
  unfolding for_all
  for_all_all zero h i k = absurd (not-suc-le-zero k)
  for_all_all (suc n) h i k =
      let t = both (test n) (for_all n test) h in
      elim (below_suc i n k) [ inl e ↦ ap test e ∙ t.0 | inr l ↦ for_all_all n t.1 i l ]

  pub all_for_all : (n : ℕ) → ((i : ℕ) → i < n → test i ≡ true) → for_all n test ≡ true
  unfolding for_all
  all_for_all zero h = refl
  all_for_all (suc n) h = rw (h n (le_refl _)) (all_for_all n (λ i k. h i (omega arith)))

  pub for_some_some : (n : ℕ) → for_some n test ≡ true → (i : ℕ) × (i < n) × (test i ≡ true)
  unfolding for_some
  for_some_some zero h = absurd (false≢true h)
  for_some_some (suc n) h = go (test n) refl h (for_some_some n)
    where
      go : (t : Bool) → test n ≡ t → (t || for_some n test) ≡ true → (for_some n test ≡ true → (i : ℕ) × (i < n) × (test i ≡ true))
          → (i : ℕ) × (i < suc n) × (test i ≡ true)
      go true e h rest = (n, le_refl _, e)
      go false e h rest = let s = rest h in (s.0, omega (arith, s.1), s.2)

  pub some_for_some : (n i : ℕ) → i < n → test i ≡ true → for_some n test ≡ true
  unfolding for_some
  some_for_some zero i k h = absurd (not-suc-le-zero k)
  some_for_some (suc n) i k h = go (test n) refl (below_suc i n k) (some_for_some n i)
    where
      go : (t : Bool) → test n ≡ t → (i ≡ n) ⊎ (i < n) → (i < n → test i ≡ true → for_some n test ≡ true) → (test n || for_some n test) ≡ true
      go true e s rest = rw e
      go false e (inl s) rest = absurd (false≢true (sym e ∙ ap test (sym s) ∙ h))
      go false e (inr l) rest = rw e (rest l h)

  pub for_some_none : (n : ℕ) → for_some n test ≡ false → (i : ℕ) → i < n → test i ≡ false
  for_some_none n h i k = go (test i) refl
    where
      go : (t : Bool) → test i ≡ t → t ≡ false
      go true e = sym (some_for_some n i k e) ∙ h
      go false e = refl

  pub for_some_zero : for_some 0 test ≡ false
  unfolding for_some
  for_some_zero = refl

  pub for_some_next : (n : ℕ) → for_some (n + 1) test ≡ (for_some n test || test n)
  unfolding for_some
  for_some_next n = rw (add-one n) (or_comm (test n) (for_some n test))

  pub for_all_fails : (n : ℕ) → for_all n test ≡ false → (i : ℕ) × (i < n) × (test i ≡ false)
  unfolding for_all
  for_all_fails zero h = absurd (false≢true (sym h))
  for_all_fails (suc n) h = go (test n) refl h (for_all_fails n)
    where
      go : (t : Bool) → test n ≡ t → (t && for_all n test) ≡ false → (for_all n test ≡ false → (i : ℕ) × (i < n) × (test i ≡ false))
          → (i : ℕ) × (i < suc n) × (test i ≡ false)
      go false e h rest = (n, le_refl _, e)
      go true e h rest = let s = rest h in (s.0, omega (arith, s.1), s.2)
