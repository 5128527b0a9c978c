-- A test of numbers that follow each other.
--     each, each_at, each_all, each_suc, each_end     the test of n numbers from a on: one more, no more than these
--     halves_suc, halves_end     n numbers from 0 and from h on: one more of each, and all below 2 h
--     each_same, each_both     a test that is the same, and two tests in one
--     zero_all         a list of zeros
--     interchange      two conjunctions, side by side
-- Assumes nothing.
use Prim.Native.Nat.{ℕ, zero, suc, ◌+◌, ◌*◌, ◌≤◌, ◌<◌}
use Rattle.std.specs.Prelude.{Bool, false, ◌&&◌, List, [], ◌∷◌, ◌≡◌, eqb, length, get_or}
use Rattle.std.proofs.Math.Bool.{true, and_assoc, and-true}
use Rattle.std.proofs.Math.Path.{refl, ap}
use Rattle.std.proofs.Common.{sym, ◌∙◌, add-zero, add-suc, not-suc-le-zero, arith}
use Rattle.std.proofs.Math.Decide.{ℕ_discrete}
use Rattle.std.proofs.Math.Nat.{zero-add}
use Rattle.std.proofs.Math.Numerals.{add-one}
use Rattle.message.proofs.Outcome.Laws.{both}
use Rattle.slots.specs.All.{all}
use Rattle.slots.specs.Table.{is_zero}

unfoldable pub each : (ℕ → Bool) → ℕ → ℕ → Bool
each f a zero = true
each f a (suc n) = each f a n && f (a + n)

-- two conjunctions, side by side
pub interchange : (x y a b : Bool) → ((x && a) && (y && b)) ≡ ((x && y) && (a && b))
interchange false y a b = refl
interchange true false false b = refl
interchange true false true b = refl
interchange true true false b = refl
interchange true true true b = refl

module _ (f : ℕ → Bool) where
  pub each_at : (a n k : ℕ) → each f a n ≡ true → k < n → f (a + k) ≡ true
  unfolding each
  each_at a zero k e h = absurd (not-suc-le-zero h)
  each_at a (suc n) k e h = go (ℕ_discrete k n) (λ l. each_at a n k (both (each f a n) (f (a + n)) e).0 l)
    where
      go : Dec (k ≡ n) → (k < n → f (a + k) ≡ true) → f (a + k) ≡ true
      go (yes x) below = rw x (both (each f a n) (f (a + n)) e).1
      go (no x) below = below (omega arith)

  pub each_all : (a n : ℕ) → ((k : ℕ) → k < n → f (a + k) ≡ true) → each f a n ≡ true
  unfolding each
  each_all a zero h = refl
  each_all a (suc n) h = rw (h n (omega arith)) (rw (and-true (each f a n)) (each_all a n (λ k l. h k (omega arith))))

  each_add : (a m n : ℕ) → each f a (m + n) ≡ (each f a m && each f (a + m) n)
  unfolding each
  each_add a m zero = rw (add-zero m) (sym (and-true (each f a m)))
  each_add a m (suc n) =
      rw (add-suc m n)
      (rw (each_add a m n)
      (and_assoc (each f a m) (each f (a + m) n) (f (a + (m + n)))
      ∙ ap (λ (k : ℕ). each f a m && (each f (a + m) n && f k)) (omega arith)))

  pub each_suc : (n : ℕ) (b r : Bool) → b ≡ each f 0 n → r ≡ (b && f n) → r ≡ each f 0 (n + 1)
  unfolding each
  each_suc n b r e x = rw (x, e, add-one n, zero-add n) refl

  -- no more than these
  pub each_end : (n u : ℕ) (b : Bool) → b ≡ each f 0 n → n ≤ u → u ≤ n → b ≡ each f 0 u
  each_end n u b e l m = e ∙ (let x : n ≡ u = omega arith in ap (each f 0) x)

  pub halves_suc : (h n : ℕ) (b r : Bool) → b ≡ (each f 0 n && each f h n) → r ≡ (b && (f n && f (h + n)))
      → r ≡ (each f 0 (n + 1) && each f h (n + 1))
  unfolding each
  halves_suc h n b r e x = rw (x, e, add-one n, zero-add n) (sym (interchange (each f 0 n) (each f h n) (f n) (f (h + n))))

  pub halves_end : (h n : ℕ) (b : Bool) → b ≡ (each f 0 n && each f h n) → n ≤ h → h ≤ n → b ≡ each f 0 (2 * h)
  halves_end h n b e l m =
      let x : n ≡ h = omega arith in
      let y : h + h ≡ 2 * h = omega arith in
      e ∙ rw x (sym (rw (zero-add h) at (each_add 0 h h))) ∙ ap (each f 0) y

-- a test that is the same below n, and two tests in one
module _ (f g : ℕ → Bool) where
  pub each_same : (n : ℕ) → ((k : ℕ) → k < n → f k ≡ g k) → each f 0 n ≡ each g 0 n
  unfolding each
  each_same zero h = refl
  each_same (suc n) h = rw (each_same n (λ k l. h k (omega arith)), zero-add n, h n (omega arith)) refl

  pub each_both : (n : ℕ) → each (λ k. f k && g k) 0 n ≡ (each f 0 n && each g 0 n)
  unfolding each
  each_both zero = refl
  each_both (suc n) = rw (each_both n, zero-add n) (interchange (each f 0 n) (f n) (each g 0 n) (g n))

zero_from : (l : List ℕ) (a n : ℕ) (g : ℕ → Bool) → ((k : ℕ) → g (a + k) ≡ eqb (get_or l k 0) 0) → n ≡ length l → each g a n ≡ is_zero l
unfolding is_zero all each
zero_from [] a n g h e = rw e refl
zero_from (x ∷ l) a n g h e =
    ap (each g a) (e ∙ one_left (length l))
    ∙ each_add g a 1 (length l)
    ∙ pair (ap g (refl {a = a + 0}) ∙ h 0) (zero_from l (a + 1) (length l) g (λ k. ap g (shift a k) ∙ h (suc k)) refl)
  where
    one_left : (n : ℕ) → suc n ≡ 1 + n
    one_left n = omega arith

    shift : (a k : ℕ) → a + 1 + k ≡ a + suc k
    shift a k = omega arith

    pair : {p q r s : Bool} → p ≡ q → r ≡ s → (p && r) ≡ (q && s)
    pair x y = rw (x, y) refl

zero_each : (l : List ℕ) → each (λ k. eqb (get_or l k 0) 0) 0 (length l) ≡ is_zero l
zero_each l = zero_from l 0 (length l) (λ k. eqb (get_or l k 0) 0) (λ k. rw (zero-add k) refl) refl

pub zero_all : (l : List ℕ) (n : ℕ) (b : Bool) → b ≡ each (λ k. eqb (get_or l k 0) 0) 0 n → n ≤ length l → length l ≤ n → b ≡ is_zero l
zero_all l n b e h m = e ∙ (let x : n ≡ length l = omega arith in ap (each (λ k. eqb (get_or l k 0) 0) 0) x) ∙ zero_each l
