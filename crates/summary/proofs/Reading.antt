-- One bit of the first bytes put together.
--     all_prepared, some_aborted   the conditions, for the instances below a count
--     all_fold, some_fold          by `&` the bit stands for all of them, by `|` for some
--     all_short, some_past         fewer bytes than instances: nothing stands past the end
-- Assumes nothing.
use Prim.Native.Nat.{ℕ, zero, suc, ◌-◌, ◌/◌, ◌%◌, ◌≤◌, ◌<◌, min}
use mathlib.Core.Bool.{Bool, true, false, ◌&&◌, ◌||◌, true≢false, and_comm, or_comm}
use mathlib.Core.List.{List}
use mathlib.Core.Path.{◌≡◌, refl, sym, ◌∙◌, ap}
use native.Mathlib.Nat.{mod-lt, le_refl}
use native.Mathlib.Numerals.{add-one}
use native.Mathlib.Decide.{dec_le}
use native.Mathlib.Omega.{arith}
use lib.Bits.{bit_and, bit_or, and_mod, or_mod, or_shr}
use lib.Dec.{eqb}
use lib.ListN.{length, get_or, take, get_or-eq_default}
use Rattle.std.specs.List.{fold}
use Rattle.std.proofs.lemmas.List.Sums.{fold_more}
use Rattle.quorum.specs.Mask.{has_bit}
use Rattle.quorum.proofs.Mask.Laws.{has_bit_zero}
use Rattle.inbox.specs.Inbox.{for_all, for_some}
use Rattle.inbox.specs.Inbox.Quantifiers.{for_all_all}
use Rattle.summary.specs.Summary.{stands}

-- an operation that goes by bits, on the lowest bit of two numbers
module _ (op : ℕ → ℕ → ℕ) (by_bits : (x y : ℕ) → op x y % 2 ≡ op (x % 2) (y % 2)) (test : Bool → Bool → Bool)
    (f : eqb (op 0 0) 1 ≡ test false false) (g : eqb (op 0 1) 1 ≡ test false true)
    (h : eqb (op 1 0) 1 ≡ test true false) (k : eqb (op 1 1) 1 ≡ test true true) where
  lowest : (x y : ℕ) → eqb (op x y % 2) 1 ≡ test (eqb (x % 2) 1) (eqb (y % 2) 1)
  lowest x y = ap (λ (z : ℕ). eqb z 1) (by_bits x y) ∙ go (x % 2) (y % 2) (mod-lt x (omega arith)) (mod-lt y (omega arith))
    where
      go : (a b : ℕ) → a < 2 → b < 2 → eqb (op a b) 1 ≡ test (eqb a 1) (eqb b 1)
      go zero zero p q = f
      go zero (suc zero) p q = g
      go (suc zero) zero p q = h
      go (suc zero) (suc zero) p q = k
      go zero (suc (suc b)) p q = absurd (omega (arith, q))
      go (suc zero) (suc (suc b)) p q = absurd (omega (arith, q))
      go (suc (suc a)) b p q = absurd (omega (arith, p))

abbrev pub all_prepared : List ℕ → ℕ → Bool
all_prepared s n = for_all n (λ i. stands s i 1)

abbrev pub some_aborted : List ℕ → ℕ → Bool
some_aborted s n = for_some n (λ i. stands s i 2)

module _ (s : List ℕ) where
  one_more : (op : ℕ → ℕ → ℕ) (first n : ℕ) → n < length s → fold op first (take (suc n) s) ≡ op (fold op first (take n s)) (get_or s n 0)
  one_more op first n h = ap (λ (k : ℕ). fold op first (take k s)) (sym (add-one n)) ∙ fold_more op first s n 0 h

  pub all_fold : (n : ℕ) → n ≤ length s → eqb (fold bit_and 1 (take n s) % 2) 1 ≡ all_prepared s n
  unfolding for_all stands has_bit
  all_fold zero h = refl
  all_fold (suc n) h =
      ap (λ (x : ℕ). eqb (x % 2) 1) (one_more bit_and 1 n h)
      ∙ lowest bit_and (λ x y. and_mod x y 1) ◌&&◌ refl refl refl refl (fold bit_and 1 (take n s)) (get_or s n 0)
      ∙ ap (λ (b : Bool). b && stands s n 1) (all_fold n (omega arith))
      ∙ and_comm (all_prepared s n) (stands s n 1)

  pub some_fold : (n : ℕ) → n ≤ length s → eqb (fold bit_or 0 (take n s) / 2 % 2) 1 ≡ some_aborted s n
  unfolding for_some stands has_bit
  some_fold zero h = refl
  some_fold (suc n) h =
      ap (λ (x : ℕ). eqb (x / 2 % 2) 1) (one_more bit_or 0 n h)
      ∙ ap (λ (x : ℕ). eqb (x % 2) 1) (or_shr (fold bit_or 0 (take n s)) (get_or s n 0) 1)
      ∙ lowest bit_or (λ x y. or_mod x y 1) ◌||◌ refl refl refl refl (fold bit_or 0 (take n s) / 2) (get_or s n 0 / 2)
      ∙ ap (λ (b : Bool). b || stands s n 2) (some_fold n (omega arith))
      ∙ or_comm (some_aborted s n) (stands s n 2)

  past : (i v : ℕ) → length s ≤ i → stands s i v ≡ false
  unfolding stands
  past i v h = ap (λ (b : ℕ). has_bit b (v - 1)) (get_or-eq_default s 0 h) ∙ has_bit_zero (v - 1)

pub all_short : (s : List ℕ) (n : ℕ) → length s < n → false ≡ all_prepared s n
all_short s n h = go (all_prepared s n) refl
  where
    go : (b : Bool) → all_prepared s n ≡ b → false ≡ b
    go false e = refl
    go true e = absurd (true≢false (sym (for_all_all _ n e (length s) h) ∙ past s (length s) 1 (le_refl _)))

pub some_past : (s : List ℕ) (m n : ℕ) → m ≡ min (length s) n → some_aborted s m ≡ some_aborted s n
unfolding for_some
some_past s m zero e = let same : m ≡ zero = omega (arith, e) in ap (some_aborted s) same
some_past s m (suc n) e =
    elim (dec_le (length s) n) [
      | yes k ↦ rw (past s n 2 k) (some_past s m n (omega (arith, e, k)))
      | no k ↦ let same : m ≡ suc n = omega (arith, e, k) in ap (some_aborted s) same
    ]
