-- Bytes put together by `|`.
--     two_bits_fold     they are at most 3 exactly when all are
-- Assumes nothing.
use Prim.Native.Nat.{ℕ, ◌<◌}
use mathlib.Core.Bool.{Bool, true, false, ◌&&◌, and_assoc, and-true}
use mathlib.Core.List.{List, [], ◌∷◌}
use mathlib.Core.Path.{◌≡◌, refl, sym, ◌∙◌, ap}
use native.Mathlib.Omega.{arith}
use lib.Bits.{bit_or, or_lt, or_add_and, and_le_l, and_le_r}
use lib.Dec.{leb}
use Rattle.std.specs.List.{fold}
use borrow.Author.Tests.{le-leb, lt-leb, leb-true, leb-false}
use Rattle.slots.specs.All.{all}

abbrev are_two_bits : List ℕ → Bool
are_two_bits = all (λ b. leb b 3)

or_two_bits : (a b : ℕ) → leb (bit_or a b) 3 ≡ (leb a 3 && leb b 3)
or_two_bits a b = go (leb a 3) refl (leb b 3) refl
  where
    go : (s : Bool) → leb a 3 ≡ s → (t : Bool) → leb b 3 ≡ t → leb (bit_or a b) 3 ≡ (s && t)
    go true e true f =
        let x : a < 4 = omega (arith, leb-true a 3 e) in
        let y : b < 4 = omega (arith, leb-true b 3 f) in
        le-leb (bit_or a b) 3 (omega (arith, or_lt 2 a b x y))
    go true e false f = let y = leb-false b 3 f in lt-leb (bit_or a b) 3 (omega (arith, or_add_and a b, and_le_l a b))
    go false e t f = let x = leb-false a 3 e in lt-leb (bit_or a b) 3 (omega (arith, or_add_and a b, and_le_r a b))

pub two_bits_fold : (bits : ℕ) (l : List ℕ) → leb (fold bit_or bits l) 3 ≡ (leb bits 3 && are_two_bits l)
unfolding all
two_bits_fold bits [] = sym (and-true (leb bits 3))
two_bits_fold bits (b ∷ l) = two_bits_fold (bit_or bits b) l ∙ ap (λ (t : Bool). t && are_two_bits l) (or_two_bits bits b) ∙ and_assoc (leb bits 3) _ _
