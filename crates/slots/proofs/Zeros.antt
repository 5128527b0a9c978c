-- Numbers put together by `|`, to see whether all are zero.
--     or_none     both are where the result is
--     or_zero     the result is zero exactly when both are
-- Assumes nothing.
use Prim.Native.Nat.{ℕ}
use mathlib.Core.Bool.{◌&&◌}
use mathlib.Core.Path.{◌≡◌}
use native.Mathlib.Decide.{ℕ_discrete}
use native.Mathlib.Omega.{arith}
use lib.Bits.{bit_or, or_add_and, and_le_l, and_le_r}
use lib.Dec.{eqb}
use borrow.Author.Tests.{eq-eqb, ne_eqb}

pub or_none : (a b : ℕ) → bit_or a b ≡ 0 → (a ≡ 0) × (b ≡ 0)
or_none a b e = (omega (arith, or_add_and a b, and_le_r a b), omega (arith, or_add_and a b, and_le_l a b))

pub or_zero : (a b : ℕ) → eqb (bit_or a b) 0 ≡ (eqb a 0 && eqb b 0)
or_zero a b = go (ℕ_discrete a 0) (ℕ_discrete b 0)
  where
    go : Dec (a ≡ 0) → Dec (b ≡ 0) → eqb (bit_or a b) 0 ≡ (eqb a 0 && eqb b 0)
    go (yes x) (yes y) = rw (eq-eqb a 0 x, eq-eqb b 0 y) (eq-eqb (bit_or a b) 0 (omega (arith, or_add_and a b)))
    go (yes x) (no y) = rw (eq-eqb a 0 x, ne_eqb b 0 y) (ne_eqb (bit_or a b) 0 (λ e. y (omega (arith, or_add_and a b, and_le_l a b))))
    go (no x) d = rw (ne_eqb a 0 x) (ne_eqb (bit_or a b) 0 (λ e. x (omega (arith, or_add_and a b, and_le_r a b))))
