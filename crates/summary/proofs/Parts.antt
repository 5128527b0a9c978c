-- The size of a leader's part of a summary.
--     no_leaders     0 where there is no leader
--     whole_size     a summary of the plan's size has a byte for each instance in each part
-- Assumes nothing.
use Prim.Native.Nat.{ℕ, ◌*◌, ◌/◌}
use mathlib.Core.Path.{◌≡◌, sym, ◌∙◌, ap}
use native.Mathlib.Nat.{div-zero, mul-div_cancel}
use native.Mathlib.Omega.{arith}

module _ (size leaders : ℕ) where
  pub no_leaders : leaders ≡ 0 → 0 ≡ size / leaders
  no_leaders none = sym (ap (λ (k : ℕ). size / k) none ∙ div-zero size)

  pub whole_size : (n : ℕ) → (leaders ≡ 0 → ⊥) → size ≡ n * leaders → n ≡ size / leaders
  whole_size n some whole = sym (ap (λ (k : ℕ). k / leaders) whole ∙ mul-div_cancel n (omega (arith, some)))
