-- Equal parts of bytes, each judged as a table.
--     part_within                      a part lies within the bytes
--     parts_none, _step, _stop, _end   no part, one part further, a part that is no table, and all parts
-- Assumes nothing.
use Prim.Native.Nat.{ℕ, zero, suc, ◌+◌, ◌-◌, ◌*◌, ◌/◌, ◌≤◌, ◌<◌}
use mathlib.Core.Bool.{Bool, true, false, ◌&&◌}
use mathlib.Core.List.{List}
use mathlib.Core.Path.{◌≡◌, refl, sym, ◌∙◌, ap}
use native.Mathlib.Decide.{ℕ_discrete}
use native.Mathlib.Nat.{le_trans, suc-mul, mul-le-mul_right, mul-div-le, add-sub_cancel_left, not-suc-le-zero}
use native.Mathlib.Numerals.{add-one}
use native.Mathlib.Omega.{arith}
use lib.ListN.{take, drop}
use Rattle.message.specs.declared.Plan.{Plan}
use Rattle.slots.specs.Table.{is_table}
use Rattle.tables.specs.Tables.{tables_up_to}

pub part_within : (n parts k : ℕ) → k < parts → k * (n / parts) + n / parts ≤ n
part_within n parts k h = le_trans (rw suc-mul at (mul-le-mul_right {m = suc k} {n = parts} (n / parts) h)) (mul-div-le n parts)

-- the part that the code takes
abbrev pub part_of : ℕ → ℕ → List ℕ → List ℕ
part_of size k t = take (k * size + size - k * size) (drop (k * size) t)

module _ (p : Plan) (size : ℕ) (t : List ℕ) where
  part_is : (k : ℕ) → part_of size k t ≡ take size (drop (k * size) t)
  part_is k = rw (add-sub_cancel_left (k * size) size)

  pub parts_none : tables_up_to p size 0 t ≡ true
  unfolding tables_up_to
  parts_none = refl

  pub parts_step : (k : ℕ) → is_table p (part_of size k t) ≡ true → tables_up_to p size k t ≡ true → tables_up_to p size (k + 1) t ≡ true
  unfolding tables_up_to
  parts_step k e h = rw (add-one k, ← part_is k, e) h

  pub parts_stop : (k parts : ℕ) → k < parts → is_table p (part_of size k t) ≡ false → tables_up_to p size parts t ≡ false
  unfolding tables_up_to
  parts_stop k zero h e = absurd (not-suc-le-zero h)
  parts_stop k (suc count) h e = go (ℕ_discrete k count) (λ l. parts_stop k count l e)
    where
      last : (b : Bool) → (b && false) ≡ false
      last true = refl
      last false = refl

      go : Dec (k ≡ count) → (k < count → tables_up_to p size count t ≡ false)
          → (is_table p (take size (drop (count * size) t)) && tables_up_to p size count t) ≡ false
      go (yes x) below = rw (← x, ← part_is k, e) refl
      go (no x) below = rw (below (omega arith)) (last (is_table p (take size (drop (count * size) t))))

  pub parts_end : (k parts : ℕ) → k ≤ parts → parts ≤ k → tables_up_to p size k t ≡ true → true ≡ tables_up_to p size parts t
  parts_end k parts h l e = let same : k ≡ parts = omega arith in sym e ∙ ap (λ (n : ℕ). tables_up_to p size n t) same
