-- `message::map_length` meets its contract: a known map's ones are counted, and any other has no length. Assumes nothing.
use mathlib.Core.Path.{◌≡◌, sym}
use native.Mathlib.Omega.{arith}
use Prim.Native.Nat.{ℕ, ◌+◌, ◌≤◌}
use mathlib.Core.Bool.{true}
use lib.Count.{ones}
use Rattle.message.specs.Form.{is_known, slot_size}
use Rattle.message.proofs.Form.Laws.{map_length_known, map_length_none, map_length_bound}
use Rattle.message.proofs.Guards.{passed, failed}
use Rattle.message.proofs.map_length.Goals as goal

-- what is counted is short
short : (map : ℕ) → is_known map ≡ true → 2 + ones map ≤ slot_size
short map known = rw (← map_length_known map known) (map_length_bound map)

pub returns-then-not-is_known : goal.returns-then-not-is_known
returns-then-not-is_known c = sym (map_length_none _ (failed c.is_known.ensures c.if-not-is_known.true))

pub overflow_cast-result-2 : goal.overflow_cast-result-2
overflow_cast-result-2 c = record { fits = omega (arith, short _ (passed c.is_known.ensures c.if-not-is_known.false)) }

pub overflow_add-result : goal.overflow_add-result
overflow_add-result c = record { fits = omega (arith, short _ (passed c.is_known.ensures c.if-not-is_known.false)) }

pub returns : goal.returns
returns c = sym (map_length_known _ (passed c.is_known.ensures c.if-not-is_known.false))
