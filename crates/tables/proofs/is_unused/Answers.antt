-- `tables::is_unused` meets its contract: the whole slots are zeros. Assumes nothing.
use mathlib.Core.Path.{sym}
use native.Mathlib.Omega.{arith}
use lib.Seq.{length-take-le}
use Rattle.tables.proofs.is_unused.Goals as goal

pub slice_bounds-is_zero-end : goal.slice_bounds-is_zero-end
slice_bounds-is_zero-end c = sym (length-take-le _ _ (omega arith))

pub returns : goal.returns
returns c = c.is_zero.ensures
