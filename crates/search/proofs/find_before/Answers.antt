-- `search::find_before` meets its contract: no slot before `place` is the form. Assumes nothing.
use Prim.Native.Nat.{zero-le}
use native.Mathlib.Omega.{arith}
use lib.Dec.{lit≤}
use Rattle.search.proofs.Blocks.{found_end, found_row, passed_row}
use Rattle.search.proofs.find_before.Goals as goal

pub passed_to-place-requires : goal.passed_to-place-requires
passed_to-place-requires c = (zero-le, c.requires, lit≤ tt)

pub loop-place-init : goal.loop-place-init
loop-place-init c = c.passed_to-place.ensures

pub passed_to-from-requires : goal.passed_to-from-requires
passed_to-from-requires c =
    (c.loop-place.invariant.before, c.requires, lit≤ tt)

pub find_from-found-requires : goal.find_from-found-requires
find_from-found-requires c =
    (omega (arith, c.passed_to-from.ensures.before, c.min-row.ensures), omega (arith, c.passed_to-from.ensures.before, c.min-row.ensures, c.requires))

pub returns-then-found-to : goal.returns-then-found-to
returns-then-found-to c =
    found_row _ _ _ _ _ _ _ c.loop-place.invariant c.passed_to-from.ensures (omega (arith, c.passed_to-from.ensures.before, c.min-row.ensures)) c.find_from-found.ensures c.if-found-to.true

pub loop-place-smaller : goal.loop-place-smaller
loop-place-smaller c =
    omega (arith, c.loop-place-test.true, c.passed_to-from.ensures.after, c.passed_to-from.ensures.before, c.min-row.ensures)

pub loop-place-preserved : goal.loop-place-preserved
loop-place-preserved c =
    passed_row _ _ _ _ _ _ _ c.loop-place.invariant c.passed_to-from.ensures (omega (arith, c.passed_to-from.ensures.before, c.min-row.ensures)) c.find_from-found.ensures c.if-found-to.false

pub returns : goal.returns
returns c = found_end _ _ _ _ _ c.loop-place-test.false c.loop-place.invariant
