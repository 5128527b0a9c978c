-- `search::passed_to` meets its contract: no slot before `place` is the form. Assumes nothing.
use native.Mathlib.Omega.{arith}
use Rattle.search.proofs.Blocks.{begins_form, passed_start, passed_more}
use Rattle.search.proofs.passed_to.Goals as goal

pub loop-place-init : goal.loop-place-init
loop-place-init c = passed_start _ _ _ _ c.requires.0

pub overflow_sub-end : goal.overflow_sub-end
overflow_sub-end c = c.loop-place.invariant.before

pub hits-requires : goal.hits-requires
hits-requires c = omega (arith, c.loop-place.invariant.before, c.requires.1)

pub returns-then-hits : goal.returns-then-hits
returns-then-hits c = c.loop-place.invariant

pub overflow_add-place : goal.overflow_add-place
overflow_add-place c = omega (arith, c.loop-place.invariant.before)

pub loop-place-smaller : goal.loop-place-smaller
loop-place-smaller c = omega (arith, c.loop-place.invariant.before, c.requires.2)

pub loop-place-preserved : goal.loop-place-preserved
loop-place-preserved c =
    let passed = c.loop-place.invariant in
    passed_more _ _ _ _ _ _ (omega arith) (omega (arith, passed.before)) passed
    (begins_form _ _ _ _ (c.hits.ensures c.if-hits.false))

pub returns : goal.returns
returns c = c.loop-place.invariant
