-- `slots::next_edge` meets its contract: steps from a place on lead where steps from the start do. Assumes nothing.
use mathlib.Core.Path.{refl, sym, ◌∙◌}
use native.Mathlib.Omega.{arith}
use Rattle.slots.proofs.Table.Edge.{step_yes, step_no, step_out, steps_next, steps_stop}
use Rattle.slots.proofs.next_edge.Goals as goal

pub loop-place-init : goal.loop-place-init
loop-place-init c = (c.requires.0, refl)

pub overflow_sub-count : goal.overflow_sub-count
overflow_sub-count c = c.loop-place.invariant.0

pub overflow_add-last : goal.overflow_add-last
overflow_add-last c = omega (arith, c.loop-place.invariant.0)

pub overflow_sub-last : goal.overflow_sub-last
overflow_sub-last c = omega (arith, c.requires.1)

pub overflow_mul-last : goal.overflow_mul-last
overflow_mul-last c = omega (arith, c.loop-place.invariant.0)

pub bounds-table-last : goal.bounds-table-last
bounds-table-last c =
    omega (arith, c.loop-place.invariant.0, c.requires.1)

pub returns-then-table-last-eq0 : goal.returns-then-table-last-eq0
returns-then-table-last-eq0 c =
    let t = c.args.table.now in
    let place = c.loop-place.place in
    let (in_table, same) = c.loop-place.invariant in
    (sym (steps_stop t _ place _ (step_no t _ place c.if-table-last-eq0.true)) ∙ same, in_table)

pub overflow_add-place : goal.overflow_add-place
overflow_add-place c = omega (arith, c.loop-place.invariant.0)

pub loop-place-smaller : goal.loop-place-smaller
loop-place-smaller c =
    omega (arith, c.loop-place.invariant.0, c.requires.1)

pub loop-place-preserved : goal.loop-place-preserved
loop-place-preserved c =
    let t = c.args.table.now in
    let place = c.loop-place.place in
    let (in_table, same) = c.loop-place.invariant in
    let some = c.requires.1 in (
      omega (arith, in_table),
      sym (steps_next t _ some _ place (omega arith) (step_yes t _ place (omega arith) c.if-table-last-eq0.false)) ∙ same,
    )

pub returns : goal.returns
returns c =
    let t = c.args.table.now in
    let place = c.loop-place.place in
    let (in_table, same) = c.loop-place.invariant in
    (sym (steps_stop t _ place _ (step_out t _ place (omega arith))) ∙ same, in_table)
