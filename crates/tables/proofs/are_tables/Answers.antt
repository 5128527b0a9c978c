-- `tables::are_tables` meets its contract: the first parts, so many, are tables. Assumes nothing.
use mathlib.Core.Path.{sym}
use native.Mathlib.Omega.{arith}
use lib.ListN.{length}
use Rattle.message.proofs.Guards.{passed, failed}
use Rattle.tables.specs.Tables.{are_tables}
use Rattle.tables.proofs.Parts.{part_within, parts_none, parts_step, parts_stop, parts_end}
use Rattle.tables.proofs.are_tables.Goals as goal

pub returns-then-parts-eq0 : goal.returns-then-parts-eq0
unfolding are_tables
returns-then-parts-eq0 c = rw c.if-parts-eq0.true (sym (parts_none _ _ _))

pub nonzero_div-size : goal.nonzero_div-size
nonzero_div-size c = omega (arith, c.if-parts-eq0.false)

pub loop-part-init : goal.loop-part-init
loop-part-init c = parts_none _ _ _

pub overflow_mul-from : goal.overflow_mul-from
overflow_mul-from c =
    let given = c.args in
    omega (arith, part_within (length given.tables.now) given.parts c.loop-part.part c.loop-part-test.true)

pub overflow_add-to : goal.overflow_add-to
overflow_add-to c =
    let given = c.args in
    omega (arith, part_within (length given.tables.now) given.parts c.loop-part.part c.loop-part-test.true)

pub slice_bounds-is_table_within-end : goal.slice_bounds-is_table_within-end
slice_bounds-is_table_within-end c =
    let given = c.args in
    omega (arith, part_within (length given.tables.now) given.parts c.loop-part.part c.loop-part-test.true)

pub is_table_within-requires : goal.is_table_within-requires
is_table_within-requires c = c.requires

pub returns-then-not-is_table_within : goal.returns-then-not-is_table_within
unfolding are_tables
returns-then-not-is_table_within c =
    sym (parts_stop _ _ _ _ _ c.loop-part-test.true (failed c.is_table_within.ensures c.if-not-is_table_within.true))

pub loop-part-preserved : goal.loop-part-preserved
loop-part-preserved c =
    parts_step _ _ _ _ (passed c.is_table_within.ensures c.if-not-is_table_within.false) c.loop-part.invariant

pub returns : goal.returns
unfolding are_tables
returns c =
    parts_end _ _ _ _ _ (omega arith) c.loop-part-test.false c.loop-part.invariant
