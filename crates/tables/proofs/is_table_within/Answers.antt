-- `tables::is_table_within` meets its contract: slots before the edge are used, and the bytes from it on are zeros; all are where the first
-- byte is 0. Assumes nothing.
use mathlib.Core.Path.{sym, ◌∙◌}
use native.Mathlib.Omega.{arith}
use Rattle.message.proofs.Guards.{passed, failed}
use Rattle.tables.specs.Tables.Edge.{edge_in, edge_bad, edge_good}
use Rattle.tables.proofs.Forms.{first_zero}
use Rattle.tables.proofs.is_table_within.Goals as goal

pub returns-then-byte_at-eq0 : goal.returns-then-byte_at-eq0
returns-then-byte_at-eq0 c =
    c.is_unused.ensures ∙ sym (first_zero _ _ (sym c.byte_at.ensures ∙ c.if-byte_at-eq0.true))

pub are_forms-requires : goal.are_forms-requires
are_forms-requires c = (c.requires, edge_in _ _ c.edge-used.ensures)

pub returns-then-not-are_forms : goal.returns-then-not-are_forms
returns-then-not-are_forms c =
    edge_bad _ _ _ c.edge-used.ensures (failed c.are_forms.ensures c.if-not-are_forms.true)

pub overflow_mul-used : goal.overflow_mul-used
overflow_mul-used c = omega (arith, edge_in _ _ c.edge-used.ensures)

pub slice_bounds-is_zero-count : goal.slice_bounds-is_zero-count
slice_bounds-is_zero-count c = omega (arith, edge_in _ _ c.edge-used.ensures)

pub slice_bounds-is_zero-start : goal.slice_bounds-is_zero-start
slice_bounds-is_zero-start c = omega (arith, edge_in _ _ c.edge-used.ensures)

pub returns : goal.returns
returns c =
    c.is_zero.ensures
    ∙ sym (edge_good _ _ _ c.edge-used.ensures (passed c.are_forms.ensures c.if-not-are_forms.false))
