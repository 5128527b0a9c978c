-- `tables::is_table` meets its contract: a table that begins with 0 is zeros, and so is one of a plan out of range. Assumes nothing.
use mathlib.Core.Path.{sym, ◌∙◌}
use Rattle.message.proofs.Guards.{passed, failed}
use Rattle.slots.proofs.Table.Laws.{is_table_none}
use Rattle.tables.specs.Tables.Bounds.{bounds_of}
use Rattle.tables.proofs.Forms.{plan_used, first_zero}
use Rattle.tables.proofs.is_table.Goals as goal

pub returns-then-byte_at-eq0 : goal.returns-then-byte_at-eq0
returns-then-byte_at-eq0 c =
    c.is_unused.ensures ∙ sym (first_zero _ _ (sym c.byte_at.ensures ∙ c.if-byte_at-eq0.true))

pub returns-then-not-is_plan : goal.returns-then-not-is_plan
returns-then-not-is_plan c =
    c.is_unused-then-not-is_plan.ensures ∙ sym (is_table_none _ _ (plan_used _ (failed c.is_plan.ensures c.if-not-is_plan.true) _))

pub put_bounds-requires : goal.put_bounds-requires
put_bounds-requires c =
    passed c.is_plan.ensures c.if-not-is_plan.false

pub is_table_within-requires : goal.is_table_within-requires
unfolding bounds_of
is_table_within-requires c =
    record { plan = passed c.is_plan.ensures c.if-not-is_plan.false; rows = c.put_bounds.ensures }

pub returns : goal.returns
returns c = c.is_table_within.ensures
