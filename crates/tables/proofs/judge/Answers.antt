-- `tables::judge` meets its contract: the bounds that it fills are the plan's. Assumes nothing.
use Rattle.message.proofs.Guards.{passed}
use Rattle.tables.specs.Tables.Bounds.{bounds_of}
use Rattle.tables.proofs.judge.Goals as goal

pub put_bounds-requires : goal.put_bounds-requires
put_bounds-requires c = passed c.is_plan.ensures c.if-not-is_plan.false

pub is_table_within-requires : goal.is_table_within-requires
unfolding bounds_of
is_table_within-requires c = record { plan = passed c.is_plan.ensures c.if-not-is_plan.false; rows = c.put_bounds.ensures }

pub are_tables-requires : goal.are_tables-requires
unfolding bounds_of
are_tables-requires c = record { plan = passed c.is_plan.ensures c.if-not-is_plan.false; rows = c.put_bounds.ensures }
