-- `opening::are_lengths` meets its contract: a plan in range has a leader. Assumes nothing.
use Rattle.message.proofs.PlanLaws.{plan_bounds}
use Rattle.opening.proofs.are_lengths.Goals as goal

pub nonzero_rem-tables : goal.nonzero_rem-tables
nonzero_rem-tables c = (plan_bounds _ c.requires).leaders_least

pub nonzero_div-tables : goal.nonzero_div-tables
nonzero_div-tables c = (plan_bounds _ c.requires).leaders_least
