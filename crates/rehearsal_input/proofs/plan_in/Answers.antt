-- `rehearsal_input::plan_in` meets its contract: one law for each `return`. Assumes nothing.
use Rattle.message.proofs.Guards.{passed, failed}
use Rattle.rehearsal_input.proofs.Input.Laws.{plan_in_short}
use Rattle.rehearsal_input.proofs.Parts.{plan_bad, plan_good}
use mathlib.Core.Path.{sym}
use Rattle.rehearsal_input.proofs.plan_in.Goals as goal

pub returns-in_default : goal.returns-in_default
returns-in_default c = sym (plan_in_short _ c.in_default.len_below)

pub returns-then-not-is_plan : goal.returns-then-not-is_plan
returns-then-not-is_plan c =
    plan_bad _ _ c.in-len5-up.len_at_least c.order_of.ensures (failed c.is_plan.ensures c.if-not-is_plan.true)

pub returns : goal.returns
returns c = plan_good _ _ c.in-len5-up.len_at_least c.order_of.ensures (passed c.is_plan.ensures c.if-not-is_plan.false)
