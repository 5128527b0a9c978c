-- `inbox::gather_reports` meets its contract: the branch decides whether the plan is in range. Assumes nothing.
use mathlib.Core.Path.{sym, ◌∙◌}
use Rattle.message.proofs.Guards.{passed, failed}
use Rattle.slots.proofs.Table.Edge.{length_peek_messages}
use Rattle.inbox.specs.Inbox.Reports.{reports_bad_plan, reports_plan}
use Rattle.inbox.proofs.gather_reports.Goals as goal

pub gather-seen-requires : goal.gather-seen-requires
gather-seen-requires c = c.edge-count.ensures

pub returns-then-not-is_plan : goal.returns-then-not-is_plan
returns-then-not-is_plan c =
    reports_bad_plan _ _ _ _ c.gather-seen.ensures _ (c.edge-count.ensures ∙ sym (length_peek_messages _))
    _ (failed c.is_plan.ensures c.if-not-is_plan.true)

pub returns : goal.returns
returns c =
    reports_plan _ _ _ _ c.gather-seen.ensures _ (c.edge-count.ensures ∙ sym (length_peek_messages _))
    _ (passed c.is_plan.ensures c.if-not-is_plan.false) _ c.is_majority.ensures
