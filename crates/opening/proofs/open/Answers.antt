-- `opening::open` meets its contract: rows 1, 2 and 20, and then each table cleared. Assumes nothing.
use Rattle.message.proofs.Outcome.Laws.{left_by}
use Rattle.opening.proofs.Opening.{open_refused, open_short, open_cleared}
use Rattle.opening.proofs.open.Goals as goal

pub returns-in_err-judge_lengths : goal.returns-in_err-judge_lengths
returns-in_err-judge_lengths c = rw (left_by c.from_residual.ensures.1) (open_refused _ _ _ c.in_err-judge_lengths.ensures)

pub returns-then-summary-plan : goal.returns-then-summary-plan
returns-then-summary-plan c = open_short _ _ c.in_ok-judge_lengths.ensures c.if-summary-plan.true

pub returns : goal.returns
returns c =
    open_cleared _ _ c.in_ok-judge_lengths.ensures c.if-summary-plan.false _ _ _ _ _
    c.clear.ensures c.clear-2.ensures c.clear-3.ensures c.clear-4.ensures c.clear-5.ensures
