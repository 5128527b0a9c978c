-- `record::judge_lent` meets its contract: each `return` is one row of `lent_judged`, rows 1 to 6 together. Assumes nothing.
use mathlib.Core.Path.{refl}
use Rattle.message.proofs.Guards.{passed, failed}
use Rattle.message.proofs.Outcome.Laws.{left_by}
use Rattle.opening.specs.Opening.{lent}
use Rattle.record.proofs.Stepping.{lent_refused, lent_unsound, lent_whole}
use Rattle.record.proofs.judge_lent.Goals as goal

-- 1 to 6
pub returns-in_err-judge : goal.returns-in_err-judge
returns-in_err-judge c =
    rw (left_by c.from_residual.ensures.1)
    (lent_refused c.args.plan (lent c.args.tables)
    _ c.in_err-judge.ensures)

-- 20
pub returns-then-not-is_summary : goal.returns-then-not-is_summary
returns-then-not-is_summary c =
    lent_unsound c.args.plan (lent c.args.tables)
    c.in_ok-judge.ensures _ refl (failed c.is_summary.ensures c.if-not-is_summary.true)

pub returns : goal.returns
returns c =
    lent_whole c.args.plan (lent c.args.tables)
    c.in_ok-judge.ensures _ refl (passed c.is_summary.ensures c.if-not-is_summary.false)
