-- `batch::judge_list` meets its contract: each `return` is one row of `run_judged`, rows 1 to 6 together. Assumes nothing.
use mathlib.Core.Path.{refl}
use Rattle.message.proofs.Guards.{passed, failed}
use Rattle.message.proofs.Outcome.Laws.{left_by}
use Rattle.opening.specs.Opening.{lent}
use Rattle.batch.proofs.Judging.{list_stopped, list_cut, list_unsound, list_sound}
use Rattle.batch.proofs.judge_list.Goals as goal

-- 1 to 6
pub returns-in_err-judge : goal.returns-in_err-judge
returns-in_err-judge c =
    rw (left_by c.from_residual.ensures.1)
    (list_stopped c.args.plan (lent c.args.tables)
    c.args.events.now c.args.answers.now _ c.in_err-judge.ensures)

-- 19
pub returns-then-not-is_list : goal.returns-then-not-is_list
returns-then-not-is_list c =
    list_cut c.args.plan (lent c.args.tables)
    c.args.events.now c.args.answers.now c.in_ok-judge.ensures (failed c.is_list.ensures c.if-not-is_list.true)

-- 20
pub returns-then-not-is_summary : goal.returns-then-not-is_summary
returns-then-not-is_summary c =
    list_unsound c.args.plan (lent c.args.tables)
    c.args.events.now c.args.answers.now c.in_ok-judge.ensures (passed c.is_list.ensures c.if-not-is_list.false)
    _ refl (failed c.is_summary.ensures c.if-not-is_summary.true)

pub returns : goal.returns
returns c =
    list_sound c.args.plan (lent c.args.tables)
    c.args.events.now c.args.answers.now c.in_ok-judge.ensures (passed c.is_list.ensures c.if-not-is_list.false)
    _ refl (passed c.is_summary.ensures c.if-not-is_summary.false)
