-- `leader::perform` meets its contract: what was evaluated is applied, and an accepted receipt marked. Assumes nothing.
use Rattle.std.proofs.Common.{refl}
use Rattle.message.proofs.Outcome.Laws.{left_by}
use Rattle.change.proofs.Stepping.{apply_verdict}
use Rattle.leader.proofs.Judging.{performed}
use Rattle.leader.proofs.perform.Goals as goal

pub returns-in_err-sent : goal.returns-in_err-sent
returns-in_err-sent c =
    rw (left_by c.from_residual.ensures.1)
    (performed c.args.plan c.args.summary.now c.args.event.now _ _ (apply_verdict _ _ _ _ _ c.evaluate-verdict.ensures _ c.in_err-sent.ensures) _ refl)

pub returns : goal.returns
returns c =
    performed c.args.plan c.args.summary.now c.args.event.now _ _ (apply_verdict _ _ _ _ _ c.evaluate-verdict.ensures _ c.in_ok-sent.ensures) _
    (c.mark_receipt.ensures c.in_ok-sent.sent)
