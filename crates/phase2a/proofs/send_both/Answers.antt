-- `phase2a::send_both` meets its contract: whether there is room in N. Assumes nothing.
use Rattle.std.proofs.Common.{ap}
use Rattle.message.specs.Outcome.{refused}
use Rattle.message.proofs.Guards.{missing}
use Rattle.message.proofs.Outcome.Laws.{left_by}
use Rattle.phase2a.specs.Phase2a.{send_both}
use Rattle.slots.specs.View.{sending}
use Rattle.phase2a.proofs.send_both.Goals as goal

pub returns-in_err-sending : goal.returns-in_err-sending
unfolding send_both sending
returns-in_err-sending c =
    let (none, number) = missing _ _ _ c.in_err-sending.ensures.value in
    rw (left_by c.from_residual.ensures.1, ← c.send_message.ensures, none) (ap refused number)

pub returns : goal.returns
unfolding send_both sending
returns c = rw (← c.send_message.ensures, c.in_ok-sending.ensures.ok_part) c.keep_own.ensures
