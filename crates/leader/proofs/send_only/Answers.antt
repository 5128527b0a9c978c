-- `leader::send_only` meets its contract: whether there is room. Assumes nothing.
use Rattle.std.proofs.Common.{ap}
use Rattle.message.specs.Outcome.{refused}
use Rattle.message.proofs.Guards.{missing}
use Rattle.message.proofs.Outcome.Laws.{left_by}
use Rattle.leader.specs.Leader.{send_only}
use Rattle.slots.specs.View.{sending}
use Rattle.leader.proofs.send_only.Goals as goal

pub returns-in_err-sending : goal.returns-in_err-sending
unfolding send_only sending
returns-in_err-sending c =
    let (none, number) = missing _ _ _ c.in_err-sending.ensures.value in
    rw (left_by c.from_residual.ensures.1, ← c.send_message.ensures, none) (ap refused number)

pub returns : goal.returns
unfolding send_only sending
returns c = rw (← c.send_message.ensures, c.in_ok-sending.ensures.ok_part)
