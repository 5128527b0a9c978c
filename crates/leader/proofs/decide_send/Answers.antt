-- `leader::decide_send` meets its contract: the branch decides the guard. Assumes nothing.
use Rattle.message.specs.Outcome.{refuse_if}
use Rattle.leader.specs.Leader.{decide_send}
use Rattle.leader.proofs.decide_send.Goals as goal

pub returns-then-not-enabled : goal.returns-then-not-enabled
unfolding decide_send refuse_if
returns-then-not-enabled c = rw c.if-not-enabled.true

pub returns : goal.returns
unfolding decide_send refuse_if
returns c = rw c.if-not-enabled.false c.send_only.ensures
