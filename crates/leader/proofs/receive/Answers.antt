-- `leader::receive` meets its contract: the slot's refusal, or what its message goes on to. Assumes nothing.
use Rattle.std.proofs.Common.{◌∙◌}
use Rattle.message.proofs.Guards.{went_refused, went_on}
use Rattle.message.proofs.Outcome.Laws.{left_by}
use Rattle.leader.specs.Leader.{receipt}
use Rattle.leader.proofs.receive.Goals as goal

pub returns-in_err-m : goal.returns-in_err-m
returns-in_err-m c = rw (left_by c.from_residual.ensures.1) (went_refused (receipt _) _ _ c.message_at.ensures _ c.in_err-m.was)

pub returns : goal.returns
returns c = c.receipt_of.ensures ∙ went_on (receipt _) _ _ c.message_at.ensures _ c.in_ok-m.was
