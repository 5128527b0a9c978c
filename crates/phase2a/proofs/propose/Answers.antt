-- `phase2a::propose` meets its contract: a plan out of range is refused; else the message is sent, or its refusal answered. Assumes nothing.
use Rattle.std.proofs.Common.{refl}
use Rattle.message.specs.Outcome.{and_then}
use Rattle.message.proofs.Outcome.Laws.{left_by}
use Rattle.message.proofs.Guards.{passed, told, halt, pass}
use Rattle.phase2a.specs.Phase2a.{phase2a}
use Rattle.phase2a.proofs.propose.Goals as goal

pub returns-then-not-is_plan : goal.returns-then-not-is_plan
returns-then-not-is_plan c = halt _ _ _ (told c.is_plan.ensures c.if-not-is_plan.true)

pub phase2a_message-requires : goal.phase2a_message-requires
phase2a_message-requires c = passed c.is_plan.ensures c.if-not-is_plan.false

pub returns-in_err-own : goal.returns-in_err-own
unfolding phase2a and_then
returns-in_err-own c =
    rw (left_by c.from_residual.ensures.1)
    (pass _ _ _ (told c.is_plan.ensures c.if-not-is_plan.false) (rw (← c.in_err-own.ensures.message)))

pub send_both-requires : goal.send_both-requires
send_both-requires c = c.in_ok-own.ensures.next _ refl

pub returns : goal.returns
unfolding phase2a and_then
returns c =
    pass _ _ _ (told c.is_plan.ensures c.if-not-is_plan.false) (rw (← c.in_ok-own.ensures.message) c.send_both.ensures)
