-- `host_message::paxos_commit_write` meets its contract: a plan out of range, a message, or no map. Assumes nothing.
use mathlib.Core.Path.{◌∙◌, sym, ap}
use Rattle.message.specs.Outcome.{accepted, refused, outcome}
use Rattle.message.proofs.Guards.{passed, failed}
use Rattle.host_code.specs.Code.{plan_of}
use Rattle.host_message.proofs.CodeLaws.{host_write_plan, host_write_by}
use Rattle.host_message.proofs.CodeWriting.{refused_code}
use Rattle.host_message.proofs.paxos_commit_write.Goals as goal

pub returns-then-not-is_plan : goal.returns-then-not-is_plan
returns-then-not-is_plan c = c.refusal_code.ensures ∙ host_write_plan _ _ _ _ _ _ _ (failed c.is_plan.ensures c.if-not-is_plan.true)

pub returns-in-Ok : goal.returns-in-Ok
returns-in-Ok c =
    c.write_code.ensures
    ∙ host_write_by _ _ _ _ _ _ _ (passed c.is_plan.ensures c.if-not-is_plan.false) (accepted _) (sym (ap outcome c.in-Ok.is) ∙ c.message_of.ensures)

pub returns-in-Err : goal.returns-in-Err
returns-in-Err c =
    c.refusal_code-in-Err.ensures
    ∙ sym (refused_code (plan_of c.args.rms c.args.acceptors c.args.leaders c.args.order) _)
    ∙ host_write_by _ _ _ _ _ _ _ (passed c.is_plan.ensures c.if-not-is_plan.false) (refused _) (sym (ap outcome c.in-Err.is) ∙ c.message_of.ensures)
