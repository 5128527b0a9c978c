-- `codec::judge_fields` meets its contract: each `return` is one case of the writer's laws. Assumes nothing.
use Rattle.std.proofs.Common.{sym}
use Rattle.message.specs.Outcome.{and_then}
use Rattle.message.proofs.Codec.Laws.{write_message_plan, write_message_range, write_message_accepted}
use Rattle.message.proofs.Guards.{passed, failed}
use Rattle.codec.proofs.judge_fields.Goals as goal

pub returns-then-not-is_plan : goal.returns-then-not-is_plan
unfolding and_then
returns-then-not-is_plan c = sym (write_message_plan _ _ (failed c.is_plan.ensures c.if-not-is_plan.true))

pub returns-then-not-in_range : goal.returns-then-not-in_range
unfolding and_then
returns-then-not-in_range c =
    sym (write_message_range _ _ (passed c.is_plan.ensures c.if-not-is_plan.false) (failed c.in_range.ensures c.if-not-in_range.true))

pub returns : goal.returns
unfolding and_then
returns c =
    sym (write_message_accepted _ _ (passed c.is_plan.ensures c.if-not-is_plan.false) (passed c.in_range.ensures c.if-not-in_range.false))
