-- `refusal::message_refusal` meets its contract: a plan out of range, an empty slice, or what its map says. Assumes nothing.
use mathlib.Core.Path.{refl, sym, ap}
use Rattle.message.specs.Outcome.{number_of}
use Rattle.message.proofs.Codec.Laws.{read_message_plan, read_message_empty}
use Rattle.message.proofs.Guards.{passed, failed}
use Rattle.refusal.proofs.Counts.{plan_rms, plan_acceptors, plan_leaders, plan_counts}
use Rattle.refusal.proofs.message_refusal.Goals as goal

pub returns-then-not-is_count : goal.returns-then-not-is_count
returns-then-not-is_count c = sym (ap number_of (read_message_plan _ _ (plan_rms _ (failed c.is_count.ensures c.if-not-is_count.true))))

pub returns-then-not-is_plan : goal.returns-then-not-is_plan
returns-then-not-is_plan c = sym (ap number_of (read_message_plan _ _ (failed c.is_plan.ensures c.if-not-is_plan.true)))

pub returns-then-bytes-eq0 : goal.returns-then-bytes-eq0
returns-then-bytes-eq0 c = sym (ap number_of (read_message_empty _ _ (passed c.is_plan.ensures c.if-not-is_plan.false) c.if-bytes-eq0.true))

pub returns-then-not-is_count-2 : goal.returns-then-not-is_count-2
returns-then-not-is_count-2 c = sym (ap number_of (read_message_plan _ _ (plan_acceptors _ (failed c.is_count-2.ensures c.if-not-is_count-2.true))))

pub returns-then-not-is_count-3 : goal.returns-then-not-is_count-3
returns-then-not-is_count-3 c = sym (ap number_of (read_message_plan _ _ (plan_leaders _ (failed c.is_count-3.ensures c.if-not-is_count-3.true))))

pub map_refusal-requires : goal.map_refusal-requires
map_refusal-requires c = (
  plan_counts _ (passed c.is_count.ensures c.if-not-is_count.false) (passed c.is_count-2.ensures
      c.if-not-is_count-2.false) (passed c.is_count-3.ensures c.if-not-is_count-3.false),
  refl,
)

pub returns : goal.returns
returns c = c.map_refusal.ensures
