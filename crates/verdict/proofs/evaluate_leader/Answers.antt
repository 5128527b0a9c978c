-- `verdict::evaluate_leader` meets its contract: the parts that are lent are the leader's inbox and its bytes of the summary. Assumes nothing.
use mathlib.Core.Path.{refl}
use native.Mathlib.Omega.{arith}
use Rattle.verdict.proofs.Inboxes.{part_within_of}
use Rattle.verdict.proofs.Evaluating.{leader_part_lem}
use Rattle.verdict.proofs.evaluate_leader.Goals as goal

-- the two parts end within their bytes
pub overflow_mul-from : goal.overflow_mul-from
overflow_mul-from c = omega (arith, part_within_of c.args.plan c.args.inboxes.now _ refl _ _ c.byte_at-who.ensures c.requires)

pub overflow_add-to : goal.overflow_add-to
overflow_add-to c = omega (arith, part_within_of c.args.plan c.args.inboxes.now _ refl _ _ c.byte_at-who.ensures c.requires)

pub slice_bounds-inbox-end : goal.slice_bounds-inbox-end
slice_bounds-inbox-end c = omega (arith, part_within_of c.args.plan c.args.inboxes.now _ refl _ _ c.byte_at-who.ensures c.requires)

pub overflow_mul-start : goal.overflow_mul-start
overflow_mul-start c = omega (arith, part_within_of c.args.plan c.args.summary.now _ c.part_size-count.ensures _ _ c.byte_at-who.ensures c.requires)

pub overflow_add-end : goal.overflow_add-end
overflow_add-end c = omega (arith, part_within_of c.args.plan c.args.summary.now _ c.part_size-count.ensures _ _ c.byte_at-who.ensures c.requires)

pub slice_bounds-own-end : goal.slice_bounds-own-end
slice_bounds-own-end c = omega (arith, part_within_of c.args.plan c.args.summary.now _ c.part_size-count.ensures _ _ c.byte_at-who.ensures c.requires)

pub returns : goal.returns
returns c =
    leader_part_lem c.args.plan c.args.inboxes.now c.args.summary.now c.args.network.now c.args.event.now _ refl _
    c.part_size-count.ensures _ c.byte_at-who.ensures _ c.evaluate.ensures
