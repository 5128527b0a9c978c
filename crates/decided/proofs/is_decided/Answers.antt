-- `decided::is_decided` meets its contract: without a plan in range or a message nothing is decided, else `gather_votes` says it. Assumes nothing.
use mathlib.Core.Path.{refl}
use Rattle.message.proofs.Guards.{passed, failed}
use Rattle.decided.proofs.Deciding.{none_decided, bad_plan, good_plan}
use Rattle.decided.proofs.is_decided.Goals as goal

pub returns-then-not-is_plan : goal.returns-then-not-is_plan
returns-then-not-is_plan c = bad_plan _ (failed c.is_plan.ensures c.if-not-is_plan.true) _

pub returns-then-used-eq0 : goal.returns-then-used-eq0
returns-then-used-eq0 c =
    good_plan _ (passed c.is_plan.ensures c.if-not-is_plan.false) _ _ (none_decided _ _ _ _ _ c.edge-used.ensures c.if-used-eq0.true)

pub gather_votes-requires : goal.gather_votes-requires
gather_votes-requires c =
    (passed c.is_plan.ensures c.if-not-is_plan.false, c.edge-used.ensures, refl)

pub returns : goal.returns
returns c = good_plan _ (passed c.is_plan.ensures c.if-not-is_plan.false) _ _ c.gather_votes.ensures
