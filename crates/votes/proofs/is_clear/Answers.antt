-- `votes::is_clear` meets its contract: where the lanes passed left nothing, they are 0. Assumes nothing.
use Rattle.votes.specs.Votes.Laws.Lanes.{or_none, clear_step}
use Rattle.votes.proofs.is_clear.Goals as goal

pub loop-k-preserved : goal.loop-k-preserved
loop-k-preserved c e = let p = or_none _ _ e in clear_step _ _ (c.loop-k.invariant p.0) p.1
