-- `votes::gather_lanes` meets its contract: the first `j` lanes took in their bytes, and the rest is as before. Assumes nothing.
use Rattle.votes.specs.Votes.Laws.Lanes.{gathered_none, gathered_step}
use Rattle.votes.proofs.gather_lanes.Goals as goal

pub loop-j-init : goal.loop-j-init
loop-j-init c = gathered_none _ _ _

pub loop-j-preserved : goal.loop-j-preserved
loop-j-preserved c =
    gathered_step _ _ _ _ _ c.loop-j.invariant (rw (c.loop-j.invariant.size, c.requires.0) c.loop-j-test.true) c.gather.result c.gather.ensures
