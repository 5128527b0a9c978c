-- `rehearsing::put_cut` meets its contract: no event is cut, or the last one. Assumes nothing.
use Rattle.rehearsing.proofs.Running.{cut_none, cut_put}
use Rattle.rehearsing.proofs.put_cut.Goals as goal

pub returns-then-events-eq0 : goal.returns-then-events-eq0
returns-then-events-eq0 c = cut_none _ _ _ c.if-events-eq0.true

pub returns : goal.returns
returns c = cut_put _ _ _ c.if-events-eq0.false _ c.put_line.ensures
