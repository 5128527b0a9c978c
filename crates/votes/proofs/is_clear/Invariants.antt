-- The loop of `votes::is_clear`.
use Rattle.std.proofs.Common.{◌≡◌}
use Rattle.votes.specs.Votes.Laws.Lanes.{Clear}
use Rattle.votes.proofs.is_clear.Given as goal

abbrev pub invariant-loop-k : goal.invariant-loop-k
invariant-loop-k l = l.any ≡ 0 → Clear l.k l.lanes
