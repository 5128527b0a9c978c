-- The loop of `votes::gather_lanes`.
use Rattle.votes.specs.Votes.Laws.Lanes.{Gathered}
use Rattle.votes.proofs.gather_lanes.Given as goal

abbrev pub invariant-loop-j : goal.invariant-loop-j
invariant-loop-j l = Gathered l.j l.votes l.at l.initial.lanes l.lanes
