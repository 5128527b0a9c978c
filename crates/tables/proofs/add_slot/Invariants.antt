-- The loop of `tables::add_slot`.
use Rattle.tables.proofs.Seen.{Added}
use Rattle.tables.proofs.add_slot.Given as goal

abbrev pub invariant-loop-place : goal.invariant-loop-place
invariant-loop-place l = Added l.place l.low l.span l.slot l.initial.seen l.seen
