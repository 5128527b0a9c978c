-- The loop of `search::find_from`.
use Rattle.search.specs.Blocks.{Passed}
use Rattle.search.proofs.find_from.Given as goal

abbrev pub invariant-loop-place : goal.invariant-loop-place
invariant-loop-place l = Passed l.table l.form l.from l.end l.place
