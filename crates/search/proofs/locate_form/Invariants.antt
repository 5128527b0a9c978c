-- The loop of `search::locate_form`.
use Rattle.search.proofs.Look.{Looked}
use Rattle.search.proofs.locate_form.Given as goal

abbrev pub invariant-loop-place : goal.invariant-loop-place
invariant-loop-place l = Looked l.table l.form l.place
