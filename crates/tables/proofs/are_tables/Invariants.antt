-- The loop of `tables::are_tables`.
use Rattle.std.proofs.Common.{true, ◌≡◌}
use Rattle.tables.specs.Tables.{tables_up_to}
use Rattle.tables.proofs.are_tables.Given as goal

abbrev pub invariant-loop-part : goal.invariant-loop-part
invariant-loop-part l = tables_up_to l.plan l.size l.part l.tables ≡ true
