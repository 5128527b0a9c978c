-- The loop of `tables::are_forms`.
use Rattle.std.proofs.Common.{◌≡◌}
use Rattle.message.specs.declared.Plan.{Plan}
use Rattle.slots.specs.Table.{is_zero}
use Rattle.tables.specs.Tables.Bounds.{Bounded}
use Rattle.tables.specs.Tables.Each.{each}
use Rattle.tables.specs.Tables.Edge.{used_at}
use Rattle.tables.proofs.are_forms.Given as goal

abbrev pub invariant-loop-slot : goal.invariant-loop-slot
invariant-loop-slot l = (p : Plan) → Bounded p l.bounds → is_zero l.seen ≡ each (used_at p l.table) 0 l.slot-index
