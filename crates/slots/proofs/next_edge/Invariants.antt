-- The loop of `slots::next_edge`.
use Prim.Native.Nat.{◌-◌, ◌/◌, ◌≤◌}
use mathlib.Core.Path.{◌≡◌}
use lib.ListN.{length}
use Rattle.slots.specs.Table.{slot_size}
use Rattle.slots.specs.Table.Scan.{steps_from}
use Rattle.slots.proofs.next_edge.Given as goal

abbrev pub invariant-loop-place : goal.invariant-loop-place
invariant-loop-place l =
    (l.place ≤ length l.table / slot_size) × (steps_from l.table l.step (length l.table / slot_size) l.place ≡ steps_from l.table l.step (length l.table / slot_size) l.from)

abbrev pub decreases-loop-place : goal.decreases-loop-place
decreases-loop-place l = l.count - l.place
