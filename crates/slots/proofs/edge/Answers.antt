-- `slots::edge` meets its contract: from the place near it on slot by slot. Assumes nothing.
use Prim.Native.Nat.{◌/◌}
use mathlib.Core.Path.{◌∙◌, ap}
use lib.Dec.{lit≤}
use lib.ListN.{length}
use Rattle.slots.specs.Table.{slot_size}
use Rattle.slots.specs.Table.Scan.{steps_from, edge}
use Rattle.slots.proofs.Table.Edge.{near_within}
use Rattle.slots.proofs.edge.Goals as goal

pub next_edge-requires : goal.next_edge-requires
next_edge-requires c = (rw c.near_edge.ensures (near_within _), lit≤ tt)

pub returns : goal.returns
unfolding edge
returns c =
    let t = c.args.table.now in
    c.next_edge.ensures.0 ∙ ap (steps_from t 1 (length t / slot_size)) c.near_edge.ensures
