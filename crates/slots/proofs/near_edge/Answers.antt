-- `slots::near_edge` meets its contract: long steps, then shorter ones. Assumes nothing.
use Prim.Native.Nat.{◌/◌, zero-le}
use mathlib.Core.Path.{◌∙◌, ap}
use lib.Dec.{lit≤}
use lib.ListN.{length}
use Rattle.slots.specs.Table.{slot_size}
use Rattle.slots.specs.Table.Scan.{steps_from, near_edge}
use Rattle.slots.proofs.near_edge.Goals as goal

pub next_edge-requires : goal.next_edge-requires
next_edge-requires c = (zero-le, lit≤ tt)

pub next_edge-requires-2 : goal.next_edge-requires-2
next_edge-requires-2 c = (c.next_edge.ensures.1, lit≤ tt)

pub returns : goal.returns
unfolding near_edge
returns c =
    let t = c.args.table.now in
    c.next_edge-2.ensures.0 ∙ ap (steps_from t 16 (length t / slot_size)) c.next_edge.ensures.0
