-- The loop of `decided::any_2b`.
use Prim.Native.Nat.{◌+◌, ◌*◌}
use mathlib.Core.Path.{◌≡◌}
use Rattle.slots.specs.Table.{slot_size}
use Rattle.inbox.specs.Inbox.{for_some}
use Rattle.decided.specs.Pass.{begins2b}
use Rattle.decided.proofs.any_2b.Given as goal

abbrev pub invariant-loop-i : goal.invariant-loop-i
invariant-loop-i l = l.any ≡ for_some l.i (λ j. begins2b l.ins l.inbox ((l.place + j) * slot_size))
