-- The loop of `decided::Asked::gather_slots`.
use Prim.Native.Nat.{◌≤◌}
use Rattle.slots.specs.Table.Scan.{peek_messages}
use Rattle.inbox.specs.Inbox.Slots.{ahead}
use Rattle.inbox.specs.Inbox.Votes.{Counts}
use Rattle.decided.proofs.Asked.gather_slots.Given as goal

abbrev pub invariant-loop-place : goal.invariant-loop-place
invariant-loop-place l =
    (l.place ≤ l.to) × Counts l.self.plan l.self.ins l.self.value (peek_messages l.inbox) l.masks (ahead l.inbox l.place)
