-- The loop of `inbox::Sought::gather`.
use Prim.Native.Nat.{◌-◌, ◌≤◌}
use Rattle.slots.specs.Table.Scan.{peek_messages}
use Rattle.inbox.specs.Inbox.Slots.{ahead}
use Rattle.inbox.specs.Inbox.Reports.{Gathers}
use Rattle.inbox.proofs.Sought.gather.Given as goal

abbrev pub invariant-loop-place : goal.invariant-loop-place
invariant-loop-place l =
    (l.from ≤ l.used) × Gathers l.self.instance l.self.ballot (peek_messages l.inbox) l.seen (ahead l.inbox l.from)

abbrev pub decreases-loop-place : goal.decreases-loop-place
decreases-loop-place l = l.used - l.from
