-- The loop of `inbox::Sought::next`.
use Rattle.inbox.specs.Inbox.Blocks.{AllPassed}
use Prim.Native.Nat.{◌≤◌}
use Rattle.inbox.proofs.Sought.next.Given as goal

abbrev pub invariant-loop-place : goal.invariant-loop-place
invariant-loop-place l = (l.from ≤ l.place) × (l.place ≤ l.used) × AllPassed l.self.instance l.self.ballot l.inbox l.from l.place
