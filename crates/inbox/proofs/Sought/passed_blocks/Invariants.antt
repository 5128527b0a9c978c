-- The loop of `inbox::Sought::passed_blocks`.
use Prim.Native.Nat.{◌-◌, ◌≤◌}
use Rattle.inbox.specs.Inbox.Blocks.{AllPassed}
use Rattle.inbox.proofs.Sought.passed_blocks.Given as goal

abbrev pub invariant-loop-place : goal.invariant-loop-place
invariant-loop-place l = (l.from ≤ l.place) × (l.place ≤ l.used) × AllPassed l.self.instance l.self.ballot l.inbox l.from l.place

abbrev pub decreases-loop-place : goal.decreases-loop-place
decreases-loop-place l = l.used - l.place
