-- The loop of `inbox::Sought::any_begins`.
use Prim.Native.Nat.{◌+◌}
use mathlib.Core.Bool.{false}
use mathlib.Core.Path.{◌≡◌}
use Rattle.inbox.specs.Inbox.Blocks.{AllPassed}
use Rattle.inbox.proofs.Sought.any_begins.Given as goal

abbrev pub invariant-loop-i : goal.invariant-loop-i
invariant-loop-i l = l.any ≡ false → AllPassed l.self.instance l.self.ballot l.inbox l.place (l.place + l.i)
