-- The loop of `ending::are_all`.
use Prim.Native.Nat.{◌≤◌, ◌-◌}
use mathlib.Core.Path.{◌≡◌, refl, sym, ◌∙◌}
use lib.ListN.{length, drop}
use borrow.Author.Rules.{rules}
use borrow.Author.Tests.{eq-eqb, ne_eqb}
use Rattle.slots.proofs.All.Laws.{all_step, all_stop, all_end}
use Rattle.ending.specs.Ending.{are_all}
use Rattle.ending.proofs.are_all.Given as goal

abbrev pub invariant-loop-i : goal.invariant-loop-i
invariant-loop-i l = (l.i ≤ length l.states) × (are_all l.state (drop l.i l.states) ≡ are_all l.state l.states)

abbrev pub decreases-loop-i : goal.decreases-loop-i
decreases-loop-i l = length l.states - l.i
