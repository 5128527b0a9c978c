-- `ending::are_all` meets its contract: the bytes from `i` on are the state exactly when all are. Assumes nothing.
use Prim.Native.Nat.{◌≤◌, ◌-◌}
use mathlib.Core.Path.{◌≡◌, refl, sym, ◌∙◌}
use lib.ListN.{length, drop}
use borrow.Author.Rules.{rules}
use borrow.Author.Tests.{eq-eqb, ne_eqb}
use Rattle.slots.proofs.All.Laws.{all_step, all_stop, all_end}
use Rattle.ending.specs.Ending.{are_all}
use Rattle.ending.proofs.are_all.Goals as goal

pub loop-i-init : goal.loop-i-init
unfolding are_all
loop-i-init c = (search rules, refl)

pub returns-then-states-i : goal.returns-then-states-i
unfolding are_all
returns-then-states-i c = sym (all_stop _ _ _ c.loop-i-test.true (ne_eqb _ _ c.if-states-i.true)) ∙ c.loop-i.invariant.1

pub loop-i-preserved : goal.loop-i-preserved
unfolding are_all
loop-i-preserved c = (search rules, all_step _ _ _ c.loop-i-test.true (eq-eqb _ _ c.if-states-i.false) ∙ c.loop-i.invariant.1)

pub returns : goal.returns
unfolding are_all
returns c = sym (all_end _ _ _ c.loop-i-test.false) ∙ c.loop-i.invariant.1
