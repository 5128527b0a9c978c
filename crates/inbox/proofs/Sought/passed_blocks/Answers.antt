-- `inbox::Sought::passed_blocks` meets its contract: all slots so far can be passed. Assumes nothing.
use native.Mathlib.Omega.{arith}
use borrow.Author.Rules.{rules}
use Rattle.inbox.proofs.Skipping.{all_none, all_join}
use Rattle.inbox.proofs.Sought.passed_blocks.Goals as goal

pub loop-place-init : goal.loop-place-init
loop-place-init c = (omega arith, search rules, all_none _ _ _ _ _ (omega arith))

pub returns-then-any_begins : goal.returns-then-any_begins
returns-then-any_begins c = c.loop-place.invariant

pub loop-place-preserved : goal.loop-place-preserved
loop-place-preserved c = (
  omega (arith, c.loop-place.invariant.0),
  search rules,
  all_join _ _ _ _ _ _ c.loop-place.invariant.2 (c.any_begins.ensures c.if-any_begins.false),
)

pub returns : goal.returns
returns c = c.loop-place.invariant
