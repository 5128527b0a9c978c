-- `inbox::Sought::next` meets its contract: all slots so far can be passed. Assumes nothing.
use native.Mathlib.Omega.{arith}
use borrow.Author.Rules.{rules}
use Rattle.inbox.proofs.Skipping.{all_next}
use Rattle.inbox.proofs.Sought.next.Goals as goal

pub loop-place-preserved : goal.loop-place-preserved
loop-place-preserved c = (
  omega (arith, c.loop-place.invariant.0),
  search rules,
  all_next _ _ _ _ _ c.loop-place.invariant.2 (c.begins.ensures c.if-begins.false),
)
