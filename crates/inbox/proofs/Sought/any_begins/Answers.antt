-- `inbox::Sought::any_begins` meets its contract: while none is met all slots so far can be passed. Assumes nothing.
use native.Mathlib.Omega.{arith}
use Rattle.inbox.proofs.Skipping.{all_none, all_met}
use Rattle.inbox.proofs.Sought.any_begins.Goals as goal

pub loop-i-init : goal.loop-i-init
loop-i-init c none = all_none _ _ _ _ _ (omega arith)

pub loop-i-preserved : goal.loop-i-preserved
loop-i-preserved c = all_met _ _ _ _ _ _ _ c.loop-i.invariant c.begins-any.ensures
