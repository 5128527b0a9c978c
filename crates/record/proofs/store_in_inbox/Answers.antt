-- `record::store_in_inbox` meets its contract: the part of I that is lent is the leader's inbox, and is put back at its place. Assumes nothing.
use mathlib.Core.Path.{refl}
use Rattle.record.proofs.Stepping.{kept_none, kept_part}
use Rattle.record.proofs.store_in_inbox.Goals as goal

-- no leader
pub returns-then-plan-leader : goal.returns-then-plan-leader
returns-then-plan-leader c = kept_none _ _ _ _ c.if-plan-leader.true

-- what was stored, put back
pub returns : goal.returns
returns c = kept_part _ _ _ _ c.if-plan-leader.false _ refl _ c.apply_store.ensures
