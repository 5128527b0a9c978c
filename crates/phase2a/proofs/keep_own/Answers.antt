-- `phase2a::keep_own` meets its contract: the branch decides whether there is room in the inbox. Assumes nothing.
use Rattle.phase2a.specs.Phase2a.Own.{keep_next, keep_full}
use Rattle.phase2a.proofs.keep_own.Goals as goal

pub returns-then-inbox-own : goal.returns-then-inbox-own
returns-then-inbox-own c = keep_full _ _ _ _ c.requires _ _ c.if-inbox-own.true

pub returns : goal.returns
returns c = keep_next _ _ _ _ c.requires _ _ c.if-inbox-own.false
