-- `decided::any_2b` meets its contract: `any` is the answer for the slots so far. Assumes nothing.
use mathlib.Core.Bool.{◌||◌}
use mathlib.Core.Path.{sym, ◌∙◌, ap₂}
use Rattle.inbox.specs.Inbox.Quantifiers.{for_some_zero, for_some_next}
use Rattle.decided.proofs.any_2b.Goals as goal

pub loop-i-init : goal.loop-i-init
loop-i-init c = sym (for_some_zero _)

pub loop-i-preserved : goal.loop-i-preserved
loop-i-preserved c = ap₂ ◌||◌ c.loop-i.invariant c.begins_2b-any.ensures ∙ sym (for_some_next _ _)
