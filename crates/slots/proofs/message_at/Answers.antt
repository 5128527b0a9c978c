-- `slots::message_at` meets its contract: the part that is read is the slot at the place. Assumes nothing.
use mathlib.Core.Path.{◌∙◌}
use Rattle.slots.proofs.Table.Laws.{peek_at_in, peek_at_out}
use Rattle.slots.proofs.message_at.Goals as goal

pub returns-then-count-place : goal.returns-then-count-place
returns-then-count-place c = peek_at_out _ _ c.if-count-place.true

pub returns : goal.returns
returns c = c.slot_message.ensures ∙ peek_at_in _ _ c.if-count-place.false
