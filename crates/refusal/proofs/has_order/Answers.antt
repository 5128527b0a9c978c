-- `refusal::has_order` meets its contract: the last two bytes are what the definition compares. Assumes nothing.
use mathlib.Core.Path.{sym, ◌∙◌}
use Rattle.message.proofs.Form.Laws.{has_order_bytes}
use Rattle.refusal.proofs.has_order.Goals as goal

pub returns : goal.returns
returns c = c.is_order.ensures ∙ sym (has_order_bytes _ _ _)
