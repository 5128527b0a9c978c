-- `refusal::is_order` meets its contract: one number is compared. Assumes nothing.
use Rattle.message.proofs.Form.Laws.{order_compared}
use Rattle.refusal.proofs.is_order.Goals as goal

pub returns : goal.returns
returns c = rw c.order_of.ensures (order_compared _ _ _ c.ranges.low.fits)
