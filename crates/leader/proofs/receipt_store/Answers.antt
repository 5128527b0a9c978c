-- `leader::receipt_store` meets its contract: each arm says which place it is. Assumes nothing.
use Rattle.leader.specs.Leader.{receipt_store}
use Rattle.slots.specs.View.{sending}
use Rattle.leader.proofs.receipt_store.Goals as goal

pub returns-in-At : goal.returns-in-At
unfolding receipt_store sending
returns-in-At c = rw (← c.locate_message.ensures, c.in-At.is)

pub returns-in-Free : goal.returns-in-Free
unfolding receipt_store sending
returns-in-Free c = rw (← c.locate_message.ensures, c.in-Free.is)

pub returns-in-Full : goal.returns-in-Full
unfolding receipt_store sending
returns-in-Full c = rw (← c.locate_message.ensures, c.in-Full.is)
