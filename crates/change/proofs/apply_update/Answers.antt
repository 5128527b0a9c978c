-- `change::apply_update` meets its contract: each arm says which update it is. Assumes nothing.
use Rattle.change.proofs.apply_update.Goals as goal

pub returns-in-State : goal.returns-in-State
returns-in-State c = rw c.in-State.is c.set_byte.ensures

pub returns-in-Vote : goal.returns-in-Vote
returns-in-Vote c = rw c.in-Vote.is c.set_vote.ensures

pub returns-in-Inbox : goal.returns-in-Inbox
returns-in-Inbox c = rw c.in-Inbox.is c.apply_store.ensures
