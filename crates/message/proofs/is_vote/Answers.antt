-- `message::is_vote` meets its contract: each arm says which report it is. Assumes nothing.
use Rattle.message.specs.Form.{is_vote}
use Rattle.message.proofs.is_vote.Goals as goal

pub returns-in-None : goal.returns-in-None
unfolding is_vote
returns-in-None c = rw c.in-None.is

pub returns-in-Some : goal.returns-in-Some
unfolding is_vote
returns-in-Some c = rw c.in-Some.is c.is_value.ensures
