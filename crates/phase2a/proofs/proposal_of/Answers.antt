-- `phase2a::proposal_of` meets its contract: each arm says which report it is. Assumes nothing.
use Rattle.inbox.specs.Inbox.{proposal}
use Rattle.phase2a.proofs.proposal_of.Goals as goal

pub returns-in-None : goal.returns-in-None
unfolding proposal
returns-in-None c = rw c.in-None.is

pub returns-in-Some : goal.returns-in-Some
unfolding proposal
returns-in-Some c = rw c.in-Some.is
