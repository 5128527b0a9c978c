-- `phase2a::owns_ballot` meets its contract: each branch decides one part of the rule. Assumes nothing.
use Rattle.message.proofs.Guards.{guards}
use Rattle.phase2a.specs.Phase2a.{owns}
use Rattle.phase2a.proofs.owns_ballot.Goals as goal

pub returns-then-plan-lt1 : goal.returns-then-plan-lt1
returns-then-plan-lt1 c = search guards

pub returns-then-ballot-lt1 : goal.returns-then-ballot-lt1
unfolding owns
returns-then-ballot-lt1 c = search guards

pub nonzero_rem-ballot : goal.nonzero_rem-ballot
nonzero_rem-ballot c = search guards

pub returns-then-ballot-plan : goal.returns-then-ballot-plan
unfolding owns
returns-then-ballot-plan c = search guards

pub returns : goal.returns
unfolding owns
returns c = search guards
