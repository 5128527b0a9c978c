-- `change::set_vote` meets its contract: three stores, and none where the place is past the end. Assumes nothing.
use Rattle.change.proofs.Applying.{set_vote_out, set_vote_in}
use Rattle.change.proofs.set_vote.Goals as goal

pub returns-then-votes-at : goal.returns-then-votes-at
returns-then-votes-at c = set_vote_out _ _ _ _ _ c.if-votes-at.true

pub returns : goal.returns
returns c = set_vote_in c.args.votes.now c.args.at _ _ _ _ _ _ c.set_byte.ensures c.set_byte-2.ensures c.set_byte-3.ensures
