-- `message::in_range` meets its contract: each arm says which message it is, and joins the tests of its fields. Assumes nothing.
use Rattle.message.specs.Form.{is_in_range}
use Rattle.message.proofs.in_range.Goals as goal

pub returns-in-Phase1a : goal.returns-in-Phase1a
unfolding is_in_range
returns-in-Phase1a c = rw c.in-Phase1a.is

pub returns-in-Phase1b : goal.returns-in-Phase1b
unfolding is_in_range
returns-in-Phase1b c = rw (c.in-Phase1b.is, c.is_vote.ensures)

pub returns-in-Phase2a : goal.returns-in-Phase2a
unfolding is_in_range
returns-in-Phase2a c = rw (c.in-Phase2a.is, c.is_value.ensures)

pub returns-in-Phase2b : goal.returns-in-Phase2b
unfolding is_in_range
returns-in-Phase2b c = rw (c.in-Phase2b.is, c.is_value-in-Phase2b.ensures)

pub returns-in-Decision : goal.returns-in-Decision
unfolding is_in_range
returns-in-Decision c = rw c.in-Decision.is c.is_value-in-Decision.ensures
