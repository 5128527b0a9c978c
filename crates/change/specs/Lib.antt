-- What the steps of all roles come to.
--     Change   the answer, what an accepted event changes, and the two tables after a step
pub mod Change
