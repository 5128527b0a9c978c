-- The proofs that belong to no one function.
--     Applying   from a verdict, and what was stored for it, to the answer and the two tables
--     Stepping   a role's own call: from the judgement and what was performed to the whole call
pub mod Applying
pub mod Stepping
