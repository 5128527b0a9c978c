-- The proofs that belong to no one function.
--     Proposing   from what was gathered to the cases of `phase2a_message`
pub mod Proposing
