-- The proofs that belong to no one function.
--     Inboxes     I, or the summary, with other bytes in the part that the code takes
--     Stepping    from the judgement of the plan and the four tables, and what a role performed, to the whole call
pub mod Inboxes
pub mod Stepping
