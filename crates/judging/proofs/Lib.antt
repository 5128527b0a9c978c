-- The proofs that belong to no one function.
--     Inboxes     judging inbox by inbox
--     Judging     from the judgement of the plan and the lengths to that of the four tables
pub mod Inboxes
pub mod Judging
