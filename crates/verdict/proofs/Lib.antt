-- The proofs that belong to no one function.
--     Inboxes       the part of I, or of the summary, that the code takes is leader l's
--     Evaluating    from what a role makes of the event to its verdict
pub mod Inboxes
pub mod Evaluating
