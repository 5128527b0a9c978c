-- Judging whole tables.
--     Tables   N and so many inboxes beside it (rows 5 and 6)
pub mod Tables
