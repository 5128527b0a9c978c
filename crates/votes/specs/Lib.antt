-- Judging Q.
--     Votes   row 4 of "Refusals by place"
pub mod Votes
