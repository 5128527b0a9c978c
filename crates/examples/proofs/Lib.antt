-- Document 01's proved examples.
--     Examples   the table, and the theorem that each example computes to what document 01 says
pub mod Examples
pub mod Histories
