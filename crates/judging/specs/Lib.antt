-- Judging an order record.
--     Judging    rows 1 to 6: the plan and the four tables
pub mod Judging
