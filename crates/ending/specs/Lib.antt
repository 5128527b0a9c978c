-- How an order stands.
--     Ending     committed, aborted or open, from W
pub mod Ending
