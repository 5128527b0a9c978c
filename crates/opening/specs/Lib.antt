-- The tables of an order record.
--     Opening   their lengths, and opening them
pub mod Opening
