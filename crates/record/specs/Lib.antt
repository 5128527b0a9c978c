-- The order record.
--     Record     its tables, opening it, and the event call
pub mod Record
