-- The list call.
--     Run          what it answers and leaves
--     Rows         when it refuses
pub mod Run
pub mod Rows
