-- The proofs that belong to no one function.
--     Reading    a bit of the bytes put together, and for all and for some of them
--     Parts      the size of a leader's part
--     Marking    what a 2b and a 2a do to the byte of their instance
pub mod Reading
pub mod Parts
pub mod Marking
