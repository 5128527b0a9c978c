-- The proofs that belong to no one function.
--     Within    a byte beside its bounds
--     Rows      the rows of a plan's bounds
--     Forms     a slot judged by bounds
--     Seen      what the slots passed so far have shown
--     Parts     judging part by part
pub mod Within
pub mod Rows
pub mod Forms
pub mod Seen
pub mod Parts
