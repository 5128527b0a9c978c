-- The proofs that belong to no one function.
--     Theorems     the same in literal numbers and in document 01's words
--     Parts     the parts of the input that the code takes
pub mod Input
pub mod Theorems
pub mod Parts
