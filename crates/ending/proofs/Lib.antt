-- The proofs that belong to no one function.
--     Theorems   which it is, in document 01's words
pub mod EndingLaws
pub mod Theorems
