-- The proofs that belong to no one function.
--     Theorems   what the numbers stand for
pub mod CodeLaws
pub mod Theorems
