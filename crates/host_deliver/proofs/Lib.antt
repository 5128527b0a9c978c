-- The proofs that belong to no one function.
--     Theorems   what the number says
pub mod CodeLaws
pub mod Theorems
