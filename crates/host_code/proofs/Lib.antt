-- The proofs that belong to no one function.
--     Theorems   no number stands for two answers
pub mod CodeLaws
pub mod Theorems
