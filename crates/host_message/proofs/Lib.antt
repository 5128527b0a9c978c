-- The proofs that belong to no one function.
--     Reading    the reader's number
--     Theorems   when a number is a message's, and that none stands for two messages or for two answers of the writer
pub mod CodeLaws
pub mod CodeWriting
pub mod Theorems
pub mod Reading
