-- The proofs that belong to no one function.
--     Theorems     the same in literal numbers and in document 01's words
--     Putting     text put into a buffer, byte by byte
pub mod Text
pub mod Theorems
pub mod Putting
