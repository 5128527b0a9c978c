-- Demand 3, and the summary: the theorems and their proofs.
--     Words        its step in document 01's words
--     Theorems     that it holds
--     Standing     what the summary says, and that all answers are those without one
--     Behaviour    every list of calls is a behaviour of module PaxosCommit, Decide widened
pub mod Behaviour
pub mod Grounds
pub mod Lists
pub mod Plain
pub mod Standing
pub mod Theorems
pub mod Words
