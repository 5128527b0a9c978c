-- Demand 2 on the record: the theorems and their proofs.
--     Words        the tests of single rows in document 01's words
--     Effects      what the action of an event, an accepted call and a receipt are, in the module's words
--     Theorems     the theorems
pub mod Action
pub mod Effects
pub mod Record
pub mod Theorems
pub mod Words
