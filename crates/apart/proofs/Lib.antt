-- Demand 3 where every host has tables and an N of its own: the theorems and their proofs.
--     Theorems     what holds after each happening
--     Words        the same in document 01's words and numbers
--     Behaviour    every list of genuine happenings is a behaviour of module PaxosCommit, Decide widened
--     Examples     a list of happenings that ends committed
--     Needed       each hypothesis is needed: lists that break the order without it
pub mod Behaviour
pub mod Delivery
pub mod Examples
pub mod Hosts
pub mod Needed
pub mod Theorems
pub mod Words
