-- Demand 2, role by role: the theorems and their proofs.
--     Theorems   the theorems
pub mod Acceptor
pub mod Call
pub mod Leader
pub mod Reading
pub mod Rm
pub mod Theorems
