-- Demand 2, role by role.
--     Reading    how the bytes of a record are read as the variables of module PaxosCommit
--     Call       what is said of the calls of all roles
--     Rm, Acceptor, Leader     the actions and the rows of each role's call; below each, the proofs
pub mod Reading
pub mod Call
pub mod Rm
pub mod Acceptor
pub mod Leader
