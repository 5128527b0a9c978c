-- The safety of Paxos Commit at every size: the theorems and their proofs.
--     Theorems      the theorems of modules TCommit and PaxosCommit, and agreement; which of them the widened module keeps
--     Words         what the predicates in the theorems say, in numbers
pub mod PaxosCommit
pub mod Theorems
pub mod Widened
pub mod Words
