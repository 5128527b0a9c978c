-- The proofs that belong to no one function.
pub mod TCommit
