-- Laws of PaxosCommit.
pub mod Laws
pub mod Safety
