-- Laws of TCommit.
pub mod Laws
