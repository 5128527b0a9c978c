-- Laws of Quorum.
pub mod Laws
pub mod Sets
