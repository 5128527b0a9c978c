-- Laws of Acceptor.
pub mod Laws
pub mod Ruled
pub mod Votes
