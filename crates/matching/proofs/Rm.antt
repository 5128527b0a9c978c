-- Laws of Rm.
pub mod Laws
pub mod Ruled
