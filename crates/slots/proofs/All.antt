-- Laws of All.
pub mod Laws
