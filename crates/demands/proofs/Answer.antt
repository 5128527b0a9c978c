-- Laws of Answer.
pub mod Laws
