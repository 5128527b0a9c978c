-- Laws of Input.
pub mod Laws
