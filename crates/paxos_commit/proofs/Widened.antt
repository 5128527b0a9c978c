-- Laws of Widened.
pub mod Early
pub mod Laws
