-- Laws of View.
pub mod Laws
