-- Laws of Words.
pub mod Laws
