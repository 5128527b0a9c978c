-- Laws of Text.
pub mod Laws
