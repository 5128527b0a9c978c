-- Laws of Reading.
pub mod Laws
