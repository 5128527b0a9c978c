-- Laws of Mask.
pub mod Laws
