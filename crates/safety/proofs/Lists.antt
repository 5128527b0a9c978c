-- Laws of Lists.
pub mod Laws
