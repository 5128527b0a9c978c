-- Laws of Codec.
pub mod Answers
pub mod Laws
