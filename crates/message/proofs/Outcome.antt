-- Laws of Outcome.
pub mod Laws
