-- Laws of Call.
pub mod Laws
