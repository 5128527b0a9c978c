-- Laws of Plain.
pub mod Laws
pub mod Same
