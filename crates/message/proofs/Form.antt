-- Laws of Form.
pub mod Laws
pub mod Maps
