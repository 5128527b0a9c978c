-- Laws of Rows.
pub mod Laws
pub mod Named
