-- Laws of Scan.
pub mod Laws
