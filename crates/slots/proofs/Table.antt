-- Laws of Table.
pub mod Edge
pub mod Foreign
pub mod Holds
pub mod Laws
pub mod Scan
pub mod Words
