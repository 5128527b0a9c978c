-- Laws of Delivery.
pub mod Ruled
