-- Laws of Leader.
pub mod Conditions
pub mod Decided
pub mod Declined
pub mod Guards
pub mod Highest
pub mod Laws
pub mod Own
pub mod Ruled
pub mod Took
