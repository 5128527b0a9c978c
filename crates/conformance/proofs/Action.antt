-- Laws of Action.
pub mod Laws
