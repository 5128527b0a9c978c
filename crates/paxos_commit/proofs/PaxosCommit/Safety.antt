-- Laws of Safety.
pub mod Acceptor
pub mod Agreement
pub mod Growth
pub mod Histories
pub mod Leader
pub mod Rm
