-- Laws of Hosts.
pub mod Acceptor
pub mod Leader
pub mod Lists
pub mod Moved
pub mod Restart
pub mod Rm
pub mod Steps
pub mod Tests
pub mod Tied
