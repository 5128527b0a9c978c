-- Laws of Record.
pub mod Acts
pub mod Determined
pub mod Inboxes
pub mod Judges
pub mod Opened
pub mod Roles
pub mod Ruled
pub mod Slots
pub mod Steps
pub mod Words
