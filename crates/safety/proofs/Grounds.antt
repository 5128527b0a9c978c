-- Laws of Grounds.
pub mod Contradicted
pub mod Inboxes
pub mod Kept
pub mod Marks
pub mod Moves
pub mod Opened
pub mod Published
pub mod Steps
pub mod Stored
pub mod Zeros
