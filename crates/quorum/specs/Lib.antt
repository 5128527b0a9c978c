-- Sets of acceptors.
--     Quorum         how many pass a test, and majorities
--     Mask           a set as the bits of a byte
--     Majorities     the table of majorities
pub mod Quorum
pub mod Mask
pub mod Majorities
