-- The proofs that belong to no one function.
--     Zeros   many bytes tested for zero
--     Eight   a slot byte by byte
--     Copy    a form copied byte by byte
--     TwoBits     many bytes tested for being at most 3
pub mod All
pub mod SendLaws
pub mod Table
pub mod View
pub mod Zeros
pub mod Eight
pub mod Copy
pub mod TwoBits
