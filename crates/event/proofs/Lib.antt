-- The proofs that belong to no one function.
--     Reading   what a read event says of its bytes
pub mod Reading
