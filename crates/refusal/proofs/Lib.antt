-- The proofs that belong to no one function.
--     Counts    a plan by its three counts
--     Slices    a slice's length beside that of its map
pub mod Counts
pub mod Slices
