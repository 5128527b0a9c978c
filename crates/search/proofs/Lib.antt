-- The proofs that belong to no one function.
--     Blocks   the slots that are passed at once
--     Look     looking for a form slot by slot, and past many slots at once
pub mod Blocks
pub mod Look
