-- The proofs that belong to no one function.
--     Opening     from the code's answers to `record_open`
pub mod Opening
