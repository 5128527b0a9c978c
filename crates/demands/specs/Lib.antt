-- The demands.
--     Answer       what demand 1 says of every call's answer
pub mod Answer
