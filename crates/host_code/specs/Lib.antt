-- The numbers that the calls for other languages answer.
--     Code       the number of a step's answer, and of several bytes
pub mod Code
