-- A delivery for other languages.
--     Code       the number of its answer, and N
pub mod Code
