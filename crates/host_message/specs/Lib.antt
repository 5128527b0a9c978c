-- The reader and the writer for other languages.
--     Code       what they are given and answer, as numbers
pub mod Code
