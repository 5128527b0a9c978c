-- Opening, the event call and the ending for other languages.
--     Code       what they answer, as numbers, and the five tables
pub mod Code
