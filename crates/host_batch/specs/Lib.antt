-- The list call for other languages.
--     Code       its number, the five tables and the lent answers
--     Theorems   what the number says
pub mod Code
pub mod Theorems
