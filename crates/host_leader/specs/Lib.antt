-- A leader's own call for other languages.
--     Code       its number, the inbox, N and the leader's bytes of the summary
--     Theorems   what the number stands for, and what stands beside it
pub mod Code
pub mod Theorems
