-- The rehearsal.
--     Rehearsal     what it prints for an input
--     Theorems      what every output is, in document 01's words
--     Examples      document 01's example and others, computed
pub mod Rehearsal
pub mod Theorems
pub mod Examples
