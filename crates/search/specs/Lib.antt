-- How the search looks at bytes.
--     Words     bytes as numbers
--     Blocks    slots that are passed, and the one that is found
pub mod Words
pub mod Blocks
