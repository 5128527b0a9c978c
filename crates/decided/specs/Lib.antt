-- How the pass for Decided looks at slots.
--     Pass    blocks of slots, and what some slots further come to
pub mod Pass
