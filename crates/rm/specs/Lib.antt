-- The step of a resource manager.
--     Rm   what an event of kinds 0, 1 and 2 changes, or its refusal
pub mod Rm
