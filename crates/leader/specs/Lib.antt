-- The step of a leader.
--     Leader     what an event of kinds 4 to 8 changes, or its refusal
pub mod Leader
