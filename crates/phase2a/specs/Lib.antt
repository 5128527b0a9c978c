-- Kind 6 of a leader.
--     Phase2a    ownership of ballots, and what an event of kind 6 changes, or its refusal
pub mod Phase2a
