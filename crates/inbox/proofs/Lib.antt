-- The proofs that belong to no one function.
--     Reporting   from the bytes of a slot to the cases of `report_step`
--     Skipping    slots that add nothing to what is gathered for Phase2a
pub mod Reporting
pub mod Skipping
