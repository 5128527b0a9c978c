-- The input of a rehearsal.
--     Input        the plan and the events in an input
pub mod Input
