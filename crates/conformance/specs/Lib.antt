-- Demand 2 on the record.
--     Record       what an event call answers, and what an accepted one does
--     Action       the published action of an event
pub mod Record
pub mod Action
