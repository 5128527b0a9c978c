-- The events.
--     Event    the four bytes of an event, and row 7 of "Refusals by place"
pub mod Event
