-- What an event comes to on an order record.
--     Verdict    the verdict of the event's role
pub mod Verdict
