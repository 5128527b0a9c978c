-- The text of a rehearsal.
--     Text         lines and words, and text put into a buffer
pub mod Text
