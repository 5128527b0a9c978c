-- The definitions of slot tables.
--     All       whether every byte passes a test
--     Table     a table's slots, when it is well formed, and the messages in it (rows 2, 5 and 6)
--     Send      where a message goes in a table that holds messages
--     View      what a step may ask of a table, of its bytes or of the messages that it holds
pub mod All
pub mod Table
pub mod Send
pub mod View
