-- The page of demands, and what it rests on.
--     Words        what this and the slots of a table are, in numbers
--     Orders       Paper 1: the rows that keep another order's messages out
--     Theorems     the page: demands 1, 2 and 3, the byte form, and that orders stay apart, stated in full
pub mod Answer
pub mod Orders
pub mod Theorems
pub mod Words
