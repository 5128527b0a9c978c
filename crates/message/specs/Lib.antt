-- The definitions of the message layer, in document 01's order.
--     Outcome   what a call answers: the value, or the lowest refusal number
--     Plan      the plan and its range (refusal 1)
--     Form      messages, their ranges (refusal 17) and their bytes
--     Codec     the reader and the writer
--     Rows      the rows of "Refusals by place" for a call: the lowest number that applies, or the first row
--     Theorems  what the theorems on the byte form, the reader and the writer name; they are in proofs/Theorems.antt
pub mod Outcome
pub mod Plan
pub mod Form
pub mod Codec
pub mod Rows
pub mod Theorems
