-- The summary: what stands beside an inbox.
--     Summary    its bytes, and what a receipt does to them
pub mod Summary
