-- Lemmas of the proofs.
--     Parts     what stands at the front of a buffer that is filled part by part
pub mod Parts
