-- The proofs that belong to no one function.
pub mod MajorityLaws
pub mod Mask
pub mod Quorum
