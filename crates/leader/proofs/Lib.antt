-- The proofs that belong to no one function.
--     ByKind      from the code's answers to the kinds of `leader_kind`
--     Judging     from the judgement of the plan and both tables to the whole call
pub mod ByKind
pub mod Judging
