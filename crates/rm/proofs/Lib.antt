-- The proofs that belong to no one function.
--     ByKind     from a read event's kind to the rows of the verdict
--     Judging    from the judgement of the plan and both tables to the whole call
pub mod ByKind
pub mod Judging
