-- The proofs that belong to no one function.
--     Voting      from the bytes of a slot to the cases of `vote_step`
--     Deciding    from the slots one by one to the answer
pub mod Voting
pub mod Deciding
