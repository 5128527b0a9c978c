-- The proofs that belong to no one function.
--     Running        from the list call and its lines to the text of all
--     Rehearsing     from the text to the rehearsal
pub mod Running
pub mod Rehearsing
