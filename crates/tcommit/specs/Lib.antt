-- Transaction Commit.
--     RmState   the four states as numbers
--     TCommit   the machine of document 001, A.1
pub mod RmState
pub mod TCommit
