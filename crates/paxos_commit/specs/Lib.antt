-- The published specification of Paxos Commit, and its safety at every size.
--     PaxosCommit   module PaxosCommit of document 001 (A.3); below it, PaxosCommit/Safety.antt: the invariant, and that every action keeps it
--     Widened       the module with Decide widened by section 4.2
pub mod PaxosCommit
pub mod Widened
