-- Demand 3, and the summary (document 02, Papers 5 and 6).
--     Grounds      why it holds: what every record that was opened and used satisfies
--     Lists        a fresh record, a list of calls, and what is claimed of each of them
--     Plain        the lists of calls without a summary
--     Behaviour    one event call as module PaxosCommit sees it
pub mod Behaviour
pub mod Grounds
pub mod Lists
pub mod Plain
