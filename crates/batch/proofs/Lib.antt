-- Running a list.
--     Judging      what is judged before its first event
--     Running      after some of its events
--     Theorems     what follows
pub mod RunLaws
pub mod RunNumbers
pub mod Theorems
pub mod Judging
pub mod Running
