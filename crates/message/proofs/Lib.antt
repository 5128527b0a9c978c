-- The proofs that belong to no one function.
--     Guards   the rule set that turns the tests on the way to a `return` into a definition's guards
pub mod Codec
pub mod Form
pub mod Outcome
pub mod PlanLaws
pub mod Rows
pub mod Theorems
pub mod Guards
