-- The step of an acceptor.
--     Acceptor   what an event of kind 3 changes, or its refusal
pub mod Acceptor
