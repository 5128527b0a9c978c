-- What a leader reads from its inbox.
--     Inbox     the conditions of Phase2a and Decided, on the list of messages in the inbox
pub mod Inbox
