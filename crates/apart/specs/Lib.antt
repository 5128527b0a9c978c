-- Demand 3 where every resource manager (document 01: weight), acceptor and leader is a host of its own, with an N of its own.
--     Delivery     a delivery's rows in document 01's words
--     Hosts        the hosts, what may happen to them, what is asked of it, and what is claimed
--     Words        the same claims in numbers
--     Needed       a list of happenings that breaks the order
pub mod Delivery
pub mod Hosts
pub mod Needed
pub mod Words
