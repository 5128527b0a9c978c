-- What the programs do with the system.
--     Console     what a read leaves
pub mod Console
