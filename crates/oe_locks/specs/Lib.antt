pub mod Hashes
pub mod Held
pub mod Holds
pub mod Listed
pub mod Marks
pub mod Terminals
