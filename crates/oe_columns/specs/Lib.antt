pub mod Ahead
pub mod Columns
pub mod Constants
pub mod Facts
pub mod Headings
pub mod Prints
pub mod Values
