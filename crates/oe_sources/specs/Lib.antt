pub mod Dump
pub mod Fault
pub mod Name
pub mod Reading
pub mod Tables
pub mod Taken
pub mod Text
