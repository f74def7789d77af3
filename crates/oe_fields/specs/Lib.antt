pub mod Front
pub mod Parting
pub mod Spelling
