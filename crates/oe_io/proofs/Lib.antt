pub mod Streaming
pub mod FrontFacts
