pub mod RewindFacts
pub mod BackFacts
mod UndoneFacts
pub mod LinkedFacts
mod ChainedFacts
pub mod MoreFacts
pub mod RecordedFacts
mod ForgettingFacts
mod ForgetsFacts
mod ToldFacts
mod ExactNameFacts
mod KeptNameFacts
pub mod LedFacts
pub mod PurgeFacts
pub mod LeftFacts
pub mod NamedFacts
pub mod ExactFacts
