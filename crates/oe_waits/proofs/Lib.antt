-- For the crates above: who waits for whom is known, and each text is one of the world's.
mod KnotFacts
mod WaitFacts
mod SetFacts
mod ReachFacts
mod TextFacts
pub mod OrderFacts
pub mod HeldFacts
