-- The proofs of this crate.
mod ScaleFacts
