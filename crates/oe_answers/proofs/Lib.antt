-- The proofs of this crate.
mod FolderFacts
mod NoteFacts
