-- What this crate's proofs rest on.
mod ReadFacts
mod OwnFacts
mod BehindFacts
mod EarlierFacts
mod FaultFacts
mod AuditFacts
