-- What this crate's proofs share.
mod FigureFacts
mod TiedFacts
mod ReferenceTies
mod ConditionTies
mod GroupTies
mod LineTies
mod AccountTies
mod MovementTies
mod ListFacts
mod GapFacts
