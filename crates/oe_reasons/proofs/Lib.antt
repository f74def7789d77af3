mod JoinFacts
mod PlaceFacts
mod RangeFacts
mod FitFacts
mod ListFacts
