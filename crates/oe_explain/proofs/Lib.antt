pub mod SayingFacts
