mod LookFacts
mod LineFacts
