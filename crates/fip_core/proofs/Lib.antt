mod CoreFacts
mod ScopeFacts
mod WalkFacts
