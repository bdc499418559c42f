pub mod TypeFacts
