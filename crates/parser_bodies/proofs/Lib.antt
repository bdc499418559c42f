mod BodyRows
mod PatternFacts
