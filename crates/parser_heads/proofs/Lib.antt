mod DefaultRows
mod HeadFacts
