use Rattle.fip_parser.proofs.Reading.{only_one, refused_so}
use Rattle.fip_parser.proofs.parser.parse.Goals as goal

pub returns-clause-misspelt : goal.returns-clause-misspelt
returns-clause-misspelt c = λ r e. refused_so c.args.source.now c.parse_source.result r c.parse_source.ensures.misspelt e

pub returns-clause-only : goal.returns-clause-only
returns-clause-only c = λ p h. only_one c.args.source.now p c.parse_source.result c.parse_source.ensures.spelt c.parse_source.ensures.misspelt h
