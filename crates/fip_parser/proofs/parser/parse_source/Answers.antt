use Rattle.std.proofs.Common.{rules, ◌≡◌}
use Rattle.fip_grammar.specs.declared.lexer.LexError.TheVariants as L
use Rattle.fip_grammar.specs.WordView.{tokens}
use Rattle.fip_parser.proofs.Reading.{spelt_by, misspelt_by, bad_byte}
use Rattle.fip_parser.proofs.parser.parse_source.Goals as goal

pub returns-in-Ok-clause-spelt : goal.returns-in-Ok-clause-spelt
returns-in-Ok-clause-spelt c = spelt_by c.args.source.now (tokens c.in-Ok.tokens.tokens.items) c.in-Ok.tokens.end c.parse_tokens.result c.in-Ok.ensures.found c.parse_tokens.ensures.spelt

pub returns-in-Ok-clause-misspelt : goal.returns-in-Ok-clause-misspelt
returns-in-Ok-clause-misspelt c = misspelt_by c.args.source.now (tokens c.in-Ok.tokens.tokens.items) c.in-Ok.tokens.end c.parse_tokens.result c.in-Ok.ensures.found c.parse_tokens.ensures.misspelt

pub returns-in-Err-BadByte-clause-misspelt : goal.returns-in-Err-BadByte-clause-misspelt
returns-in-Err-BadByte-clause-misspelt c =
    let e : c.in-Err-BadByte.field-0 ≡ L.BadByte c.in-Err-BadByte.place = search rules in
    bad_byte c.args.source.now c.in-Err-BadByte.field-0 c.in-Err-BadByte.place c.refused.result e c.in-Err-BadByte.ensures.bad c.refused.ensures
