use Rattle.std.proofs.Common.{sym}
use Rattle.fip_grammar.specs.WordView as V
use Rattle.fip_grammar.proofs.Fronts.{first_double, first_single, first_none}
use Rattle.fip_grammar.proofs.lexer.first_sign.Goals as goal

pub returns-in-Some : goal.returns-in-Some
returns-in-Some c = first_double c.args.first c.args.rest.now (V.word c.in-Some.word) c.requires.lower c.requires.upper c.requires.digit (sym c.in-Some.ensures)

pub returns-in-Some-single_sign : goal.returns-in-Some-single_sign
returns-in-Some-single_sign c = first_single c.args.first c.args.rest.now (V.word c.in-Some-single_sign.word) c.requires.lower c.requires.upper c.requires.digit (sym c.in-None.ensures) (sym c.in-Some-single_sign.ensures)

pub returns-in-None-single_sign : goal.returns-in-None-single_sign
returns-in-None-single_sign c = first_none c.args.first c.args.rest.now c.requires.lower c.requires.upper c.requires.digit (sym c.in-None.ensures) (sym c.in-None-single_sign.ensures)
