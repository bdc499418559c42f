use Rattle.std.proofs.Common.{sym}
use Rattle.fip_grammar.specs.WordView as V
use Rattle.fip_grammar.proofs.Fronts.{first_bang, first_lower, first_upper, first_digit}
use Rattle.fip_grammar.proofs.lexer.first_word.Goals as goal

pub returns-then-begins_match_bang : goal.returns-then-begins_match_bang
returns-then-begins_match_bang c = first_bang c.args.text.now (sym c.if-begins_match_bang.ensures)

pub returns-then-is_lower : goal.returns-then-is_lower
returns-then-is_lower c =
    first_lower c.args.text.now c.args.rest.now c.args.first c.name_length-count.result (V.word c.keyword_or_name.result) c.requires (sym c.if-is_lower.ensures.lower) (sym c.if-begins_match_bang.ensures) c.name_length-count.ensures.exact c.keyword_or_name.ensures

pub returns-then-is_upper : goal.returns-then-is_upper
returns-then-is_upper c =
    first_upper c.args.text.now c.args.rest.now c.args.first c.name_length-count-then-is_upper.result c.requires (sym c.if-is_lower.ensures.lower) (sym c.if-is_upper.ensures.upper) c.name_length-count-then-is_upper.ensures.exact

pub returns-then-is_digit : goal.returns-then-is_digit
returns-then-is_digit c =
    first_digit c.args.text.now c.args.rest.now c.args.first c.digits_length-count.result c.requires (sym c.if-is_lower.ensures.lower) (sym c.if-is_upper.ensures.upper) (sym c.if-is_digit.ensures.digit) c.digits_length-count.ensures.exact
