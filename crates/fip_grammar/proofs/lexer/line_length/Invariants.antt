use Rattle.std.proofs.Common.{◌≡◌, ◌+◌, drop}
use Rattle.std.specs.List.{prefix_len}
use Rattle.fip_grammar.specs.Cut.{is_no_lf}
use Rattle.fip_grammar.proofs.lexer.line_length.Given as goal

abbrev pub invariant-loop-at : goal.invariant-loop-at
invariant-loop-at l = prefix_len is_no_lf l.text ≡ l.at + prefix_len is_no_lf (drop l.at l.text)
