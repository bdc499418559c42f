use Rattle.std.proofs.Common.{length, ◌-◌, ◌+◌, ◌≤◌, drop}
use Rattle.fip_grammar.specs.WordView.{tokens}
use Rattle.fip_grammar.specs.Claims.{IsRead}
use Rattle.fip_grammar.proofs.lexer.lex.Given as goal

abbrev pub invariant-loop-place : goal.invariant-loop-place
invariant-loop-place l = record {
  line : l.place.line ≤ l.place.at + 1;
  col : l.place.col ≤ l.place.at + 1;
  within : l.place.at ≤ length l.source;
  read : IsRead l.source (drop l.place.at l.source) l.place (tokens l.tokens.items);
}

abbrev pub decreases-loop-place : goal.decreases-loop-place
decreases-loop-place l = length l.source - l.place.at
