use Rattle.std.proofs.Common.{rules, true, refl, sym, ap, ◌∙◌}
use Rattle.std.specs.Int.{w64}
use Rattle.std.proofs.lemmas.Int.{to_z-of_z}
use Rattle.fip_grammar.specs.declared.token.Word.TheVariants as W
use Rattle.fip_grammar.specs.WordView.{word}
use Rattle.fip_grammar.specs.Machine as machine
use Rattle.parser_state.specs.StateView as view
use Rattle.parser_state.proofs.TooLarge.{too_large}
use Rattle.parser_bodies.proofs.PatternFacts as facts
use Rattle.parser_bodies.proofs.patterns.pattern_minus.Goals as goal

pub returns-in-None : goal.returns-in-None
returns-in-None c = record { next = too_large true c.args.token (machine.step_pattern (machine.PatternMinus c.args.place) (view.open_patterns c.args.open.items) (view.under_operand c.args.body) (view.open_match c.args.clauses (view.operand c.args.body))) (W.Int c.in-Int.digits) c.in-Int.digits.now _ c.in-Int.is refl refl (search rules) }

pub returns-in-Some : goal.returns-in-Some
returns-in-Some c = record {
  next =
      c.pattern_read.ensures.next true _ _ (
      ap (λ v. machine.step_pattern (machine.PatternMinus c.args.place) (view.open_patterns c.args.open.items) (view.under_operand c.args.body) (view.open_match c.args.clauses (view.operand c.args.body)) (word v) c.args.token.place) c.in-Int.is
      ∙ ap (λ q. machine.in_pattern (machine.PatternDone q) (view.open_patterns c.args.open.items) (view.under_operand c.args.body) (view.open_match c.args.clauses (view.operand c.args.body))) (sym (facts.pattern_literal _ _ c.args.place (to_z-of_z w64 c.in-Some.value (search rules) ∙ c.in-Some.ensures.some)))
      );
}

pub returns-in_default : goal.returns-in_default
returns-in_default c = record { next = c.refused.ensures.next true _ _ (search rules) }
