use Rattle.std.proofs.Common.{rules, ◌≡◌, false, refl, sym, ap, ◌∙◌}
use Rattle.std.specs.Int.{w64}
use Rattle.std.proofs.lemmas.Int.{to_z-of_z}
use Rattle.fip_grammar.specs.declared.Sign.TheVariants as S
use Rattle.fip_grammar.specs.declared.token.Word.TheVariants as W
use Rattle.fip_grammar.specs.WordView.{word}
use Rattle.fip_grammar.specs.Machine as machine
use Rattle.parser_state.specs.StateView as view
use Rattle.parser_state.proofs.TooLarge.{too_large}
use Rattle.parser_bodies.proofs.PatternFacts as facts
use Rattle.parser_bodies.proofs.patterns.pattern_wanted.Goals as goal

pub returns-in-None : goal.returns-in-None
returns-in-None c = record { next = too_large false c.args.token (machine.pattern_wanted (view.open_patterns c.args.open.items) (view.under_operand c.args.body) (view.open_match c.args.clauses (view.operand c.args.body))) (W.Int c.in-Int.digits) c.in-Int.digits.now _ c.in-Int.is refl refl (search rules) }

pub returns-in_ok-name-in-Lower : goal.returns-in_ok-name-in-Lower
returns-in_ok-name-in-Lower c = record {
  next =
      c.pattern_read-in-Lower.ensures.next false _ _ (
      ap (λ v. machine.pattern_wanted (view.open_patterns c.args.open.items) (view.under_operand c.args.body) (view.open_match c.args.clauses (view.operand c.args.body)) (word v) c.args.token.place) c.in-Lower.is
      ∙ ap (λ q. machine.in_pattern (machine.PatternDone q) (view.open_patterns c.args.open.items) (view.under_operand c.args.body) (view.open_match c.args.clauses (view.operand c.args.body))) (sym (facts.pattern_variable _ _ c.args.token.place c.in_ok-name-in-Lower.ensures.same))
      );
}

pub returns-in-Some : goal.returns-in-Some
returns-in-Some c = record {
  next =
      c.pattern_read-in-Some.ensures.next false _ _ (
      ap (λ v. machine.pattern_wanted (view.open_patterns c.args.open.items) (view.under_operand c.args.body) (view.open_match c.args.clauses (view.operand c.args.body)) (word v) c.args.token.place) c.in-Int.is
      ∙ ap (λ q. machine.in_pattern (machine.PatternDone q) (view.open_patterns c.args.open.items) (view.under_operand c.args.body) (view.open_match c.args.clauses (view.operand c.args.body))) (sym (facts.pattern_literal _ _ c.args.token.place (to_z-of_z w64 c.in-Some.value (search rules) ∙ c.in-Some.ensures.some)))
      );
}

pub returns-in-Sign-Underscore : goal.returns-in-Sign-Underscore
returns-in-Sign-Underscore c =
    let underscore : c.args.token.word ≡ W.Sign S.Underscore = search rules in
    record {
      next =
          c.pattern_read.ensures.next false _ _
          (ap (λ v. machine.pattern_wanted (view.open_patterns c.args.open.items) (view.under_operand c.args.body) (view.open_match c.args.clauses (view.operand c.args.body)) (word v) c.args.token.place) underscore
          ∙ ap (λ q. machine.in_pattern (machine.PatternDone q) (view.open_patterns c.args.open.items) (view.under_operand c.args.body) (view.open_match c.args.clauses (view.operand c.args.body))) (sym (facts.pattern_wildcard c.args.token.place)));
    }

pub returns-in_ok-name-in-Upper : goal.returns-in_ok-name-in-Upper
returns-in_ok-name-in-Upper c = record {
  next =
      c.stays_in_pattern.ensures.next false _ _ (
      ap (λ v. machine.pattern_wanted (view.open_patterns c.args.open.items) (view.under_operand c.args.body) (view.open_match c.args.clauses (view.operand c.args.body)) (word v) c.args.token.place) c.in-Upper.is
      ∙ ap (λ n. machine.in_pattern (machine.PatternNamed n c.args.token.place) (view.open_patterns c.args.open.items) (view.under_operand c.args.body) (view.open_match c.args.clauses (view.operand c.args.body))) (sym c.in_ok-name-in-Upper.ensures.same)
      );
}

pub returns-in_default : goal.returns-in_default
returns-in_default c = record { next = c.refused.ensures.next false _ _ (search rules) }
