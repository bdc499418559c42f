use Rattle.std.proofs.Common.{rules, ◌≡◌, false, sym, ap, ◌∙◌}
use Rattle.fip_grammar.specs.declared.token.Word.TheVariants as W
use Rattle.fip_grammar.specs.declared.Sign.TheVariants as S
use Rattle.fip_grammar.specs.WordView.{word}
use Rattle.fip_grammar.specs.Machine as machine
use Rattle.parser_state.specs.StateView as view
use Rattle.parser_bodies.proofs.PatternFacts as facts
use Rattle.parser_bodies.proofs.patterns.pattern_named.Goals as goal

pub returns-in_ok-push-in-Sign-RoundOpen : goal.returns-in_ok-push-in-Sign-RoundOpen
returns-in_ok-push-in-Sign-RoundOpen c =
    let bracket : c.args.token.word ≡ W.Sign S.RoundOpen = search rules in
    record {
      next =
          c.stays_in_pattern.ensures.next false _ _ (
          ap (λ v. machine.step_pattern (machine.PatternNamed c.args.name c.args.place) (view.open_patterns c.args.open.items) (view.under_operand c.args.body) (view.open_match c.args.clauses (view.operand c.args.body)) (word v) c.args.token.place) bracket
          ∙ ap (λ o. machine.in_pattern machine.PatternWanted o (view.under_operand c.args.body) (view.open_match c.args.clauses (view.operand c.args.body))) (sym (facts.new_pattern _ _ _ c.in_ok-push-in-Sign-RoundOpen.ensures.items c.new.ensures.items))
          );
    }
