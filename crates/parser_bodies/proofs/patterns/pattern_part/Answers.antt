use Rattle.std.proofs.Common.{rules, ◌≡◌, false, ◌∷◌, sym, ap, ◌∙◌}
use Rattle.fip_base.specs.SurfaceView.{pattern}
use Rattle.fip_grammar.specs.declared.token.Word.TheVariants as W
use Rattle.fip_grammar.specs.declared.Sign.TheVariants as S
use Rattle.fip_grammar.specs.WordView.{word}
use Rattle.fip_grammar.specs.Machine as machine
use Rattle.parser_state.specs.StateView as view
use Rattle.parser_bodies.proofs.PatternFacts as facts
use Rattle.parser_bodies.proofs.patterns.pattern_part.Goals as goal

pub returns-in_ok-push-in-Sign-Comma : goal.returns-in_ok-push-in-Sign-Comma
returns-in_ok-push-in-Sign-Comma c =
    let comma : c.args.token.word ≡ W.Sign S.Comma = search rules in
    record {
      next =
          c.stays_in_pattern.ensures.next false _ _ (
          ap (λ v. machine.pattern_done (pattern c.args.pattern) (view.open_pattern c.args.around ∷ (view.open_patterns c.args.open.items)) (view.under_operand c.args.body) (view.open_match c.args.clauses (view.operand c.args.body)) (word v)) comma
          ∙ ap (λ o. machine.in_pattern machine.PatternWanted o (view.under_operand c.args.body) (view.open_match c.args.clauses (view.operand c.args.body))) (sym (facts.pattern_more _ _ _ _ _ c.in_ok-push-in-Sign-Comma.ensures.items c.in_ok-push.ensures.items))
          );
    }

pub returns-in-Sign-RoundClose : goal.returns-in-Sign-RoundClose
returns-in-Sign-RoundClose c =
    let close : c.args.token.word ≡ W.Sign S.RoundClose = search rules in
    record {
      next =
          c.pattern_read.ensures.next false _ _ (
          ap (λ v. machine.pattern_done (pattern c.args.pattern) (view.open_pattern c.args.around ∷ (view.open_patterns c.args.open.items)) (view.under_operand c.args.body) (view.open_match c.args.clauses (view.operand c.args.body)) (word v)) close
          ∙ ap (λ q. machine.in_pattern (machine.PatternDone q) (view.open_patterns c.args.open.items) (view.under_operand c.args.body) (view.open_match c.args.clauses (view.operand c.args.body))) (sym (facts.pattern_ended c.args.around.name c.args.around.place _ _ _ c.in_ok-push.ensures.items))
          );
    }

pub returns-in_default : goal.returns-in_default
returns-in_default c = record { next = c.refused.ensures.next false _ _ (search rules) }
