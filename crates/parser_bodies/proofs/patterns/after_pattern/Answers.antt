use Rattle.std.proofs.Common.{rules, ◌≡◌, false, [], sym, ap, ◌∙◌}
use Rattle.fip_base.specs.SurfaceView.{pattern}
use Rattle.fip_grammar.specs.declared.token.Word.TheVariants as W
use Rattle.fip_grammar.specs.declared.Sign.TheVariants as S
use Rattle.fip_grammar.specs.WordView.{word}
use Rattle.fip_grammar.specs.Machine as machine
use Rattle.parser_state.specs.StateView as view
use Rattle.parser_bodies.proofs.patterns.after_pattern.Goals as goal

pub returns-in_ok-enter-in-Sign-Arrow : goal.returns-in_ok-enter-in-Sign-Arrow
returns-in_ok-enter-in-Sign-Arrow c =
    let arrow : c.args.token.word ≡ W.Sign S.Arrow = search rules in
    record {
      next =
          c.stays_in_body.ensures.next false _ _ (
          ap (λ v. machine.pattern_done (pattern c.args.pattern) [] (view.under_operand c.args.body) (view.open_match c.args.clauses (view.operand c.args.body)) (word v)) arrow
          ∙ ap (λ b. machine.in_body machine.AtBlock b) (sym c.in_ok-enter-in-Sign-Arrow.ensures.inner)
          );
    }

pub returns-in_default : goal.returns-in_default
returns-in_default c = record { next = c.refused.ensures.next false _ _ (search rules) }
