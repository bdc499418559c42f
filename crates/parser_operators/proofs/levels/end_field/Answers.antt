use Rattle.std.proofs.Common.{◌∙◌, map, sym, ap, rules}
use Rattle.fip_grammar.specs.Machine as machine
use Rattle.fip_base.specs.SurfaceView.{block, expression}
use Rattle.parser_state.specs.StateView as view
use Rattle.parser_state.proofs.StepFacts as steps
use Rattle.parser_operators.proofs.levels.end_field.Goals as goal

pub returns-in-RoundClose : goal.returns-in-RoundClose
returns-in-RoundClose c =
    let b = c.args.body in
    record {
      next =
          λ negated w x e. c.operand.ensures.next negated w x
          (e
          ∙ ap (λ s. machine.end_level (view.body b) (machine.ForFields c.args.name c.args.place (map expression c.args.done.items)) (block c.args.block) s) c.in-RoundClose.is
          ∙ steps.at_constructor b c.args.name c.args.place _ _ (sym c.in_ok-done.ensures));
    }

pub returns-in_default : goal.returns-in_default
returns-in_default c = record { next = λ negated w x e. c.refused.ensures.next negated w x (e ∙ search rules) }
