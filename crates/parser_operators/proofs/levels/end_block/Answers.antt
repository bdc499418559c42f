use Rattle.std.proofs.Common.{◌∙◌, ap}
use Rattle.fip_grammar.specs.Machine as machine
use Rattle.fip_base.specs.CoreView.{result_type}
use Rattle.parser_state.specs.StateView as view
use Rattle.parser_state.proofs.StepFacts as steps
use Rattle.parser_operators.proofs.levels.end_block.Goals as goal

pub returns : goal.returns
returns c =
    let b = c.args.body in
    record {
      next =
          λ negated w x e. c.end_last.ensures.next negated w x
          (e ∙ ap (λ z. machine.end_last (view.function_head b.head) (result_type b.gives) (view.levels b.levels.items) z c.args.sign) (steps.block_made b.partial.lets b.partial.steps c.requires.whole));
    }
