use Rattle.parser_state.proofs.StepFacts as steps
use Rattle.parser_operators.proofs.levels.with_part.Goals as goal

pub returns : goal.returns
returns c = steps.part_pushed c.args.block _ c.args.done.items c.in_ok-push.ensures.items
