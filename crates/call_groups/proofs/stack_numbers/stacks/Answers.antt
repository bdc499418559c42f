use Rattle.std.proofs.Common.{ap, length, ◌∙◌}
use Rattle.std.proofs.lemmas.Result.{IfOk-weaker}
use Rattle.call_groups.specs.CallGraph.{rows}
use Rattle.call_groups.specs.Raises.{entries}
use Rattle.call_groups.proofs.stack_numbers.stacks.Goals as goal
use Rattle.call_groups.proofs.Solutions.{stacks_least, entries_length}

pub returns-clause-stacks : goal.returns-clause-stacks
returns-clause-stacks c =
    IfOk-weaker c.stacks_of_functions.result _ _
    (λ ss h. stacks_least (rows c.args.calls.now) c.args.groups.now c.args.frames.now ss.items
    (h ∙ ap (λ found. entries c.args.groups.now found 0 c.args.frames.now) (c.deref.ensures.value ∙ c.in_ok-of_groups.ensures)))
    c.stacks_of_functions.ensures

pub returns-clause-size : goal.returns-clause-size
returns-clause-size c =
    IfOk-weaker c.stacks_of_functions.result _ _
    (λ ss h. ap length h ∙ entries_length c.args.groups.now c.deref.result.now 0 c.args.frames.now)
    c.stacks_of_functions.ensures
