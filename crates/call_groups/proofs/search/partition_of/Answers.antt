use Rattle.std.proofs.Common.{◌≡◌, length, arith}
use Rattle.std.proofs.lemmas.List.{length-map}
use Rattle.call_groups.specs.CallGraph.{rows, row}
use Rattle.call_groups.proofs.search.partition_of.Goals as goal
use Rattle.call_groups.proofs.Steps.{step_end}

pub returns : goal.returns
returns c =
    record {
      groups =
          step_end (rows c.args.calls.now) c.loop-function.search c.loop-function.invariant.idle
          (λ f l. c.loop-function.invariant.met f (let e : length (rows c.args.calls.now) ≡ length c.args.calls.now = length-map c.args.calls.now row in omega arith));
    }
