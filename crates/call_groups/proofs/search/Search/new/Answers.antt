use Rattle.std.proofs.Common.{length, sym}
use Rattle.std.proofs.lemmas.List.{length-map}
use Rattle.call_groups.specs.CallGraph.{rows, row}
use Rattle.call_groups.proofs.search.Search.new.Goals as goal
use Rattle.call_groups.proofs.Steps.{step_start}

pub returns : goal.returns
returns c =
    step_start (rows c.args.calls.now) _ (length c.args.calls.now) (sym (length-map c.args.calls.now row))
    c.in_ok-all_new.ensures c.new.ensures.items c.new-2.ensures.items c.new-3.ensures.items c.new-4.ensures.items
