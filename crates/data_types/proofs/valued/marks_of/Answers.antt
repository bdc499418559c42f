use Rattle.std.proofs.Common.{length, sym}
use Rattle.data_types.specs.View as v
use Rattle.data_types.proofs.Looks.{map_length}
use Rattle.data_types.proofs.Rooting.{answers}
use Rattle.data_types.proofs.Stepping.{goes_then}
use Rattle.data_types.proofs.valued.marks_of.Goals as goal

pub returns : goal.returns
returns c =
    answers (v.declarations c.args.declared.now) c.list_roots.new.claims c.run.new.claims c.in_ok-found.found.items (length c.args.declared.now) (sym (map_length v.declared c.args.declared.now)) c.in_ok-list_roots.ensures (goes_then (v.declarations c.args.declared.now) c.list_roots.new.claims c.settle_in_order.new.claims c.run.new.claims c.in_ok-settle_in_order.ensures c.in_ok-run.ensures.goes) c.in_ok-run.ensures.done c.in_ok-found.ensures.all c.in_ok-found.ensures.marks
