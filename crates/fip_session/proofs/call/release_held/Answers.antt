use Rattle.std.proofs.Common.{sym, map, arith}
use Rattle.fip_session.proofs.GivingUp.{few_of, up_tree}
use Rattle.fip_machine.specs.machine_cells.Small.{store_of}
use Rattle.fip_language.specs.Store.{uses}
use Rattle.fip_session.proofs.call.release_held.Goals as goal

pub returns-clause-gone : goal.returns-clause-gone
returns-clause-gone c = λ small st x stands word apart.
    let old = c.args.cells.now in
    let few = few_of (store_of old.cells old.released) x apart in
    let each = c.in_ok-trees.ensures.trees (omega (arith, small)) x stands word (omega (arith, few, small)) in
    up_tree old.cells c.release.new.cells.cells old.released c.release.new.cells.released (map (λ t. t.place) c.in_ok-trees.trees.list.items) (λ q. uses q x) st c.release.ensures.cells c.release.ensures.released (λ q. sym (each q))
