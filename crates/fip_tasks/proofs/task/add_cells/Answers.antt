-- All trees of the value were added, since they are no more than may be kept.
use Rattle.std.proofs.Common.{◌≡◌, ◌∙◌, true, ap, subst, arith, length, List}
use Rattle.store_trees.specs.declared.trees.Tree.{Tree}
use Rattle.store_trees.specs.Added.{places_of, Adds}
use Rattle.fip_tasks.specs.Gauged.{sized}
use Rattle.fip_tasks.proofs.Held.{added_cells, is_whole}
use Rattle.fip_tasks.proofs.task.add_cells.Goals as goal

pub returns : goal.returns
returns c = record {
  added = λ few x stands word short k low high small.
      let cs = c.args.cells.now.cells in
      let whole : c.in_ok-add.field-0 ≡ true = is_whole c.in_ok-add.field-0 (λ cut. let past = c.in_ok-add.ensures.many few x stands word cut in let none = ap (λ (ts : List Tree). length ts) c.none-trees.ensures.empty in omega (arith, past, none, short)) in
      let adds = subst (λ (ts : List Tree). Adds ts c.add.new.self.list.items x) c.none-trees.ensures.empty (c.in_ok-add.ensures.all few x stands word whole) in
      let are = added_cells c.args.table.now cs c.args.ty k x c.add.new.self.list.items low stands adds in
      let roots = ap (λ (ts : List Tree). sized k cs (places_of ts)) c.as_slice.ensures.same ∙ are in
      let one = c.add_roots.ensures.added k low high (omega (arith, roots, small)) in
      omega (arith, one, roots);
}
