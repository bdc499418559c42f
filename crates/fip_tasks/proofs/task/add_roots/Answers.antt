use Rattle.std.proofs.Common.{ap, arith}
use Rattle.std.proofs.lemmas.List.{drop_all}
use Rattle.store_trees.specs.Added.{places_of}
use Rattle.fip_tasks.specs.Gauged.{sized}
use Rattle.fip_tasks.proofs.task.add_roots.Goals as goal

pub returns : goal.returns
returns c = record {
  added = λ k low high few.
      let h = c.loop-i.invariant.added k low high few in
      let past = c.loop-i-test.false in
      let none = ap (λ ts. sized k c.args.cells.now.cells (places_of ts)) (drop_all c.loop-i.i c.args.trees.now (omega (arith, past))) in
      omega (arith, h, none);
}
