use Rattle.std.proofs.Common.{refl, ap, sym}
use Rattle.fip_trees.specs.TreeView.{program, instances}
use Rattle.plain_eval.proofs.Steps.{entry_leads}
use Rattle.plain_eval.proofs.evaluate.eval.Goals as goal

pub returns : goal.returns
returns c = record {
  means = λ vs a rows m n.
      let p = program c.args.typed.now.program in
      c.ended.ensures.ends p a c.in_ok-last.ensures.last (c.in_ok-last.ensures.leads p a (ap instances (sym c.as_slice.ensures.value)) n (entry_leads p _ c.args.f vs a c.new-2.ensures.items refl rows m));
}
