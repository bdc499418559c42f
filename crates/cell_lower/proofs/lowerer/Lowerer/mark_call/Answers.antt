use Rattle.std.proofs.Common.{ap, sym, ◌∙◌, slice_get}
use Rattle.fip_trees.specs.TreeView.{arguments}
use Rattle.lower_parts.proofs.lower_frame.Frames.{item}
use Rattle.lower_parts.proofs.Marking.{passed_none, passed_some}
use Rattle.lower_parts.proofs.Overlaying.{missing}
use Rattle.cell_lower.proofs.lowerer.Lowerer.mark_call.Goals as goal

pub returns-in-None : goal.returns-in-None
returns-in-None c = record {
  marked = passed_none c.args.self.now.frame.names c.args.self.now.context.now.program.now.instances.items c.args.callee (arguments c.args.arguments.now) c.args.marks.now.items
      (ap (λ z. slice_get z c.args.callee) (sym c.deref.ensures.value) ∙ missing c.deref.result.now c.args.callee c.in-None.ensures.lookup.3);
}

pub returns-in-Some : goal.returns-in-Some
returns-in-Some c = record {
  marked = passed_some c.args.self.now.frame.names c.args.self.now.context.now.program.now.instances.items c.args.callee c.in-Some.instance.now (arguments c.args.arguments.now) c.args.marks.now.items c.mark_passed.new.marks.items
      (ap (λ z. slice_get z c.args.callee) (sym c.deref.ensures.value) ∙ item c.deref.result.now c.args.callee c.in-Some.instance.now c.in-Some.ensures.lookup.3.0 c.in-Some.ensures.lookup.1) c.mark_passed.ensures.marked;
}
