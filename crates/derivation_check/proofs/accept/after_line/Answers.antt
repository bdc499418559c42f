use Rattle.std.proofs.Common.{◌≡◌, ◌∙◌, sym}
use Rattle.fip_trees.specs.TreeView.{program, instance_of}
use Rattle.derivation_check.proofs.Lines.{line_ruled}
use Rattle.derivation_check.proofs.accept.after_line.Goals as goal

pub returns-then-not-is_derived-clause-other : goal.returns-then-not-is_derived-clause-other
returns-then-not-is_derived-clause-other c ds h =
    let r = line_ruled (program c.args.program.now) c.args.number c.args.place (instance_of c.args.instance.now) ds c.args.lines.now c.in-Some.line.now (sym c.is_ruled.ensures.ruled ∙ c.if-not-is_ruled.false) c.in-Some.ensures.some h in
    let g = c.is_derived.ensures.complete r.0 r.1 in
    let u = c.if-not-is_derived.true in cc

pub returns-else-not-is_derived-clause-down : goal.returns-else-not-is_derived-clause-down
returns-else-not-is_derived-clause-down c ds h = (line_ruled (program c.args.program.now) c.args.number c.args.place (instance_of c.args.instance.now) ds c.args.lines.now c.in-Some.line.now (sym c.is_ruled.ensures.ruled ∙ c.if-not-is_ruled.false) c.in-Some.ensures.some h).2
