use Rattle.std.proofs.Common.{◌≡◌, ◌≤◌, ◌+◌, ◌∙◌, sym, ap, subst, drop, length, map, arith}
use Rattle.std.proofs.lemmas.Bool.Decides.{nat_tests}
use Rattle.fip_trees.specs.TreeView.{program, instances}
use Rattle.derivation_trees.specs.Trees.{entry, entries}
use Rattle.derivation_check.specs.Accepted.{AreDerived}
use Rattle.derivation_check.proofs.Lines.{instances_here, instances_more, instances_over}
use Rattle.derivation_check.proofs.accept.check.Goals as goal

pub returns-in-None-clause-complete : goal.returns-in-None-clause-complete
returns-in-None-clause-complete c h = absurd (c.in-None.ensures.other (instances (drop (c.loop-instance.instance-index + 1) c.deref-instance-items.result.now)) (instances_here (program c.args.typed.now.program) c.loop-instance.number c.loop-instance.instance-index c.deref-instance-items.result.now c.instance-item.result (drop c.loop-instance.place (map entry c.lines-lines.result.now)) c.loop-instance-test.true c.instance-item.is (c.loop-instance.invariant.down (subst (λ xs. AreDerived (program c.args.typed.now.program) 0 (instances xs) (map entry c.lines-lines.result.now)) (sym c.deref-instance-items.ensures.value) (subst (λ ls. AreDerived (program c.args.typed.now.program) 0 (instances c.args.typed.now.program.instances.items) (map entry ls)) (sym c.lines-lines.ensures.lines) h)))))

pub returns-clause-complete : goal.returns-clause-complete
returns-clause-complete c h =
    let g = subst (λ xs. AreDerived (program c.args.typed.now.program) 0 (instances xs) (map entry c.lines-lines.result.now)) (sym c.deref-instance-items.ensures.value) (subst (λ ls. AreDerived (program c.args.typed.now.program) 0 (instances c.args.typed.now.program.instances.items) (map entry ls)) (sym c.lines-lines.ensures.lines) h) in
    let e = instances_over (program c.args.typed.now.program) c.loop-instance.number c.loop-instance.instance-index c.loop-instance.place c.deref-instance-items.result.now c.lines-lines.result.now c.loop-instance-test.false c.loop-instance.invariant.inside (c.loop-instance.invariant.down g) in grind (arith, nat_tests)
