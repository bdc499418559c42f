use Rattle.std.proofs.Common.{None, sym, ap, ◌∙◌, ◌++◌, ◌+◌, drop, map}
use Rattle.fip_trees.specs.Least.{after}
use Rattle.fip_trees.specs.NeedsView.{needs_row}
use Rattle.fip_trees.specs.TreeView.{program, instances, instance_of}
use Rattle.credit_check.specs.Tallies.{all_needs, all_notes}
use Rattle.credit_check.proofs.Steps.{drop_item, next_needs, next_noted}
use Rattle.credit_check.proofs.check.check_all.Goals as goal

pub loop-instance-preserved : goal.loop-instance-preserved
loop-instance-preserved c =
    let p = program c.args.program.now in
    let items = c.deref-instance-items.result.now in
    let item = c.instance-item.result in
    let later = instances (drop (c.loop-instance.instance-index + 1) items) in
    let d = drop_item items c.loop-instance.instance-index item c.loop-instance-test.true c.instance-item.is in
    record {
      number = ap (λ k. k + 1) c.loop-instance.invariant.number;
      needs = next_needs p c.loop-instance.needs.items c.push.new.self.items c.in_ok-held.held (instance_of item) later (all_needs p (instances items)) c.in_ok-push.ensures.items c.in_ok-held.ensures.kept
          (sym (ap (λ xs. map needs_row c.loop-instance.needs.items ++ all_needs p (instances xs)) d) ∙ c.loop-instance.invariant.needs);
      noted = next_noted p c.loop-instance.number c.loop-instance.least c.check_instance.new.least (after None (all_notes p 0 (instances items))) (instance_of item) later c.in_ok-held.ensures.noted
          (sym (ap (λ xs. after c.loop-instance.least (all_notes p c.loop-instance.number (instances xs))) d) ∙ c.loop-instance.invariant.noted);
    }
