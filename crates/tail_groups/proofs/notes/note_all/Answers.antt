use Rattle.std.proofs.Common.{None, sym, ap, ◌∙◌, ◌+◌, drop}
use Rattle.fip_trees.specs.Least.{after}
use Rattle.fip_trees.specs.TreeView.{instances, instance_of}
use Rattle.tail_groups.specs.Notes.{all_notes}
use Rattle.tail_groups.proofs.Steps.{drop_item, next_noted}
use Rattle.tail_groups.proofs.notes.note_all.Goals as goal

pub loop-instance-preserved : goal.loop-instance-preserved
loop-instance-preserved c =
    let p = c.args.groups.now in
    let items = c.args.instances.now in
    let item = c.instance-item.result in
    let later = instances (drop (c.loop-instance.instance-index + 1) items) in
    let d = drop_item items c.loop-instance.instance-index item c.loop-instance-test.true c.instance-item.is in
    record {
      number = ap (λ k. k + 1) c.loop-instance.invariant.number;
      least = next_noted p c.loop-instance.number c.loop-instance.least c.note_instance.new.least (after None (all_notes p 0 (instances items))) (instance_of item) later c.in_ok-note_instance.ensures
          (sym (ap (λ xs. after c.loop-instance.least (all_notes p c.loop-instance.number (instances xs))) d) ∙ c.loop-instance.invariant.least);
    }
