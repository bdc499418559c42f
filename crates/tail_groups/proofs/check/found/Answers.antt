use Rattle.std.proofs.Common.{ap, sym, subst, ◌∙◌}
use Rattle.call_groups.specs.CallGraph.{rows, IsPartition}
use Rattle.fip_trees.specs.TreeView as V
use Rattle.tail_groups.proofs.Founds.{found_by}
use Rattle.tail_groups.proofs.check.found.Goals as goal

pub returns-clause-noted : goal.returns-clause-noted
returns-clause-noted c =
    record {
      groups = c.in_ok-partition.partition;
      right = subst (λ rs. IsPartition rs c.in_ok-partition.partition) (ap rows c.deref.ensures.value ∙ c.in_ok-calls.ensures) c.in_ok-partition.ensures.groups;
      noted = c.in_ok-least.ensures.noted;
    }

pub returns-clause-found : goal.returns-clause-found
returns-clause-found c =
    found_by (V.instances c.args.instances.now) c.in_ok-partition.partition
    (rows c.deref.result.now) (rows c.deref-3.result.now) c.deref-2.result.now c.deref-5.result.now
    c.deref-4.result.now c.in_ok-stacks.stacks.items c.deref-6.result.now c.new.result
    c.in_ok-partition.ensures.groups
    (ap rows c.deref.ensures.value ∙ c.in_ok-calls.ensures)
    (ap rows c.deref-3.ensures.value ∙ c.in_ok-calls.ensures)
    (c.deref-2.ensures.value ∙ c.in_ok-counts.ensures)
    (c.deref-4.ensures.value ∙ c.in_ok-frames.ensures)
    c.in_ok-stacks.ensures.stacks
    c.in_ok-stacks.ensures.size
    (c.deref-5.ensures.value ∙ sym c.deref-2.ensures.value)
    c.deref-6.ensures.value
    (c.new.ensures.same ∙ c.in_ok-members.ensures)
