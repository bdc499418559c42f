use Rattle.std.proofs.Common.{rules, ◌≤◌, map, ◌+◌, arith, sym, subst}
use Rattle.cell_lower.specs.Lowered.{function_instrs}
use Rattle.cell_lower.specs.Shape.{header, headers}
use Rattle.lower_parts.specs.Writing.{setting}
use Rattle.fip_language.specs.declared.limits.TheConstants.{MOST_REGISTERS}
use Rattle.fip_trees.specs.TreeView.{instance_of, instances}
use Rattle.cell_lower.specs.Limits.{registers}
use Rattle.lower_parts.proofs.Calling.{instance_there}
use Rattle.lower_parts.proofs.Folding.{item}
use Rattle.cell_lower.proofs.Programs.{codes_next, headers_next}
use Rattle.cell_lower.specs.LaidProgram.{laid_at}
use Rattle.cell_lower.specs.Small.{small_at}
use Rattle.cell_lower.proofs.Instances.{each_next, each_end}
use Rattle.cell_lower.proofs.functions.functions_of.Goals as goal

pub loop-instance-preserved : goal.loop-instance-preserved
loop-instance-preserved c = record {
  number = search rules;
  rest = headers_next c.args.groups.now c.args.instances.now c.loop-instance.instance-index (c.loop-instance.instance-index + 1) c.loop-instance.number (c.loop-instance.number + 1) c.instance-item.result (map header c.loop-instance.functions.items) (map header c.add_function.new.functions.items) (headers c.args.groups.now (instances c.args.instances.now)) (omega arith) (omega arith) (item c.args.instances.now c.loop-instance.instance-index c.instance-item.result c.loop-instance-test.true c.instance-item.is) c.in_ok-add_function.ensures.added
      c.loop-instance.invariant.rest;
  laid = each_next (laid_at (setting c.args.context.now) c.args.needs.now) c.args.instances.now c.loop-instance.instance-index (c.loop-instance.instance-index + 1) c.loop-instance.number (c.loop-instance.number + 1) c.instance-item.result c.loop-instance.functions.items c.add_function.new.functions.items (omega arith) (omega arith) (item c.args.instances.now c.loop-instance.instance-index c.instance-item.result c.loop-instance-test.true c.instance-item.is) c.loop-instance.invariant.laid c.in_ok-add_function.ensures.laid;
  small = each_next (small_at (setting c.args.context.now) c.args.groups.now) c.args.instances.now c.loop-instance.instance-index (c.loop-instance.instance-index + 1) c.loop-instance.number (c.loop-instance.number + 1) c.instance-item.result c.loop-instance.functions.items c.add_function.new.functions.items (omega arith) (omega arith) (item c.args.instances.now c.loop-instance.instance-index c.instance-item.result c.loop-instance-test.true c.instance-item.is) c.loop-instance.invariant.small c.in_ok-add_function.ensures.small;
  codes = codes_next (setting c.args.context.now) c.args.instances.now c.loop-instance.instance-index (c.loop-instance.instance-index + 1) c.instance-item.result (map function_instrs c.loop-instance.functions.items) (map function_instrs c.add_function.new.functions.items) (omega arith) (item c.args.instances.now c.loop-instance.instance-index c.instance-item.result c.loop-instance-test.true c.instance-item.is) c.loop-instance.invariant.codes c.in_ok-add_function.ensures.code;
  spelt = c.in_ok-add_function.ensures.spelt c.loop-instance.invariant.spelt;
}

pub returns-clause-small : goal.returns-clause-small
returns-clause-small c = each_end (small_at (setting c.args.context.now) c.args.groups.now) c.args.instances.now c.loop-instance.instance-index c.loop-instance.number c.loop-instance.functions.items c.loop-instance-test.false c.loop-instance.invariant.small

pub returns-clause-laid : goal.returns-clause-laid
returns-clause-laid c = each_end (laid_at (setting c.args.context.now) c.args.needs.now) c.args.instances.now c.loop-instance.instance-index c.loop-instance.number c.loop-instance.functions.items c.loop-instance-test.false c.loop-instance.invariant.laid

pub add_function-requires : goal.add_function-requires
add_function-requires c =
    let at = c.loop-instance.instance-index in
    let there = instance_there c.args.instances.now at c.instance-item.result (item c.args.instances.now at c.instance-item.result c.loop-instance-test.true c.instance-item.is) in
    record { few = λ ruled. subst (λ n. registers c.args.groups.now n ≤ MOST_REGISTERS) (sym c.loop-instance.invariant.number) (c.requires.few at (instance_of c.instance-item.result) there ruled) }
