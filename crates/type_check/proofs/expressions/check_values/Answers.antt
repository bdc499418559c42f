use Rattle.std.proofs.Common.{rules, ◌∙◌, sym}
use Rattle.type_check.specs.Wanted.{expects, types_of}
use Rattle.type_check.proofs.Halves.{arguments_step, arguments_noted, arguments_found, arguments_done}
use Rattle.type_check.proofs.expressions.check_values.Goals as goal

pub loop-argument-preserved : goal.loop-argument-preserved
loop-argument-preserved c = record {
  index = search rules;
  tree = arguments_step c.args.walk.now.tables.now (expects c.args.wants) (types_of c.args.wants) c.loop-argument.arguments c.loop-argument.argument-index c.loop-argument.index c.check_argument.new.argument c.argument-item.result c.at.result (search rules) c.loop-argument.invariant.index c.at.ensures c.in_ok-check_argument.ensures.tree ∙ c.loop-argument.invariant.tree;
  found = arguments_found c.args.walk.now.tables.now c.args.scope.now (expects c.args.wants) (types_of c.args.wants) c.loop-argument.arguments c.loop-argument.argument-index c.loop-argument.index c.check_argument.new.argument c.argument-item.result c.at.result c.loop-argument.types.items c.push.new.self.items c.in_ok-check_argument.field-0 (search rules) c.loop-argument.invariant.index c.at.ensures c.in_ok-check_argument.ensures.found (search rules) ∙ c.loop-argument.invariant.found;
  faults = arguments_noted c.args.walk.now.tables.now c.args.walk.now.instance c.args.scope.now (expects c.args.wants) (types_of c.args.wants) c.loop-argument.arguments c.loop-argument.argument-index c.loop-argument.index c.check_argument.new.argument c.argument-item.result c.at.result c.loop-argument.least c.check_argument.new.least (search rules) c.loop-argument.invariant.index c.at.ensures c.in_ok-check_argument.ensures.faults ∙ c.loop-argument.invariant.faults;
}

pub returns-clause-tree : goal.returns-clause-tree
returns-clause-tree c = sym (arguments_done c.args.walk.now.tables.now (expects c.args.wants) (types_of c.args.wants) c.loop-argument.arguments c.loop-argument.argument-index (search rules)) ∙ c.loop-argument.invariant.tree
