use Rattle.std.proofs.Common.{rules, ◌∙◌, sym}
use Rattle.type_check.specs.Wanted.{expects, types_of}
use Rattle.type_check.proofs.Halves.{arguments_step, arguments_noted, arguments_done}
use Rattle.type_check.proofs.arguments.+argument.Goals as goal

pub check_arguments-loop-argument-preserved : goal.check_arguments-loop-argument-preserved
check_arguments-loop-argument-preserved t c = record {
  unvisited = search rules;
  index = search rules;
  tree = arguments_step c.args.walk.now.tables.now (expects c.args.wants) (types_of c.args.wants) c.loop-argument.arguments c.loop-argument.argument-index c.loop-argument.index c.check_argument.new.argument c.argument-item.result c.at.result (search rules) c.loop-argument.invariant.index c.at.ensures c.in_ok-check_argument.ensures.tree ∙ c.loop-argument.invariant.tree;
  faults = arguments_noted c.args.walk.now.tables.now c.args.walk.now.instance c.args.scope.now (expects c.args.wants) (types_of c.args.wants) c.loop-argument.arguments c.loop-argument.argument-index c.loop-argument.index c.check_argument.new.argument c.argument-item.result c.at.result c.loop-argument.least c.check_argument.new.least (search rules) c.loop-argument.invariant.index c.at.ensures c.in_ok-check_argument.ensures.faults ∙ c.loop-argument.invariant.faults;
}

pub check_arguments-returns-clause-tree : goal.check_arguments-returns-clause-tree
check_arguments-returns-clause-tree t c = sym (arguments_done c.args.walk.now.tables.now (expects c.args.wants) (types_of c.args.wants) c.loop-argument.arguments c.loop-argument.argument-index (search rules)) ∙ c.loop-argument.invariant.tree
