use Rattle.std.proofs.Common.{rules, ◌∙◌, sym}
use Rattle.type_check.specs.Wanted.{types_of}
use Rattle.type_check.proofs.Halves.{patterns_step, patterns_noted, patterns_entered, patterns_done}
use Rattle.type_check.proofs.patterns.+pattern.Goals as goal

pub check_patterns-loop-pattern-preserved : goal.check_patterns-loop-pattern-preserved
check_patterns-loop-pattern-preserved t c = record {
  unvisited = search rules;
  index = search rules;
  tree = patterns_step c.args.walk.now.tables.now (types_of c.args.wants) c.loop-pattern.patterns c.loop-pattern.pattern-index c.loop-pattern.index c.check_pattern.new.pattern c.pattern-item.result c.type_at-ty.result (search rules) c.loop-pattern.invariant.index c.type_at-ty.ensures c.in_ok-check_pattern.ensures.tree ∙ c.loop-pattern.invariant.tree;
  scope = patterns_entered c.args.walk.now.tables.now (types_of c.args.wants) c.loop-pattern.patterns c.loop-pattern.pattern-index c.loop-pattern.index c.check_pattern.new.pattern c.pattern-item.result c.type_at-ty.result c.loop-pattern.scope c.check_pattern.new.scope (search rules) c.loop-pattern.invariant.index c.type_at-ty.ensures c.in_ok-check_pattern.ensures.scope ∙ c.loop-pattern.invariant.scope;
  faults = patterns_noted c.args.walk.now.tables.now c.args.walk.now.instance (types_of c.args.wants) c.loop-pattern.patterns c.loop-pattern.pattern-index c.loop-pattern.index c.check_pattern.new.pattern c.pattern-item.result c.type_at-ty.result c.loop-pattern.least c.check_pattern.new.least (search rules) c.loop-pattern.invariant.index c.type_at-ty.ensures c.in_ok-check_pattern.ensures.faults ∙ c.loop-pattern.invariant.faults;
}

pub check_patterns-returns-clause-tree : goal.check_patterns-returns-clause-tree
check_patterns-returns-clause-tree t c = sym (patterns_done c.args.walk.now.tables.now (types_of c.args.wants) c.loop-pattern.patterns c.loop-pattern.pattern-index (search rules)) ∙ c.loop-pattern.invariant.tree
