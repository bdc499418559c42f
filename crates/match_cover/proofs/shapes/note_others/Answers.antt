use Rattle.std.proofs.Common.{rules, map}
use Rattle.fip_trees.specs.Least.{after}
use Rattle.match_cover.specs.PatternView.{pattern_of}
use Rattle.match_cover.specs.Shapes.{patterns_faults}
use Rattle.match_cover.proofs.ShapeSteps.{patterns_next}
use Rattle.match_cover.proofs.shapes.note_others.Goals as goal

pub loop-clause-preserved : goal.loop-clause-preserved
loop-clause-preserved c = patterns_next c.args.instance c.args.clauses.now c.loop-clause.clause-index c.clause-item.result c.loop-clause.out c.note_pattern.new.out (after c.args.out.now (patterns_faults c.args.instance (map pattern_of c.args.clauses.now))) (search rules) c.clause-item.is c.in_ok-note_pattern.ensures c.loop-clause.invariant
