use Rattle.std.proofs.Common.{◌≡◌, drop, map}
use Rattle.fip_trees.specs.Least.{after}
use Rattle.match_cover.specs.PatternView.{pattern_of}
use Rattle.match_cover.specs.Shapes.{patterns_faults}
use Rattle.match_cover.proofs.shapes.note_others.Given as goal

abbrev pub invariant-loop-clause : goal.invariant-loop-clause
invariant-loop-clause l = after l.out (patterns_faults l.instance (map pattern_of (drop l.clause-index l.clauses))) ≡ after l.initial.out (patterns_faults l.instance (map pattern_of l.clauses))
