use Rattle.std.proofs.Common.{rules, ◌<◌, ◌≤◌, ◌+◌, ◌-◌, arith}
use Rattle.fip_trees.specs.TreeView.{pattern}
use Rattle.fip_rules.specs.Shapes.{binders}
use Rattle.derivation_check.proofs.Frames.{first_some}
use Rattle.derivation_check.proofs.scope.in_clause.Goals as goal

pub overflow_sub-result : goal.overflow_sub-result
overflow_sub-result c = (first_some c.args.core c.args.next c.args.is_taken (binders (pattern c.args.pattern.now)) c.args.binder c.in-Some.found.now c.requires.numbered c.in-Some.ensures.some).0

pub overflow_add-result : goal.overflow_add-result
overflow_add-result c = let h : c.args.next + (c.args.binder - c.args.core) < 4294967296 = (first_some c.args.core c.args.next c.args.is_taken (binders (pattern c.args.pattern.now)) c.args.binder c.in-Some.found.now c.requires.numbered c.in-Some.ensures.some).1 in search rules
