use Rattle.std.proofs.Common.{◌≡◌, ◌<◌, ◌≤◌, ◌-◌, ◌∙◌, arith, map, length, take}
use Rattle.fip_trees.specs.TreeView.{binding}
use Rattle.derivation_check.specs.ScopeView.{known_as}
use Rattle.derivation_check.proofs.Frames.{search_found, search_step, search_end}
use Rattle.derivation_check.proofs.scope.in_bindings.Goals as goal

pub returns-then-count-eq0-clause-none : goal.returns-then-count-eq0-clause-none
returns-then-count-eq0-clause-none c s = let z = c.if-count-eq0.true in search_end c.args.next (map binding c.args.bindings.now) c.args.binder c.begun-count.result c.begun-count.ensures.following (omega arith) s

pub returns-in-Some-clause-some : goal.returns-in-Some-clause-some
returns-in-Some-clause-some c s = let z = c.if-count-eq0.false in search_found c.args.next c.args.bindings.now c.args.binder c.begun-count.result (known_as c.args.binder c.in-Some.found) c.begun-count.ensures.following (omega arith) c.begun-count.ensures.within c.in-Some.ensures.some s

pub returns-in-None-clause-none : goal.returns-in-None-clause-none
returns-in-None-clause-none c s = let z = c.if-count-eq0.false in search_step c.args.next c.args.bindings.now c.args.binder c.begun-count.result c.begun-count.ensures.following (omega arith) c.begun-count.ensures.within c.in-None.ensures.none s ∙ c.begun-count.ensures.before (omega arith) s
