use Rattle.std.proofs.Common.{rules, ◌≡◌, ◌<◌, ◌≤◌, ◌+◌, ◌-◌, arith, sym, ap, ◌∙◌, map, length, true, Some, subst, ℕ}
use Rattle.fip_trees.specs.TreeView.{binding}
use Rattle.derivation_check.specs.Scopes.{known, named, AreNumbered}
use Rattle.derivation_check.specs.ScopeView.{start, known_as}
use Rattle.derivation_check.proofs.Frames.{starts_at, first_some, first_none}
use Rattle.derivation_check.proofs.scope.in_binding.Goals as goal

pub overflow_sub-result : goal.overflow_sub-result
overflow_sub-result c =
    let g = starts_at c.args.core c.args.next c.args.bindings.now c.args.place c.binders_of-own.result.now c.requires.numbered c.requires.order c.requires.inside c.binders_of-own.ensures.binders in
    let e = g.is_first c.first_of.result c.first_of.ensures.first in
    let h = (first_some g.first (start c.args.next (map binding c.args.bindings.now) c.args.place) true c.binders_of-own.result.now c.args.binder c.in-Some.found.now g.numbered c.in-Some.ensures.some.0).0 in omega arith

pub overflow_add-result : goal.overflow_add-result
overflow_add-result c =
    let g = starts_at c.args.core c.args.next c.args.bindings.now c.args.place c.binders_of-own.result.now c.requires.numbered c.requires.order c.requires.inside c.binders_of-own.ensures.binders in
    let e = g.is_first c.first_of.result c.first_of.ensures.first in
    let s = c.start_of.ensures.start in
    let k = (first_some g.first (start c.args.next (map binding c.args.bindings.now) c.args.place) true c.binders_of-own.result.now c.args.binder c.in-Some.found.now g.numbered c.in-Some.ensures.some.0).1 in
    let h : c.start_of.result + (c.args.binder - c.first_of.result) < 4294967296 = omega arith in search rules

pub returns-in-None-clause-none : goal.returns-in-None-clause-none
returns-in-None-clause-none c b e = first_none (start c.args.next (map binding c.args.bindings.now) c.args.place) true b.binders c.args.binder (ap (λ bs. Rattle.derivation_check.specs.ScopeView.first bs c.args.binder) (c.binders_of-own.ensures.binders b e) ∙ c.in-None.ensures.none)

pub returns-in-Some-clause-some : goal.returns-in-Some-clause-some
returns-in-Some-clause-some c b f =
    let g = starts_at c.args.core c.args.next c.args.bindings.now c.args.place c.binders_of-own.result.now c.requires.numbered c.requires.order c.requires.inside c.binders_of-own.ensures.binders in
    let e = g.is_first c.first_of.result c.first_of.ensures.first in
    let s = c.start_of.ensures.start in
    let d = start c.args.next (map binding c.args.bindings.now) c.args.place in
    let k = (first_some g.first d true c.binders_of-own.result.now c.args.binder c.in-Some.found.now g.numbered c.in-Some.ensures.some.0).2 in
    let n : d + (c.args.binder - g.first) ≡ c.start_of.result + (c.args.binder - c.first_of.result) = omega arith in
    ap (λ bs. known (named d true bs) c.args.binder) (c.binders_of-own.ensures.binders b f) ∙ k ∙ ap (λ (m : ℕ). Some record { binder = c.args.binder; number = m; ty = c.in-Some.found.now.ty; owned = true }) n
