use Rattle.std.proofs.Common.{rules, ◌≡◌, ◌<◌, ◌≤◌, ◌+◌, ◌-◌, suc, arith, sym, ap, ◌∙◌, map, length}
use Rattle.fip_trees.specs.TreeView.{binding}
use Rattle.derivation_check.specs.ScopeView.{start}
use Rattle.derivation_check.proofs.Frames.{starts_at, start_zero}
use Rattle.derivation_check.proofs.scope.start_of.Goals as goal

pub returns-then-place-eq0 : goal.returns-then-place-eq0
returns-then-place-eq0 c = record { start = sym (ap (start c.args.next (map binding c.args.bindings.now)) c.if-place-eq0.true ∙ start_zero c.args.next (map binding c.args.bindings.now)) }

pub first_of-requires : goal.first_of-requires
first_of-requires c = (starts_at c.args.core c.args.next c.args.bindings.now (c.args.place - 1) c.binders_of-before.result.now c.requires.numbered c.requires.order (let l = c.requires.inside in omega arith) c.binders_of-before.ensures.binders).some

pub overflow_add-result : goal.overflow_add-result
overflow_add-result c =
    let g = starts_at c.args.core c.args.next c.args.bindings.now (c.args.place - 1) c.binders_of-before.result.now c.requires.numbered c.requires.order (let l = c.requires.inside in omega arith) c.binders_of-before.ensures.binders in
    let e = g.is_first c.first_of.result c.first_of.ensures.first in
    let r = g.room in
    let h : c.first_of.result + length c.binders_of-before.result.now < 4294967297 = omega arith in search rules

pub overflow_sub-result : goal.overflow_sub-result
overflow_sub-result c =
    let g = starts_at c.args.core c.args.next c.args.bindings.now (c.args.place - 1) c.binders_of-before.result.now c.requires.numbered c.requires.order (let l = c.requires.inside in omega arith) c.binders_of-before.ensures.binders in
    let e = g.is_first c.first_of.result c.first_of.ensures.first in
    let r = g.least in omega arith

pub overflow_add-result-2 : goal.overflow_add-result-2
overflow_add-result-2 c =
    let g = starts_at c.args.core c.args.next c.args.bindings.now (c.args.place - 1) c.binders_of-before.result.now c.requires.numbered c.requires.order (let l = c.requires.inside in omega arith) c.binders_of-before.ensures.binders in
    let e = g.is_first c.first_of.result c.first_of.ensures.first in
    let r = g.bound in let n = g.next in
    let h : c.args.next + (c.first_of.result + length c.binders_of-before.result.now - c.args.core) < 4294967297 = omega arith in search rules

pub returns : goal.returns
returns c =
    let g = starts_at c.args.core c.args.next c.args.bindings.now (c.args.place - 1) c.binders_of-before.result.now c.requires.numbered c.requires.order (let l = c.requires.inside in omega arith) c.binders_of-before.ensures.binders in
    let e = g.is_first c.first_of.result c.first_of.ensures.first in
    let n = g.next in
    let z = c.if-place-eq0.false in
    let p : suc (c.args.place - 1) ≡ c.args.place = omega arith in
    let q = ap (start c.args.next (map binding c.args.bindings.now)) p in
    record { start = omega arith }
