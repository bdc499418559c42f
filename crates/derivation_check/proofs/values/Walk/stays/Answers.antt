use Rattle.std.proofs.Common.{◌+◌, length, ◌≡◌, subst, sym, ap, arith, []}
use Rattle.fip_trees.specs.TreeView.{pattern}
use Rattle.fip_rules.specs.Shapes.{binders}
use Rattle.ownership_calculus.specs.Terms.{Own, given}
use Rattle.derivation_check.specs.Owned.{Rising, root, owned}
use Rattle.derivation_check.specs.Places.{at}
use Rattle.derivation_check.proofs.values.Walk.stays.Goals as goal

pub are_same-requires : goal.are_same-requires
are_same-requires c = c.credits_at.ensures.rise (c.args.next + length (binders (pattern c.args.pattern.now))) c.requires.owned

pub returns-then-not-is_split-clause-complete : goal.returns-then-not-is_split-clause-complete
returns-then-not-is_split-clause-complete c r g =
    let f = c.is_split.ensures.complete c.args.next 0 (c.args.next + length (binders (pattern c.args.pattern.now))) (subst (Rising 0 c.args.next) (sym c.deref.ensures.value) r) _ (c.variables_at.ensures.rise (c.args.next + length (binders (pattern c.args.pattern.now))) c.requires.owned)
    (λ x. (let u = c.variables_at.ensures.counted x in let k = g (Own x) in let q = ap (given x) c.deref.ensures.value in omega arith)) in
    let t = c.if-not-is_split.true in cc
