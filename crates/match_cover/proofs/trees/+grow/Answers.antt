use Rattle.std.proofs.Common.{rules, arith, ◌∙◌, ◌-◌, true, false, refl, ◌+◌, ap}
use Rattle.match_knowledge.specs.View.{row, rows, known}
use Rattle.match_knowledge.specs.declared.heads.Head.TheVariants.{Tag}
use Rattle.match_cover.specs.DecisionTree.{position, asked, branches, tree_at}
use Rattle.match_cover.specs.TreeView.{tree_view}
use Rattle.match_cover.proofs.TreeGrowth.{less_arm, last_arm, count_arm, none_arm, held_arm, none_after, some_left, tree_arm}
use Rattle.match_cover.proofs.TreeSteps.{ok_head}
use Rattle.match_cover.proofs.trees.+grow.Goals as goal

pub grow-requires : goal.grow-requires
grow-requires t c =
    let less = less_arm c.args.ps.now (known c.args.k.now) (known c.in_ok-yes-in-Split.yes) true c.in-Split.i c.index-ps-i.result c.in-Split.ensures c.index-ps-i.is c.in_ok-yes-in-Split.ensures in
    search (rules, less)

pub returns-then-is_last : goal.returns-then-is_last
returns-then-is_last t c = ok_head c.grow.result (λ o g. last_arm c.args.types.now c.args.ps.now (known c.args.k.now) (known c.in_ok-yes-in-Split.yes) c.in-Split.i c.index-ps-i.result c.args.budget o c.is_last.result c.in-Split.ensures c.index-ps-i.is c.in_ok-yes-in-Split.ensures c.is_last.ensures c.if-is_last.true g) c.grow.ensures

pub returns-then-budget-eq0 : goal.returns-then-budget-eq0
returns-then-budget-eq0 t c =
    let e = count_arm c.args.types.now c.args.ps.now (known c.args.k.now) (known c.in_ok-yes-in-Split.yes) (known c.in_ok-no-in-Split.no) c.in-Split.i c.index-ps-i.result c.is_last.result c.in-Split.ensures c.index-ps-i.is c.is_last.ensures c.if-is_last.false c.in_ok-yes-in-Split.ensures c.in_ok-no-in-Split.ensures in
    let z = c.if-budget-eq0.true in
    omega (arith, e, z)

pub grow-requires-in-Split : goal.grow-requires-in-Split
grow-requires-in-Split t c =
    let less = less_arm c.args.ps.now (known c.args.k.now) (known c.in_ok-yes-in-Split.yes) true c.in-Split.i c.index-ps-i.result c.in-Split.ensures c.index-ps-i.is c.in_ok-yes-in-Split.ensures in
    search (rules, less)

pub returns-in-None : goal.returns-in-None
returns-in-None t c =
    let e = count_arm c.args.types.now c.args.ps.now (known c.args.k.now) (known c.in_ok-yes-in-Split.yes) (known c.in_ok-no-in-Split.no) c.in-Split.i c.index-ps-i.result c.is_last.result c.in-Split.ensures c.index-ps-i.is c.is_last.ensures c.if-is_last.false c.in_ok-yes-in-Split.ensures c.in_ok-no-in-Split.ensures in
    none_arm c.args.types.now (rows c.args.ps.now) (known c.args.k.now) (known c.in_ok-yes-in-Split.yes) (known c.in_ok-no-in-Split.no) c.args.budget c.in_ok-grow-in-Split.field-0 e (search rules) c.in_ok-grow-in-Split.ensures c.in-None.is

pub grow-requires-in-Some : goal.grow-requires-in-Some
grow-requires-in-Some t c =
    let less = less_arm c.args.ps.now (known c.args.k.now) (known c.in_ok-no-in-Split.no) false c.in-Split.i c.index-ps-i.result c.in-Split.ensures c.index-ps-i.is c.in_ok-no-in-Split.ensures in
    search (rules, less)

pub returns-in-None-2 : goal.returns-in-None-2
returns-in-None-2 t c =
    let e = count_arm c.args.types.now c.args.ps.now (known c.args.k.now) (known c.in_ok-yes-in-Split.yes) (known c.in_ok-no-in-Split.no) c.in-Split.i c.index-ps-i.result c.is_last.result c.in-Split.ensures c.index-ps-i.is c.is_last.ensures c.if-is_last.false c.in_ok-yes-in-Split.ensures c.in_ok-no-in-Split.ensures in
    let h = held_arm c.args.types.now (rows c.args.ps.now) (known c.in_ok-yes-in-Split.yes) (c.args.budget - 1) c.in_ok-grow-in-Split.field-0 c.in-Some.held c.in_ok-grow-in-Split.ensures c.in-Some.is in
    none_after c.args.types.now (rows c.args.ps.now) (known c.args.k.now) (known c.in_ok-yes-in-Split.yes) (known c.in_ok-no-in-Split.no) c.args.budget c.in-Some.held.left c.in_ok-grow-in-Some.field-0 e (search rules) h.1 c.in_ok-grow-in-Some.ensures c.in-None-2.is

pub returns : goal.returns
returns t c =
    let e = count_arm c.args.types.now c.args.ps.now (known c.args.k.now) (known c.in_ok-yes-in-Split.yes) (known c.in_ok-no-in-Split.no) c.in-Split.i c.index-ps-i.result c.is_last.result c.in-Split.ensures c.index-ps-i.is c.is_last.ensures c.if-is_last.false c.in_ok-yes-in-Split.ensures c.in_ok-no-in-Split.ensures in
    let h = held_arm c.args.types.now (rows c.args.ps.now) (known c.in_ok-yes-in-Split.yes) (c.args.budget - 1) c.in_ok-grow-in-Split.field-0 c.in-Some.held c.in_ok-grow-in-Split.ensures c.in-Some.is in
    let f = held_arm c.args.types.now (rows c.args.ps.now) (known c.in_ok-no-in-Split.no) c.in-Some.held.left c.in_ok-grow-in-Some.field-0 c.in-Some-2.failed c.in_ok-grow-in-Some.ensures c.in-Some-2.is in (
      c.in_ok-branch-in-Some-2.ensures.tree ∙ tree_arm c.args.types.now c.args.ps.now (known c.args.k.now) (known c.in_ok-yes-in-Split.yes) (known c.in_ok-no-in-Split.no) c.in-Split.i c.index-ps-i.result c.is_last.result (tree_view c.in-Some.held.tree) (tree_view c.in-Some-2.failed.tree) (position (row c.index-ps-i.result) (known c.args.k.now)) (asked (Tag 0) (row c.index-ps-i.result) (known c.args.k.now)) c.in-Split.ensures c.index-ps-i.is c.is_last.ensures c.if-is_last.false c.in_ok-yes-in-Split.ensures c.in_ok-no-in-Split.ensures h.0 f.0 refl refl,
      ap (λ l. l + branches (tree_at c.args.types.now (rows c.args.ps.now) (known c.args.k.now))) c.in_ok-branch-in-Some-2.ensures.left ∙ some_left c.args.types.now (rows c.args.ps.now) (known c.args.k.now) (known c.in_ok-yes-in-Split.yes) (known c.in_ok-no-in-Split.no) c.args.budget c.in-Some.held.left c.in-Some-2.failed.left e (search rules) h.1 f.1,
    )
