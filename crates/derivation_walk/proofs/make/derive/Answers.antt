use Rattle.std.proofs.Common.{rules, ◌≡◌, ◌+◌, ◌∙◌, List, [], ◌∷◌, ◌++◌, map, drop, sym, subst}
use Rattle.fip_trees.specs.TreeView as V
use Rattle.fip_trees.specs.declared.program.Instance as A
use Rattle.fip_rules.specs.World.{world}
use Rattle.credit_check.proofs.Steps.{drop_item}
use Rattle.derivation_trees.specs.declared.derivation.Line.{Line}
use Rattle.derivation_trees.specs.Trees.{entry}
use Rattle.derivation_trees.specs.WholeTrees.{AreTrees}
use Rattle.derivation_walk.specs.Guides.{IsWalked}
use Rattle.derivation_walk.specs.Walks.{AreWalked}
use Rattle.derivation_walk.proofs.Growing.{trees_more}
use Rattle.derivation_walk.proofs.WalkRows.{Going, ruled_more, plain_more, all_walked, none_left}
use Rattle.derivation_walk.proofs.make.derive.Goals.{then-is_ruled+in-Ok+in_ok-push-in-Ok, else-is_ruled}
use Rattle.derivation_walk.proofs.make.derive.Goals as goal

pub loop-number-init : goal.loop-number-init
loop-number-init c = record {
  trees = subst (λ (ls : List Line). AreTrees ls) (sym c.new-lines.ensures.items) tt;
  walked = λ fs h. subst (λ (ls : List Line). AreWalked (V.program c.args.typed.now.program) c.args.needs.now 0 (map V.instance_of c.deref-instance-items.result.now) (map entry ls ++ fs)) (sym c.new-lines.ensures.items) h;
}

pub loop-number-preserved : goal.loop-number-preserved
loop-number-preserved c =
    let P = V.program c.args.typed.now.program in
    let nss = c.args.needs.now in
    let n = c.loop-number.number in
    let items = c.deref-instance-items.result.now in
    let all = map V.instance_of items in
    let ls = c.loop-number.lines.items in
    let ms = c.if-is_ruled.lines.items in
    let d = V.instance_of c.instance-item.result in
    let ds = map V.instance_of (drop (n + 1) items) in
    let D = drop_item items n c.instance-item.result c.loop-number-test.true c.instance-item.is in
    let inv : Going P nss n (d ∷ ds) all (map entry ls) = λ fs h. c.loop-number.invariant.walked fs (subst (λ (xs : List A.Instance). AreWalked P nss n (map V.instance_of xs) fs) (sym D) h) in
    elim c.if-is_ruled.branch [
      | then-is_ruled+in-Ok+in_ok-push-in-Ok w ↦
          let e : ms ≡ ls ++ w.in-Ok.line ∷ [] = search rules in
          let h = subst (λ z. IsWalked (world P c.instance-item.result.kind) z d (entry w.in-Ok.line).tree) w.of-then-is_ruled.ensures.held w.in-Ok.ensures.walked in
          record {
            trees = trees_more ls ms w.in-Ok.line c.loop-number.invariant.trees w.in-Ok.ensures.tree e;
            walked = ruled_more P nss n d ds all ls ms w.in-Ok.line (sym c.is_ruled.ensures.ruled ∙ w.if-is_ruled.true) w.in-Ok.ensures.instance h e inv;
          }
      | else-is_ruled w ↦
          let e : ms ≡ ls = search rules in
          record {
            trees = subst (λ (xs : List Line). AreTrees xs) (sym e) c.loop-number.invariant.trees;
            walked = plain_more P nss n d ds all ls ms (sym c.is_ruled.ensures.ruled ∙ w.if-is_ruled.false) e inv;
          }
    ]

pub returns-clause-walked : goal.returns-clause-walked
returns-clause-walked c =
    let P = V.program c.args.typed.now.program in
    let nss = c.args.needs.now in
    let n = c.loop-number.number in
    let items = c.deref-instance-items.result.now in
    let ls = c.loop-number.lines.items in
    let a = all_walked P nss n (map V.instance_of (drop n items)) (map V.instance_of items) (map entry ls) (none_left items n c.loop-number-test.false) c.loop-number.invariant.walked in
    subst (λ (ms : List Line). AreWalked P nss 0 (V.instances c.args.typed.now.program.instances.items) (map entry ms)) (sym c.new.ensures.lines)
    (subst (λ (xs : List A.Instance). AreWalked P nss 0 (map V.instance_of xs) (map entry ls)) c.deref-instance-items.ensures.value a)
