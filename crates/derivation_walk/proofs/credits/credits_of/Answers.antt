use Rattle.std.proofs.Common.{rules, ◌≡◌, ◌<◌, ◌≤◌, ◌++◌, ◌∷◌, [], ◌+◌, ◌-◌, List, subst, sym}
use Rattle.derivation_trees.specs.declared.derivation.Credit as D
use Rattle.derivation_walk.specs.Walked.{credits, credits_from}
use Rattle.derivation_walk.proofs.WalkSteps.{credit_some, credit_none}
use Rattle.derivation_walk.proofs.credits.credits_of.Goals.{then-count-gt0+in_ok-push, else-count-gt0}
use Rattle.derivation_walk.proofs.credits.credits_of.Goals as goal

pub loop-size-preserved : goal.loop-size-preserved
loop-size-preserved c =
    let xs = c.args.sizes.now in
    let k = c.loop-size.size in
    let n = c.of-count.result in
    let cs = c.loop-size.credits.items in
    let ds = c.if-count-gt0.credits.items in
    elim c.if-count-gt0.branch [
      | then-count-gt0+in_ok-push w ↦
          let p : 0 < n = search rules in
          let e : ds ≡ cs ++ record { size = k; count = n } ∷ [] = search rules in
          credit_some cs ds (credits xs) xs k n c.loop-size-test.true c.of-count.ensures.number p e c.loop-size.invariant
      | else-count-gt0 w ↦
          let p : n ≤ 0 = search rules in
          let e : ds ≡ cs = search rules in
          subst (λ (z : List D.Credit). z ++ credits_from xs (k + 1) (17 - (k + 1)) ≡ credits xs) (sym e) (credit_none cs (credits xs) xs k n c.loop-size-test.true c.of-count.ensures.number p c.loop-size.invariant)
    ]
