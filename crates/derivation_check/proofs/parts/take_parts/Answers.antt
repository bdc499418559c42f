use Rattle.std.proofs.Common.{subst, ap, refl, arith, sym, ◌+◌, ◌-◌, ◌∙◌, ◌≡◌, ℕ}
use Rattle.ownership_calculus.specs.Terms.{Credit}
use Rattle.derivation_check.specs.Places.{following}
use Rattle.derivation_check.proofs.Rows.{roots_first}
use Rattle.derivation_check.proofs.parts.take_parts.Goals as goal

pub returns-then-not-take_all-clause-out_of_memory : goal.returns-then-not-take_all-clause-out_of_memory
returns-then-not-take_all-clause-out_of_memory c h =
    let g = c.take_all.ensures.out_of_memory (λ k. let a = h k in let b = c.loop-left.invariant k in let d = c.credits_at.ensures.counted k in let e = roots_first c.args.nodes.now c.loop-left.place (following c.args.nodes.now c.loop-left.place) c.loop-left.left c.loop-left-test.true refl (Credit k) in omega arith) in
    let t = c.if-not-take_all.true in cc

pub loop-left-preserved : goal.loop-left-preserved
loop-left-preserved c k = let b = c.loop-left.invariant k in let d = c.credits_at.ensures.counted k in let e = roots_first c.args.nodes.now c.loop-left.place c.following-place.result c.loop-left.left c.loop-left-test.true (c.following-place.ensures.row (c.loop-left.left - 1)) (Credit k) in let g = c.take_all.ensures.taken c.if-not-take_all.false k in omega arith
