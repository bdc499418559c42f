use Rattle.std.proofs.Common.{◌≡◌, ◌∙◌, ◌⊎◌, inl, inr, [], ◌∷◌, List, Option, length, refl, sym, ap, subst, arith}
use Rattle.fip_base.specs.declared.plain.Param.{Param}
use Rattle.fip_host.specs.declared.answer.FipArgument.{FipArgument}
use Rattle.fip_host.specs.declared.hosted.Kept.{Kept}
use Rattle.fip_host.specs.Keeping.{used_up}
use Rattle.fip_host.proofs.Lines.{sides}
use Rattle.fip_host.proofs.hosted.values.use_up.Goals as goal

-- where no parameter or no argument is left
none_left : (ps : List Param) (bs : List FipArgument) (os : List (Option Kept)) → (length ps ≡ 0) ⊎ (length bs ≡ 0) → used_up ps bs os ≡ os
none_left [] bs os h = refl
none_left (p ∷ ps) [] os h = refl
none_left (p ∷ ps) (a ∷ bs) os (inl e) = absurd (omega (arith, e))
none_left (p ∷ ps) (a ∷ bs) os (inr e) = absurd (omega (arith, e))

pub loop-param-preserved : goal.loop-param-preserved
loop-param-preserved c =
    let l = c.loop-param in
    let z = c.in-Some.ensures.steps in
    let whole = used_up c.args.params.now c.args.arguments.now c.args.kept.now in
    let ps = c.next.new.self.a.rest.now in
    let bs = c.next.new.self.b.rest.now in
    let k = subst (λ qs. used_up qs (c.in-Some.argument.now ∷ bs) l.kept ≡ whole) z.0 (subst (λ bs. used_up l.param-iterator.a.rest.now bs l.kept ≡ whole) z.1 l.invariant) in
    ap (λ os. used_up ps bs os) c.use_one.ensures.is ∙ k

pub returns : goal.returns
returns c =
    let l = c.loop-param in
    let left = none_left l.param-iterator.a.rest.now l.param-iterator.b.rest.now l.kept (sides l.param-iterator.a l.param-iterator.b c.in-None.ensures.steps) in
    record { is = sym left ∙ l.invariant }
