use Rattle.std.proofs.Common.{subst, ap, refl, arith, sym}
use Rattle.derivation_check.proofs.Windows.{marked_see, marked_new, given_place}
use Rattle.ownership_calculus.specs.Terms.{given}
use Rattle.derivation_check.proofs.parts.Window.see.Goals as goal

pub returns-in-Some-clause-seen : goal.returns-in-Some-clause-seen
returns-in-Some-clause-seen c t f m = marked_see c.args.self.now.seen c.see_place.new.self.seen c.args.self.now.start c.in-Some.place c.args.variable c.args.whole.now f c.requires c.in-Some.ensures.some.0 c.in-Some.ensures.some.1 (c.see_place.ensures.others t) (c.see_place.ensures.here t) m

pub returns-in-Some-clause-inside : goal.returns-in-Some-clause-inside
returns-in-Some-clause-inside c t = let e = ap (λ x. given x c.args.whole.now) c.in-Some.ensures.some.1 in let g = given_place c.args.whole.now c.in-Some.place c.in-Some.ensures.some.0 in omega arith

pub returns-in-Some-clause-new : goal.returns-in-Some-clause-new
returns-in-Some-clause-new c f m l = c.see_place.ensures.new (marked_new c.args.self.now.seen c.args.self.now.start c.in-Some.place c.args.variable c.args.whole.now f c.requires c.in-Some.ensures.some.0 c.in-Some.ensures.some.1 m l)
