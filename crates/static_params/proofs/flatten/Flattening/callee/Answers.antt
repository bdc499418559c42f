use Rattle.std.proofs.Common.{◌∙◌, ℕ, Option, refl, ap, subst}
use Rattle.fip_language.specs.Core.{Name, WrittenName}
use Rattle.fip_base.specs.CoreView.{writtens}
use Rattle.static_params.specs.FlatProgram.{callee_number, or_zero}
use Rattle.static_params.specs.FlatView.{numbers_at}
use Rattle.reached_instances.specs.closed_types.SharedTrees.{tree_at, trees}
use Rattle.reached_instances.specs.SourceView.{instance, source}
use Rattle.reached_instances.specs.closed_types.Uses.{closed_function}
use Rattle.reached_instances.specs.closed_types.UsesView.{IsPlaceOf}
use Rattle.static_params.proofs.PlaceNumbers.{making_kept, making_more, number_grown}
use Rattle.static_params.proofs.flatten.Flattening.callee.Goals as goal

pub returns-in-Some-clause-stays : goal.returns-in-Some-clause-stays
returns-in-Some-clause-stays c = λ m.
    let f = c.args.self.now in
    let k = c.closed_use.new.shared in
    let g = c.in_ok-callee.ensures.grows in
    record {
      ready = making_more f.source.now f.numbers.now f.here f.shared k g (c.in_ok-callee.ensures.right m.right m.given) m;
      grows = g;
      same = making_kept f.source.now f.numbers.now f.here f.shared k g m;
    }

pub returns-in-Some-clause-flat : goal.returns-in-Some-clause-flat
returns-in-Some-clause-flat c = λ m.
    let f = c.args.self.now in
    let k = c.closed_use.new.shared in
    let s = source f.source.now in
    let h = instance (trees f.shared.branches) f.here in
    let ns = numbers_at (trees f.shared.branches) f.numbers.now in
    let x = c.in-Some.found in
    let p = subst (λ (o : Option ℕ). IsPlaceOf k.branches o (closed_function s h (WrittenName c.as_slice.result.now c.args.place (writtens c.args.statics.now)))) c.in-Some.is (c.in_ok-callee.ensures.closed m.right m.given) in
    c.instance_number.ensures m.numbers.few
    ∙ ap or_zero (number_grown f.shared.branches k.branches x f.numbers.now.instances (tree_at (trees k.branches) x) c.hold.ensures.shared c.in_ok-callee.ensures.grows m.numbers.instances p.within refl)
    ∙ ap (callee_number ns) p.tree
    ∙ ap (λ (n : Name). callee_number ns (closed_function s h (WrittenName n c.args.place (writtens c.args.statics.now)))) c.as_slice.ensures.same

pub returns-clause-stays : goal.returns-clause-stays
returns-clause-stays c = λ m.
    let f = c.args.self.now in
    let k = c.closed_use.new.shared in
    let g = c.in_ok-callee.ensures.grows in
    record {
      ready = making_more f.source.now f.numbers.now f.here f.shared k g (c.in_ok-callee.ensures.right m.right m.given) m;
      grows = g;
      same = making_kept f.source.now f.numbers.now f.here f.shared k g m;
    }

pub returns-clause-flat : goal.returns-clause-flat
returns-clause-flat c = λ m.
    let f = c.args.self.now in
    let k = c.closed_use.new.shared in
    let s = source f.source.now in
    let h = instance (trees f.shared.branches) f.here in
    let ns = numbers_at (trees f.shared.branches) f.numbers.now in
    let p = subst (λ (o : Option ℕ). IsPlaceOf k.branches o (closed_function s h (WrittenName c.as_slice.result.now c.args.place (writtens c.args.statics.now)))) c.in-None.is (c.in_ok-callee.ensures.closed m.right m.given) in
    ap (callee_number ns) p.tree
    ∙ ap (λ (n : Name). callee_number ns (closed_function s h (WrittenName n c.args.place (writtens c.args.statics.now)))) c.as_slice.ensures.same
