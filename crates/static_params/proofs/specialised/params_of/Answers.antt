use Rattle.std.proofs.Common.{Bool, ℕ, ◌∙◌, ◌++◌, List, map, ap}
use Rattle.fip_base.specs.CoreView as V
use Rattle.fip_base.specs.declared.plain.Param.{Param}
use Rattle.static_params.specs.FlatView.{Making, making, parameter_in}
use Rattle.static_params.proofs.Made.{items_goes, items_done, stays_same, stays_more}
use Rattle.static_params.proofs.specialised.params_of.Goals as goal

abbrev made_param : Bool → ℕ → Param
made_param l t = record { ty = t; lent = l }

pub loop-parameter-init : goal.loop-parameter-init
loop-parameter-init c = record {
  stays = λ m. stays_same c.args.flattening.now m;
  row = λ m. ap (λ (l : List Param). l ++ map (parameter_in (making c.args.flattening.now)) (map V.parameter c.args.parameters.now)) c.new-params.ensures.items;
}

pub loop-parameter-preserved : goal.loop-parameter-preserved
loop-parameter-preserved c =
    let old = c.args.flattening.now in
    let mid = c.loop-parameter.flattening in
    let new = c.ty.new.self in
    let x = V.parameter c.parameter-item.result in
    record {
      stays = λ m. let s = c.loop-parameter.invariant.stays m in stays_more old mid new s (c.in_ok-ty.ensures.stays s.ready);
      row = λ m.
          let s = c.loop-parameter.invariant.stays m in
          items_goes (parameter_in (making old)) V.parameter c.loop-parameter.params.items c.push.new.self.items c.args.parameters.now c.loop-parameter.parameter-index c.parameter-item.result (made_param x.lent c.in_ok-ty.ty) (map (parameter_in (making old)) (map V.parameter c.args.parameters.now)) c.loop-parameter-test.true c.parameter-item.is c.in_ok-push.ensures.items
          (ap (made_param x.lent) (c.in_ok-ty.ensures.flat s.ready) ∙ ap (λ (w : Making). parameter_in w x) s.same) (c.loop-parameter.invariant.row m);
    }

pub returns-clause-stays : goal.returns-clause-stays
returns-clause-stays c = λ m. c.loop-parameter.invariant.stays m

pub returns-clause-made : goal.returns-clause-made
returns-clause-made c = λ m.
    let old = c.args.flattening.now in
    c.new.ensures.same ∙ items_done (parameter_in (making old)) V.parameter c.loop-parameter.params.items c.args.parameters.now c.loop-parameter.parameter-index (map (parameter_in (making old)) (map V.parameter c.args.parameters.now)) c.loop-parameter-test.false (c.loop-parameter.invariant.row m)
