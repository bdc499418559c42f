use Rattle.std.proofs.Common.{rules, arith, ◌∷◌, subst}
use Rattle.plain_rows.proofs.Standing.{sides}
use Rattle.plain_eval.proofs.Steps.{BindLeft, binds_init, binds_step, binds_end}
use Rattle.plain_eval.proofs.evaluate.bind_all.Goals as goal

pub loop-binder-init : goal.loop-binder-init
loop-binder-init c = record {
  covers = λ s env vs h a. binds_init s env c.args.binders.now _ vs _ c.args.values.now c.args.variables.now (search rules) (search rules) h a;
  keeps = λ s i v h. h;
  longer = omega arith;
}

pub loop-binder-preserved : goal.loop-binder-preserved
loop-binder-preserved c =
    let z = c.in-Some.ensures.steps in
    let inv = c.loop-binder.invariant in
    let one = c.in_ok-bind.ensures in
    let it = c.loop-binder.binder-iterator in
    let b = c.in-Some.binder.now in
    let bs = c.next.new.self.a.rest.now in
    let all = c.args.binders.now in
    let vars = c.loop-binder.variables in
    record {
      covers = λ s env vs h a.
          let l = subst (λ bs. BindLeft s env all vs bs it.b.rest.now vars) z.0 (inv.covers s env vs h a) in
          binds_step s env all vs b bs c.in-Some.value.now c.next.new.self.b.rest.now vars c.bind.new.self (subst (λ ws. BindLeft s env all vs (b ∷ bs) ws vars) z.1 l) (one.covers s);
      keeps = λ s i v h. one.keeps s i v (inv.keeps s i v h);
      longer = (let x = inv.longer in let y = one.longer in omega (arith, x, y));
    }

pub returns-clause-covers : goal.returns-clause-covers
returns-clause-covers c = λ s env vs h a.
    let it = c.loop-binder.binder-iterator in
    binds_end s env c.args.binders.now vs it.a.rest.now it.b.rest.now c.loop-binder.variables (c.loop-binder.invariant.covers s env vs h a) (sides it.a it.b c.in-None.ensures.steps)
