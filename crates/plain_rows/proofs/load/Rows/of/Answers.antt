use Rattle.std.proofs.Common.{◌∷◌, ap, subst}
use Rattle.value_text.specs.Loaded.{types_of}
use Rattle.plain_rows.proofs.Standing.{sides}
use Rattle.plain_rows.proofs.Loaded.{AreLeft, left_first, left_none, types_side}
use Rattle.plain_rows.proofs.load.Rows.of.Goals as goal

pub loop-param-preserved : goal.loop-param-preserved
loop-param-preserved c = λ few trees h e.
    let tb = c.args.types.now in
    let cs = c.args.cells.now.cells in
    let z = c.in-Some.ensures.steps in
    let k = c.loop-param.invariant few trees h e in
    left_first tb cs c.in-Some.param.now.ty c.in-Some.word.now (types_of c.next.new.self.a.rest.now) c.next.new.self.b.rest.now c.loop-param.rows c.load.new.rows trees
    (subst (λ ks. AreLeft tb cs ks (c.in-Some.word.now ∷ c.next.new.self.b.rest.now) c.loop-param.rows trees) (ap types_of z.0) (subst (λ ws. AreLeft tb cs (types_of c.loop-param.param-iterator.a.rest.now) ws c.loop-param.rows trees) z.1 k)) (c.in_ok-load.ensures.loads few)

pub returns : goal.returns
returns c = record {
  stand = λ few trees h e.
      left_none c.args.types.now c.args.cells.now.cells (types_of c.loop-param.param-iterator.a.rest.now) c.loop-param.param-iterator.b.rest.now c.loop-param.rows trees (c.loop-param.invariant few trees h e) (types_side c.loop-param.param-iterator.a.rest.now c.loop-param.param-iterator.b.rest.now (sides c.loop-param.param-iterator.a c.loop-param.param-iterator.b c.in-None.ensures.steps));
}
