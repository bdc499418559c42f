use Rattle.std.proofs.Common.{◌≡◌, ◌∷◌, ℕ, List, sym, subst}
use Rattle.fip_base.specs.declared.plain.Param.{Param}
use Rattle.value_text.specs.Loaded.{types_of}
use Rattle.task_lines.proofs.CellsMade.{IsMaking, making_starts, next_placed, making_on, making_ends, sides, types_none}
use Rattle.task_lines.proofs.making.make_values.Goals as goal

pub loop-param-init : goal.loop-param-init
loop-param-init c = λ params short vs at.
    let sa : c.into_iter-param-iterator.result.a.rest.now ≡ c.args.params.now = search in
    let sb : c.into_iter-param-iterator.result.b.rest.now ≡ c.args.places.now = search in
    let m = making_starts c.args.table.now c.args.bytes.now (types_of c.args.params.now) vs c.args.loader c.args.places.now c.new-words.result.items c.new-words.ensures.items at in
    subst (λ (qs : List Param). IsMaking c.args.table.now c.args.bytes.now (types_of c.args.params.now) vs c.args.loader c.args.loader (types_of qs) c.into_iter-param-iterator.result.b.rest.now c.new-words.result.items) (sym sa)
    (subst (λ qs. IsMaking c.args.table.now c.args.bytes.now (types_of c.args.params.now) vs c.args.loader c.args.loader (types_of c.args.params.now) qs c.new-words.result.items) (sym sb) m)

pub loop-param-preserved : goal.loop-param-preserved
loop-param-preserved c = λ params short vs at.
    let tb = c.args.table.now in
    let bytes = c.args.bytes.now in
    let types = types_of c.args.params.now in
    let z = c.in-Some.ensures.steps in
    let k : ℕ = c.in-Some.param.now.ty in
    let p : ℕ = c.in-Some.at.now in
    let ks : List ℕ = types_of c.next.new.self.a.rest.now in
    let ps : List ℕ = c.next.new.self.b.rest.now in
    let m = subst (λ (xs : List Param). IsMaking tb bytes types vs c.args.loader c.loop-param.loader (types_of xs) (p ∷ ps) c.loop-param.words.items) z.0
    (subst (λ xs. IsMaking tb bytes types vs c.args.loader c.loop-param.loader (types_of c.loop-param.param-iterator.a.rest.now) xs c.loop-param.words.items) z.1 (c.loop-param.invariant params short vs at)) in
    let placed = next_placed tb bytes types vs c.args.loader c.loop-param.loader k p ks ps c.loop-param.words.items params short m in
    making_on tb bytes types vs c.args.loader c.loop-param.loader c.in-Ok.next k p ks ps c.loop-param.words.items c.push.new.self.items c.in-Ok.word params m (c.in-Ok.ensures.makes placed) c.in_ok-push.ensures.items

pub returns : goal.returns
returns c = record {
  made = λ params short vs at.
      let o = sides c.loop-param.param-iterator.a c.loop-param.param-iterator.b c.in-None.ensures.steps in
      making_ends c.args.table.now c.args.bytes.now (types_of c.args.params.now) vs c.args.loader c.loop-param.loader (types_of c.loop-param.param-iterator.a.rest.now) c.loop-param.param-iterator.b.rest.now c.loop-param.words.items (types_none c.loop-param.param-iterator.a.rest.now c.loop-param.param-iterator.b.rest.now o) (c.loop-param.invariant params short vs at);
}
