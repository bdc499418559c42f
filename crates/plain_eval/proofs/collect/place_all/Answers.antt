use Rattle.std.proofs.Common.{arith, suc, sym, ap, ◌≡◌, ◌∙◌, ◌+◌, ◌++◌, List, map, take, drop, get_or, set}
use Rattle.plain_rows.specs.declared.store.Value.{Value}
use Rattle.plain_eval.specs.Moving.{placed}
use Rattle.plain_eval.proofs.Moving.{place_step}
use Rattle.plain_eval.proofs.collect.place_all.Goals as goal

pub loop-i-preserved : goal.loop-i-preserved
loop-i-preserved c =
    let f = placed c.args.places.now in
    let old = c.args.values.now.items in
    let i = c.loop-i.i in
    let inv = c.loop-i.invariant in
    let x = c.index.result.now in
    let y = c.place_of.result in
    let n : i + 1 ≡ suc i = omega arith in
    ap (λ (l : List Value). set l i y) inv ∙ place_step f old i x y (let t = c.loop-i-test.true in let e = c.len-i-end.ensures in let k = (c.args.values.now.ok).0 in omega (arith, t, e, k)) (c.index.ensures ∙ ap (λ (l : List Value). get_or l i x) inv) c.place_of.ensures.placed ∙ ap (λ n. map f (take n old) ++ drop n old) (sym n)
