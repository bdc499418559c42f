use Rattle.std.proofs.Common.{arith, sym, ap, ◌∙◌, subst, ◌≡◌, suc, ◌+◌, ◌<◌, true, length, take}
use Rattle.value_text.specs.Scan.{IsLongest, begins_bytes}
use Rattle.value_text.proofs.Names.{longest_more}
use Rattle.value_text.proofs.scan.longest_front.Goals as goal

pub loop-c-preserved : goal.loop-c-preserved
loop-c-preserved c =
    let text = c.args.text.now in
    let ss = c.args.constructors.now in
    let s = c.c-item.result in
    let lt : c.loop-c.c-index < length ss = let h = c.loop-c-test.true in omega (arith, h) in
    let name = c.name.ensures.same in
    let k = c.common.ensures in
    let b : begins_bytes (take c.common.result text) s.name ≡ true = ap (λ n. begins_bytes (take c.common.result text) n) (sym name) ∙ k.begun in
    subst (IsLongest text (take (c.loop-c.c-index + 1) ss)) (sym c.larger-longest.ensures) (longest_more text ss c.loop-c.c-index s c.loop-c.longest c.common.result lt c.c-item.is c.loop-c.invariant k.within b (λ l. ap (λ n. begins_bytes (take (suc c.common.result) text) n) (sym name) ∙ k.longest l))
