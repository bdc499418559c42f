use Rattle.std.proofs.Common.{ap, arith}
use Rattle.std.proofs.lemmas.List.{drop_more, drop_all}
use Rattle.fip_language.specs.Store.{count}
use Rattle.fip_tasks.proofs.task.add_credits.Goals as goal

pub loop-i-preserved : goal.loop-i-preserved
loop-i-preserved c = record {
  added = λ k low high few.
      let h = c.loop-i.invariant.added k low high few in
      let more = ap (count k) (drop_more c.args.credits.now c.loop-i.i 0 c.loop-i-test.true) in
      let one = c.add_one.ensures.one k low high (omega (arith, h, more, few)) in
      omega (arith, h, more, one);
}

pub returns : goal.returns
returns c = record {
  added = λ k low high few.
      let h = c.loop-i.invariant.added k low high few in
      let past = c.loop-i-test.false in
      let none = ap (count k) (drop_all c.loop-i.i c.args.credits.now (omega (arith, past))) in
      omega (arith, h, none);
}
