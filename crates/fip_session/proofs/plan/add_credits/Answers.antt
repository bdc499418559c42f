use Rattle.std.proofs.Common.{◌+◌, get_or, refl, ap, ◌∙◌, arith}
use Rattle.fip_language.specs.Store.{count}
use Rattle.value_text.specs.Counting.{count_at}
use Rattle.value_text.proofs.Credits.{sizes_on, take_whole}
use Rattle.fip_session.proofs.plan.add_credits.Goals as goal

pub loop-size-init : goal.loop-size-init
loop-size-init c = λ s r k le. omega arith

pub loop-size-preserved : goal.loop-size-preserved
loop-size-preserved c = λ s r. sizes_on (count_at c.args.cells.now) (count_at c.loop-size.cells) (count_at c.add_one.new.self) c.args.credits.now c.loop-size.size-index (get_or c.args.credits.now c.loop-size.size-index 0) (let h = c.loop-size-test.true in omega (arith, h)) refl s r (c.loop-size.invariant s r) c.add_one.ensures.one c.add_one.ensures.others

pub returns : goal.returns
returns c = record { counts = λ s r k le. c.loop-size.invariant s r k le ∙ ap (λ ks. count_at c.args.cells.now k + count k ks) (take_whole c.loop-size.size-index c.args.credits.now (let h = c.loop-size-test.false in omega (arith, h))) }
