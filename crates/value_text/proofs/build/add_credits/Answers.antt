use Rattle.std.proofs.Common.{get_or, refl, subst, arith}
use Rattle.value_text.specs.Loaded.{wanted}
use Rattle.value_text.specs.Building.{IsCrediting}
use Rattle.value_text.proofs.Credits.{crediting_starts, credit_on, credit_fits, take_whole}
use Rattle.value_text.proofs.build.add_credits.Goals as goal

pub loop-size-init : goal.loop-size-init
loop-size-init c = λ a first vs b. crediting_starts (wanted c.args.credits.now vs) first c.args.loader.now vs c.args.words.now.items b

pub loop-size-preserved : goal.loop-size-preserved
loop-size-preserved c = λ a first vs b. credit_on c.args.credits.now c.loop-size.size-index (get_or c.args.credits.now c.loop-size.size-index 0) (let h = c.loop-size-test.true in omega (arith, h)) refl a.sizes first c.loop-size.loader vs c.loop-size.words.items (c.loop-size.invariant a first vs b) c.add_credit.new.loader c.add_credit.new.words.items c.in-Ok.ensures.made

pub returns-in-Err-clause-full : goal.returns-in-Err-clause-full
returns-in-Err-clause-full c = λ a e first vs f b. credit_fits c.args.credits.now c.loop-size.size-index (get_or c.args.credits.now c.loop-size.size-index 0) (let h = c.loop-size-test.true in omega (arith, h)) refl a.sizes first c.loop-size.loader vs c.loop-size.words.items (c.loop-size.invariant a first vs b) f (c.in-Err.ensures.full e)

pub returns-clause-made : goal.returns-clause-made
returns-clause-made c = λ a first vs b. subst (λ ks. IsCrediting ks (wanted c.args.credits.now vs) first c.loop-size.loader vs c.loop-size.words.items) (take_whole c.loop-size.size-index c.args.credits.now (let h = c.loop-size-test.false in omega (arith, h))) (c.loop-size.invariant a first vs b)
