use Rattle.std.proofs.Common.{◌≡◌, ◌-◌, sym, ap, ◌∙◌, arith}
use Rattle.value_text.specs.Counting.{count_at}
use Rattle.value_text.specs.Loaded.{words_up_to, free_in}
use Rattle.value_text.proofs.Credits.{needed_on}
use Rattle.value_text.proofs.Taken.{words_zero}
use Rattle.fip_session.proofs.plan.words_needed.Goals as goal

pub loop-k-init : goal.loop-k-init
loop-k-init c = λ b. sym (words_zero (count_at c.args.cells.now) (free_in c.args.loader.now))

pub loop-k-preserved : goal.loop-k-preserved
loop-k-preserved c = λ b. needed_on (count_at c.args.cells.now) (free_in c.args.loader.now) c.loop-k.k c.saturating_sub-more.result c.saturating_mul.result c.loop-k.needed c.saturating_add-needed.result c.loop-k.auto.k (let h = c.loop-k-test.true in omega (arith, h)) b (c.loop-k.invariant b) (let s = c.saturating_sub-more.ensures in let o = c.of.ensures in let p = c.spare.ensures in omega (arith, s, o, p)) c.saturating_mul.ensures c.saturating_add-needed.ensures

pub returns : goal.returns
returns c = record { words = λ b. c.loop-k.invariant b ∙ (let e : c.loop-k.k - 1 ≡ 16 = let h = c.loop-k-test.false in let k = c.loop-k.auto.k-end in omega (arith, h, k) in ap (λ n. words_up_to n (count_at c.args.cells.now) (free_in c.args.loader.now)) e) }
