use Rattle.std.proofs.Common.{◌≡◌, ◌-◌, sym, ap, ◌∙◌, arith}
use Rattle.value_text.specs.Counting.{count_at}
use Rattle.value_text.specs.Loaded.{words_up_to}
use Rattle.value_text.proofs.Credits.{needed_on}
use Rattle.value_text.proofs.Taken.{words_zero}
use Rattle.task_lines.proofs.list.TaskList.words.Goals as goal

pub loop-k-init : goal.loop-k-init
loop-k-init c = λ b. sym (words_zero (count_at c.args.self.now.counts) (λ _. 0))

pub loop-k-preserved : goal.loop-k-preserved
loop-k-preserved c = λ b. needed_on (count_at c.args.self.now.counts) (λ _. 0) c.loop-k.k c.of.result c.saturating_mul.result c.loop-k.words c.saturating_add-words.result c.loop-k.auto.k (let h = c.loop-k-test.true in omega (arith, h)) b (c.loop-k.invariant b) (let o = c.of.ensures in omega (arith, o)) c.saturating_mul.ensures c.saturating_add-words.ensures

pub returns : goal.returns
returns c = record { exact = λ b. c.loop-k.invariant b ∙ (let e : c.loop-k.k - 1 ≡ 16 = let h = c.loop-k-test.false in let k = c.loop-k.auto.k-end in omega (arith, h, k) in ap (λ n. words_up_to n (count_at c.args.self.now.counts) (λ _. 0)) e) }
