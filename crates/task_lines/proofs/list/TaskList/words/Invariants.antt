use Rattle.std.proofs.Common.{◌≡◌, ◌-◌, ◌<◌, ◌^◌}
use Rattle.value_text.specs.Counting.{count_at}
use Rattle.value_text.specs.Loaded.{words_up_to}
use Rattle.task_lines.proofs.list.TaskList.words.Given as goal

-- the words of the smaller cells
abbrev pub invariant-loop-k : goal.invariant-loop-k
invariant-loop-k l = words_up_to 16 (count_at l.self.counts) (λ _. 0) < 2 ^ 64 → l.words ≡ words_up_to (l.k - 1) (count_at l.self.counts) (λ _. 0)
