use Rattle.std.proofs.Common.{◌≡◌, ◌-◌, ◌<◌, ◌^◌}
use Rattle.value_text.specs.Counting.{count_at}
use Rattle.value_text.specs.Loaded.{words_up_to, free_in}
use Rattle.fip_session.proofs.plan.words_needed.Given as goal

abbrev pub invariant-loop-k : goal.invariant-loop-k
invariant-loop-k l = words_up_to 16 (count_at l.cells) (λ _. 0) < 2 ^ 64 → l.needed ≡ words_up_to (l.k - 1) (count_at l.cells) (free_in l.loader)
