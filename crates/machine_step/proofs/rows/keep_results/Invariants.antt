use Rattle.std.proofs.Common.{◌≡◌, ℕ, ◌+◌, ◌<◌, get_or, length, vec_len}
use Rattle.fip_language.specs.declared.limits.TheConstants.{MOST_RESULTS}
use Rattle.machine_step.proofs.rows.keep_results.Given as goal

abbrev pub invariant-loop-i : goal.invariant-loop-i
invariant-loop-i l = record {
  spare : vec_len l.beside.spare ≡ vec_len l.initial.beside.spare;
  freed : l.beside.freed ≡ l.initial.beside.freed;
  long : length l.beside.results ≡ MOST_RESULTS;
  kept : (j : ℕ) → j < l.i → get_or l.beside.results j 0 ≡ get_or l.words (l.base + get_or l.results j 0) 0;
}
