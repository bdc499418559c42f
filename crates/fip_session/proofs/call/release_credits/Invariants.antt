use Rattle.std.proofs.Common.{◌≡◌, ◌≤◌, ◌-◌, ℕ, List, drop}
use Rattle.std.specs.Prelude.{◌^◌}
use Rattle.fip_language.specs.Every.{Every}
use Rattle.store_trees.specs.GivenUp.{all_given_up}
use Rattle.value_text.specs.Loaded.{cell_words}
use Rattle.fip_session.proofs.call.release_credits.Given as goal

-- the first cells are released
abbrev pub invariant-loop-word : goal.invariant-loop-word
invariant-loop-word l = record {
  cells : l.cells.cells ≡ l.fn.cells.cells;
  released : (ps : List ℕ) → l.credits ≡ cell_words ps → Every (λ p. p ≤ 2 ^ 32 - 1) ps → all_given_up l.cells.cells (drop l.word-index ps) l.cells.released ≡ all_given_up l.fn.cells.cells ps l.fn.cells.released;
}
