-- When a run on cells and a run on trees are the same: both are going, in states that are the same, or both are over in
-- the same way; with the same calls left, after the same steps.
--
-- The reversal of Cons(1, Nil) in cell 0 and of Nil is over after 7 steps with the word 1. On trees it is over after 7
-- steps with Cons(1, Nil), for which the word stands.
use Rattle.std.specs.Prelude.{◌≡◌, ℕ, List, length, map, take}
use Rattle.tree_semantics.specs.fip_language.Table.{Table}
use Rattle.tree_semantics.specs.fip_language.Values.{Values}
use Rattle.tree_semantics.specs.machine_semantics.Steps.{Kinds}
use Rattle.tree_semantics.specs.machine_semantics.States.{State}
use Rattle.tree_semantics.specs.machine_semantics.Runs.{Run, Going, Over}
use Rattle.tree_semantics.specs.Runs as T
use Rattle.separation_bounds.specs.cell_code.Plain.{PlainCode}
use Rattle.separation_bounds.specs.code_rules.Codes.{params}
use Rattle.tree_refinement.specs.Agreement.{IsSame}
use Rattle.tree_refinement.specs.Endings.{AreWordsOf}
pub use Rattle.tree_refinement.specs.Endings.{IsSameEnd}

-- The registers with which function n begins in state s stand for these arguments.
abbrev pub BeginsWith : PlainCode → ℕ → State → Values → Type 0
BeginsWith c n s vs = AreWordsOf c.types s.store (map (λ p. p.ty) (params c n))
    (take (length (params c n)) s.running.words) vs

-- The runs are the same, where registers have these kinds before an instruction and at a Call that waits.
abbrev pub IsSameRun : Table → Kinds → Kinds → List ℕ → Run → T.Run → Type 0
IsSameRun tb before waits types (Going s left n) (T.Going t l m) =
    IsSame tb before waits s t × (left ≡ l) × (n ≡ m)
IsSameRun tb before waits types (Over e s left n) (T.Over a t l m) =
    IsSameEnd tb types s left e a × IsSame tb before waits s t × (left ≡ l) × (n ≡ m)
IsSameRun tb before waits types x y = ⊥
