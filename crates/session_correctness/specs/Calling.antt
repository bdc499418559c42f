-- A call of a session as a run: it begins on the trees of its line's values and of the names that it is given, beside
-- the cells of all other names.
--
-- Where a holds Cons(1, Nil) in the cell at 0 and b holds Cons(2, Nil) in the cell at 3, rev(a, Nil) begins on the tree
-- at 0, and the cell at 3 is kept. After it b is held, whatever it ended in; the cell at 0 is its result's, or is given
-- up.
use Rattle.std.specs.Prelude.{◌≡◌, ℕ, ◌+◌, List, []}
use Rattle.tree_refinement.specs.fip_language.Store.{count}
use Rattle.separation_bounds.specs.cell_code.Plain.{PlainCode}
use Rattle.tree_refinement.specs.machine_semantics.Runs.{Run, begun, after}
use Rattle.tree_refinement.specs.machine_semantics.States.{State}
use Rattle.tree_refinement.specs.machine_semantics.Steps.{Kinds}
use Rattle.tree_refinement.specs.separation.Starts.{IsStart}
use Rattle.session_semantics.specs.Lines.{Given}
use Rattle.session_semantics.specs.Talk.{used_by}
use Rattle.session_correctness.specs.Called.{AllStand}
use Rattle.session_correctness.specs.Lodging.{Lodged, AreDistinct, AreTrees, but_all, named_by_all, lodged_uses}
use Rattle.session_correctness.specs.Lodging.{fresh_uses, lent_fresh_uses, used_uses}

-- A function begins in a state on what was given for it, of what is held, and these cells are kept.
pub record CallOf (c : PlainCode) (before waits : Kinds) : Type 0 where
  pub entry : ℕ
  pub kept : List ℕ
  pub state : State
  pub held : List Lodged
  pub given : List Given
  pub start : IsStart c before waits entry kept state
  pub distinct : AreDistinct held
  pub stand : AllStand c.types state.store held
  pub trees : AreTrees c.types held [] start.function.params given start.given.arguments
  pub others : (q : ℕ) →
      count q kept ≡ lodged_uses (but_all (named_by_all c.types start.function.params given) held) q

-- what is held after the call, but its results
abbrev pub held_after : (c : PlainCode) {before waits : Kinds} → CallOf c before waits → List Lodged
held_after c h = but_all (used_by c.types h.start.function.params h.given) h.held

-- how often the line's values that are borrowed use a cell
abbrev pub lent : {c : PlainCode} {before waits : Kinds} → CallOf c before waits → ℕ → ℕ
lent h q = lent_fresh_uses h.start.function.params h.given h.start.given.arguments q

-- how often a cell is used by what is gone where the call gives no value: by the line's values, the names that are used
-- up, and the credits
abbrev pub gone : {c : PlainCode} {before waits : Kinds} → CallOf c before waits → ℕ → ℕ
gone h q = fresh_uses h.given h.start.given.arguments q
    + (used_uses h.start.function.params h.given h.start.given.arguments q + count q h.start.given.spares)

-- the run of a call, with so many calls, after k steps
abbrev pub run_after : (c : PlainCode) (before : Kinds) → State → ℕ → ℕ → Run
run_after c before s calls k = after before c k (begun s calls)
