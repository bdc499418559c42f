-- For private contracts alone: what a call begins on, and what a session has after it.
--
-- With 6 words, after `a = rev(Cons(1, Nil), Nil)`: under a that list is found, and its one cell is the only one.
use Rattle.std.specs.Prelude.{◌≡◌, ℕ, ◌<◌, ◌≤◌, List, length, map}
use Rattle.std.specs.BTreeMap.{BTreeMap}
use Rattle.std.specs.declared.alloc.Global.{Global}
use Rattle.std.specs.declared.vec.Vec.{Vec}
use Rattle.cell_code.specs.declared.code.Code.{Code}
use Rattle.cell_code.specs.declared.code.Function.{Function}
use Rattle.cell_store.specs.Made.{Loading, Stored}
use Rattle.fip_language.specs.Core.{Name}
use Rattle.fip_language.specs.Table.{Table}
use Rattle.fip_language.specs.Values.{Values}
use Rattle.fip_language.specs.declared.limits.TheConstants.{MOST_FIELDS, MOST_STORE_WORDS}
use Rattle.fip_machine.specs.machine_cells.Small.{store_of}
use Rattle.session_code.specs.Served.{IsOf, IsServed}
use Rattle.session_correctness.specs.tree_refinement.machine_semantics.Cells.{IsStore}
use Rattle.session_correctness.specs.Called.{IsHeld}
use Rattle.session_correctness.specs.Counted.{sized}
use Rattle.session_correctness.specs.Lodging.{Lodged, holding_of, AreDistinct}
use Rattle.session_lines.specs.instance_semantics.fip_trees.Tree.{Instance}
use Rattle.session_lines.specs.session_semantics.Lines.{Given as Written}
use Rattle.session_lines.specs.session_semantics.Talk.{Setting, State, Fits}
use Rattle.fip_session.specs.Planned.{Finds}
use Rattle.fip_session.specs.Readied.{IsReady}
use Rattle.fip_session.specs.declared.book.Held.{Held}
use Rattle.fip_session.specs.declared.ready.Ready.{Ready}

-- What is held and the cells of a store are those of a state.
pub record IsKept (tb : Table) (ls : List Lodged) (s : State) (l : Loading) : Type 0 where
  pub distinct : AreDistinct ls
  pub said : s.held ≡ map holding_of ls
  pub held : IsHeld tb ls (store_of l.cells l.released)
  pub made : (k : ℕ) → 0 < k → k ≤ MOST_FIELDS → s.made k ≡ sized k l.cells

-- A call's cells are made, of a function of the code, for which there was room.
pub record IsBegun (o : Setting) (s : State) (code : Code) (ls : List Lodged) (results : List Name) (n : ℕ)
    (f : Function) (i : ℕ) (d : Instance) (gs : List Written) (vs : Values) (old new : Loading) (r : Ready) :
    Type 0 where
  pub served : IsServed o code
  pub of : IsOf o code n f i d
  pub fits : Fits o s results i d gs vs
  pub kept : IsKept code.types ls s old
  pub ready : IsReady code.types ls f.params f.credits.items gs vs old new r
  pub store : IsStore (store_of new.cells new.released)
  pub small : length new.cells ≤ MOST_STORE_WORDS

-- Names and cells are those of a state.
pub record IsAfter (tb : Table) (held : BTreeMap (Vec ℕ Global) Held) (cells : Stored) (s : State) : Type 0 where
  pub lodged : List Lodged
  pub finds : Finds held lodged
  pub kept : IsKept tb lodged s (record { cells = cells.cells; released = cells.released; left = 0 })
  pub small : length cells.cells ≤ MOST_STORE_WORDS
