-- It serves the proof that sound code keeps its cells apart: what is known of a frame before an instruction that is no
-- call or return, and what is known after it.
--
-- Before Take 0 [2, 3] register 0 owns a tree with a cell; after it register 0 is a credit that holds this cell, and
-- registers 2 and 3 hold the parts. Each cell is owned as often as before.
use Rattle.std.specs.Prelude.{◌≡◌, ℕ, ◌+◌, ◌≤◌, true, List, [], Some, length, slice_get}
use Rattle.separation_kinds.specs.fip_language.Table.{Shape, Table, constructors}
use Rattle.separation_kinds.specs.fip_language.Store.{Placed}
use Rattle.separation_kinds.specs.cell_code.declared.code.Instr.{Instr}
use Rattle.separation_kinds.specs.cell_code.declared.kind.Kind.{Kind}
use Rattle.separation_kinds.specs.machine_semantics.Cells.{Store, IsStore, cell_at, there, released_at, changed_by}
use Rattle.separation_kinds.specs.machine_semantics.States.{State}
use Rattle.separation_kinds.specs.machine_semantics.Rows as R
use Rattle.separation_kinds.specs.machine_semantics.Apart.{Holding, trees_uses}
use Rattle.separation_kinds.specs.cell_code.Plain.{PlainFunction, PlainCode}
use Rattle.separation_kinds.specs.code_rules.Kinds.{at}
use Rattle.separation_kinds.specs.code_rules.Ranges.{in_range}
use Rattle.separation_kinds.specs.code_rules.Asked.{sources, destinations}
use Rattle.separation_kinds.specs.code_rules.Flow.{IsReachedAt, GoesTo}
use Rattle.separation_kinds.specs.Meanings.{AreMeant, owned_by, word_at}
pub use Rattle.separation.specs.Codes.{FitsLiteral}

-- Constructor k of bool is there, and has no field.
abbrev pub IsTruth : Table → ℕ → Type 0
IsTruth tb k = (s : Shape) × (slice_get (constructors tb 1) k ≡ Some s) × (s.fields ≡ [])

-- The frame that runs function f of a sound code is before instruction x, with these kinds, and its registers hold
-- these things, over these trees below it.
pub record IsReady (c : PlainCode) (f : PlainFunction) (below : List Placed) (ks : List Kind) (hs : ℕ → Holding)
    (s : State) (x : Instr) : Type 0 where
  pub truths : IsTruth c.types 0 × IsTruth c.types 1
  pub literal : FitsLiteral x
  pub reached : IsReachedAt c f s.running.at ks x
  pub ranged : in_range c f s.running.at x ≡ true
  pub sources : sources c f ks x ≡ true
  pub destinations : destinations c ks x ≡ true
  pub wide : length ks ≡ f.registers
  pub long : length s.running.words ≡ length ks
  pub store : IsStore s.store
  pub meant : AreMeant c.types s.store below (at ks) (word_at s.running.words) hs
  pub once : (q : ℕ) → owned_by q (at ks) hs (length ks) + (trees_uses q below + released_at s.store q)
      ≤ there s.store q

-- The instruction can be done: what is known of the frame after it. Only cells that the frame owns change; each cell
-- is owned or released as often as before.
pub record IsDone (c : PlainCode) (f : PlainFunction) (below : List Placed) (ks : List Kind) (hs : ℕ → Holding)
    (s : State) (x : Instr) : Type 0 where
  pub done : R.Done
  pub is : R.done c.types ks s x ≡ Some done
  pub store : Store
  pub changed : changed_by done.changes s.store ≡ Some store
  pub left : List Kind
  pub goes : GoesTo c f s.running.at done.at left
  pub wide : length left ≡ length ks
  pub long : length done.words ≡ length s.running.words
  pub holds : ℕ → Holding
  pub meant : AreMeant c.types store below (at left) (word_at done.words) holds
  pub good : IsStore store
  pub cells : (q : ℕ) → there store q ≡ there s.store q
  pub elsewhere : (q : ℕ) → owned_by q (at ks) hs (length ks) ≡ 0 → cell_at store q ≡ cell_at s.store q
  pub count : (q : ℕ) → owned_by q (at left) holds (length ks) + released_at store q
      ≡ owned_by q (at ks) hs (length ks) + released_at s.store q
