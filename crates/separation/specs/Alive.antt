-- It serves the proof that sound code keeps its cells apart: what holds of every state of a run, in a form that each
-- step keeps. The running frame is at an instruction that is reached, each frame that waits at a Call that is reached
-- and as required, and each frame's registers have what their kinds say.
use Rattle.std.specs.Prelude.{◌≡◌, ℕ, ◌+◌, false, true, List, [], ◌∷◌, Some, length, map}
use Rattle.separation_kinds.specs.fip_language.Store.{Placed, Parts, uses_of_all, words_of, count}
use Rattle.separation_kinds.specs.cell_code.declared.code.Instr.{Instr}
use Rattle.separation_kinds.specs.cell_code.declared.code.Instr.TheVariants as I
use Rattle.separation_kinds.specs.cell_code.declared.kind.Kind.{Kind}
use Rattle.separation_kinds.specs.machine_semantics.Cells.{Store, IsStore, there, released_at}
use Rattle.separation_kinds.specs.machine_semantics.Trees.{StandAll}
use Rattle.separation_kinds.specs.machine_semantics.States.{Frame, State, Next, Went, Entered, Gave, Trapped, TooDeep, Stuck}
use Rattle.separation_kinds.specs.machine_semantics.Apart.{Holding, Slot, frames_uses, trees_uses, trees_below, AreTrees}
use Rattle.separation_kinds.specs.cell_code.Plain.{PlainFunction, PlainCode, function_at, results}
use Rattle.separation_kinds.specs.code_rules.Kinds.{at}
use Rattle.separation_kinds.specs.code_rules.Handing.{arguments}
use Rattle.separation_kinds.specs.code_rules.Flow.{is_as_asked, IsInstr, KnownAt}
use Rattle.separation_kinds.specs.Meanings.{AreMeant, owned_by, word_at, slots_of}

-- a frame that waits: the kinds, words and holdings of its registers
pub record Frozen : Type 0 where
  pub kinds : List Kind
  pub words : List ℕ
  pub holds : ℕ → Holding

abbrev pub frozen_slots : Frozen → List Slot
frozen_slots g = slots_of g.kinds (word_at g.words) g.holds

-- the trees below a frame that waits on top of these
abbrev pub lower_trees : List Frozen → List Placed → List Placed
lower_trees gs lent = trees_below (map frozen_slots gs) lent

-- A frame waits at a Call of a function with the results of the function above it.
pub record IsWaiting (c : PlainCode) (s : Store) (below : List Placed) (above : ℕ) (w : Frame) (g : Frozen) : Type 0
  where
    pub function : PlainFunction
    pub is : function_at c w.function ≡ Some function
    pub before : List Kind
    pub known : KnownAt c function w.at before
    pub callee : ℕ
    pub sources : List ℕ
    pub destinations : List ℕ
    pub instr : IsInstr function w.at (I.Call callee sources destinations)
    pub asked : is_as_asked c function w.at before (I.Call callee sources destinations) ≡ true
    pub left : arguments c false before callee sources ≡ Some g.kinds
    pub results : results c callee ≡ results c above
    pub wide : length g.kinds ≡ function.registers
    pub words : w.words ≡ g.words
    pub long : length g.words ≡ length g.kinds
    pub meant : AreMeant c.types s below (at g.kinds) (word_at g.words) g.holds

-- The frames that wait, under the one of function `above`; the last of them gives results of these types.
abbrev pub AreAllWaiting : PlainCode → Store → List Placed → List ℕ → ℕ → List Frame → List Frozen → Type 0
AreAllWaiting c s lent types above [] [] = results c above ≡ types
AreAllWaiting c s lent types above [] (g ∷ gs) = ⊥
AreAllWaiting c s lent types above (w ∷ ws) [] = ⊥
AreAllWaiting c s lent types above (w ∷ ws) (g ∷ gs) =
    IsWaiting c s (lower_trees gs lent) above w g × AreAllWaiting c s lent types w.function ws gs

-- A state of a run that gives results of these types, with these kept cells.
pub record IsAlive (c : PlainCode) (types kept : List ℕ) (s : State) : Type 0 where
  pub store : IsStore s.store
  pub function : PlainFunction
  pub is : function_at c s.running.function ≡ Some function
  pub kinds : List Kind
  pub known : KnownAt c function s.running.at kinds
  pub instr : Instr
  pub is_instr : IsInstr function s.running.at instr
  pub wide : length kinds ≡ function.registers
  pub long : length s.running.words ≡ length kinds
  pub holds : ℕ → Holding
  pub frozen : List Frozen
  pub lent : List Placed
  pub meant : AreMeant c.types s.store (lower_trees frozen lent) (at kinds) (word_at s.running.words) holds
  pub waiting : AreAllWaiting c s.store lent types s.running.function s.waiting frozen
  pub arguments : AreTrees c.types s.store s.lent lent
  pub once : (q : ℕ) → owned_by q (at kinds) holds (length kinds) + (frames_uses q (map frozen_slots frozen)
      + (trees_uses q lent + (count q kept + released_at s.store q))) ≡ there s.store q

-- The words that the entry gave stand for trees of these types, which with the borrowed arguments, the kept and the
-- released cells are all cells.
pub record IsGiven (c : PlainCode) (types kept : List ℕ) (s : State) (ws : List ℕ) : Type 0 where
  pub results : Parts
  pub words : ws ≡ words_of results
  pub stand : StandAll c.types s.store types results
  pub lent : List Placed
  pub arguments : AreTrees c.types s.store s.lent lent
  pub once : (q : ℕ) → uses_of_all q results + (trees_uses q lent + (count q kept + released_at s.store q))
      ≡ there s.store q

-- what comes after a state that is alive
abbrev pub IsGood : PlainCode → List ℕ → List ℕ → State → Next → Type 0
IsGood c types kept s (Went t) = IsAlive c types kept t
IsGood c types kept s (Entered t) = IsAlive c types kept t
IsGood c types kept s (Gave ws) = IsGiven c types kept s ws
IsGood c types kept s (Trapped kind line col) = Unit {0}
IsGood c types kept s TooDeep = Unit {0}
IsGood c types kept s Stuck = ⊥
