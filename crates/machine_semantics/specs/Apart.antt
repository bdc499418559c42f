-- Separation: the cells of a state are apart. Each cell is in one of these lists, and once: those of the trees of all
-- owned registers of all frames, the cells of credits, those of the trees of the entry's borrowed arguments, the kept
-- cells, which a run is given beside its own and never touches, and the released cells. What is borrowed lies in one of
-- these trees.
-- What is known of registers is their kinds: `before` at the instruction of the running frame, and `waits` at a Call
-- after its arguments were used up, for a frame that waits.
-- After Take 0 [2, 3] of Cons(1, Nil) in cell 0, register 0 is a credit of size 2 and holds cell 0; registers 2 and 3
-- hold the trees 1 and Nil, which have no cell.
use Rattle.std.specs.Prelude.{◌≡◌, ◌⊎◌, ℕ, ◌+◌, ◌≤◌, List, [], ◌∷◌, ◌++◌, Option, Some, None, length, map}
use Rattle.std.specs.Prelude.{slice_get, Contains}
use Rattle.cell_code.specs.fip_language.Table.{Table}
use Rattle.cell_code.specs.fip_language.Every.{Every}
use Rattle.cell_code.specs.fip_language.Store.{Cell, Placed, PlacedInt, Bare, At, uses, one_at}
use Rattle.cell_code.specs.fip_language.Store.{count}
use Rattle.cell_code.specs.declared.code.Instr.TheVariants as I
use Rattle.cell_code.specs.declared.kind.From.{From}
use Rattle.cell_code.specs.declared.kind.Kind.{Kind}
use Rattle.cell_code.specs.declared.kind.Kind.TheVariants as K
use Rattle.cell_code.specs.Plain.{PlainCode, function_at, results_of, results}
use Rattle.machine_semantics.specs.Codes.{instr_at}
use Rattle.machine_semantics.specs.Words.{place_word}
use Rattle.machine_semantics.specs.Cells.{Store, IsStore, cell_at, size_of, there, released_at}
use Rattle.machine_semantics.specs.Trees.{IsTree}
use Rattle.machine_semantics.specs.States.{Frame, Typed, State}
use Rattle.machine_semantics.specs.Rows.{named}
use Rattle.machine_semantics.specs.Steps.{Kinds}
pub use Rattle.machine_semantics.specs.Given.{AreSpare, IsGiven}

-- what a register holds
pub data Holding : Type 0 where
  -- nothing is said of its word
  Nothing : Holding
  -- a tree that lies in the store
  Tree : (x : Placed) → Holding
  -- a cell whose fields are no longer owned
  Spare : (place : ℕ) → Holding

-- a register: what is known of it, its word, and what it holds
pub record Slot : Type 0 where
  pub kind : Kind
  pub word : ℕ
  pub holds : Holding

-- The root's constructor is one of these.
abbrev pub RootIn : List ℕ → Holding → Type 0
RootIn cs Nothing = ⊥
RootIn cs (Tree (PlacedInt i)) = ⊥
RootIn cs (Tree (Bare c)) = Contains cs c
RootIn cs (Tree (At p c xs)) = Contains cs c
RootIn cs (Spare p) = ⊥

-- The word of type t stands for the tree that is held.
abbrev pub HoldsTree : Table → Store → ℕ → ℕ → Holding → Type 0
HoldsTree tb s t w Nothing = ⊥
HoldsTree tb s t w (Tree x) = IsTree tb s t w x
HoldsTree tb s t w (Spare p) = ⊥

-- The word names the cell that is held, which has this size.
abbrev pub HoldsSpare : Store → ℕ → ℕ → Holding → Type 0
HoldsSpare s k w Nothing = ⊥
HoldsSpare s k w (Tree x) = ⊥
HoldsSpare s k w (Spare p) = (place_word p ≡ w) × (c : Cell) × (cell_at s p ≡ Some c) × (size_of c ≡ k)

-- A register of this kind and word holds what it should.
abbrev pub Fits : Table → Store → Kind → ℕ → Holding → Type 0
Fits tb s K.Gone w h = Unit {0}
Fits tb s (K.Scalar t) w h = HoldsTree tb s t w h
Fits tb s (K.Owned t cs) w h = HoldsTree tb s t w h × RootIn cs h
Fits tb s (K.Lent t cs root from) w h = HoldsTree tb s t w h × RootIn cs h
Fits tb s (K.Credit k) w h = HoldsSpare s k w h

-- how often what is held has a cell at place q
abbrev pub holding_uses : ℕ → Holding → ℕ
holding_uses q Nothing = 0
holding_uses q (Tree x) = uses q x
holding_uses q (Spare p) = one_at q p

-- how often a register owns the cell at place q: only owned trees and credits own cells
abbrev pub owned_uses : ℕ → Kind → Holding → ℕ
owned_uses q K.Gone h = 0
owned_uses q (K.Scalar t) h = 0
owned_uses q (K.Owned t cs) h = holding_uses q h
owned_uses q (K.Lent t cs root from) h = 0
owned_uses q (K.Credit k) h = holding_uses q h

-- how often the registers of a frame own it
abbrev pub slots_uses : ℕ → List Slot → ℕ
slots_uses q [] = 0
slots_uses q (x ∷ xs) = owned_uses q x.kind x.holds + slots_uses q xs

-- how often those of several frames do
abbrev pub frames_uses : ℕ → List (List Slot) → ℕ
frames_uses q [] = 0
frames_uses q (xs ∷ xss) = slots_uses q xs + frames_uses q xss

abbrev pub trees_uses : ℕ → List Placed → ℕ
trees_uses q [] = 0
trees_uses q (x ∷ xs) = uses q x + trees_uses q xs

abbrev pub held_tree : Holding → List Placed
held_tree Nothing = []
held_tree (Tree x) = x ∷ []
held_tree (Spare p) = []

abbrev pub owned_tree : Kind → Holding → List Placed
owned_tree K.Gone h = []
owned_tree (K.Scalar t) h = []
owned_tree (K.Owned t cs) h = held_tree h
owned_tree (K.Lent t cs root from) h = []
owned_tree (K.Credit k) h = []

-- the trees that a frame owns
abbrev pub owned_trees : List Slot → List Placed
owned_trees [] = []
owned_trees (x ∷ xs) = owned_tree x.kind x.holds ++ owned_trees xs

-- the trees that these frames own, and the entry's borrowed arguments
abbrev pub trees_below : List (List Slot) → List Placed → List Placed
trees_below [] lent = lent
trees_below (xs ∷ xss) lent = owned_trees xs ++ trees_below xss lent

-- All cells of x are cells of y.
abbrev pub LiesWithin : Placed → Placed → Type 0
LiesWithin x y = (q : ℕ) → uses q x ≤ uses q y

-- The tree lies in one of these.
abbrev pub LiesIn : Placed → List Placed → Type 0
LiesIn x [] = ⊥
LiesIn x (y ∷ ys) = LiesWithin x y ⊎ LiesIn x ys

abbrev pub slot_trees : Option Slot → List Placed
slot_trees None = []
slot_trees (Some x) = owned_tree x.kind x.holds

-- A borrowed tree lies in that of its root, an owned register of the same frame; without one it lies in a tree below.
abbrev pub IsRooted : List Slot → List Placed → Option ℕ → Placed → Type 0
IsRooted slots below None x = LiesIn x below
IsRooted slots below (Some r) x = LiesIn x (slot_trees (slice_get slots r))

-- Its word is the field that it came from, where that is known.
abbrev pub IsFrom : Store → List Slot → Option From → ℕ → Type 0
IsFrom s slots None w = Unit {0}
IsFrom s slots (Some from) w = (x : Slot) × (slice_get slots from.register ≡ Some x) × (c : Cell)
    × (named s x.word ≡ Some c) × (slice_get c.fields from.field ≡ Some w)

abbrev pub IsLentTree : Store → List Slot → List Placed → Option ℕ → Option From → ℕ → Holding → Type 0
IsLentTree s slots below root from w Nothing = ⊥
IsLentTree s slots below root from w (Tree x) = IsRooted slots below root x × IsFrom s slots from w
IsLentTree s slots below root from w (Spare p) = ⊥

abbrev pub IsLentRight : Store → List Slot → List Placed → Kind → ℕ → Holding → Type 0
IsLentRight s slots below K.Gone w h = Unit {0}
IsLentRight s slots below (K.Scalar t) w h = Unit {0}
IsLentRight s slots below (K.Owned t cs) w h = Unit {0}
IsLentRight s slots below (K.Lent t cs root from) w h = IsLentTree s slots below root from w h
IsLentRight s slots below (K.Credit k) w h = Unit {0}

-- A frame with registers of these kinds, over these trees below it.
pub record IsFrame (tb : Table) (s : Store) (ks : List Kind) (below : List Placed) (f : Frame) (slots : List Slot) :
    Type 0 where
  pub kinds : map (λ x. x.kind) slots ≡ ks
  pub words : map (λ x. x.word) slots ≡ f.words
  pub fits : Every (λ x. Fits tb s x.kind x.word x.holds) slots
  pub lent : Every (λ x. IsLentRight s slots below x.kind x.word x.holds) slots

-- The frames that wait.
abbrev pub AreFrames : Table → Store → Kinds → List Placed → List Frame → List (List Slot) → Type 0
AreFrames tb s waits lent [] [] = Unit {0}
AreFrames tb s waits lent [] (xs ∷ xss) = ⊥
AreFrames tb s waits lent (f ∷ fs) [] = ⊥
AreFrames tb s waits lent (f ∷ fs) (xs ∷ xss) =
    IsFrame tb s (waits f.function f.at) (trees_below xss lent) f xs × AreFrames tb s waits lent fs xss

-- Each frame that waits does so at a Call of a function whose results have number and types of those of the function of
-- the frame above it.
abbrev pub AreWaiting : PlainCode → ℕ → List Frame → Type 0
AreWaiting code above [] = Unit {0}
AreWaiting code above (w ∷ ws) = (f : ℕ) × (ss : List ℕ) × (ds : List ℕ)
    × (instr_at code w.function w.at ≡ Some (I.Call f ss ds)) × (results code f ≡ results code above)
    × AreWaiting code w.function ws

-- The words stand for these trees.
abbrev pub AreTrees : Table → Store → List Typed → List Placed → Type 0
AreTrees tb s [] [] = Unit {0}
AreTrees tb s [] (x ∷ xs) = ⊥
AreTrees tb s (t ∷ ts) [] = ⊥
AreTrees tb s (t ∷ ts) (x ∷ xs) = IsTree tb s t.type t.word x × AreTrees tb s ts xs

-- The state's cells are apart, with these kept cells.
pub record Apart (before waits : Kinds) (code : PlainCode) (kept : List ℕ) (s : State) : Type 0 where
  pub store : IsStore s.store
  pub slots : List Slot
  pub below : List (List Slot)
  pub lent : List Placed
  pub running : IsFrame code.types s.store (before s.running.function s.running.at) (trees_below below lent) s.running
      slots
  pub waiting : AreFrames code.types s.store waits lent s.waiting below
  pub calls : AreWaiting code s.running.function s.waiting
  pub arguments : AreTrees code.types s.store s.lent lent
  pub once : (q : ℕ) → slots_uses q slots + (frames_uses q below + (trees_uses q lent + (count q kept
      + released_at s.store q))) ≡ there s.store q

-- the words of the entry's results, with their types
abbrev pub typed : List ℕ → List ℕ → List Typed
typed [] ws = []
typed (t ∷ ts) [] = []
typed (t ∷ ts) (w ∷ ws) = record { type = t; word = w } ∷ typed ts ws

-- A run of function f gave these words, from this last state: they stand for trees that are apart from the borrowed
-- arguments, the kept and the released cells, and together these are all cells.
pub record GivesApart (code : PlainCode) (f : ℕ) (kept : List ℕ) (s : State) (ws : List ℕ) : Type 0 where
  pub number : length ws ≡ length (results_of (function_at code f))
  pub results : List Placed
  pub lent : List Placed
  pub stand : AreTrees code.types s.store (typed (results_of (function_at code f)) ws) results
  pub arguments : AreTrees code.types s.store s.lent lent
  pub once : (q : ℕ) → trees_uses q results + (trees_uses q lent + (count q kept + released_at s.store q))
      ≡ there s.store q
