-- It serves the proof that sound code keeps its cells apart: what the kinds of a frame's registers say of their words
-- and of the trees that these stand for, in a form that each instruction keeps. Beside what `Apart` says of a frame, a
-- scalar has no cell; a borrowed register's tree is the part of the tree of the register that it came from; and that
-- one has the same root.
--
-- With Cons(1, Nil) in cell 0 owned by register 0, and register 1 read as its field 1: register 1 holds Nil, which is
-- part 1 of the tree of register 0, its root.
use Rattle.std.specs.Prelude.{◌≡◌, ℕ, zero, suc, ◌+◌, true, List, Option, Some, None, slice_index_or, length, map}
use Rattle.machine_semantics.specs.fip_language.Table.{Table}
use Rattle.machine_semantics.specs.fip_language.Store.{Cell, Placed, PlacedInt, Bare, At, Parts, NoParts, MoreParts, uses}
use Rattle.machine_semantics.specs.cell_code.declared.kind.From.{From}
use Rattle.machine_semantics.specs.cell_code.declared.kind.Kind.{Kind}
use Rattle.machine_semantics.specs.cell_code.declared.kind.Kind.TheVariants.{Gone, Scalar, Owned, Lent, Credit}
use Rattle.machine_semantics.specs.Words.{place_word}
use Rattle.machine_semantics.specs.Cells.{Store, cell_at, size_of}
use Rattle.machine_semantics.specs.Trees.{IsTree}
use Rattle.machine_semantics.specs.Apart.{Holding, Tree, Spare, RootIn, LiesWithin, LiesIn, owned_uses, Slot}
use Rattle.code_rules.specs.Types.{numbers}
use Rattle.code_rules.specs.Kinds.{is_owned, at}

abbrev pub part_in : Parts → ℕ → Option Placed
part_in NoParts i = None
part_in (MoreParts x xs) zero = Some x
part_in (MoreParts x xs) (suc i) = part_in xs i

-- part i of a tree
abbrev pub part_of : Placed → ℕ → Option Placed
part_of (PlacedInt n) i = None
part_of (Bare c) i = None
part_of (At p c xs) i = part_in xs i

-- Register r owns a tree, and x lies in it.
pub record Under (ks : ℕ → Kind) (hs : ℕ → Holding) (r : ℕ) (x : Placed) : Type 0 where
  pub owned : is_owned (ks r) ≡ true
  pub tree : Placed
  pub holds : hs r ≡ Tree tree
  pub within : LiesWithin x tree

-- Register r, of this kind, owns a tree or borrows one, and this is its root.
abbrev pub Roots : ℕ → Kind → Option ℕ → Type 0
Roots r Gone root = ⊥
Roots r (Scalar t) root = ⊥
Roots r (Owned t cs) root = Some r ≡ root
Roots r (Lent t cs o from) root = o ≡ root
Roots r (Credit k) root = ⊥

-- The tree is the part that its from names, of a tree with the same root.
pub record IsPart (ks : ℕ → Kind) (hs : ℕ → Holding) (root : Option ℕ) (from : From) (x : Placed) : Type 0 where
  pub tree : Placed
  pub holds : hs from.register ≡ Tree tree
  pub part : part_of tree from.field ≡ Some x
  pub roots : Roots from.register (ks from.register) root

abbrev pub Rooted : List Placed → (ℕ → Kind) → (ℕ → Holding) → Option ℕ → Placed → Type 0
Rooted below ks hs None x = LiesIn x below
Rooted below ks hs (Some r) x = Under ks hs r x

abbrev pub Framed : (ℕ → Kind) → (ℕ → Holding) → Option ℕ → Option From → Placed → Type 0
Framed ks hs root None x = Unit {0}
Framed ks hs root (Some from) x = IsPart ks hs root from x

-- a value of a scalar type
pub record IsPlain (tb : Table) (s : Store) (t w : ℕ) (h : Holding) : Type 0 where
  pub tree : Placed
  pub holds : h ≡ Tree tree
  pub is : IsTree tb s t w tree
  pub bare : (q : ℕ) → uses q tree ≡ 0

-- a tree whose root has one of these constructors
pub record IsRooted (tb : Table) (s : Store) (t : ℕ) (cs : List ℕ) (w : ℕ) (h : Holding) : Type 0 where
  pub tree : Placed
  pub holds : h ≡ Tree tree
  pub is : IsTree tb s t w tree
  pub top : RootIn cs (Tree tree)

-- a tree that is borrowed
pub record IsSeen (tb : Table) (s : Store) (below : List Placed) (ks : ℕ → Kind) (hs : ℕ → Holding) (t : ℕ)
    (cs : List ℕ) (root : Option ℕ) (from : Option From) (w : ℕ) (h : Holding) : Type 0 where
  pub tree : Placed
  pub holds : h ≡ Tree tree
  pub is : IsTree tb s t w tree
  pub top : RootIn cs (Tree tree)
  pub rooted : Rooted below ks hs root tree
  pub framed : Framed ks hs root from tree

-- a cell of this size whose fields are no longer owned
pub record IsSpare (s : Store) (k w : ℕ) (h : Holding) : Type 0 where
  pub place : ℕ
  pub holds : h ≡ Spare place
  pub word : place_word place ≡ w
  pub cell : Cell
  pub there : cell_at s place ≡ Some cell
  pub size : size_of cell ≡ k

-- what a register of this kind has, among registers of these kinds that hold these things
abbrev pub Means : Table → Store → List Placed → (ℕ → Kind) → (ℕ → Holding) → Kind → ℕ → Holding → Type 0
Means tb s below ks hs Gone w h = Unit {0}
Means tb s below ks hs (Scalar t) w h = IsPlain tb s t w h
Means tb s below ks hs (Owned t cs) w h = IsRooted tb s t cs w h
Means tb s below ks hs (Lent t cs root from) w h = IsSeen tb s below ks hs t cs root from w h
Means tb s below ks hs (Credit k) w h = IsSpare s k w h

-- Each register has what its kind says. After the last one all are Gone.
pub record AreMeant (tb : Table) (s : Store) (below : List Placed) (ks : ℕ → Kind) (ws : ℕ → ℕ) (hs : ℕ → Holding) :
    Type 0 where
  pub each : (r : ℕ) → Means tb s below ks hs (ks r) (ws r) (hs r)

-- f of n numbers from i on, added up
abbrev pub sum_from : (ℕ → ℕ) → ℕ → ℕ → ℕ
sum_from f i zero = 0
sum_from f i (suc n) = f i + sum_from f (suc i) n

-- how often the first n registers own the cell at place q
abbrev pub owned_by : ℕ → (ℕ → Kind) → (ℕ → Holding) → ℕ → ℕ
owned_by q ks hs n = sum_from (λ r. owned_uses q (ks r) (hs r)) 0 n

-- the word of register r; 0 after the last one
abbrev pub word_at : List ℕ → ℕ → ℕ
word_at ws r = slice_index_or ws r 0

-- register r of these kinds and words
abbrev pub slot_of : List Kind → (ℕ → ℕ) → (ℕ → Holding) → ℕ → Slot
slot_of ks ws hs r = record { kind = at ks r; word = ws r; holds = hs r }

-- all of them
abbrev pub slots_of : List Kind → (ℕ → ℕ) → (ℕ → Holding) → List Slot
slots_of ks ws hs = map (slot_of ks ws hs) (numbers 0 (length ks))
