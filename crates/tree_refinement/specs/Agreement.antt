-- A state on cells and a state on trees are the same where they have the same function, instruction and free frames,
-- frame by frame, and each register whose kind says that its word stands for a tree holds the value of this tree on the
-- other side. A register that is a credit or Gone may hold anything there.
--
-- With Cons(1, Nil) in cell 0 and register 0 owned: its word is 1, and on trees it holds Cons(1, Nil). After a Take the
-- register is a credit, and on trees it holds Cons(1, Nil) still.
use Rattle.std.specs.Prelude.{◌≡◌, ℕ, List, [], ◌∷◌, Option, Some, None}
use Rattle.tree_semantics.specs.fip_language.Values.{Value}
use Rattle.tree_semantics.specs.fip_language.Table.{Table}
use Rattle.tree_semantics.specs.fip_language.Store.{Placed, value_of}
use Rattle.separation_bounds.specs.cell_code.declared.kind.Kind.{Kind}
use Rattle.separation_bounds.specs.cell_code.declared.kind.Kind.TheVariants.{Gone, Scalar, Owned, Lent, Credit}
use Rattle.tree_semantics.specs.machine_semantics.Cells.{Store}
use Rattle.tree_semantics.specs.machine_semantics.Trees.{IsTree}
use Rattle.tree_semantics.specs.machine_semantics.Steps.{Kinds}
use Rattle.tree_semantics.specs.machine_semantics.States.{Frame, State, Next, Went, Entered, Gave, Trapped, TooDeep}
use Rattle.tree_semantics.specs.Contents.{Contents}
use Rattle.tree_semantics.specs.States as T
use Rattle.separation_bounds.specs.code_rules.Kinds.{at}
use Rattle.separation_bounds.specs.separation_kinds.Meanings.{word_at}
pub use Rattle.tree_refinement.specs.Endings.{AreWordsOf}

-- The word of this type stands for the value.
abbrev pub IsWordOf : Table → Store → ℕ → ℕ → Value → Type 0
IsWordOf tb s t w v = (x : Placed) × IsTree tb s t w x × (value_of x ≡ v)

-- the type of the tree that a register of this kind stands for
abbrev pub type_in : Kind → Option ℕ
type_in Gone = None
type_in (Scalar t) = Some t
type_in (Owned t cs) = Some t
type_in (Lent t cs root from) = Some t
type_in (Credit n) = None

-- The word stands for the value, where it has a type.
abbrev pub Shows : Table → Store → Option ℕ → ℕ → Value → Type 0
Shows tb s None w v = Unit {0}
Shows tb s (Some t) w v = IsWordOf tb s t w v

-- Each register of these kinds and words stands for what it holds on trees.
pub record AreShown (tb : Table) (s : Store) (ks : ℕ → Kind) (ws : ℕ → ℕ) (cs : Contents) : Type 0 where
  pub each : (r : ℕ) → Shows tb s (type_in (ks r)) (ws r) (cs r)

-- The frames are the same, where the registers have these kinds.
pub record IsSameFrame (tb : Table) (s : Store) (ks : List Kind) (f : Frame) (g : T.Frame) : Type 0 where
  pub shown : AreShown tb s (at ks) (word_at f.words) g.contents
  pub function : f.function ≡ g.function
  pub instr : f.at ≡ g.at

-- The frames that wait are the same.
abbrev pub AreSameFrames : Table → Store → Kinds → List Frame → List T.Frame → Type 0
AreSameFrames tb s waits [] [] = Unit {0}
AreSameFrames tb s waits [] (g ∷ gs) = ⊥
AreSameFrames tb s waits (f ∷ fs) [] = ⊥
AreSameFrames tb s waits (f ∷ fs) (g ∷ gs) =
    IsSameFrame tb s (waits f.function f.at) f g × AreSameFrames tb s waits fs gs

-- The states are the same, where registers have these kinds before an instruction and at a Call that waits.
pub record IsSame (tb : Table) (before waits : Kinds) (s : State) (t : T.State) : Type 0 where
  pub running : IsSameFrame tb s.store (before s.running.function s.running.at) s.running t.running
  pub waiting : AreSameFrames tb s.store waits s.waiting t.waiting
  pub free : s.free ≡ t.free

-- What comes after state s, which gives results of these types, is the same as what comes on trees.
abbrev pub IsSameNext : Table → Kinds → Kinds → List ℕ → State → Next → T.Next → Type 0
IsSameNext tb before waits types s (Went u) (T.Went t) = IsSame tb before waits u t
IsSameNext tb before waits types s (Entered u) (T.Entered t) = IsSame tb before waits u t
IsSameNext tb before waits types s (Gave ws) (T.Gave vs) = AreWordsOf tb s.store types ws vs
IsSameNext tb before waits types s (Trapped k line col) (T.Trapped l row at) = (k ≡ l) × (line ≡ row) × (col ≡ at)
IsSameNext tb before waits types s TooDeep T.TooDeep = Unit {0}
IsSameNext tb before waits types s x y = ⊥
