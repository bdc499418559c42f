-- For the theorem on schedules: after every schedule each task is, up to the places of its cells, where it would be
-- alone; and no turn of one task changes a cell of another.
--
-- The places of a task's own cells, in the store that it would have alone, are renamed to places of the shared store;
-- the renaming keeps their order, and gives no place to two tasks. A word that stands for a scalar is the same, and one
-- that stands for a tree stands for the same tree at the renamed places, alone as among others. Of a register that
-- holds nothing, and of a cell that no tree has, no more is said than that its words are the same or renamed.
--
-- Where task 1 has its one cell at 0 alone and at 3 in the shared store, after that of task 0, its word 1 is 7 there.
use Rattle.std.specs.Prelude.{◌≡◌, ◌≢◌, ◌⊎◌, ℕ, zero, suc, ◌+◌, ◌/◌, ◌<◌, nat_eq, List, [], ◌∷◌, Option, Some, None}
use Rattle.std.specs.Prelude.{length, slice_get, if◌then◌else◌}
use Rattle.run_loading.specs.fip_language.Table.{Table}
use Rattle.run_loading.specs.fip_language.Store.{Cell, Placed, PlacedInt, Bare, At, Parts, NoParts, MoreParts}
use Rattle.run_loading.specs.cell_code.declared.kind.Kind.{Kind}
use Rattle.run_loading.specs.cell_code.declared.kind.Kind.TheVariants as K
use Rattle.run_loading.specs.cell_code.Plain.{PlainCode, results}
use Rattle.run_loading.specs.machine_semantics.Words.{is_place, place_word}
use Rattle.run_loading.specs.machine_semantics.Cells.{Store, IsStore, size_of, cell_at, released_at, count_held}
use Rattle.run_loading.specs.machine_semantics.Trees.{IsTree}
use Rattle.run_loading.specs.machine_semantics.States.{Frame, Typed, State, frames_held, words_held}
use Rattle.run_loading.specs.machine_semantics.Steps.{Kinds}
use Rattle.run_loading.specs.machine_semantics.Runs.{End, Value, Trap, Out, Deep, Run, Going, Over, begun, state_of}
use Rattle.run_loading.specs.separation.Starts.{IsStart}
use Rattle.task_semantics.specs.Schedules.{Shared, turn, scheduled, alone, in_store}

abbrev pub Renaming : Type 0
Renaming = ℕ → ℕ

-- a word that may name a cell
abbrev pub renamed_word : Renaming → ℕ → ℕ
renamed_word f w = if is_place w then place_word (f (w / 2)) else w

abbrev mutual
  pub renamed : Renaming → Placed → Placed
  renamed f (PlacedInt i) = PlacedInt i
  renamed f (Bare c) = Bare c
  renamed f (At p c xs) = At (f p) c (renamed_parts f xs)

  pub renamed_parts : Renaming → Parts → Parts
  renamed_parts f NoParts = NoParts
  renamed_parts f (MoreParts x xs) = MoreParts (renamed f x) (renamed_parts f xs)

-- a cell begins at this place
abbrev pub IsThere : Store → ℕ → Type 0
IsThere s p = cell_at s p ≢ None

-- the same word, or renamed
abbrev pub IsLikeWord : Renaming → ℕ → ℕ → Type 0
IsLikeWord f w v = (v ≡ w) ⊎ (v ≡ renamed_word f w)

abbrev pub AreLikeWords : Renaming → List ℕ → List ℕ → Type 0
AreLikeWords f [] [] = Unit {0}
AreLikeWords f (w ∷ ws) (v ∷ vs) = IsLikeWord f w v × AreLikeWords f ws vs
AreLikeWords f ws vs = ⊥

-- the same constructor, and as many words, each the same or renamed
abbrev pub IsLikeCell : Renaming → Option Cell → Option Cell → Type 0
IsLikeCell f (Some a) (Some b) = (b.tag ≡ a.tag) × AreLikeWords f a.fields b.fields
IsLikeCell f a b = ⊥

-- the task's own cells in the shared store: in the same order, with like words, and released where they are
pub record AreRenamed (f : Renaming) (own shared : Store) : Type 0 where
  pub rises : (p q : ℕ) → IsThere own p → IsThere own q → p < q → f p < f q
  pub cells : (p : ℕ) → IsThere own p → IsLikeCell f (cell_at own p) (cell_at shared (f p))
  pub released : (p : ℕ) → IsThere own p → released_at shared (f p) ≡ released_at own p

-- the own word w stands for a tree of type t, and the shared word v for the renamed tree
pub record IsRenamedTree (tb : Table) (f : Renaming) (own shared : Store) (t w v : ℕ) : Type 0 where
  pub tree : Placed
  pub alone : IsTree tb own t w tree
  pub among : IsTree tb shared t v (renamed f tree)

-- a register's words, by what is known of it
abbrev pub IsRenamedWord : Table → Renaming → Store → Store → Kind → ℕ → ℕ → Type 0
IsRenamedWord tb f own shared K.Gone w v = IsLikeWord f w v
IsRenamedWord tb f own shared (K.Scalar t) w v = v ≡ w
IsRenamedWord tb f own shared (K.Owned t cs) w v = IsRenamedTree tb f own shared t w v
IsRenamedWord tb f own shared (K.Lent t cs root from) w v = IsRenamedTree tb f own shared t w v
IsRenamedWord tb f own shared (K.Credit k) w v = v ≡ renamed_word f w

abbrev pub AreRenamedWords : Table → Renaming → Store → Store → List Kind → List ℕ → List ℕ → Type 0
AreRenamedWords tb f own shared [] [] [] = Unit {0}
AreRenamedWords tb f own shared (k ∷ ks) (w ∷ ws) (v ∷ vs) =
    IsRenamedWord tb f own shared k w v × AreRenamedWords tb f own shared ks ws vs
AreRenamedWords tb f own shared ks ws vs = ⊥

-- a frame with these kinds
pub record IsRenamedFrame (tb : Table) (f : Renaming) (own shared : Store) (ks : List Kind) (a b : Frame) : Type 0 where
  pub function : b.function ≡ a.function
  pub at : b.at ≡ a.at
  pub words : AreRenamedWords tb f own shared ks a.words b.words

abbrev pub AreRenamedFrames : Table → Renaming → Store → Store → Kinds → List Frame → List Frame → Type 0
AreRenamedFrames tb f own shared waits [] [] = Unit {0}
AreRenamedFrames tb f own shared waits (a ∷ as') (b ∷ bs) =
    IsRenamedFrame tb f own shared (waits a.function a.at) a b × AreRenamedFrames tb f own shared waits as' bs
AreRenamedFrames tb f own shared waits as' bs = ⊥

-- the entry's borrowed arguments
abbrev pub AreRenamedArguments : Table → Renaming → Store → Store → List Typed → List Typed → Type 0
AreRenamedArguments tb f own shared [] [] = Unit {0}
AreRenamedArguments tb f own shared (a ∷ as') (b ∷ bs) = (b.type ≡ a.type)
    × IsRenamedTree tb f own shared a.type a.word b.word × AreRenamedArguments tb f own shared as' bs
AreRenamedArguments tb f own shared as' bs = ⊥

-- the state of a task among others, b, is that of the task alone, a; the kinds are those before each instruction, and
-- those that wait
pub record IsProjected (before waits : Kinds) (code : PlainCode) (f : Renaming) (a b : State) : Type 0 where
  pub cells : AreRenamed f a.store b.store
  pub running : IsRenamedFrame code.types f a.store b.store (before a.running.function a.running.at) a.running b.running
  pub waiting : AreRenamedFrames code.types f a.store b.store waits a.waiting b.waiting
  pub free : b.free ≡ a.free
  pub lent : AreRenamedArguments code.types f a.store b.store a.lent b.lent

-- values of these types that words stand for
abbrev pub AreRenamedTrees : Table → Renaming → Store → Store → List ℕ → List ℕ → List ℕ → Type 0
AreRenamedTrees tb f own shared [] [] [] = Unit {0}
AreRenamedTrees tb f own shared (t ∷ ts) (w ∷ ws) (v ∷ vs) =
    IsRenamedTree tb f own shared t w v × AreRenamedTrees tb f own shared ts ws vs
AreRenamedTrees tb f own shared ts ws vs = ⊥

-- the same end of a run of function n: its results are the same values, at their places
abbrev pub IsSameEnd : PlainCode → ℕ → Renaming → Store → Store → End → End → Type 0
IsSameEnd code n f own shared (Value ws) (Value vs) = AreRenamedTrees code.types f own shared (results code n) ws vs
IsSameEnd code n f own shared (Trap k line col) (Trap k' line' col') = (k ≡ k') × (line ≡ line') × (col ≡ col')
IsSameEnd code n f own shared Out Out = Unit {0}
IsSameEnd code n f own shared Deep Deep = Unit {0}
IsSameEnd code n f own shared a b = ⊥

-- the run of a task among others, b, is that of the task alone, a
abbrev pub IsSameRun : Kinds → Kinds → PlainCode → ℕ → Renaming → Run → Run → Type 0
IsSameRun before waits code n f (Going s left steps) (Going t left' steps') =
    IsProjected before waits code f s t × (left ≡ left') × (steps ≡ steps')
IsSameRun before waits code n f (Over e s left steps) (Over e' t left' steps') =
    IsSameEnd code n f s.store t.store e e' × IsProjected before waits code f s t × (left ≡ left') × (steps ≡ steps')
IsSameRun before waits code n f a b = ⊥

-- how a task begins alone: the function, its state in a store of its own cells, its calls, and where its cells are in
-- the shared store
pub record Begun : Type 0 where
  pub function : ℕ
  pub state : State
  pub calls : ℕ
  pub places : Renaming

-- No place of the shared store is one of two tasks.
abbrev pub AreApart : List Begun → Type 0
AreApart ts = (i j p q : ℕ) (a b : Begun) → slice_get ts i ≡ Some a → slice_get ts j ≡ Some b → i ≢ j →
    IsThere a.state.store p → IsThere b.state.store q → a.places p ≢ b.places q

-- The tasks begin together: each run is that of its task alone, at the task's places, which are no other task's.
pub record BeginTogether (before waits : Kinds) (code : PlainCode) (tasks : List Begun) (first : Shared) : Type 0 where
  pub store : IsStore first.store
  pub apart : AreApart tasks
  pub number : length first.runs ≡ length tasks
  pub same : (k : ℕ) (t : Begun) (r : Run) → slice_get tasks k ≡ Some t → slice_get first.runs k ≡ Some r →
      IsSameRun before waits code t.function t.places (begun t.state t.calls) (in_store first.store r)

-- Each task begins alone in a state that is loaded: the code is sound, these are its kinds, the words that the function
-- is given stand for arguments and credits that are apart, and of the store's other cells none is unreleased.
abbrev pub AreLoaded : Kinds → Kinds → PlainCode → List Begun → Type 0
AreLoaded before waits code tasks =
    (k : ℕ) (t : Begun) → slice_get tasks k ≡ Some t → IsStart code before waits t.function [] t.state

-- Loaded tasks that begin together end each in what it ends in alone, whatever the schedule is.
abbrev pub EachIsAlone : Kinds → Kinds → PlainCode → Type 0
EachIsAlone before waits code = (tasks : List Begun) (first : Shared) → AreLoaded before waits code tasks →
    BeginTogether before waits code tasks first →
    (schedule : List ℕ) (k : ℕ) (t : Begun) (r : Run) → slice_get tasks k ≡ Some t →
    slice_get (scheduled before code schedule first).runs k ≡ Some r →
    IsSameRun before waits code t.function t.places
    (alone before code k schedule (begun t.state t.calls))
    (in_store (scheduled before code schedule first).store r)

-- what is at a place of the store: a cell, and whether it is released
abbrev pub IsSameAt : Store → Store → ℕ → Type 0
IsSameAt s t p = (cell_at s p ≡ cell_at t p) × (released_at s p ≡ released_at t p)

-- After every schedule a turn of task k changes no cell of task j.
abbrev pub EachKeepsItsCells : Kinds → Kinds → PlainCode → Type 0
EachKeepsItsCells before waits code = (tasks : List Begun) (first : Shared) → AreLoaded before waits code tasks →
    BeginTogether before waits code tasks first →
    (schedule : List ℕ) (j k p : ℕ) (t : Begun) → slice_get tasks j ≡ Some t → j ≢ k → IsThere t.state.store p →
    IsSameAt (turn before code (scheduled before code schedule first) k).store
    (scheduled before code schedule first).store (t.places p)

-- ---- what is seen of a task

-- 1 for a cell of size k that isn't released
abbrev pub one_among : ℕ → Option Cell → ℕ → ℕ
one_among k None r = 0
one_among k (Some c) zero = if nat_eq k (size_of c) then 1 else 0
one_among k (Some c) (suc r) = 0

abbrev pub held_among_from : ℕ → Renaming → Store → ℕ → List (Option Cell) → ℕ
held_among_from k f shared p [] = 0
held_among_from k f shared p (None ∷ os) = held_among_from k f shared (suc p) os
held_among_from k f shared p (Some c ∷ os) =
    one_among k (cell_at shared (f p)) (released_at shared (f p)) + held_among_from k f shared (suc p) os

-- how many of a task's own cells are of size k, and not released in the shared store
abbrev pub held_among : ℕ → Renaming → Store → Store → ℕ
held_among k f own shared = held_among_from k f shared 0 own.cells

-- as much is seen of a task's state b among others as of its state a alone
pub record IsSeenAs (f : Renaming) (shared : Store) (a b : State) : Type 0 where
  pub held : (k : ℕ) → held_among k f a.store shared ≡ count_held k a.store
  pub frames : frames_held b ≡ frames_held a
  pub words : words_held b ≡ words_held a

-- After every schedule as much is seen of each task as of it alone. So its gauge, which reports of all its states, is
-- that of the task alone.
abbrev pub EachIsSeenAsAlone : Kinds → Kinds → PlainCode → Type 0
EachIsSeenAsAlone before waits code = (tasks : List Begun) (first : Shared) → AreLoaded before waits code tasks →
    BeginTogether before waits code tasks first →
    (schedule : List ℕ) (k : ℕ) (t : Begun) (r : Run) → slice_get tasks k ≡ Some t →
    slice_get (scheduled before code schedule first).runs k ≡ Some r →
    IsSeenAs t.places (scheduled before code schedule first).store
    (state_of (alone before code k schedule (begun t.state t.calls))) (state_of r)
