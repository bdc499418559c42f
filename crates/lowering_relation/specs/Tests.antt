-- It serves the proof that lowered code is sound: the instructions that choose the clause of a match, as lowering
-- writes them. Where the first clause that isn't ruled out asks for something, this is tested, after the positions
-- above it were read; where no value fails the test, it isn't written. Where a clause is chosen, its cells are taken
-- apart, or what it names is read, and the code goes to its body. What fails a test goes on at a label with the next
-- tests.
use Rattle.std.specs.Prelude.{◌≡◌, ◌⊎◌, ◌<◌, ℕ, zero, suc, Bool, true, false, List, [], ◌∷◌, ◌++◌, Some, slice_get}
use Rattle.std.specs.Prelude.{is_some}
use Rattle.code_rules.specs.cell_code.declared.code.Instr.TheVariants as I
use Rattle.code_rules.specs.cell_code.declared.kind.Kind.{Kind}
use Rattle.credit_check.specs.fip_trees.Tree.{Pattern, BinderPattern, LiteralPattern, ConstructorPattern, Patterns, NoPatterns}
use Rattle.credit_check.specs.fip_trees.Tree.{MorePatterns}
use Rattle.code_rules.specs.cell_code.Plain.{PlainFunction, PlainCode}
use Rattle.code_rules.specs.Codes.{label_at}
use Rattle.match_knowledge.specs.declared.verdicts.Verdict.TheVariants.{Fits, Asks}
use Rattle.match_knowledge.specs.Patterns as M
use Rattle.match_knowledge.specs.Known.{Known, Open, Is, Knowns, NoKnowns, MoreKnowns, compare, is_asks, side, is_last}
use Rattle.lowering_relation.specs.Spots.{Spot, At, Spots, NoSpots, MoreSpots, register}
use Rattle.lowering_relation.specs.Rows.{row_of}
use Rattle.lowering_relation.specs.Reading.{contains, Asked, asked}
use Rattle.lowering_relation.specs.Opening.{as_many, names_any}
use Rattle.lowering_relation.specs.Landing.{test_of}
use Rattle.lowering_relation.specs.Describing.{Holding}
use Rattle.lowering_relation.specs.Labels.{Catches, Quiet}
use Rattle.lowering_relation.specs.Sights.{Sight}

-- what tests are written of: the type of the scrutinee, its position and those below it, whether its cells are taken
-- apart, the clauses' patterns, and where the bodies of the clauses begin
pub record Choice : Type 0 where
  pub type : ℕ
  pub root : Spot
  pub takes : Bool
  pub patterns : List Pattern
  pub entries : List ℕ

-- field i of the cell of register r is read into d, unless it was read before
abbrev pub ReadOne : PlainFunction → ℕ → ℕ → ℕ → ℕ → List ℕ → ℕ → List ℕ → Type 0
ReadOne f at r i d read mid more =
    ((contains d read ≡ true) × (mid ≡ at) × (more ≡ read))
    ⊎ ((contains d read ≡ false) × (slice_get f.instrs at ≡ Some (I.Peek d r i)) × (mid ≡ suc at)
    × (more ≡ read ++ d ∷ []))

-- the position that a pattern asks for first is read, and those above it before
abbrev mutual
  pub ReadsLaid : PlainFunction → ℕ → M.Pattern → Known → Spot → List ℕ → ℕ → List ℕ → Type 0
  ReadsLaid f at M.Any k s read end more = (end ≡ at) × (more ≡ read)
  ReadsLaid f at (M.Test t h ps) (Open out) s read end more = (end ≡ at) × (more ≡ read)
  ReadsLaid f at (M.Test t h ps) (Is g ks) (At r fs) read end more = ReadsFirst f at ps ks fs r 0 read end more

  pub ReadsFirst : PlainFunction → ℕ → M.Patterns → Knowns → Spots → ℕ → ℕ → List ℕ → ℕ → List ℕ → Type 0
  ReadsFirst f at M.NoPatterns ks ss r i read end more = (end ≡ at) × (more ≡ read)
  ReadsFirst f at (M.MorePatterns p ps) NoKnowns ss r i read end more = (end ≡ at) × (more ≡ read)
  ReadsFirst f at (M.MorePatterns p ps) (MoreKnowns k ks) NoSpots r i read end more = (end ≡ at) × (more ≡ read)
  ReadsFirst f at (M.MorePatterns p ps) (MoreKnowns k ks) (MoreSpots s ss) r i read end more =
      ((is_asks (compare p k) ≡ true) × (mid : ℕ) × (one : List ℕ) × ReadOne f at r i (register s) read mid one
      × ReadsLaid f mid p k s one end more)
      ⊎ ((is_asks (compare p k) ≡ false) × ReadsFirst f at ps ks ss r (suc i) read end more)

-- a pattern of a clause asks for more
pub record Asking (ch : Choice) (k : Known) (p : M.Pattern) : Type 0 where
  pub number : ℕ
  pub pattern : Pattern
  pub there : slice_get ch.patterns number ≡ Some pattern
  pub same : p ≡ row_of pattern
  pub asks : compare p k ≡ Asks

-- cells are taken apart, from the root on; one without fields stays for its clause
abbrev pub TakeLaid : PlainFunction → ℕ → ℕ → Patterns → Spots → ℕ → Type 0
TakeLaid f at r NoPatterns ss mid = mid ≡ at
TakeLaid f at r (MorePatterns p ps) ss mid =
    (slice_get f.instrs at ≡ Some (I.Take r (as_many (MorePatterns p ps) ss))) × (mid ≡ suc at)

abbrev mutual
  pub TakesLaid : PlainFunction → ℕ → Pattern → Spot → ℕ → Type 0
  TakesLaid f at (BinderPattern b) s end = end ≡ at
  TakesLaid f at (LiteralPattern i p) s end = end ≡ at
  TakesLaid f at (ConstructorPattern t d n m p ps) (At r fs) end =
      (mid : ℕ) × TakeLaid f at r ps fs mid × TakeAll f mid ps fs end

  pub TakeAll : PlainFunction → ℕ → Patterns → Spots → ℕ → Type 0
  TakeAll f at NoPatterns ss end = end ≡ at
  TakeAll f at (MorePatterns p ps) NoSpots end = end ≡ at
  TakeAll f at (MorePatterns p ps) (MoreSpots s ss) end =
      (mid : ℕ) × TakesLaid f at p s mid × TakeAll f mid ps ss end

-- what a pattern names is read
abbrev mutual
  pub NamesLaid : PlainFunction → ℕ → Pattern → Spot → List ℕ → ℕ → List ℕ → Type 0
  NamesLaid f at (BinderPattern b) s read end more = (end ≡ at) × (more ≡ read)
  NamesLaid f at (LiteralPattern i p) s read end more = (end ≡ at) × (more ≡ read)
  NamesLaid f at (ConstructorPattern t d n m p ps) (At r fs) read end more = NameAll f at ps fs r 0 read end more

  pub NameAll : PlainFunction → ℕ → Patterns → Spots → ℕ → ℕ → List ℕ → ℕ → List ℕ → Type 0
  NameAll f at NoPatterns ss r i read end more = (end ≡ at) × (more ≡ read)
  NameAll f at (MorePatterns p ps) NoSpots r i read end more = (end ≡ at) × (more ≡ read)
  NameAll f at (MorePatterns p ps) (MoreSpots s ss) r i read end more =
      (last : ℕ) × (seen : List ℕ) ×
      (((names_any p ≡ true) × (mid : ℕ) × (one : List ℕ) × ReadOne f at r i (register s) read mid one
      × NamesLaid f mid p s one last seen)
      ⊎ ((names_any p ≡ false) × (last ≡ at) × (seen ≡ read)))
      × NameAll f last ps ss r (suc i) seen end more

abbrev pub SettledLaid : Bool → PlainFunction → ℕ → Pattern → Spot → List ℕ → ℕ → Type 0
SettledLaid true f at q s read end = TakesLaid f at q s end
SettledLaid false f at q s read end = (more : List ℕ) × NamesLaid f at q s read end more

-- a clause matches all values of which this is known
pub record ChosenLaid (f : PlainFunction) (ch : Choice) (at : ℕ) (k : Known) (read : List ℕ) (i end : ℕ) : Type 0 where
  pub pattern : Pattern
  pub there : slice_get ch.patterns i ≡ Some pattern
  pub fits : compare (row_of pattern) k ≡ Fits
  pub settled : SettledLaid ch.takes f at pattern ch.root read end

-- n steps that no value fails, and then clause i is chosen: no instruction is written
abbrev pub ChosenAtOnce : PlainCode → PlainFunction → Choice → ℕ → ℕ → Known → List ℕ → ℕ → Type 0
ChosenAtOnce c f ch zero at k read i = ChosenLaid f ch at k read i at
ChosenAtOnce c f ch (suc n) at k read i =
    (p : M.Pattern) × Asking ch k p × (is_last c.types p k ≡ true)
    × ChosenAtOnce c f ch n at (side true p k) read i

-- The body of a clause begins at `at`, and where this is known it is chosen without an instruction.
-- In match b { False -> x; y -> z } what fails the test of False goes straight to z.
pub record BeginsBody (c : PlainCode) (f : PlainFunction) (ch : Choice) (at : ℕ) (k : Known) (read : List ℕ) :
    Type 0 where
  pub steps : ℕ
  pub clause : ℕ
  pub chosen : ChosenAtOnce c f ch steps at k read clause
  pub entry : slice_get ch.entries clause ≡ Some at

-- A label takes what is reported where this is known, or a body begins there: its own label takes it then.
abbrev pub TakenAt : PlainCode → PlainFunction → Holding → Choice → ℕ → Known → List ℕ → Type 0
TakenAt c f g ch at k read =
    ((m : ℕ → Kind) → Sight c.types g ch.type ch.root k read m → Catches f at m) ⊎ BeginsBody c f ch at k read

-- the test of what a pattern asks for first; a label is where what fails it goes, and takes what is reported there
pub record TestLaid (c : PlainCode) (f : PlainFunction) (g : Holding) (ch : Choice) (at : ℕ) (p : M.Pattern)
    (k : Known) (read : List ℕ) (next : ℕ) (more : List ℕ) : Type 0 where
  pub mid : ℕ
  pub found : Asked
  pub target : ℕ
  pub reads : ReadsLaid f at p k ch.root read mid more
  pub asks : asked p k ch.root ≡ Some found
  pub written : slice_get f.instrs mid ≡ Some (test_of found.register found.head target)
  pub ahead : mid < target
  pub label : is_some (label_at f.labels target) ≡ true
  pub one : next ≡ suc mid
  pub fails : TakenAt c f g ch target (side false p k) more

-- n steps, and then clause i is chosen
abbrev pub TestsLaid :
    PlainCode → PlainFunction → Holding → Choice → ℕ → ℕ → Known → List ℕ → ℕ → ℕ → Type 0
TestsLaid c f g ch zero at k read i end = ChosenLaid f ch at k read i end
TestsLaid c f g ch (suc n) at k read i end =
    (p : M.Pattern) × Asking ch k p ×
    (((is_last c.types p k ≡ true) × TestsLaid c f g ch n at (side true p k) read i end)
    ⊎ ((mid : ℕ) × (more : List ℕ) × TestLaid c f g ch at p k read mid more
    × TestsLaid c f g ch n mid (side true p k) more i end))

-- Tests from a place on where this is known, up to a clause: the code goes to its body, or this follows.
pub record ChunkLaid (c : PlainCode) (f : PlainFunction) (g : Holding) (ch : Choice) (at : ℕ) (k : Known)
    (read : List ℕ) (m : ℕ → Kind) (next : ℕ) : Type 0 where
  pub steps : ℕ
  pub clause : ℕ
  pub end : ℕ
  pub place : ℕ
  pub tests : TestsLaid c f g ch steps at k read clause end
  pub entry : slice_get ch.entries clause ≡ Some place
  pub goes : ((slice_get f.instrs end ≡ Some (I.Jump place)) × (end < place) × (next ≡ suc end))
      ⊎ ((place ≡ end) × (next ≡ end))
  pub quiet : Quiet f at next m

-- tests of what failed one before
pub record SideLaid (c : PlainCode) (f : PlainFunction) (g : Holding) (ch : Choice) (at next : ℕ) : Type 0 where
  pub later : 0 < at
  pub known : Known
  pub read : List ℕ
  pub reported : ℕ → Kind
  pub sight : Sight c.types g ch.type ch.root known read reported
  pub chunk : ChunkLaid c f g ch at known read reported next

-- so many such chunks
abbrev pub SidesLaid : PlainCode → PlainFunction → Holding → Choice → ℕ → ℕ → ℕ → Type 0
SidesLaid c f g ch zero at end = end ≡ at
SidesLaid c f g ch (suc n) at end =
    (mid : ℕ) × SideLaid c f g ch at mid × SidesLaid c f g ch n mid end
