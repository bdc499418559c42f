-- The violations of E10 to E15 and E63 in a program, which of them is named, and what an accepted program declares.
-- `data inf { Mk(inf) }` breaks E13 at inf, and so does `data a { X(box[a]) }` where box holds its argument.
use Rattle.std.specs.Prelude.{◌≡◌, ◌⊎◌, ℕ, suc, Bool, false, not, List, [], ◌∷◌, ◌++◌, map, Option, Some, slice_get}
use Rattle.fip_base.specs.declared.refusal.PhaseError.{PhaseError}
use Rattle.fip_base.specs.declared.refusal.PhaseError.TheVariants.{Refused, NoMemory}
use Rattle.fip_language.specs.declared.rule.Rule.TheVariants.{E13}
use Rattle.fip_language.specs.Core.{Name, Data, Core}
use Rattle.fip_language.specs.Declarations.{data_types}
use Rattle.fip_trees.specs.declared.least.Violation.{Violation}
use Rattle.fip_trees.specs.declared.decls.DeclaredConstructor.{DeclaredConstructor}
use Rattle.fip_trees.specs.declared.decls.DeclaredType.{DeclaredType}
use Rattle.fip_trees.specs.Least.{In, after, comes_before, refusal}
use Rattle.data_types.specs.Types.{IsValued}
use Rattle.data_types.specs.Declarations.{declarations, row_names}
use Rattle.data_types.specs.Faults.{broken, when, written_violations}
use Rattle.data_types.specs.Marks.{true_of}
use Rattle.data_types.specs.Steps.{ReportsValued}

-- E13: a data type of the program without a finite value, its parameters taken to have one. Its number among the
-- declarations is one more, since bool is before it.
pub record HasNoValue (core : Core) (v : Violation) : Type 0 where
  pub place : ℕ
  pub type : Data
  pub there : slice_get core.types place ≡ Some type
  pub unvalued : IsValued (declarations core) (suc place) → ⊥
  pub is : v ≡ broken E13 type.place type.name

abbrev pub Violates : Core → Violation → Type 0
Violates core v = In v (written_violations core) ⊎ HasNoValue core v

-- a violation of the program, and none of the program comes before it
pub record IsFirst (core : Core) (v : Violation) : Type 0 where
  pub violated : Violates core v
  pub least : (w : Violation) → Violates core w → comes_before w v ≡ false

-- what a refusal says
abbrev pub Says : Core → PhaseError → Type 0
Says core (Refused r) = (v : Violation) × IsFirst core v × (r ≡ refusal v)
Says core NoMemory = Unit {0}

-- the names of the constructors of declared types
abbrev pub declared_row_names : DeclaredType → List Name
declared_row_names d = map (λ (k : DeclaredConstructor). k.name.now) d.constructors.items

-- ---- how E13 is noted

-- the data types of a list whose flag, from number i on, isn't true
abbrev pub value_faults : ℕ → List Bool → List Data → List Violation
value_faults i flags [] = []
value_faults i flags (d ∷ ds) =
    when (not (true_of (slice_get flags i))) (broken E13 d.place d.name) ++ value_faults (suc i) flags ds

-- a walk has noted all violations
pub record IsWalked (core : Core) (old new : Option Violation) : Type 0 where
  pub flags : List Bool
  pub reported : ReportsValued (declarations core) flags
  pub noted : new ≡ after old (written_violations core ++ value_faults 1 flags core.types)
