-- The report: which violation of a source is named.
--
-- The rules are checked in phases. What a phase checks is made of the source by the phases before it, so a phase has
-- violations only where these have none. The first phase that has one names its least: by place, then rule, then
-- instance. In order the phases check:
--    1. the length of the source (E05);
--    2. its bytes (E01), and 3. its tokens (E02 to E04);
--    4. declarations (E10 to E15, E63);
--    5. static parameters (E20 to E23, and E11 and E12 in what is given for them);
--    6. types (E30 to E34);
--    7. the names in patterns and the sizes of matches (E42, E43), and 8. coverage (E40, E41);
--    9. ownership (E50 to E55), 10. credits (E56 to E58, E62), 11. tail calls (E59);
--   12. the limits of code (E60).
--
-- In `fip fun f(x: int): int { g(y) }` the variable y is unknown (E31) and so is the function g (E20): E20 at g is
-- reported, since no program is made whose types could be checked. Where g is a function with another type of
-- parameter, E31 at y is reported.
use Rattle.std.specs.Prelude.{◌≡◌, ℕ, ◌<◌, ◌≤◌, List, [], length, None, Some}
use Rattle.cell_lower.specs.fip_language.declared.Place.{Place}
use Rattle.cell_lower.specs.fip_language.declared.limits.TheConstants.{MOST_SOURCE_BYTES}
use Rattle.cell_lower.specs.fip_language.declared.rule.Rule.{Rule}
use Rattle.cell_lower.specs.fip_language.declared.rule.Rule.TheVariants.{E05}
use Rattle.cell_lower.specs.fip_language.Core.{Core}
use Rattle.cell_lower.specs.fip_language.CoreForm.{core_form}
use Rattle.cell_lower.specs.fip_language.Declarations.{data_types}
use Rattle.cell_lower.specs.fip_language.Surface as Surface
use Rattle.cell_lower.specs.fip_base.declared.refusal.PhaseError.{PhaseError}
use Rattle.cell_lower.specs.fip_base.declared.refusal.PhaseError.TheVariants.{Refused, NoMemory}
use Rattle.cell_lower.specs.fip_base.declared.refusal.Refusal.{Refusal}
use Rattle.fip_grammar.specs.Limits.{IsSpelt, IsMisspelt}
use Rattle.cell_lower.specs.fip_trees.declared.groups.Member.{Member}
use Rattle.cell_lower.specs.fip_trees.declared.least.Violation.{Violation}
use Rattle.cell_lower.specs.fip_trees.Least.{IsLeast, IsLeastOf, refusal}
use Rattle.cell_lower.specs.fip_trees.Tree.{Program}
use Rattle.static_params.specs.data_types.Answers as Declaring
use Rattle.static_params.specs.data_types.Declarations.{declarations}
use Rattle.static_params.specs.data_types.Types.{IsValued}
use Rattle.static_params.specs.Answers as Statics
use Rattle.static_params.specs.FlatProgram.{Numbers, flat_program}
use Rattle.static_params.specs.reached_instances.closed_types.Instances.{all_faults}
use Rattle.lowering_simulation.specs.type_check.Faults.{type_faults, filled}
use Rattle.ownership_agreement.specs.fip_rules.Checks as Owning
use Rattle.ownership_agreement.specs.credit_check.Credits as Credits
use Rattle.cell_lower.specs.tail_groups.Members.{AreMembers}
use Rattle.cell_lower.specs.tail_groups.Rules as Calls
use Rattle.cell_lower.specs.Limits as Limits
use Rattle.static_params.specs.FlatSource.{flat_source}
use Rattle.source_report.specs.MatchRules.{shape_faults, CoverFault, IsRight}

-- ---- what a source becomes where it breaks no rule

-- it is short enough, and the text of a program with this core form
pub record IsParsed (source : List ℕ) (core : Core) : Type 0 where
  pub short : length source ≤ MOST_SOURCE_BYTES
  pub tree : Surface.Program
  pub spelt : IsSpelt source tree
  pub is : core ≡ core_form tree

-- E13 says of a data type that it has no value; here each has one.
pub record IsDeclared (source : List ℕ) (core : Core) : Type 0 where
  pub parsed : IsParsed source core
  pub unbroken : (v : Violation) → Declaring.Violates core v → ⊥
  pub valued : (n : ℕ) → n < length (data_types core) → IsValued (declarations core) n

-- with the program without static parameters: its instances and its types are few, and no use breaks a rule
pub record IsFlat (source : List ℕ) (p : Program) : Type 0 where
  pub core : Core
  pub declared : IsDeclared source core
  pub numbers : Numbers
  pub few : Statics.AreFew (flat_source core) numbers
  pub unbroken : all_faults (flat_source core) numbers.instances ≡ []
  pub is : p ≡ flat_program (flat_source core) numbers

-- with the typed program: no rule on types is broken, and it is the same with each node's type in its slot
pub record IsTyped (source : List ℕ) (p : Program) : Type 0 where
  pub untyped : Program
  pub flat : IsFlat source untyped
  pub typed : type_faults untyped ≡ []
  pub is : p ≡ filled untyped

pub record IsMatched (source : List ℕ) (p : Program) : Type 0 where
  pub typed : IsTyped source p
  pub shapes : shape_faults 0 p.instances ≡ []
  pub right : IsRight p.types p.instances

pub record IsOwned (source : List ℕ) (p : Program) : Type 0 where
  pub matched : IsMatched source p
  pub unbroken : (v : Violation) → Owning.Violates p v → ⊥

pub record IsCredited (source : List ℕ) (p : Program) : Type 0 where
  pub owned : IsOwned source p
  pub unbroken : (v : Violation) → Credits.Violates p v → ⊥

pub record IsTailed (source : List ℕ) (p : Program) : Type 0 where
  pub credited : IsCredited source p
  pub unbroken : (v : Violation) → Calls.Violates p v → ⊥

-- The source breaks no rule, and p is its typed program.
pub record IsAccepted (source : List ℕ) (p : Program) : Type 0 where
  pub tailed : IsTailed source p
  pub members : List Member
  pub groups : AreMembers p.instances members
  pub unbroken : (v : Violation) → Limits.Breaks p members v → ⊥

-- ---- what is reported where it breaks one

-- a rule without a place
abbrev pub bare : Rule → Refusal
bare r = record { rule = r; place = None; size = 0; detail = [] }

abbrev pub at : Rule → Place → Refusal
at r p = record { rule = r; place = Some p; size = 0; detail = [] }

pub data Reports (source : List ℕ) : Refusal → Type 0 where
  TooLong : MOST_SOURCE_BYTES < length source → Reports source (bare E05)
  Misspelt : (r : Rule) (p : Place) → length source ≤ MOST_SOURCE_BYTES → IsMisspelt source r p →
      Reports source (at r p)
  Declaration : (core : Core) (v : Violation) → IsParsed source core → Declaring.IsFirst core v →
      Reports source (refusal v)
  StaticParameter : (core : Core) (v : Violation) → IsDeclared source core → Statics.Names (flat_source core) v →
      Reports source (refusal v)
  Typing : (p : Program) (v : Violation) → IsFlat source p → IsLeast (type_faults p) v → Reports source (refusal v)
  Shape : (p : Program) (v : Violation) → IsTyped source p → IsLeast (shape_faults 0 p.instances) v →
      Reports source (refusal v)
  Coverage : (p : Program) (v : Violation) → IsTyped source p → shape_faults 0 p.instances ≡ [] →
      IsLeastOf (CoverFault p.types 0 p.instances) v → Reports source (refusal v)
  Ownership : (p : Program) (v : Violation) → IsMatched source p → IsLeastOf (Owning.Violates p) v →
      Reports source (refusal v)
  Credit : (p : Program) (v : Violation) → IsOwned source p → IsLeastOf (Credits.Violates p) v →
      Reports source (refusal v)
  TailCall : (p : Program) (v : Violation) → IsCredited source p → IsLeastOf (Calls.Violates p) v →
      Reports source (refusal v)
  Limit : (p : Program) (ms : List Member) (v : Violation) → IsTailed source p → AreMembers p.instances ms →
      IsLeastOf (Limits.Breaks p ms) v → Reports source (refusal v)

-- what a refusal of the phases says
abbrev pub Says : List ℕ → PhaseError → Type 0
Says source (Refused r) = Reports source r
Says source NoMemory = Unit {0}
