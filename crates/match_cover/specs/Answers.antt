-- What acceptance and a refusal say. E42 and E43 are looked for in the whole program before E40 and E41.
use Rattle.std.specs.Prelude.{◌≡◌, ◌⊎◌, false, List, [], Result, MatchResult}
use Rattle.fip_base.specs.declared.refusal.PhaseError.{PhaseError}
use Rattle.fip_base.specs.declared.refusal.PhaseError.TheVariants.{Refused, NoMemory}
use Rattle.fip_language.specs.Table.{Table}
use Rattle.fip_trees.specs.declared.least.Violation.{Violation}
use Rattle.fip_trees.specs.declared.program.Instance.{Instance}
use Rattle.fip_trees.specs.Least.{comes_before, IsLeast, refusal}
use Rattle.match_cover.specs.Shapes.{shape_faults}
use Rattle.match_cover.specs.Coverage.{CoverFault, AllCovered, IsReady}

-- a violation of E40 or E41, and none of them comes before it
pub record IsLeastCoverFault (tb : Table) (ds : List Instance) (v : Violation) : Type 0 where
  pub violated : CoverFault tb 0 ds v
  pub least : (w : Violation) → CoverFault tb 0 ds w → comes_before w v ≡ false

-- all is covered and reached, and so neither E40 nor E41 is broken
pub record IsRight (tb : Table) (ds : List Instance) : Type 0 where
  pub covered : AllCovered tb ds
  pub unbroken : (v : Violation) → CoverFault tb 0 ds v → ⊥

-- no rule is broken
pub record Accepts (tb : Table) (ds : List Instance) : Type 0 where
  pub shapes : shape_faults 0 ds ≡ []
  pub coverage : IsReady tb ds → IsRight tb ds

abbrev pub SaysShapes : List Instance → PhaseError → Type 0
SaysShapes ds (Refused r) = (v : Violation) × IsLeast (shape_faults 0 ds) v × (r ≡ refusal v)
SaysShapes ds NoMemory = Unit {0}

abbrev pub SaysCoverage : Table → List Instance → PhaseError → Type 0
SaysCoverage tb ds (Refused r) = IsReady tb ds → (v : Violation) × IsLeastCoverFault tb ds v × (r ≡ refusal v)
SaysCoverage tb ds NoMemory = Unit {0}

-- what the search for E40 and E41 answers, where there is no E42 and no E43
abbrev pub CoverageAnswers : Table → List Instance → Result (Unit {0}) PhaseError → Type 0
CoverageAnswers tb ds result =
    shape_faults 0 ds ≡ [] → MatchResult result (λ _. IsReady tb ds → IsRight tb ds) (SaysCoverage tb ds)

-- the least violation of E42 and E43, or else that of E40 and E41
abbrev pub Says : Table → List Instance → PhaseError → Type 0
Says tb ds e = SaysShapes ds e ⊎ ((shape_faults 0 ds ≡ []) × SaysCoverage tb ds e)
