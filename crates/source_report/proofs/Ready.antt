-- A typed program of a source is well formed, its literals have 64 bits, and it is ready for coverage.
use Rattle.std.proofs.Common.{ℕ, List, sym, subst}
use Rattle.cell_lower.specs.fip_language.Core.{Core}
use Rattle.cell_lower.specs.fip_trees.declared.program.Instance.{Instance}
use Rattle.cell_lower.specs.fip_trees.Tree.{Program}
use Rattle.lowering_simulation.specs.type_check.Typing.{IsFilled}
use Rattle.cell_lower.specs.match_cover.Coverage.{IsReady}
use Rattle.source_report.specs.Literals.{LiteralsFit}
use Rattle.source_report.specs.InMemory.{AreOf}
use Rattle.source_report.specs.Report.{IsParsed, IsFlat, IsTyped}
use Rattle.source_report.specs.WellFormed.{IsWellFormed}
use Rattle.source_report.proofs.CoreLiterals.{CoreFits, core_fits, program_fits}
use Rattle.source_report.proofs.Filling.{stays_formed, stays_fitting}
use Rattle.source_report.proofs.Forming.{flat_is_formed}
use Rattle.source_report.proofs.SpeltLiterals.{spelt_fits}
use Rattle.source_report.proofs.TypedMatches.{ready}

pub parsed_fits : (source : List ℕ) (core : Core) → IsParsed source core → CoreFits core
parsed_fits source core h = subst CoreFits (sym h.is) (core_fits h.tree (spelt_fits source h.tree h.spelt))

pub flat_formed : (source : List ℕ) (p : Program) → IsFlat source p → IsWellFormed p
flat_formed source p h = subst IsWellFormed (sym h.is) (flat_is_formed h.core h.numbers h.few h.declared.valued)

pub flat_fits : (source : List ℕ) (p : Program) → IsFlat source p → LiteralsFit p
flat_fits source p h = subst LiteralsFit (sym h.is) (program_fits h.core h.numbers (parsed_fits source h.core h.declared.parsed))

pub typed_formed : (source : List ℕ) (p : Program) → IsTyped source p → IsWellFormed p
typed_formed source p h = subst IsWellFormed (sym h.is) (stays_formed h.untyped (flat_formed source h.untyped h.flat))

pub typed_fits : (source : List ℕ) (p : Program) → IsTyped source p → LiteralsFit p
typed_fits source p h = subst LiteralsFit (sym h.is) (stays_fitting h.untyped (flat_fits source h.untyped h.flat))

pub typed_ready : (source : List ℕ) (p : Program) (ds : List Instance) → IsTyped source p → IsFilled p → AreOf p ds → IsReady p.types ds
typed_ready source p ds h slots of' = ready p ds (typed_formed source p h) (typed_fits source p h) slots of'
