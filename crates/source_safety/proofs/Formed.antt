-- The typed program of a source is formed.
use Rattle.std.proofs.Common.{ℕ, List, sym, subst}
use Rattle.in_place_safety.specs.fip_language.Core.{Core}
use Rattle.in_place_safety.specs.fip_language.Every.{Among}
use Rattle.in_place_safety.specs.fip_trees.Tree.{Instance, Program}
use Rattle.specialisation_correctness.specs.static_params.FlatProgram.{flat_program}
use Rattle.in_place_safety.specs.type_check.Faults.{filled}
use Rattle.in_place_safety.specs.type_check.Typing.{IsFilled}
use Rattle.in_place_safety.specs.type_safety.Formed.{IsBare, IsFormed}
use Rattle.specialisation_correctness.specs.static_params.FlatSource.{flat_source}
use Rattle.specialisation_correctness.specs.source_report.Report.{IsParsed, IsFlat, IsTyped}
use Rattle.specialisation_correctness.specs.source_report.WellFormed.{IsWellFormed}
use Rattle.specialisation_correctness.proofs.source_report.Ready.{flat_formed, typed_formed}
use Rattle.specialisation_correctness.proofs.source_report.Sizing.{typed_filled}
use Rattle.source_safety.proofs.Arguments.{SoundInstance, stays_sound, instances_formed}
use Rattle.source_safety.proofs.CoreArguments.{CoreFits, core_fits}
use Rattle.source_safety.proofs.Flat.{all_sound, false_bare, true_bare}
use Rattle.source_safety.proofs.SpeltArguments.{spelt_fits}

-- what the flat program of a source has
record IsSoundFlat (p : Program) : Type 0 where
  false_is_bare : IsBare p.types 1 0
  true_is_bare : IsBare p.types 1 1
  instances : (d : Instance) → Among d p.instances → SoundInstance p d

pub parsed_fits : (source : List ℕ) (core : Core) → IsParsed source core → CoreFits core
parsed_fits source core h = subst CoreFits (sym h.is) (core_fits h.tree (spelt_fits source h.tree h.spelt))

flat_sound : (source : List ℕ) (p : Program) → IsFlat source p → IsSoundFlat p
flat_sound source p h =
    let formed : IsWellFormed (flat_program (flat_source h.core) h.numbers) = subst IsWellFormed h.is (flat_formed source p h) in
    let fits = parsed_fits source h.core h.declared.parsed in
    subst IsSoundFlat (sym h.is)
    (record {
      false_is_bare = false_bare h.core h.numbers h.few formed;
      true_is_bare = true_bare h.core h.numbers h.few formed;
      instances = all_sound h.core h.numbers h.few formed fits;
    })

filled_formed : (p : Program) → IsSoundFlat p → IsWellFormed (filled p) → IsFilled (filled p) → IsFormed (filled p)
filled_formed p sound known typed =
    record {
      false_is_bare = sound.false_is_bare;
      true_is_bare = sound.true_is_bare;
      bodies = instances_formed (filled p) (filled p).instances (stays_sound p sound.instances) known.instances typed;
    }

pub typed_is_formed : (source : List ℕ) (p : Program) → IsTyped source p → IsFormed p
typed_is_formed source p h =
    let known = typed_formed source p h in
    let typed = typed_filled source p h in
    subst IsFormed (sym h.is)
    (filled_formed h.untyped (flat_sound source h.untyped h.flat) (subst IsWellFormed h.is known) (subst IsFilled h.is typed))
