-- The table of the typed program of a source is sound.
-- Idea: a row of the table is that of a data type that is declared; its constructors have upper-case names, since they
-- are encoded so. The rest is what every program without static parameters keeps to.
use Rattle.std.proofs.Common.{◌≡◌, ℕ, true, List, Some, slice_get, refl, sym, ap, subst}
use Rattle.fip_language.specs.Character.{is_upper_name}
use Rattle.fip_language.specs.Core.{Data, Core}
use Rattle.fip_language.specs.Declarations.{bool_type, data_types}
use Rattle.fip_language.specs.Every.{Every}
use Rattle.fip_language.specs.SoundTable.{IsSoundTable}
use Rattle.fip_language.specs.Table.{Shape, Table, shapes}
use Rattle.fip_language.specs.UpperNames.{HasUpperName, HaveUpperNames}
use Rattle.fip_language.proofs.Plain.{every_at}
use Rattle.command_source.proofs.fip_grammar.UpperNames.{spelt_upper_names}
use Rattle.command_source.specs.fip_trees.SoundProgram.{IsSoundProgram}
use Rattle.command_source.specs.fip_trees.Tree.{Program}
use Rattle.command_source.specs.fip_trees.declared.least.Violation.{Violation}
use Rattle.command_source.specs.data_types.Answers.{Violates}
use Rattle.command_source.specs.static_params.Answers.{AreFew}
use Rattle.command_source.specs.static_params.FlatProgram.{Numbers, flat_program}
use Rattle.command_source.specs.static_params.FlatSource.{flat_source}
use Rattle.command_source.proofs.static_params.ConstructorRows.{declared_shape}
use Rattle.command_source.proofs.static_params.Sounding.{flat_is_sound}
use Rattle.command_source.specs.source_report.Report.{IsFlat, IsTyped}

upper_bool : Every HasUpperName bool_type.constructors
upper_bool = (refl, (refl, tt))

module _ (core : Core) (unbroken : (v : Violation) → Violates core v → ⊥) (upper : HaveUpperNames core.types) (ns : Numbers) (few : AreFew (flat_source core) ns) where
  abbrev tb : Table
  tb = (flat_program (flat_source core) ns).types

  pub upper_names : (t c : ℕ) (s : Shape) → slice_get (shapes tb t) c ≡ Some s → is_upper_name s.name ≡ true
  upper_names t c s e =
      let x = declared_shape core unbroken ns few t c s e in
      let row = every_at (λ (d : Data). Every HasUpperName d.constructors) (data_types core) x.place x.data_type (upper_bool, upper) x.there in
      subst (λ (z : Shape). is_upper_name z.name ≡ true) x.same (every_at HasUpperName x.data_type.constructors c x.declares row x.at)

flat_sound : (source : List ℕ) (p : Program) → IsFlat source p → IsSoundTable p.types
flat_sound source p h =
    let upper : HaveUpperNames h.core.types = subst (λ (c : Core). HaveUpperNames c.types) (sym h.declared.parsed.is) (spelt_upper_names source h.declared.parsed.tree h.declared.parsed.spelt) in
    let same : (flat_program (flat_source h.core) h.numbers).types ≡ p.types = ap (λ (q : Program). q.types) (sym h.is) in
    let sound : IsSoundProgram p = subst IsSoundProgram (sym h.is) (flat_is_sound h.core h.declared.unbroken h.declared.valued h.numbers h.few) in
    record {
      names = subst (λ tb. (t c : ℕ) (s : Shape) → slice_get (shapes tb t) c ≡ Some s → is_upper_name s.name ≡ true) same (upper_names h.core h.declared.unbroken upper h.numbers h.few);
      unlike = sound.unlike;
      known = sound.known;
      narrow = sound.narrow;
      inhabited = sound.inhabited;
    }

pub typed_sound : (source : List ℕ) (p : Program) → IsTyped source p → IsSoundTable p.types
typed_sound source p h = subst (λ (q : Program). IsSoundTable q.types) (sym h.is) (flat_sound source h.untyped h.flat)
