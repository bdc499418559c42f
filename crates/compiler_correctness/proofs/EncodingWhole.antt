-- The code of an accepted source has a file.
use Rattle.std.proofs.Common.{◌≡◌, ℕ, List, map, Some, slice_get, sym, subst}
use Rattle.lowering_soundness.specs.fip_language.Every.{Every}
use Rattle.lowering_soundness.specs.fip_language.Table.{Table}
use Rattle.lowering_soundness.proofs.fip_language.Plain.{every_at}
use Rattle.lowering_soundness.proofs.fip_language.Words.{slice_get-map}
use Rattle.lowering_soundness.specs.fip_trees.declared.groups.Member.{Member}
use Rattle.lowering_soundness.specs.fip_trees.Tree.{Program}
use Rattle.lowering_soundness.specs.tail_groups.Members.{AreMembers}
use Rattle.lowering_soundness.specs.cell_code.declared.code.Code.{Code}
use Rattle.lowering_soundness.specs.cell_code.declared.code.Function.{Function}
use Rattle.lowering_soundness.specs.code_rules.Breaks.{IsSound}
use Rattle.lowering_soundness.specs.cell_code.Plain.{plain}
use Rattle.derivation_correctness.specs.cell_lower.Shape.{header, headers}
use Rattle.derivation_correctness.specs.source_report.Report.{IsTyped}
use Rattle.derivation_correctness.specs.code_file.declared.tags.Version.TheVariants.{Second}
use Rattle.derivation_correctness.specs.code_file.CodeText.{table_text, CodeText}
use Rattle.derivation_correctness.specs.lower_frame.Spelled.{IsSpelt, AreSpelt}
use Rattle.compiler_correctness.proofs.Codes.{IsHeadSpelt, has_file}
use Rattle.compiler_correctness.proofs.Headers.{IsHeaderSpelt, typed_headers_spelt}
use Rattle.compiler_correctness.proofs.Tables.{IsNarrowTable, narrow_table}
use Rattle.compiler_correctness.proofs.Types.{typed_types_spelt}

module _ (source : List ℕ) (p : Program) (members : List Member) (c : Code) (typed : IsTyped source p) where
  head_at : map header c.functions.items ≡ headers members p.instances → (n : ℕ) (f : Function) → slice_get c.functions.items n ≡ Some f → IsHeadSpelt f
  head_at headed n f e =
      let h : IsHeaderSpelt (header f) =
      every_at IsHeaderSpelt (map header c.functions.items) n (header f)
      (subst (λ hs. Every IsHeaderSpelt hs) (sym headed) (typed_headers_spelt source p members typed))
      (slice_get-map header c.functions.items n f e) in
      record { kind = h.kind; name = h.name }

  pub typed_has_file : AreMembers p.instances members → c.types ≡ p.types → map header c.functions.items ≡ headers members p.instances → IsSound (plain c) → AreSpelt c.functions.items → (file : List ℕ) × CodeText file Second (plain c)
  typed_has_file found types headed sound spelt =
      has_file c sound
      (subst (λ (tb : Table). IsSpelt (table_text tb)) (sym types) (typed_types_spelt source p typed (subst IsNarrowTable types (narrow_table (plain c) sound))))
      (head_at headed) spelt
