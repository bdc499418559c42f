-- The program of a source without any text: it has no instances, and of types bool alone.
use Rattle.std.specs.Prelude.{[], ◌∷◌}
use Rattle.source_report.specs.fip_language.Table.{Table}
use Rattle.source_report.specs.fip_trees.Tree.{Program}
use Rattle.source_report.specs.code_rules.Tables.{bool_shapes}

-- False and True, which have no fields
abbrev pub bool_alone : Table
bool_alone = bool_shapes ∷ []

abbrev pub empty_program : Program
empty_program = record {
  types = bool_alone;
  declaring = 1 ∷ [];
  arities = 0 ∷ [];
  field_counts = (0 ∷ 0 ∷ []) ∷ [];
  instances = [];
}
