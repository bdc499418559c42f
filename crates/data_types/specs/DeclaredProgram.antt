-- A program whose declarations break no rule, with what it declares: each of its names has one meaning, and each of its
-- data types, with bool before them, has a finite value.
-- With `data list[a] { Nil; Cons(a, list[a]) }` list means data type 2, and Nil is its constructor 0.
use Rattle.std.specs.Prelude.{◌≡◌, ℕ, ◌<◌, true, map, length}
use Rattle.fip_language.specs.Declarations.{data_types}
use Rattle.fip_base.specs.CoreView as V
use Rattle.fip_base.specs.declared.core_form.Core.{Core}
use Rattle.fip_trees.specs.declared.decls.Decls.{Decls}
use Rattle.fip_trees.specs.declared.least.Violation.{Violation}
use Rattle.data_types.specs.Answers.{Violates, declared_row_names}
use Rattle.data_types.specs.Declarations.{declarations, row_names, written_names}
use Rattle.data_types.specs.Numbered.{types_numbered}
use Rattle.data_types.specs.Types.{IsValued}
use Rattle.data_types.specs.View as v

-- these are the declarations of a program that breaks none of E10 to E15 and E63
pub record AreDeclared (core : Core) (decls : Decls) : Type 0 where
  pub accepted : (w : Violation) → Violates (V.core core) w → ⊥
  pub names : decls.names ≡ written_names (V.core core)
  pub types : v.declarations decls.types.items ≡ declarations (V.core core)
  pub constructors : map declared_row_names decls.types.items ≡ map row_names (data_types (V.core core))
  pub valued : (n : ℕ) → n < length (data_types (V.core core)) → IsValued (declarations (V.core core)) n
  pub numbered : types_numbered decls.types.items ≡ true

-- a program beside its declarations
pub record WithDeclarations : Type 0 where
  pub core : Core
  pub decls : Decls
