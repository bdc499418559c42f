-- The variables that a pattern binds, and those of the parameters of an instance, with their types.
use Rattle.std.specs.Prelude.{ℕ, List, [], ◌∷◌, ◌++◌, Option, Some}
use Rattle.fip_base.specs.declared.plain.Param.{Param}
use Rattle.fip_trees.specs.declared.program.Binder.{Binder}
use Rattle.fip_trees.specs.Tree.{Pattern, BinderPattern, LiteralPattern, ConstructorPattern, Patterns, NoPatterns}
use Rattle.fip_trees.specs.Tree.{MorePatterns, Instance}
use Rattle.type_check.specs.Found.{first_type, others}
use Rattle.type_check.specs.Binders.{entry}
use Rattle.type_check.specs.Scope.{Scope}
use Rattle.type_check.specs.World.{World, chosen, field_types}

-- the variables of a pattern for values of a type, which isn't known where a violation hides it
abbrev mutual
  pub bound_by : World → Option ℕ → Pattern → Scope
  bound_by w t (BinderPattern b) = entry t b ∷ []
  bound_by w t (LiteralPattern i p) = []
  bound_by w t (ConstructorPattern u d c n p ps) = bound_by_all w (field_types w (chosen w (Some t) d) c) ps

  pub bound_by_all : World → List (Option ℕ) → Patterns → Scope
  bound_by_all w ts NoPatterns = []
  bound_by_all w ts (MorePatterns p ps) = bound_by w (first_type ts) p ++ bound_by_all w (others ts) ps

-- the variables of the parameters
abbrev pub parameter_entries : List Param → List Binder → Scope
parameter_entries [] bs = []
parameter_entries (p ∷ ps) [] = []
parameter_entries (p ∷ ps) (b ∷ bs) = entry (Some p.ty) b ∷ parameter_entries ps bs

abbrev pub parameter_scope : Instance → Scope
parameter_scope d = parameter_entries d.params d.binders
