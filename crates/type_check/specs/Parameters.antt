-- It serves the proof: the binder of the first of several parameters.
use Rattle.std.specs.Prelude.{List, [], ◌∷◌, Some}
use Rattle.fip_base.specs.declared.plain.Param.{Param}
use Rattle.fip_trees.specs.declared.program.Binder.{Binder}
use Rattle.type_check.specs.Binders.{entry, typed}
use Rattle.type_check.specs.Scope.{Scope}

-- with its slot filled
abbrev pub fill_first : List Param → Binder → Binder
fill_first [] b = b
fill_first (p ∷ ps) b = typed (Some p.ty) b

-- and its variable
abbrev pub entry_first : List Param → Binder → Scope
entry_first [] b = []
entry_first (p ∷ ps) b = entry (Some p.ty) b ∷ []
