-- Words in which the written programs are said.
use Rattle.std.specs.Prelude.{ℕ, true, false, Some, None}
use Rattle.fip_language.specs.declared.Place.{Place}
use Rattle.fip_base.specs.declared.plain.Param.{Param}
use Rattle.fip_trees.specs.declared.program.Binder.{Binder}
use Rattle.fip_trees.specs.Tree.{Name, Argument, Variable, Pattern, BinderPattern}

-- a line, a column and an offset in the text
abbrev pub at : ℕ → ℕ → ℕ → Place
at line col offset = record { line = line; col = col; at = offset }

-- a binder of a variable of this type
abbrev pub bound : ℕ → Name → ℕ → Place → Binder
bound x name t p = record { number = x; name = name; place = p; annotation = None; ty = t }

abbrev pub var : ℕ → Name → Place → Argument
var x name p = Variable (Some x) name p

abbrev pub taken : ℕ → Name → ℕ → Place → Pattern
taken x name t p = BinderPattern (bound x name t p)

-- a parameter of this type that the function owns, and one that it borrows
abbrev pub owned : ℕ → Param
owned t = record { ty = t; lent = false }

abbrev pub borrowed : ℕ → Param
borrowed t = record { ty = t; lent = true }
