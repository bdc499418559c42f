-- Words in which core forms are written out.
use Rattle.std.specs.Prelude.{ℕ, Some, None}
use Rattle.source_report.specs.fip_language.declared.Place.{Place}
use Rattle.source_report.specs.fip_language.Core.{Name, Binder, Argument, Variable}

abbrev pub bound : ℕ → Name → Place → Binder
bound x name p = record { number = x; name = name; place = p; annotation = None }

abbrev pub var : ℕ → Name → Place → Argument
var x name p = Variable (Some x) name p
