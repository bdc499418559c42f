use Rattle.std.proofs.Common.{◌+◌, ◌-◌, ◌*◌, ◌^◌, ◌++◌, ℕ, List, vec_len}
use Rattle.fip_base.specs.fip_language.Values.{Value as Tree}
use Rattle.fip_base.specs.fip_language.Table.{HasType}
use Rattle.fip_base.specs.fip_language.PrintedText.{printed}
use Rattle.plain_rows.specs.Rows.{Stands}
use Rattle.plain_rows.specs.Printing.{last_first, Printing}
use Rattle.plain_rows.proofs.print.print_value.Given as goal

abbrev pub invariant-printing : goal.invariant-printing
invariant-printing l = (v : Tree) (following : List ℕ) → HasType l.table l.fn.ty v → Stands l.store l.fn.value v → Printing l.table l.store following (last_first l.tasks.items) l.out.items (l.fn.out.items ++ printed l.table l.fn.ty v following)

-- a task that puts further ones prints a byte, and a text is shorter than 2^64
abbrev pub decreases-printing : goal.decreases-printing
decreases-printing l = vec_len l.tasks + 3 * (2 ^ 64 - vec_len l.out)
