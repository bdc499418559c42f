use Rattle.std.proofs.Common.{ℕ, List, ◌+◌, ◌-◌, ◌*◌, ◌^◌, ◌≤◌, vec_len}
use Rattle.fip_language.specs.Table.{Table}
use Rattle.value_text.specs.Printing.{last_first, Printing}
use Rattle.value_text.proofs.print.next_value.Given as goal

abbrev pub invariant-waiting : goal.invariant-waiting
invariant-waiting g l = record {
  prints : (tb : Table) (whole : List ℕ) → Printing tb (g.C.Cells.cells l.cells) (last_first l.initial.rows.items) l.initial.out.items whole → Printing tb (g.C.Cells.cells l.cells) (last_first l.rows.items) l.out.items whole;
  steps : vec_len l.rows + 3 * vec_len l.initial.out ≤ vec_len l.initial.rows + 3 * vec_len l.out;
}

-- a row that puts a further one after itself prints a byte, and a text is shorter than 2^64
abbrev pub decreases-waiting : goal.decreases-waiting
decreases-waiting g l = vec_len l.rows + 3 * (2 ^ 64 - vec_len l.out)
