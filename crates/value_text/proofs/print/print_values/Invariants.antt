use Rattle.std.proofs.Common.{◌≡◌, ◌+◌, ◌-◌, ◌*◌, ◌^◌, ◌≤◌, ◌∷◌, ◌++◌, [], length, vec_len}
use Rattle.fip_language.specs.Store.{Placed, value_of, word_of}
use Rattle.fip_language.specs.PrintedText.{printed}
use Rattle.value_text.specs.Standing.{Stands}
use Rattle.value_text.specs.Printing.{Whole, last_first, Printing}
use Rattle.value_text.proofs.print.print_values.Given as goal

abbrev pub invariant-printing : goal.invariant-printing
invariant-printing g l = length (g.C.Cells.cells l.cells) ≤ 2 ^ 32 → (x : Placed) → Stands l.table (g.C.Cells.cells l.cells) l.fn.ty x → word_of x ≡ l.fn.word → Printing l.table (g.C.Cells.cells l.cells) (Whole l.ty l.word ∷ last_first l.rows.items) l.out.items (l.fn.out.items ++ printed l.table l.fn.ty (value_of x) [])

-- a task that puts further ones prints a byte, and a text is shorter than 2^64
abbrev pub decreases-printing : goal.decreases-printing
decreases-printing g l = vec_len l.rows + 3 * (2 ^ 64 - vec_len l.out)
