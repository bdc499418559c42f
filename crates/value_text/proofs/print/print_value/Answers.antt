use Rattle.std.proofs.Common.{[], ◌++◌, ◌∙◌, ap, List, ℕ}
use Rattle.fip_language.specs.Store.{value_of}
use Rattle.fip_language.specs.PrintedText.{printed}
use Rattle.value_text.proofs.Printing.{read_again}
use Rattle.value_text.proofs.print.print_value.Goals as goal

pub returns-clause-canonical : goal.returns-clause-canonical
returns-clause-canonical g c = λ few x h w. c.in_ok-print_values.ensures few x h w ∙ ap (λ (o : List ℕ). o ++ printed c.args.table.now c.args.ty (value_of x) []) c.new.ensures.items

pub returns-clause-read_again : goal.returns-clause-read_again
returns-clause-read_again g c = λ sound few x h w. read_again c.args.table.now sound (g.C.Cells.cells c.args.cells.now) c.args.ty x _ h (c.in_ok-print_values.ensures few x h w ∙ ap (λ (o : List ℕ). o ++ printed c.args.table.now c.args.ty (value_of x) []) c.new.ensures.items)
