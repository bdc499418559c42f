-- The text of the results of a run.
use Rattle.std.specs.Prelude.{◌≡◌, ℕ, List, [], Option, Some, None, slice_get}
use Rattle.fip_language.specs.PrintedText.{printed_lines}
use Rattle.fip_language.specs.Store.{Parts, values_of, words_of}
use Rattle.fip_machine.specs.cell_code.declared.code.Function.{Function}
use Rattle.value_text.specs.Standing.{StandAll}
use Rattle.fip_host.specs.Hosting.{Seen, results_of}

abbrev pub results_in : Option Function → List ℕ
results_in None = []
results_in (Some f) = f.results

-- the types of the results of the function that was started last
abbrev pub result_types : Seen → List ℕ
result_types m = results_in (slice_get m.code.code.functions.items m.entry)

-- The words of the results are those of these trees, which lie in the cells and have the results' types.
pub record ArePrintable (m : Seen) (xs : Parts) : Type 0 where
  pub words : results_of m ≡ Some (words_of xs)
  pub stand : StandAll m.code.code.types m.store.cells (result_types m) xs

-- a line for each of them
abbrev pub printed_results : Seen → Parts → List ℕ
printed_results m xs = printed_lines m.code.code.types (result_types m) (values_of xs)
