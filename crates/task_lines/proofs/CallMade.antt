-- The cells of a call: those of its values, and after them those of its credits.
use Rattle.std.proofs.Common.{◌≡◌, ◌∙◌, ◌+◌, ◌++◌, ℕ, List, Some, refl, sym, ap}
use Rattle.std.specs.Prelude.{slice_get}
use Rattle.std.proofs.lemmas.Option.{same_Some}
use Rattle.cell_code.specs.declared.code.Code.{Code}
use Rattle.cell_code.specs.declared.code.Function.{Function}
use Rattle.cell_store.specs.Made.{Loading}
use Rattle.fip_language.specs.Store.{Parts, uses_of_all, count}
use Rattle.fip_language.specs.Table.{Table}
use Rattle.value_text.specs.Loaded.{types_of, cell_words}
use Rattle.task_lines.specs.Called.{Called}
use Rattle.task_lines.specs.Making.{AreValued, AreCredited, IsMadeOf}
use Rattle.task_lines.specs.Reading.{IsLineOf}
use Rattle.task_lines.specs.declared.task_line.TaskLine.{TaskLine}
use Rattle.session_values.proofs.CellsKept.{all_on, stay, made_both}

pub joined : (tb : Table) (c : Called) (first mid now : Loading) (trees : Parts) (before words : List ℕ) → AreValued tb (types_of c.function.params) first mid c.values trees before → (k : AreCredited c.function.credits.items mid now before words) → IsMadeOf tb c first now trees k.places words
joined tb c first mid now trees before words v k = record {
  stand = all_on tb mid.cells now.cells (types_of c.function.params) trees (stay first mid now (λ p. uses_of_all p trees) (λ p. count p k.places) v.made k.made) v.stand;
  values = v.values;
  zero = k.zero;
  named = k.named ∙ ap (λ ws. ws ++ cell_words k.places) v.named;
  made = made_both first mid now (λ p. uses_of_all p trees) (λ p. count p k.places) (λ p. uses_of_all p trees + count p k.places) (λ p. refl) v.made k.made;
}

pub own_function : (code : Code) (t : TaskLine) (c : Called) (f : Function) → IsLineOf code t c → slice_get code.functions.items t.entry ≡ Some f → f ≡ c.function
own_function code t c f l at = same_Some f c.function (sym at ∙ ap (slice_get code.functions.items) l.entry ∙ l.there)
