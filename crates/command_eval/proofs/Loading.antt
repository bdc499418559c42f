-- What is loaded without credits, and that no text of so few bytes is too large for the store.
use Rattle.std.proofs.Common.{◌≡◌, ◌∙◌, ◌<◌, ◌≤◌, ℕ, List, [], ◌∷◌, ◌++◌, length, ap, refl, arith, append-nil}
use Rattle.fip_language.specs.SoundTable.{AreTypes, IsSoundTable}
use Rattle.fip_language.specs.Store.{Parts, values_of, words_of}
use Rattle.fip_language.specs.Table.{Table}
use Rattle.fip_language.specs.Values.{Values}
use Rattle.fip_language.specs.ValueText.{SpellsValues}
use Rattle.cell_store.specs.Cells.{Cells}
use Rattle.cell_store.specs.Made.{Loading}
use Rattle.value_text.specs.Loaded.{AreZero, IsGiven, IsLoaded, cell_words, needed}
use Rattle.value_text.specs.Standing.{StandAll}
use Rattle.plain_rows.specs.declared.load.Rows.{Rows}
use Rattle.plain_rows.specs.Rows.{AreRows}
use Rattle.command_eval.proofs.Texts.{needed_short}

pub given : (tb : Table) (types bytes : List ℕ) → IsSoundTable tb → AreTypes tb types → length bytes ≤ 16777216 → IsGiven tb types [] bytes
given tb types bytes sound known le = record { sound = sound; known = known; allowed = record { few = omega arith; sizes = tt }; short = omega (arith, le) }

no_places : (cs : Cells) (ps : List ℕ) → AreZero cs ps [] → ps ≡ []
no_places cs [] h = refl
no_places cs (p ∷ ps) h = absurd h

-- the words are those of the values alone
pub loaded_rows : (tb : Table) (types bytes words slice : List ℕ) (old new : Loading) (rows : Rows) → slice ≡ words → IsLoaded tb types [] bytes old new words → ((trees : Parts) → StandAll tb new.cells types trees → slice ≡ words_of trees → AreRows rows (values_of trees)) → (vs : Values) × SpellsValues tb types bytes vs × AreRows rows vs
loaded_rows tb types bytes words slice old new rows same l stand =
    let none = no_places new.cells l.places l.zero in
    let named : words ≡ words_of l.trees = l.named ∙ ap (λ ps. words_of l.trees ++ cell_words ps) none ∙ append-nil (words_of l.trees) in
    (values_of l.trees, l.spelled, stand l.trees l.stand (same ∙ named))

pub never_full : (tb : Table) (types bytes : List ℕ) (first l : Loading) (n words : ℕ) → first.cells ≡ [] → first.released ≡ [] → first.left ≡ 16777216 → length bytes ≤ 16777216 → (l ≡ first) × (words ≡ first.left) × (words < n) × (vs : Values) × SpellsValues tb types bytes vs × (n ≡ needed first [] vs) → ⊥
never_full tb types bytes first l n words cells released left le (same, room, less, vs, spelt, is) =
    let short = needed_short tb types bytes first vs cells released spelt in
    omega (arith, left, le, room, less, is, short)
