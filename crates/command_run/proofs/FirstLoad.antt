-- What was loaded from a text into a new store is the store in which a run begins on the values that the text encodes.
use Rattle.std.proofs.Common.{◌≡◌, ◌∙◌, ℕ, false, List, [], ◌++◌, length, ap, ap₂, sym, subst}
use Rattle.std.specs.Prelude.{replicate}
use Rattle.fip_language.specs.Prefix.{Accepted}
use Rattle.fip_language.specs.SoundTable.{AreTypes, IsSoundTable}
use Rattle.fip_language.specs.Store.{values_of}
use Rattle.fip_language.specs.Table.{Table}
use Rattle.fip_language.specs.Values.{Values}
use Rattle.fip_language.specs.ValueText.{SpellsValues}
use Rattle.cell_store.specs.Made.{Loading}
use Rattle.fip_machine.specs.machine_cells.Small.{store_of}
use Rattle.command_eval.specs.machine_correctness.run_loading.Loading.{first_store, first_words}
use Rattle.value_text.specs.FirstStore.{loaded_places, loaded_words}
use Rattle.value_text.proofs.Exact.{accepts_text}
use Rattle.value_text.proofs.Tables.{is_table, types_alive}
use Rattle.command_run.specs.Starting.{IsInNewStore}
use Rattle.command_run.proofs.SameStore.{store_same, words_same}
pub use Rattle.command_eval.proofs.Once.{values_once as one_meaning}

pub first_load : (tb : Table) (types credits input : List ℕ) (words : ℕ) (new : Loading) (ws : List ℕ) → IsSoundTable tb → AreTypes tb types → (h : IsInNewStore tb types credits input words new ws) → (store_of new.cells new.released ≡ first_store (values_of h.loaded.trees) credits) × (ws ≡ first_words (values_of h.loaded.trees) credits)
first_load tb types credits input words new ws table known h =
    let o = h.order in
    let same : o.values ≡ values_of h.loaded.trees = one_meaning tb types input o.values (values_of h.loaded.trees) table known o.spelled h.loaded.spelled in
    let start : length h.old.cells ≡ 0 = ap length h.empty in
    let cells : new.cells ≡ loaded_places 0 o.values credits = o.following.cells ∙ ap₂ (λ front n. front ++ loaded_places n o.values credits) h.empty start in
    let flags : new.released ≡ replicate (length (loaded_places 0 o.values credits)) false = o.following.released ∙ ap₂ (λ front n. front ++ replicate (length (loaded_places n o.values credits)) false) h.unreleased start in
    let named : ws ≡ loaded_words 0 o.values credits = o.named ∙ ap (λ n. loaded_words n o.values credits) start in (
      subst (λ vs. store_of new.cells new.released ≡ first_store vs credits) same (store_same o.values credits (store_of new.cells new.released) cells flags),
      subst (λ vs. ws ≡ first_words vs credits) same (named ∙ words_same o.values credits),
    )
