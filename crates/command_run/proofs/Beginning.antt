-- From what was loaded to a machine at the start of its function.
use Rattle.std.proofs.Common.{◌≡◌, ◌∙◌, ◌≤◌, ℕ, List, [], length, Some, slice_get, option_map, sym, ap, ap₂, subst, arith}
use Rattle.std.proofs.lemmas.Option.{same_Some, slice_get-map}
use Rattle.fip_language.specs.declared.limits.TheConstants.{MOST_FRAMES}
use Rattle.fip_language.specs.SoundTable.{IsSoundTable}
use Rattle.fip_language.specs.Store.{values_of}
use Rattle.fip_language.specs.Table.{Table}
use Rattle.fip_base.specs.declared.plain.Param.{Param}
use Rattle.fip_base.specs.declared.plain.Stack.{Stack}
use Rattle.fip_machine.specs.cell_code.declared.code.Function.{Function}
use Rattle.cell_store.specs.Made.{Loading}
use Rattle.command_words.specs.Words.{Room}
use Rattle.command_outcome.specs.declared.failure.Failure.{Failure}
use Rattle.command_eval.specs.machine_correctness.machine_semantics.Cells.{Store}
use Rattle.fip_machine.specs.cell_code.Plain.{PlainFunction, plain_function, plain, function_at}
use Rattle.command_eval.specs.machine_correctness.machine_semantics.Runs.{loaded, loaded_in, lent_words}
use Rattle.command_eval.specs.machine_correctness.machine_semantics.States.{State}
use Rattle.command_eval.specs.machine_correctness.machine_semantics.Steps.{first_frame}
use Rattle.command_eval.proofs.machine_correctness.separation.Sound.{formed}
use Rattle.fip_machine.specs.code_verify.Checked.{Checked}
use Rattle.fip_machine.specs.Machines.{Seen}
use Rattle.fip_machine.specs.Tasks.{state_with, IsFresh}
use Rattle.fip_machine.specs.machine_cells.Small.{IsSmall, store_of}
use Rattle.command_eval.specs.machine_correctness.code_rules.Breaks.{IsSound}
use Rattle.command_eval.specs.machine_correctness.code_rules.StackNumbers.{HasStack}
use Rattle.value_text.specs.Loaded.{types_of}
use Rattle.command_eval.proofs.machine_correctness.Texts.{text_begins}
use Rattle.command_eval.specs.command_source.Entries.{Chosen}
use Rattle.command_run.specs.Starting.{IsInNewStore, HasFrames, KeepsFromLoading, IsStarted, KeepsFromStart}
use Rattle.command_run.proofs.Bounded.{few_frames}
use Rattle.command_run.proofs.FirstLoad.{first_load}
use Rattle.command_run.proofs.Loaded.{IsLoadable, loadable, words_fit, fits}

-- ---- the function

pub there : (v : Checked) (n : ℕ) (g : Function) → slice_get v.code.functions.items n ≡ Some g → function_at (plain v.code) n ≡ Some (plain_function g)
there v n g at = slice_get-map plain_function v.code.functions.items n ∙ ap (option_map plain_function) at

pub is_loadable : (v : Checked) (n : ℕ) (g : Function) → IsSound (plain v.code) → slice_get v.code.functions.items n ≡ Some g → IsLoadable v.code.types (plain_function g)
is_loadable v n g sound at = loadable (plain v.code) (plain_function g) (formed (plain v.code) n (plain_function g) sound (there v n g at))

-- what is said of a table, parameters and credits is said of the same ones
pub moved : (P : Table → List Param → List ℕ → Type 0) (tb tb' : Table) (ps ps' : List Param) (ks ks' : List ℕ) → tb ≡ tb' → ps ≡ ps' → ks ≡ ks' → P tb ps ks → P tb' ps' ks'
moved P tb tb' ps ps' ks ks' a b d h = subst (λ t. P t ps' ks') a (subst (λ qs. P tb qs ks') b (subst (λ ls. P tb ps ls) d h))

-- ---- its frames

pub bounded : (r : Chosen) (s : Stack) → IsSound (plain r.checked.code) → HasStack (plain r.checked.code) r.entry (Some s) → s.frames ≤ MOST_FRAMES
bounded r s sound h = (let few = few_frames (plain r.checked.code) r.entry s sound h.1 in omega (arith, few))

-- ---- the state

module _ (r : Chosen) (g : Function) (frames : ℕ) (s : Store) (ws : List ℕ) where
  abbrev first : State
  first = record {
    store = s;
    running = first_frame r.entry (plain_function g) ws;
    waiting = [];
    free = frames;
    lent = lent_words r.checked.code.types (plain_function g).params ws;
  }

  loads : slice_get r.checked.code.functions.items r.entry ≡ Some g → loaded (plain r.checked.code) r.entry s ws frames ≡ Some first
  loads at = ap (λ o. loaded_in r.checked.code.types r.entry o s ws frames) (slice_get-map plain_function r.checked.code.functions.items r.entry ∙ ap (option_map plain_function) at)

-- what a machine says of its first state
abbrev pub Stands : Checked → ℕ → Seen → List ℕ → ℕ → Type 0
Stands v n m ws frames = (h : Function) → slice_get v.code.functions.items n ≡ Some h → length ws ≤ h.registers → (s : State) → loaded (plain v.code) n m.store ws frames ≡ Some s → state_with m.stack s.lent m.store ≡ s

pub started : (r : Chosen) (g : Function) (input : List ℕ) (room : Room) (frames : ℕ) (new : Loading) (ws : List ℕ) (m : Seen) (v : Checked) (n : ℕ) → v ≡ r.checked → n ≡ r.entry → slice_get r.checked.code.functions.items r.entry ≡ Some g → IsSound (plain r.checked.code) → IsSoundTable r.checked.code.types → IsInNewStore r.checked.code.types (types_of g.params) g.credits.items input room.words new ws → HasFrames r room.frames frames → m.stack.code ≡ v → IsFresh m.stack → m.store ≡ store_of new.cells new.released → IsSmall m.store.cells → m.pushed ≡ [] → Stands v n m ws frames → IsStarted r input room m
started r g input room frames new ws m v n same number at sound table is has code fresh store small pushed stands =
    let f : PlainFunction = plain_function g in
    let old_store : Store = store_of new.cells new.released in
    let can = is_loadable r.checked r.entry g sound at in
    let l = is.loaded in
    let place = first_load r.checked.code.types (types_of g.params) g.credits.items input room.words new ws table can.known is in
    let e = loads r g frames old_store ws at in
    let s : State = first r g frames old_store ws in
    let stood : state_with m.stack s.lent m.store ≡ s = subst (λ n. Stands r.checked n m ws frames) number (subst (λ v. Stands v n m ws frames) same stands) g at (words_fit r.checked.code.types f input ws is.old new can l) s (subst (λ (q : Store). loaded (plain r.checked.code) r.entry q ws frames ≡ Some s) (sym store) e) in
    record {
      function = f;
      there = there r.checked r.entry g at;
      values = values_of l.trees;
      spelt = l.spelled;
      fits = fits r.checked.code.types (types_of g.params) g.credits.items input room.words new ws table (can.credits).sizes is;
      frames = frames;
      has_frames = has;
      state = s;
      loads = ap₂ (λ (q : Store) us. loaded (plain r.checked.code) r.entry q us frames) (sym place.0) (sym place.1) ∙ e;
      begins = text_begins r.checked.code r.entry f input is.old new ws frames s (there r.checked r.entry g at) is.empty is.store l e;
      stands = stood;
      code = code ∙ same;
      fresh = fresh;
      small = small;
      pushed = pushed;
    }

pub kept : (r : Chosen) (g : Function) (input : List ℕ) (room : Room) (frames : ℕ) (failure : Failure) → HasFrames r room.frames frames → slice_get r.checked.code.functions.items r.entry ≡ Some g → KeepsFromLoading r.checked.code.types (types_of g.params) g.credits.items input room.words failure → KeepsFromStart r input room failure
kept r g input room frames failure has at h = record { held = has.held; stack = has.stack; keeps = λ f is. subst (λ (q : PlainFunction). KeepsFromLoading r.checked.code.types (types_of q.params) q.credits input room.words failure) (same_Some (plain_function g) f (sym (there r.checked r.entry g at) ∙ is)) h }
