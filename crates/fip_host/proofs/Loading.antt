-- What was loaded from a text, by what was given for it; and that a run which begins on it is safe.
use Rattle.std.proofs.Common.{◌≡◌, ◌∙◌, ◌<◌, ◌≤◌, ℕ, Bool, true, false, List, Some, slice_get, length, refl, sym, ap, subst}
use Rattle.std.proofs.lemmas.Bool.{false≢true}
use Rattle.fip_language.specs.SoundTable.{IsSoundTable}
use Rattle.fip_language.specs.Table.{Table}
use Rattle.fip_base.specs.declared.plain.Param.{Param}
use Rattle.fip_machine.specs.cell_code.declared.code.Code.{Code}
use Rattle.fip_machine.specs.cell_code.declared.code.Function.{Function}
use Rattle.fip_machine.specs.cell_store.Made.{Loading}
use Rattle.fip_machine.specs.code_verify.Checked.{Checked, HasMachineInts}
use Rattle.fip_machine.specs.cell_store.Cells.{Cells}
use Rattle.fip_machine.specs.machine_cells.machine_semantics.Cells.{IsStore}
use Rattle.fip_machine.specs.machine_cells.machine_semantics.Runs.{loaded}
use Rattle.fip_machine.specs.machine_cells.Small.{store_of}
use Rattle.fip_machine.specs.Tasks.{Stand}
use Rattle.code_verify.specs.code_rules.Breaks.{IsSound}
use Rattle.cell_code.specs.Plain.{plain, plain_function}
use Rattle.fip_language.specs.Prefix.{IsPlace}
use Rattle.fip_language.specs.Values.{Values}
use Rattle.fip_language.specs.ValueText.{SpellsValues}
use Rattle.value_text.specs.FirstStore.{IsInOrder}
use Rattle.value_text.specs.Loaded.{types_of, needed, HasNoFree, IsGiven, IsLoaded}
use Rattle.run_safety.specs.Safe.{IsSafeTask}
use Rattle.run_safety.proofs.Headers.{loadable, given}
use Rattle.run_safety.proofs.Starting.{start_safe}
use Rattle.fip_host.specs.Hosting.{Seen, IsAtStart, StandsAtStart, IfSafe, frames_of, loading_of}
use Rattle.fip_host.specs.Starting.{IsTextStarted, IsBadText, IsTooLarge}

-- what is said of a table, parameters and credits is said of the same ones
pub moved : (P : Table → List Param → List ℕ → Type 0) (tb tb' : Table) (ps ps' : List Param) (ks ks' : List ℕ) → tb ≡ tb' → ps ≡ ps' → ks ≡ ks' → P tb ps ks → P tb' ps' ks'
moved P tb tb' ps ps' ks ks' a b d h = subst (λ t. P t ps' ks') a (subst (λ qs. P tb qs ks') b (subst (λ ls. P tb ps ls) d h))

-- a function of sound code can be loaded
pub can_load : (code : Code) (n : ℕ) (g : Function) (text : List ℕ) → IsSoundTable code.types → IsSound (plain code) → slice_get code.functions.items n ≡ Some g → length text ≤ 9223372036854775808 → IsGiven code.types (types_of g.params) g.credits.items text
can_load code n g text table sound at short = given code.types (plain_function g) text table (loadable code n g sound at) short

-- a run that begins on what was loaded is safe
pub begins_safe : (v : Checked) (n frames : ℕ) (g : Function) (text words : List ℕ) (old new : Loading) (t : Stand) → IsSound (plain v.code) → HasMachineInts (plain v.code) → slice_get v.code.functions.items n ≡ Some g → IsStore (store_of new.cells new.released) → IsLoaded v.code.types (types_of g.params) g.credits.items text old new words → StandsAtStart v n words frames (store_of new.cells new.released) t → IsSafeTask t (store_of new.cells new.released)
begins_safe v n frames g text words old new t sound ints at store load s =
    let whole : t.code ≡ v = s.code in
    start_safe t n g text old new words (frames_of frames s.held) s.state
    (subst (λ (w : Checked). IsSound (plain w.code)) (sym whole) sound)
    (subst (λ (w : Checked). HasMachineInts (plain w.code)) (sym whole) ints)
    (subst (λ (w : Checked). slice_get w.code.functions.items n ≡ Some g) (sym whole) at)
    store
    (subst (λ (w : Checked). IsLoaded w.code.types (types_of g.params) g.credits.items text old new words) (sym whole) load)
    (subst (λ (w : Checked). loaded (plain w.code) n (store_of new.cells new.released) words (frames_of frames s.held) ≡ Some s.state) (sym whole) s.loads)
    s.at

-- ---- what is said of it to the caller

-- a loading by its parts
pub joined : (l : Loading) (cs : Cells) (rs : List Bool) (n : ℕ) → cs ≡ l.cells → rs ≡ l.released → n ≡ l.left → l ≡ record { cells = cs; released = rs; left = n }
joined l cs rs n a b d =
    ap (λ (x : Cells). record { cells = x; released = l.released; left = l.left }) (sym a)
    ∙ ap (λ (x : List Bool). record { cells = cs; released = x; left = l.left }) (sym b)
    ∙ ap (λ (x : ℕ). record { cells = cs; released = rs; left = x }) (sym d)

pub text_started : (v : Checked) (n given : ℕ) (g : Function) (text words : List ℕ) (old new : Seen) (first last : Loading) → slice_get v.code.functions.items n ≡ Some g → v ≡ old.code → first ≡ loading_of old → last ≡ loading_of new → IsLoaded v.code.types (types_of g.params) g.credits.items text first last words → (HasNoFree first → IsInOrder v.code.types (types_of g.params) g.credits.items text first last words) → IsAtStart n words given new → IsTextStarted n text given old new
text_started v n given g text words old new first last at code before after load order start = record {
  function = g;
  is = subst (λ (w : Checked). slice_get w.code.functions.items n ≡ Some g) code at;
  words = words;
  loaded = subst (λ (w : Checked). IsLoaded w.code.types (types_of g.params) g.credits.items text (loading_of old) (loading_of new) words) code
      (subst (λ (l : Loading). IsLoaded v.code.types (types_of g.params) g.credits.items text l (loading_of new) words) before
      (subst (λ (l : Loading). IsLoaded v.code.types (types_of g.params) g.credits.items text first l words) after load));
  order = subst (λ (w : Checked). HasNoFree (loading_of old) → IsInOrder w.code.types (types_of g.params) g.credits.items text (loading_of old) (loading_of new) words) code
      (subst (λ (l : Loading). HasNoFree l → IsInOrder v.code.types (types_of g.params) g.credits.items text l (loading_of new) words) before
      (subst (λ (l : Loading). HasNoFree first → IsInOrder v.code.types (types_of g.params) g.credits.items text first l words) after order));
  start = start;
}

pub bad_text : (v : Checked) (n : ℕ) (g : Function) (text : List ℕ) (at : ℕ) (old new : Seen) (first l : Loading) → slice_get v.code.functions.items n ≡ Some g → v ≡ old.code → first ≡ loading_of old → l ≡ loading_of new → (l ≡ first) × IsPlace (SpellsValues v.code.types (types_of g.params)) text at → IsBadText n text old at × (loading_of new ≡ loading_of old)
bad_text v n g text at old new first l is code before after (same, place) = (
  record {
    function = g;
    is = subst (λ (w : Checked). slice_get w.code.functions.items n ≡ Some g) code is;
    place = subst (λ (w : Checked). IsPlace (SpellsValues w.code.types (types_of g.params)) text at) code place;
  },
  sym after ∙ same ∙ before,
)

pub large_text : (v : Checked) (n : ℕ) (g : Function) (text : List ℕ) (words left : ℕ) (old new : Seen) (first l : Loading) → slice_get v.code.functions.items n ≡ Some g → v ≡ old.code → first ≡ loading_of old → l ≡ loading_of new → (l ≡ first) × (left ≡ first.left) × (left < words) × (vs : Values) × SpellsValues v.code.types (types_of g.params) text vs × (words ≡ needed first g.credits.items vs) → IsTooLarge n text old words left × (loading_of new ≡ loading_of old)
large_text v n g text words left old new first l is code before after (same, room, less, vs, spelt, need) = (
  record {
    function = g;
    is = subst (λ (w : Checked). slice_get w.code.functions.items n ≡ Some g) code is;
    values = vs;
    spelled = subst (λ (w : Checked). SpellsValues w.code.types (types_of g.params) text vs) code spelt;
    words = need ∙ ap (λ (x : Loading). needed x g.credits.items vs) before;
    left = room ∙ ap (λ (x : Loading). x.left) before;
    more = less;
  },
  sym after ∙ same ∙ before,
)

-- ---- flags

pub if_safe : (b : Bool) (P : Type 0) → (b ≡ true → P) → IfSafe b P
if_safe false P h = tt
if_safe true P h = h refl

pub when_safe : (b : Bool) (P : Type 0) → IfSafe b P → b ≡ true → P
when_safe false P h e = absurd (false≢true e)
when_safe true P h e = h
