-- Starting a run: the state in which a function begins, and the words of its arguments and of its credits.
use Rattle.std.proofs.Common.{◌≡◌, ◌++◌, ◌≤◌, ℕ, List, [], Some, Result, Ok, Err, slice_get, option_map, length, sym, ap, ap₂, subst, ◌∙◌, arith, length-append}
use Rattle.std.specs.Prelude.{OnOk}
use Rattle.std.proofs.lemmas.Option.{same_Some, slice_get-map}
use Rattle.fip_machine.specs.cell_code.declared.code.Code.{Code}
use Rattle.fip_machine.specs.cell_code.declared.code.Function.{Function}
use Rattle.fip_machine.specs.cell_store.Made.{Loading}
use Rattle.fip_machine.specs.code_verify.Checked.{Checked}
use Rattle.fip_machine.specs.machine_cells.machine_semantics.Cells.{Store}
use Rattle.fip_machine.specs.machine_cells.machine_semantics.Runs.{loaded, loaded_in, lent_words}
use Rattle.fip_machine.specs.machine_cells.machine_semantics.States.{State}
use Rattle.fip_machine.specs.machine_cells.machine_semantics.Steps.{first_frame}
use Rattle.code_verify.specs.code_rules.Breaks.{IsSound}
use Rattle.cell_code.specs.Plain.{plain, plain_function}
use Rattle.run_safety.proofs.Headers.{loadable}
use Rattle.fip_host.specs.declared.answer.Refusal.{Refusal}
use Rattle.fip_host.specs.declared.answer.Refusal.TheVariants as R'
use Rattle.fip_host.specs.Statuses.{outcome_status}
use Rattle.fip_host.specs.Hosting.{Seen, IsAtStart, IsStarted, loading_of}
use Rattle.fip_host.specs.Making.{AreMade, HasMade}
use Rattle.fip_host.proofs.Growing.{made_length}

pub on_ok : {A E : Type 0} (r : Result A E) (P Q : Type 0) → (P → Q) → OnOk r P → OnOk r Q
on_ok (Ok x) P Q f h = f h
on_ok (Err e) P Q f h = tt

-- the state in which a function begins
module _ (code : Code) (n : ℕ) (g : Function) (store : Store) (ws : List ℕ) (frames : ℕ) where
  abbrev pub first_state : State
  first_state = record {
    store = store;
    running = first_frame n (plain_function g) ws;
    waiting = [];
    free = frames;
    lent = lent_words code.types (plain_function g).params ws;
  }

  pub loads : slice_get code.functions.items n ≡ Some g → loaded (plain code) n store ws frames ≡ Some first_state
  loads at = ap (λ o. loaded_in code.types n o store ws frames) (slice_get-map plain_function code.functions.items n ∙ ap (option_map plain_function) at)

-- the words of arguments and credits are no more than the registers
pub few_words : (code : Code) (n : ℕ) (g h : Function) (arguments words all : List ℕ) (first last : Loading) → IsSound (plain code) → slice_get code.functions.items n ≡ Some g → slice_get code.functions.items n ≡ Some h → length arguments ≡ length g.params → words ≡ arguments → HasMade g.credits.items words all first last → length all ≤ h.registers
few_words code n g h arguments words all first last sound at here as_many same made =
    let same_function : g ≡ h = same_Some g h (sym at ∙ here) in
    let room = (loadable code n g sound at).room in
    let credits = made_length g.credits.items made.more first last made.made in
    let whole = ap length made.is ∙ length-append words made.more in
    let begun = ap length same in
    subst (λ (f : Function). length all ≤ f.registers) same_function (omega (arith, room, credits, whole, begun, as_many))

abbrev pub loading_with : Store → ℕ → Loading
loading_with s n = record { cells = s.cells; released = s.released; left = n }

pub same_loading : (s t : Store) (m n : ℕ) → s ≡ t → m ≡ n → loading_with s m ≡ loading_with t n
same_loading s t m n store left = ap₂ loading_with store left

-- the function is the code's before and after, and the words that were added are those of its credits' cells
pub started : (v : Checked) (f given : ℕ) (g : Function) (arguments words all : List ℕ) (old new : Seen) (first last : Loading) → slice_get v.code.functions.items f ≡ Some g → v ≡ old.code → words ≡ arguments → HasMade g.credits.items words all first last → first ≡ loading_of old → last ≡ loading_of new → IsAtStart f all given new → IsStarted f arguments given old new
started v f given g arguments words all old new first last is code same made before after start = record {
  function = g;
  is = subst (λ (w : Checked). slice_get w.code.functions.items f ≡ Some g) code is;
  credits = made.more;
  made = subst (λ (l : Loading). AreMade g.credits.items made.more l (loading_of new)) before (subst (λ (l : Loading). AreMade g.credits.items made.more first l) after made.made);
  start = subst (λ (ws : List ℕ). IsAtStart f ws given new) (made.is ∙ ap (λ (ws : List ℕ). ws ++ made.more) same) start;
}

-- a status of 0 is that of a call that did something
pub status_ok : (r : Result (Unit {0}) Refusal) (n : ℕ) (P : Type 0) → n ≡ outcome_status r → n ≡ 0 → OnOk r P → P
status_ok (Ok x) n P e z h = h
status_ok (Err (R'.BadInput at)) n P e z h = absurd (omega (arith, e, z))
status_ok (Err (R'.TooSmall needed given)) n P e z h = absurd (omega (arith, e, z))
status_ok (Err R'.NoMemory) n P e z h = absurd (omega (arith, e, z))
status_ok (Err R'.OutOfRange) n P e z h = absurd (omega (arith, e, z))
status_ok (Err R'.NotReady) n P e z h = absurd (omega (arith, e, z))
status_ok (Err R'.WrongValue) n P e z h = absurd (omega (arith, e, z))
