-- A task that begins on what was loaded from a text is safe.
use Rattle.std.proofs.Common.{◌≡◌, ℕ, List, Some, slice_get, sym, ap, subst}
use Rattle.fip_machine.specs.cell_code.declared.code.Function.{Function}
use Rattle.fip_machine.specs.cell_store.Made.{Loading}
use Rattle.fip_machine.specs.code_verify.Checked.{HasMachineInts}
use Rattle.fip_machine.specs.machine_cells.Small.{store_of}
use Rattle.fip_machine.specs.Tasks.{Stand, state_with}
use Rattle.separation.specs.machine_semantics.Cells.{Store, IsStore}
use Rattle.separation.specs.machine_semantics.Given.{IsGiven}
use Rattle.separation.specs.machine_semantics.Runs.{loaded}
use Rattle.separation.specs.machine_semantics.States.{State}
use Rattle.separation.specs.code_rules.Breaks.{IsSound}
use Rattle.separation.specs.cell_code.Plain.{plain, plain_function, results}
use Rattle.separation.specs.Starts.{IsStart}
use Rattle.separation.specs.Alive.{IsAlive}
use Rattle.separation.proofs.KindsFound.{kinds_found}
use Rattle.separation.proofs.Loading.{start_alive}
use Rattle.value_text.specs.Loaded.{types_of, IsLoaded}
use Rattle.run_safety.specs.Safe.{IsSafeTask}
use Rattle.run_safety.proofs.Headers.{there}
use Rattle.run_safety.proofs.Literals.{has_literals}
use Rattle.run_safety.proofs.Trees.{kept_in, given_of}

pub start_safe : (t : Stand) (n : ℕ) (g : Function) (bytes : List ℕ) (old new : Loading) (ws : List ℕ) (frames : ℕ) (s : State) → IsSound (plain t.code.code) → HasMachineInts (plain t.code.code) → slice_get t.code.code.functions.items n ≡ Some g → IsStore (store_of new.cells new.released) → IsLoaded t.code.code.types (types_of g.params) g.credits.items bytes old new ws → loaded (plain t.code.code) n (store_of new.cells new.released) ws frames ≡ Some s → state_with t s.lent (store_of new.cells new.released) ≡ s → IsSafeTask t (store_of new.cells new.released)
start_safe t n g bytes old new ws frames s sound ints at st l loads same =
    let code = t.code.code in
    let c = plain code in
    let f = plain_function g in
    let kept = kept_in old in
    let store : Store = store_of new.cells new.released in
    let stored : store ≡ s.store = ap (λ (x : State). x.store) same in
    let found = kinds_found c in
    let start : IsStart c found.0 found.1 n kept s = record {
      sound = sound;
      literals = has_literals c ints;
      kinds = found.2;
      function = f;
      is = there code n g at;
      words = ws;
      given = subst (λ (x : Store). IsGiven code.types f x kept ws) stored (given_of code.types f bytes old new ws st l);
      free = frames;
      loaded = subst (λ (x : Store). loaded c n x ws frames ≡ Some s) stored loads;
    } in
    record {
      types = results c n;
      kept = kept;
      lent = s.lent;
      alive = subst (IsAlive c (results c n) kept) (sym same) (start_alive c found.0 found.1 n kept s start);
    }
