-- From a state that a run of sound code may have, no run reaches an instruction that can't be done; what its Drops
-- release is what the verifier knows; and each run and each step leave such a state.
use Rattle.std.proofs.Common.{◌≡◌, ◌≢◌, ℕ, List, [], Option, Some, None, slice_get, sym, ap, subst, ◌∙◌}
use Rattle.std.proofs.lemmas.Option.{none-some, same_Some}
use Rattle.fip_machine.specs.cell_code.declared.code.Instr.{Instr}
use Rattle.fip_machine.specs.cell_code.declared.code.Instr.TheVariants as I
use Rattle.fip_machine.specs.cell_code.declared.kind.Kind.{Kind}
use Rattle.fip_machine.specs.cell_code.declared.kind.Kind.TheVariants.{Gone, Scalar, Owned, Lent, Credit}
use Rattle.fip_machine.specs.code_verify.Checked.{Checked, HasMachineInts}
use Rattle.fip_machine.specs.declared.machine.Ended.{Ended}
use Rattle.fip_machine.specs.Ending.{KnowsRun, IsOver, RunsTo, IsSafeRun}
use Rattle.fip_machine.specs.machine_cells.Small.{IsSmall}
use Rattle.fip_machine.specs.Machines.{Seen}
use Rattle.fip_machine.specs.Tasks.{Stand, state_with}
use Rattle.separation.specs.machine_semantics.Cells.{Store}
use Rattle.separation.specs.machine_semantics.Codes as R
use Rattle.separation.specs.machine_semantics.Rows.{owned_type}
use Rattle.separation.specs.machine_semantics.States.{Typed, State}
use Rattle.separation.specs.machine_semantics.Steps.{Kinds}
use Rattle.separation.specs.machine_semantics.Runs.{Value, Trap, Out, Deep, Unsound, Run, Going, Over, begun, after}
use Rattle.separation.specs.code_rules.Breaks.{IsSound}
use Rattle.separation.specs.cell_code.Plain.{PlainCode, PlainFunction, plain, function_at}
use Rattle.separation.specs.code_rules.Kinds.{kind_or_gone}
use Rattle.separation.specs.Codes.{HasLiterals, AreKinds}
use Rattle.separation.specs.Alive.{IsAlive}
use Rattle.separation.proofs.KindsFound.{kinds_found}
use Rattle.separation.proofs.Running.{GoodRun, after_good, begun_good}
use Rattle.separation.proofs.Sound.{formed}
use Rattle.run_safety.specs.Safe.{IsSafeTask}
use Rattle.run_safety.proofs.Literals.{has_literals}

-- an owned register
owned_by : (o : Option Kind) (t : ℕ) → owned_type o ≡ Some t → (set : List ℕ) × (kind_or_gone o ≡ Owned t set)
owned_by None t e = absurd (none-some t e)
owned_by (Some Gone) t e = absurd (none-some t e)
owned_by (Some (Scalar u)) t e = absurd (none-some t e)
owned_by (Some (Owned u set)) t e = (set, ap (λ i. Owned i set) (same_Some u t e))
owned_by (Some (Lent u set root from)) t e = absurd (none-some t e)
owned_by (Some (Credit k)) t e = absurd (none-some t e)

-- an instruction that a run reads is the one that was verified
instr_read : (c : PlainCode) (f i : ℕ) (g : PlainFunction) (x : Instr) → function_at c f ≡ Some g → R.instr_at c f i ≡ Some x → slice_get g.instrs i ≡ Some x
instr_read c f i g x is e = sym (ap (λ o. R.instr_in o i) is) ∙ e

-- each moment of a run from such a state
module _ (v : Checked) (before waits : Kinds) (types kept : List ℕ) (s : State) (calls : ℕ) (sound : IsSound (plain v.code)) (literals : HasLiterals (plain v.code)) (kinds : AreKinds (plain v.code) before waits) (a : IsAlive (plain v.code) types kept s) where
  moment : (k : ℕ) → GoodRun (plain v.code) types kept (after before (plain v.code) k (begun s calls))
  moment k =
      let c = plain v.code in
      after_good c before waits types kept k (begun s calls) sound literals kinds (begun_good c types kept s calls a)

  knows : KnowsRun v before s calls
  knows k left steps u e r ty drop owned =
      let c = plain v.code in
      let alive : IsAlive c types kept u = subst (GoodRun c types kept) e (moment k) in
      let f = u.running.function in
      let i = u.running.at in
      let same : before f i ≡ alive.kinds = kinds.known f i alive.function alive.kinds alive.is alive.known in
      let o = owned_by (slice_get alive.kinds r) ty (ap (λ (ks : List Kind). owned_type (slice_get ks r)) (sym same) ∙ owned) in (
        alive.function,
        alive.is,
        formed c f alive.function sound alive.is,
        record {
          kinds = alive.kinds;
          register = r;
          set = o.0;
          reached = record { known = alive.known; instr = instr_read c f i alive.function (I.Drop r) alive.is drop };
          owned = o.1;
        },
      )

  never : (k left steps : ℕ) (last : State) → after before (plain v.code) k (begun s calls) ≡ Over Unsound last left steps → ⊥
  never k left steps last e = (subst (GoodRun (plain v.code) types kept) e (moment k)).1

-- the state that a run leaves
left_alive : (c : PlainCode) (types kept : List ℕ) (r : Run) (e : Ended) (new : State) (given : List ℕ) → IsOver r e new given → GoodRun c types kept r → IsAlive c types kept new
left_alive c types kept (Going s left n) e new given h g = absurd h
left_alive c types kept (Over (Value ws) s left n) e new given h g = subst (IsAlive c types kept) (sym h.1) g.0
left_alive c types kept (Over (Trap kind line col) s left n) e new given h g = subst (IsAlive c types kept) (sym h.1) g.0
left_alive c types kept (Over Out s left n) e new given h g = subst (IsAlive c types kept) (sym h.1) g.0
left_alive c types kept (Over Deep s left n) e new given h g = subst (IsAlive c types kept) (sym h.1) g.0
left_alive c types kept (Over Unsound s left n) e new given h g = absurd g.1

-- ---- tasks

pub safe_run : (m : Seen) (calls : ℕ) → IsSound (plain m.stack.code.code) → HasMachineInts (plain m.stack.code.code) → m.stack.ended ≡ None → IsSmall m.store.cells → m.pushed ≡ [] → IsSafeTask m.stack m.store → IsSafeRun m calls
safe_run m calls sound ints going small empty safe =
    let v = m.stack.code in
    let s = state_with m.stack safe.lent m.store in
    let found = kinds_found (plain v.code) in
    let literals = has_literals (plain v.code) ints in
    record {
      going = going;
      small = small;
      empty = empty;
      kinds = found.0;
      lent = safe.lent;
      knows = knows v found.0 found.1 safe.types safe.kept s calls sound literals found.2 safe.alive;
      never = λ n left steps last e. never v found.0 found.1 safe.types safe.kept s calls sound literals found.2 safe.alive n left steps last e;
    }

-- what a run of a task says
abbrev pub SaysRun : Stand → Store → ℕ → Ended → Stand → Store → Type 0
SaysRun t s calls e u w = (kinds : Kinds) (lent : List Typed) → KnowsRun t.code kinds (state_with t lent s) calls → RunsTo kinds (plain t.code.code) (state_with t lent s) calls e (state_with u lent w) u.given

pub run_leaves : (t u : Stand) (s w : Store) (calls : ℕ) (e : Ended) → IsSound (plain t.code.code) → HasMachineInts (plain t.code.code) → u.code ≡ t.code → IsSafeTask t s → SaysRun t s calls e u w → IsSafeTask u w
run_leaves t u s w calls e sound ints same safe says =
    let v = t.code in
    let c = plain v.code in
    let first = state_with t safe.lent s in
    let found = kinds_found c in
    let literals = has_literals c ints in
    let known = knows v found.0 found.1 safe.types safe.kept first calls sound literals found.2 safe.alive in
    let ran = says found.0 safe.lent known in
    let good = moment v found.0 found.1 safe.types safe.kept first calls sound literals found.2 safe.alive ran.0 in
    let alive : IsAlive c safe.types safe.kept (state_with u safe.lent w) = left_alive c safe.types safe.kept (after found.0 (plain v.code) ran.0 (begun first calls)) e (state_with u safe.lent w) u.given ran.1 good in
    record {
      types = safe.types;
      kept = safe.kept;
      lent = safe.lent;
      alive = subst (λ (x : Checked). IsAlive (plain x.code) safe.types safe.kept (state_with u safe.lent w)) (sym same) alive;
    }
