-- A machine over sound code that was started on what the definition begins with comes out as the definition's run.
-- Idea: in each state of a run the verifier knows which tree a Drop releases, and no instruction is stuck.
use Rattle.std.proofs.Common.{◌≡◌, ◌∙◌, ℕ, List, Option, Some, None, slice_get, refl, sym, ap, subst}
use Rattle.std.proofs.lemmas.Option.{none-some, same_Some}
use Rattle.cell_code.specs.declared.code.Code.{Code}
use Rattle.cell_code.specs.declared.code.Instr.{Instr}
use Rattle.cell_code.specs.declared.code.Instr.TheVariants as I
use Rattle.cell_code.specs.declared.kind.Kind.{Kind}
use Rattle.cell_code.specs.declared.kind.Kind.TheVariants.{Gone, Scalar, Owned, Lent, Credit}
use Rattle.code_verify.specs.Checked.{Checked}
use Rattle.fip_machine.specs.Ending.{KnowsRun, RunsTo, IsOver}
use Rattle.fip_machine.specs.Tasks.{Stand, state_with}
use Rattle.fip_machine.specs.declared.machine.Ended.{Ended}
use Rattle.cell_code.specs.Plain.{PlainFunction, PlainCode, plain, function_at, results}
use Rattle.session_correctness.specs.tree_refinement.machine_semantics.Codes as R
use Rattle.session_correctness.specs.tree_refinement.machine_semantics.Rows.{owned_type}
use Rattle.session_correctness.specs.tree_refinement.machine_semantics.Cells.{Store}
use Rattle.session_correctness.specs.tree_refinement.machine_semantics.States.{State, Typed}
use Rattle.session_correctness.specs.tree_refinement.machine_semantics.Steps.{Kinds}
use Rattle.session_correctness.specs.tree_refinement.machine_semantics.Runs.{Run, Going, Over, Value, Trap, Out, Deep, Unsound, state_of, begun, after}
use Rattle.session_correctness.specs.tree_refinement.code_rules.Kinds.{kind_or_gone}
use Rattle.session_correctness.specs.tree_refinement.separation.Starts.{IsStart}
use Rattle.session_correctness.specs.tree_refinement.separation.Alive.{IsAlive}
use Rattle.session_correctness.proofs.tree_refinement.separation.Running.{run_alive, run_sound}
use Rattle.session_correctness.proofs.tree_refinement.separation.Sound.{formed}
use Rattle.fip_session.specs.Came.{Came}

-- ---- what a Drop releases

owned_by : (o : Option Kind) (t : ℕ) → owned_type o ≡ Some t → (set : List ℕ) × (kind_or_gone o ≡ Owned t set)
owned_by None t e = absurd (none-some t e)
owned_by (Some Gone) t e = absurd (none-some t e)
owned_by (Some (Scalar u)) t e = absurd (none-some t e)
owned_by (Some (Owned u set)) t e = (set, ap (λ i. Owned i set) (same_Some u t e))
owned_by (Some (Lent u set root from)) t e = absurd (none-some t e)
owned_by (Some (Credit k)) t e = absurd (none-some t e)

instr_read : (c : PlainCode) (f i : ℕ) (g : PlainFunction) (x : Instr) → function_at c f ≡ Some g → R.instr_at c f i ≡ Some x → slice_get g.instrs i ≡ Some x
instr_read c f i g x is e = sym (ap (λ o. R.instr_in o i) is) ∙ e

pub known : (v : Checked) (before waits : Kinds) (n : ℕ) (kept : List ℕ) (s : State) (calls : ℕ) → IsStart (plain v.code) before waits n kept s → KnowsRun v before s calls
known v before waits n kept s calls t k left steps u e r ty drop owned =
    let c = plain v.code in
    let there : after before c k (begun s calls) ≡ Going u left steps = e in
    let alive : IsAlive c (results c n) kept u = subst (λ (m : Run). IsAlive c (results c n) kept (state_of m)) there (run_alive c before waits n kept s calls k t) in
    let f = u.running.function in
    let i = u.running.at in
    let read : R.instr_at c f i ≡ Some (I.Drop r) = drop in
    let kinds : before f i ≡ alive.kinds = t.kinds.known f i alive.function alive.kinds alive.is alive.known in
    let o = owned_by (slice_get alive.kinds r) ty (ap (λ (ks : List Kind). owned_type (slice_get ks r)) (sym kinds) ∙ owned) in (
      alive.function,
      alive.is,
      formed c f alive.function t.sound alive.is,
      record {
        kinds = alive.kinds;
        register = r;
        set = o.0;
        reached = record { known = alive.known; instr = instr_read c f i alive.function (I.Drop r) alive.is read };
        owned = o.1;
      },
    )

-- ---- how it came out

pub came : (v : Checked) (before waits : Kinds) (n : ℕ) (kept : List ℕ) (s : State) (calls : ℕ) (e : Ended) (new : State) (given : List ℕ) → IsStart (plain v.code) before waits n kept s → RunsTo before (plain v.code) s calls e new given → Came (plain v.code) before s calls e given new.store
came v before waits n kept s calls e new given t h = by (after before (plain v.code) h.0 (begun s calls)) refl h.1
  where
    over : (r : Run) → after before (plain v.code) h.0 (begun s calls) ≡ r → after before (plain v.code) h.0 (begun s calls) ≡ r
    over r is = is

    by : (r : Run) → after before (plain v.code) h.0 (begun s calls) ≡ r → IsOver r e new given → Came (plain v.code) before s calls e given new.store
    by (Going u left k) is o = absurd o
    by (Over (Value ws) last left k) is o = record { end = Value ws; last = last; left = left; steps = k; ends = record { enough = h.0; is = over (Over (Value ws) last left k) is }; is = (o.0, o.2); store = ap (λ (u : State). u.store) o.1 }
    by (Over (Trap kind line col) last left k) is o = record { end = Trap kind line col; last = last; left = left; steps = k; ends = record { enough = h.0; is = over (Over (Trap kind line col) last left k) is }; is = o.0; store = ap (λ (u : State). u.store) o.1 }
    by (Over Out last left k) is o = record { end = Out; last = last; left = left; steps = k; ends = record { enough = h.0; is = over (Over Out last left k) is }; is = o.0; store = ap (λ (u : State). u.store) o.1 }
    by (Over Deep last left k) is o = record { end = Deep; last = last; left = left; steps = k; ends = record { enough = h.0; is = over (Over Deep last left k) is }; is = o.0; store = ap (λ (u : State). u.store) o.1 }
    by (Over Unsound last left k) is o = absurd (run_sound (plain v.code) before waits n kept s calls h.0 last left k t (over (Over Unsound last left k) is))

pub machine_came : (v : Checked) (before waits : Kinds) (n : ℕ) (kept : List ℕ) (s : State) (calls : ℕ) (e : Ended) (stack : Stand) (store : Store) (stack' : Stand) (store' : Store) (given : List ℕ) (u : Store) → IsStart (plain v.code) before waits n kept s → stack.code ≡ v → state_with stack s.lent store ≡ s → ((kinds : Kinds) (lent : List Typed) → KnowsRun stack.code kinds (state_with stack lent store) calls → RunsTo kinds (plain stack.code.code) (state_with stack lent store) calls e (state_with stack' lent store') stack'.given) → given ≡ stack'.given → u ≡ store' → Came (plain v.code) before s calls e given u
machine_came v before waits n kept s calls e stack store stack' store' given u t code at runs same over =
    let knows : KnowsRun stack.code before (state_with stack s.lent store) calls =
    subst (λ (w : Checked). KnowsRun w before (state_with stack s.lent store) calls) (sym code)
    (subst (λ (q : State). KnowsRun v before q calls) (sym at) (known v before waits n kept s calls t)) in
    let r : RunsTo before (plain v.code) s calls e (state_with stack' s.lent store') stack'.given =
    subst (λ (q : State). RunsTo before (plain v.code) q calls e (state_with stack' s.lent store') stack'.given) at
    (subst (λ (w : Checked). RunsTo before (plain w.code) (state_with stack s.lent store) calls e (state_with stack' s.lent store') stack'.given) code (runs before s.lent knows)) in
    subst (λ gs. Came (plain v.code) before s calls e gs u) (sym same)
    (subst (λ us. Came (plain v.code) before s calls e stack'.given us) (sym over) (came v before waits n kept s calls e (state_with stack' s.lent store') stack'.given t r))
