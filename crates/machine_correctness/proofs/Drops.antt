-- At a Drop of a state of a run the verifier knows the tree: the state is alive, so the kinds are those at an
-- instruction that is reached.
use Rattle.std.proofs.Common.{◌≡◌, ℕ, List, Option, Some, None, slice_get, sym, ap, subst, ◌∙◌}
use Rattle.std.proofs.lemmas.Option.{none-some, same_Some}
use Rattle.fip_machine.specs.cell_code.declared.code.Instr.{Instr}
use Rattle.fip_machine.specs.cell_code.declared.code.Instr.TheVariants as I
use Rattle.fip_machine.specs.cell_code.declared.kind.Kind.{Kind}
use Rattle.fip_machine.specs.cell_code.declared.kind.Kind.TheVariants.{Gone, Scalar, Owned, Lent, Credit}
use Rattle.fip_machine.specs.cell_code.Plain.{PlainFunction, PlainCode, plain, function_at, results}
use Rattle.compiler_correctness.specs.machine_semantics.Codes as R
use Rattle.compiler_correctness.specs.machine_semantics.Rows.{owned_type}
use Rattle.compiler_correctness.specs.machine_semantics.States.{State}
use Rattle.compiler_correctness.specs.machine_semantics.Steps.{Kinds}
use Rattle.compiler_correctness.specs.machine_semantics.Runs.{Run, Going, state_of, begun, after}
use Rattle.run_loading.specs.code_rules.Kinds.{kind_or_gone}
use Rattle.fip_machine.specs.code_verify.Checked.{Checked}
use Rattle.run_loading.specs.separation.Starts.{IsStart}
use Rattle.run_loading.specs.separation.Alive.{IsAlive}
use Rattle.run_loading.proofs.separation.Running.{run_alive}
use Rattle.run_loading.proofs.separation.Sound.{formed}
use Rattle.fip_machine.specs.Ending.{KnowsRun}

-- an owned register
owned_by : (o : Option Kind) (t : ℕ) → owned_type o ≡ Some t → (set : List ℕ) × (kind_or_gone o ≡ Owned t set)
owned_by None t e = absurd (none-some t e)
owned_by (Some Gone) t e = absurd (none-some t e)
owned_by (Some (Scalar u)) t e = absurd (none-some t e)
owned_by (Some (Owned u set)) t e = (set, ap (λ i. Owned i set) (same_Some u t e))
owned_by (Some (Lent u set root from)) t e = absurd (none-some t e)
owned_by (Some (Credit k)) t e = absurd (none-some t e)

-- an instruction that a run reads is the one that was verified
instr_read : (c : PlainCode) (f i : ℕ) (g : PlainFunction) (x : Instr) → function_at c f ≡ Some g → R.instr_at c f i ≡ Some x → slice_get g.instrs i ≡ Some x
instr_read c f i g x is e = sym (ap (λ o. R.instr_in o i) is) ∙ e

pub known : (v : Checked) (before waits : Kinds) (n : ℕ) (kept : List ℕ) (s : State) (calls : ℕ) → IsStart (plain v.code) before waits n kept s → KnowsRun v before s calls
known v before waits n kept s calls t k left steps u e r ty drop owned =
    let c = plain v.code in
    let there : after before c k (begun s calls) ≡ Going u left steps = e in
    let alive : IsAlive c (results c n) kept u = subst (λ (m : Run). IsAlive c (results c n) kept (state_of m)) there (run_alive c before waits n kept s calls k t) in
    let f = u.running.function in
    let i = u.running.at in
    let read : R.instr_at c f i ≡ Some (I.Drop r) = drop in
    let kinds : before f i ≡ alive.kinds = t.kinds.known f i alive.function alive.kinds alive.is alive.known in
    let o = owned_by (slice_get alive.kinds r) ty (ap (λ (ks : List Kind). owned_type (slice_get ks r)) (sym kinds) ∙ owned) in (
      alive.function,
      alive.is,
      formed c f alive.function t.sound alive.is,
      record {
        kinds = alive.kinds;
        register = r;
        set = o.0;
        reached = record { known = alive.known; instr = instr_read c f i alive.function (I.Drop r) alive.is read };
        owned = o.1;
      },
    )
