-- A turn of a walk's loop, where the code and the function are in forms of their own.
use Rattle.std.proofs.Common.{◌≡◌, ℕ, suc, Bool, List, Option, sym, ap, ap₂, ◌∙◌, subst, subst₂}
use Rattle.fip_language.specs.Table.{Table}
use Rattle.cell_code.specs.declared.code.Code.{Code}
use Rattle.cell_code.specs.declared.code.Function.{Function}
use Rattle.cell_code.specs.declared.code.Instr.{Instr}
use Rattle.cell_code.specs.declared.kind.Kind.{Kind}
use Rattle.cell_code.specs.Plain.{LabelMap, PlainFunction, PlainCode, plain_function, plain}
use Rattle.code_rules.specs.Codes.{label_at}
use Rattle.code_rules.specs.Entry.{entry}
use Rattle.code_rules.specs.Flow.{IsInstr}
use Rattle.code_rules.specs.Handing.{kept_if}
use Rattle.code_rows.specs.register_kinds.State.{of_types}
use Rattle.code_rows.specs.Placing.{code_in, with_maps}
use Rattle.code_verify.specs.declared.walk.Found.{Found}
use Rattle.code_verify.specs.Steps.{here, GoesAfter, Took}
use Rattle.code_verify.specs.Finding.{Coming, Knowing, IsFound}
use Rattle.code_verify.proofs.Walking.{step_found, step_coming, enter_knowing}

pub code_same : (code : Code) (w : Table) (fs : List Function) → w ≡ code.types → fs ≡ code.functions.items → code_in w fs ≡ plain code
code_same code w fs e g = ap₂ code_in e g

pub function_same : (f : Function) (maps : List LabelMap) → maps ≡ (plain_function f).labels → with_maps (plain_function f) maps ≡ plain_function f
function_same f maps e = ap (with_maps (plain_function f)) e

pub entry_same : (code : Code) (w : Table) (f : PlainFunction) → w ≡ code.types → entry (of_types w) f ≡ entry (plain code) f
entry_same code w f e = ap (λ v. entry (of_types v) f) e

-- what is known and found after a turn
pub record IsTurned (c : PlainCode) (n : ℕ) (f : PlainFunction) (i : ℕ) (cur : Option (List Kind)) (r : Found) : Type 0 where
  pub coming : Coming c f i cur
  pub found : IsFound c n f i r

pub turn : (c d : PlainCode) (f g : PlainFunction) → d ≡ c → g ≡ f → (n i k : ℕ) (x : Instr) (known mid goes : Bool) (ks qs left : List Kind) (maps : List LabelMap) (old new : Found) → suc i ≡ k → IsInstr f i x → maps ≡ f.labels → kept_if mid qs ≡ here (label_at maps i) (kept_if known ks) → GoesAfter d g i (kept_if mid qs) x goes left → Took d n g i (kept_if mid qs) x goes left old new → Coming c f i (kept_if known ks) → IsFound c n f i old → IsTurned c n f k (kept_if goes left) new
turn c d f g same_c same_f n i k x known mid goes ks qs left maps old new next is m h goes_on took coming found =
    let here_is : kept_if mid qs ≡ here (label_at f.labels i) (kept_if known ks) = h ∙ ap (λ ms. here (label_at ms i) (kept_if known ks)) m in
    let knows : Knowing c f i (kept_if mid qs) = subst (Knowing c f i) (sym here_is) (enter_knowing c f i (kept_if known ks) coming) in
    let on : GoesAfter c f i (kept_if mid qs) x goes left = subst₂ (λ a b. GoesAfter a b i (kept_if mid qs) x goes left) same_c same_f goes_on in
    let took_here : Took c n f i (kept_if mid qs) x goes left old new = subst₂ (λ a b. Took a n b i (kept_if mid qs) x goes left old new) same_c same_f took in
    subst (λ j. IsTurned c n f j (kept_if goes left) new) next (record {
      coming = step_coming c f i (kept_if mid qs) x goes left knows is on;
      found = step_found c n f i (kept_if mid qs) x goes left old new knows is on took_here found;
    })
