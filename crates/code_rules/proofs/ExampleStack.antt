-- The reversal calls itself in tail position alone, so that it holds its own frame.
use Rattle.std.proofs.Common.{◌≡◌, ℕ, zero, suc, ◌+◌, ◌≤◌, Bool, false, [], ◌∷◌, Some, slice_get, refl, sym, subst, arith}
use Rattle.std.proofs.lemmas.Option.{same_Some, none-some}
use Rattle.cell_code.specs.declared.code.Instr.{Instr}
use Rattle.call_groups.specs.Stacks.{charge}
use Rattle.cell_code.specs.Plain.{PlainFunction}
use Rattle.code_rules.specs.Flow.{IsInstr}
use Rattle.code_rules.specs.Calls.{IsCall, Calls}
use Rattle.code_rules.specs.StackNumbers.{words_at, HasStack}
use Rattle.code_rules.specs.Example.{function_of, rev_with, nil_taken, acc_given, cons_taken, cons_put, again, cons_known, reversal}

abbrev rev : PlainFunction
rev = function_of (2 ∷ []) (rev_with nil_taken acc_given cons_taken cons_put again) cons_known

call_at : (i b : ℕ) (k : Bool) (x : Instr) → slice_get rev.instrs i ≡ Some x → IsCall x b k → (0 ≡ b) × (k ≡ false)
call_at zero b k x e p = absurd (subst (λ y. IsCall y b k) (sym (same_Some _ x e)) p)
call_at (suc zero) b k x e p = absurd (subst (λ y. IsCall y b k) (sym (same_Some _ x e)) p)
call_at (suc (suc zero)) b k x e p = absurd (subst (λ y. IsCall y b k) (sym (same_Some _ x e)) p)
call_at (suc (suc (suc zero))) b k x e p = absurd (subst (λ y. IsCall y b k) (sym (same_Some _ x e)) p)
call_at (suc (suc (suc (suc zero)))) b k x e p = absurd (subst (λ y. IsCall y b k) (sym (same_Some _ x e)) p)
call_at (suc (suc (suc (suc (suc zero))))) b k x e p = subst (λ y. IsCall y b k) (sym (same_Some _ x e)) p
call_at (suc (suc (suc (suc (suc (suc i)))))) b k x e p = absurd (none-some x e)

calls_itself : (a b : ℕ) (k : Bool) → Calls reversal a b k → (a ≡ 0) × (0 ≡ b) × (k ≡ false)
calls_itself zero b k x =
    let same : x.1.function ≡ rev = same_Some x.1.function rev (sym x.1.is) in
    let y = call_at x.0 b k x.1.instr (subst (λ f. IsInstr f x.0 x.1.instr) same x.1.reached.instr) x.1.call in
    (refl, y.0, y.1)
calls_itself (suc a) b k x = absurd (none-some x.1.function x.1.is)

abbrev Within : (ℕ → ℕ) → ℕ → ℕ → Bool → Type 0
Within own a b k = words_at reversal b + charge (own a) k ≤ words_at reversal a

no_frame : (a b : ℕ) (k : Bool) → Calls reversal a b k → 0 + charge 1 k ≤ 0
no_frame a b k x = (let y = calls_itself a b k x in subst (λ w. 0 + charge 1 w ≤ 0) (sym y.2) (omega arith))

no_more_words : (a b : ℕ) (k : Bool) → Calls reversal a b k → Within (words_at reversal) a b k
no_more_words a b k x =
    let y = calls_itself a b k x in
    subst (λ n. Within (words_at reversal) n b k) (sym y.0) (subst (λ n. Within (words_at reversal) 0 n k) y.1 (subst (λ w. Within (words_at reversal) 0 0 w) (sym y.2) (omega arith)))

pub reversal_stack : HasStack reversal 0 (Some (record { frames = 0; words = 9 }))
reversal_stack = (
  (rev, refl, refl),
  record {
    frames = λ n. 0;
    words = words_at reversal;
    are_frames = (record { base_in = λ n. omega arith; calls_in = λ a b k x. no_frame a b k x.1 }, λ other q n. omega arith);
    are_words = (record { base_in = λ n. omega arith; calls_in = λ a b k x. no_more_words a b k x.1 }, λ other q n. q.base_in n);
    is = refl;
  },
)
