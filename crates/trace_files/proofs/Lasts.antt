-- The step of the last event.
use Rattle.std.proofs.Common.{◌≡◌, ℕ, zero, suc, ◌-◌, ◌<◌, List, [], ◌∷◌, length, map, Some, None, slice_get, refl, sym, ap, arith}
use Rattle.std.proofs.lemmas.Option.{none-some, same_Some}
use Rattle.cell_trace.specs.declared.trace.Event.{Event}
use Rattle.run_loading.specs.TraceReading.{last_step}
use Rattle.trace_files.specs.Plain.{plain_event}

at_end : (es : List Event) (k : ℕ) (e : Event) → suc k ≡ length es → slice_get es k ≡ Some e → last_step (map plain_event es) ≡ (plain_event e).step
at_end [] k e n h = absurd (omega arith)
at_end (x ∷ []) zero e n h = ap (λ y. (plain_event y).step) (same_Some x e h)
at_end (x ∷ []) (suc k) e n h = absurd (omega arith)
at_end (x ∷ y ∷ es) zero e n h = absurd (omega arith)
at_end (x ∷ y ∷ es) (suc k) e n h = at_end (y ∷ es) k e (omega arith) h

none_at : (es : List Event) (k : ℕ) → k < length es → slice_get es k ≡ None → ⊥
none_at [] k lt h = omega arith
none_at (x ∷ es) zero lt h = none-some x (sym h)
none_at (x ∷ es) (suc k) lt h = none_at es k (omega arith) h

pub last_is : (es : List Event) (e : Event) → slice_get es (length es - 1) ≡ Some e → last_step (map plain_event es) ≡ (plain_event e).step
last_is [] e h = absurd (none-some e h)
last_is (x ∷ es) e h = at_end (x ∷ es) (length (x ∷ es) - 1) e (omega arith) h

pub last_none : (es : List Event) → slice_get es (length es - 1) ≡ None → last_step (map plain_event es) ≡ 0
last_none [] h = refl
last_none (x ∷ es) h = absurd (none_at (x ∷ es) (length (x ∷ es) - 1) (omega arith) h)
