-- A file is that of one trace, or it is bad at one place: the reader reaches one or the other, and reads to the end.
use Rattle.std.proofs.Common.{◌≡◌, ℕ, ◌≤◌, ◌⊎◌, Bool, true, false, nat_lt, nat_le, List, [], ◌∷◌, ◌++◌, length, refl, sym, subst, ◌∙◌, inl, inr, arith}
use Rattle.std.specs.Prelude.{codes}
use Rattle.std.proofs.lemmas.Bool.Decides.{nat_tests}
use Rattle.tree_refinement.specs.fip_language.declared.limits.TheConstants.{MOST_FILE_BYTES}
use Rattle.tree_refinement.specs.machine_semantics.Traces.{Event}
use Rattle.run_loading.specs.TraceText.{Loaded, Trace}
use Rattle.run_loading.specs.TraceReading.{Read, Got, Bad, read_number, read_exactly, read_cells}
use Rattle.run_loading.specs.TraceReading.{read_events, last_step, read_end, read_steps, read_all_events, read_all_cells}
use Rattle.run_loading.specs.TraceReading.{read_trace, IsTraceFile, IsBadTrace}
use Rattle.run_loading.proofs.Inverse.{same_got, not_bad, back_then, back_asked, of_lt}
use Rattle.tree_refinement.proofs.tree_semantics.machine_semantics.cell_code.fip_base.fip_language.Facts.{nat_lt_false as not_less}

-- ---- nothing is left after a trace

end_ends : {A : Type 0} (x y : A) (at e : ℕ) (bytes rest : List ℕ) → read_end x at bytes ≡ Got y e rest → rest ≡ []
end_ends x y at e [] rest h = sym (same_got x y at e [] rest h).1
end_ends x y at e (b ∷ bytes) rest h = absurd (not_bad y at e rest h)

steps_end : (cells : List Loaded) (events : List Event) (at : ℕ) (bytes : List ℕ) (t : Trace) (e : ℕ) (rest : List ℕ) →
    read_steps cells events at bytes ≡ Got t e rest → rest ≡ []
steps_end cells events at bytes t e rest h =
    let a = back_then (read_number 8 0 at bytes) _ t e rest h in
    let test = back_asked (nat_le (last_step events) a.0) at _ t e rest a.4 in
    end_ends (record { cells = cells; events = events; steps = a.0 }) t a.1 e a.2 rest test.1

events_end : (cells : List Loaded) (at : ℕ) (bytes : List ℕ) (t : Trace) (e : ℕ) (rest : List ℕ) →
    read_all_events cells at bytes ≡ Got t e rest → rest ≡ []
events_end cells at bytes t e rest h =
    let a = back_then (read_number 4 0 at bytes) _ t e rest h in
    let b = back_then (read_events a.0 cells 1 a.1 a.2) _ t e rest a.4 in
    steps_end cells b.0 b.1 b.2 t e rest b.4

cells_end : (at : ℕ) (bytes : List ℕ) (t : Trace) (e : ℕ) (rest : List ℕ) →
    read_all_cells at bytes ≡ Got t e rest → rest ≡ []
cells_end at bytes t e rest h =
    let a = back_then (read_number 4 0 at bytes) _ t e rest h in
    let b = back_then (read_cells a.0 0 a.1 a.2) _ t e rest a.4 in
    events_end b.0 b.1 b.2 t e rest b.4

trace_ends : (bytes : List ℕ) (t : Trace) (e : ℕ) (rest : List ℕ) → read_trace bytes ≡ Got t e rest → rest ≡ []
trace_ends bytes t e rest h =
    let a = back_then (read_exactly (codes "FP2T" ++ (0 ∷ 1 ∷ [])) 0 bytes) (λ u at rest'. read_all_cells at rest') t e rest h in
    cells_end a.1 a.2 t e rest a.4

-- ---- one or the other

abbrev Either : List ℕ → Type 0
Either bytes = ((t : Trace) × IsTraceFile bytes t) ⊎ ((at : ℕ) × IsBadTrace bytes at)

by_reading : (bytes : List ℕ) → length bytes ≤ MOST_FILE_BYTES → (r : Read Trace) → read_trace bytes ≡ r → Either bytes
by_reading bytes short (Got t e rest) h =
    inl (t, record { short = short; end = e; reads = h ∙ subst (λ r. Got t e rest ≡ Got t e r) (trace_ends bytes t e rest h) refl })
by_reading bytes short (Bad at) h = inr (at, inr (short, h))

by_length : (bytes : List ℕ) (b : Bool) → nat_lt MOST_FILE_BYTES (length bytes) ≡ b → Either bytes
by_length bytes true h = inr (MOST_FILE_BYTES, inl (of_lt MOST_FILE_BYTES (length bytes) h, refl))
by_length bytes false h = by_reading bytes (not_less MOST_FILE_BYTES (length bytes) h) (read_trace bytes) refl

pub is_one : (bytes : List ℕ) → ((t : Trace) × IsTraceFile bytes t) ⊎ ((at : ℕ) × IsBadTrace bytes at)
is_one bytes = by_length bytes (nat_lt MOST_FILE_BYTES (length bytes)) refl

pub one_trace : (bytes : List ℕ) (t u : Trace) → IsTraceFile bytes t → IsTraceFile bytes u → t ≡ u
one_trace bytes t u h k = (same_got t u h.end k.end [] [] (sym h.reads ∙ k.reads)).0

pub not_both : (bytes : List ℕ) (t : Trace) (at : ℕ) → IsTraceFile bytes t → IsBadTrace bytes at → ⊥
not_both bytes t at h (inl (long, is)) = let short : length bytes ≤ MOST_FILE_BYTES = h.short in omega arith
not_both bytes t at h (inr (short, bad)) = not_bad t at h.end [] (sym bad ∙ h.reads)

same_bad : (at to : ℕ) → ◌≡◌ {A = Read Trace} (Bad at) (Bad to) → at ≡ to
same_bad at to h = cc

pub one_place : (bytes : List ℕ) (at to : ℕ) → IsBadTrace bytes at → IsBadTrace bytes to → at ≡ to
one_place bytes at to (inl (long, is)) (inl (long', is')) = is ∙ sym is'
one_place bytes at to (inl (long, is)) (inr (short, bad)) = absurd (omega arith)
one_place bytes at to (inr (short, bad)) (inl (long, is)) = absurd (omega arith)
one_place bytes at to (inr (short, bad)) (inr (short', bad')) = same_bad at to (sym bad ∙ bad')
