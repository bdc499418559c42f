-- A trace that a recorder kept is the trace of the definitions, and its file has just the bytes that were counted.
use Rattle.std.proofs.Common.{◌≡◌, ◌∙◌, inl, inr, ℕ, zero, suc, ◌+◌, ◌*◌, ◌/◌, ◌%◌, List, [], ◌∷◌, ◌++◌, length, length-append, map, Option, Some, None, refl, ap, arith}
use Rattle.std.specs.Prelude.{codes}
use Rattle.std.proofs.lemmas.List.{length-map}
use Rattle.fip_language.specs.Store.{Cell}
use Rattle.fip_machine.specs.cell_store.Reported.{Reported, Overwritten, Released}
use Rattle.cell_trace.specs.declared.trace.LoadedCell.{LoadedCell}
use Rattle.cell_trace.specs.declared.trace.Event.{Event as a_event}
use Rattle.cell_trace.specs.declared.trace.Event.TheVariants as E
use Rattle.cell_trace.specs.declared.trace.Trace.{Trace as Memory}
use Rattle.cell_trace.specs.Traced as K
use Rattle.cell_trace.specs.Traced.{Standing, Noted, standing_from, cells_bytes, reported_bytes, events_bytes, file_bytes, Reports, IsTooLong}
use Rattle.trace_files.specs.machine_semantics.Cells.{Change, Write, Release}
use Rattle.code_verify.specs.cell_code.Plain.{PlainCode}
use Rattle.trace_files.specs.machine_semantics.Runs.{begun}
use Rattle.trace_files.specs.machine_semantics.States.{State}
use Rattle.trace_files.specs.machine_semantics.Steps.{Kinds}
use Rattle.trace_files.specs.machine_semantics.Traces.{Event, events}
use Rattle.fip_machine.specs.machine_cells.Telling.{as_reported}
use Rattle.fip_machine.specs.Traces.{noted, notes}
use Rattle.trace_files.specs.run_loading.Replaying.{loaded_from, trace_of}
use Rattle.trace_files.specs.run_loading.TraceText.{Loaded, big_endian, words_text, cells_text, change_text, events_text, trace_text}
use Rattle.trace_files.specs.Plain.{plain_cell, plain_event, plain_trace}
use Rattle.command_trace.specs.TraceAnswer.{IsLong}

-- ---- the same cells and events

abbrev as_loaded : Standing → Loaded
as_loaded c = record { place = c.place; tag = c.cell.tag; fields = c.cell.fields }

abbrev as_change : Reported → Change
as_change (Overwritten place tag fields) = Write place tag fields
as_change (Released place) = Release place

abbrev as_event : Noted → Event
as_event e = record { step = e.step; change = as_change e.reported }

cells_loaded : (cs : List LoadedCell) → map plain_cell cs ≡ map as_loaded (map K.plain_cell cs)
cells_loaded [] = refl
cells_loaded (c ∷ cs) = ap (λ ds. plain_cell c ∷ ds) (cells_loaded cs)

one_event : (e : a_event) → plain_event e ≡ as_event (K.plain_event e)
one_event (E.Put step place tag fields) = refl
one_event (E.Release step place) = refl

events_kept : (es : List a_event) → map plain_event es ≡ map as_event (map K.plain_event es)
events_kept [] = refl
events_kept (e ∷ es) = λ i. one_event e i ∷ events_kept es i

standing_loaded : (p : ℕ) (os : List (Option Cell)) → map as_loaded (standing_from p os) ≡ loaded_from p os
standing_loaded p [] = refl
standing_loaded p (None ∷ os) = standing_loaded (suc p) os
standing_loaded p (Some c ∷ os) = ap (λ ds. record { place = p; tag = c.tag; fields = c.fields } ∷ ds) (standing_loaded (suc p) os)

back : (c : Change) → as_change (as_reported c) ≡ c
back (Write place tag fields) = refl
back (Release place) = refl

noted_back : (es : List Event) → map as_event (map noted es) ≡ es
noted_back [] = refl
noted_back (e ∷ es) = λ i. record { step = e.step; change = back e.change i } ∷ noted_back es i

pub trace_is : (kinds : Kinds) (code : PlainCode) (s : State) (calls steps limit : ℕ) (t : Memory) → Reports (standing_from 0 s.store.cells) (notes kinds code s calls steps) steps limit t → plain_trace t ≡ trace_of kinds code s calls steps
trace_is kinds code s calls steps limit t h =
    let cells : map plain_cell t.cells.items ≡ loaded_from 0 s.store.cells = cells_loaded t.cells.items ∙ ap (map as_loaded) h.cells_are ∙ standing_loaded 0 s.store.cells in
    let evs : map plain_event t.events.items ≡ events kinds code steps (begun s calls) = events_kept t.events.items ∙ ap (map as_event) h.events_are ∙ noted_back (events kinds code steps (begun s calls)) in
    λ i. record { cells = cells i; events = evs i; steps = h.steps_are i }

-- ---- the bytes of its file

endian_long : (w n : ℕ) → length (big_endian w n) ≡ w
unfolding big_endian
endian_long zero n = refl
endian_long (suc w) n = let a = length-append (big_endian w (n / 256)) ((n % 256) ∷ []) in let b = endian_long w (n / 256) in omega (arith, a, b)

words_long : (ws : List ℕ) → length (words_text ws) ≡ length ws * 8
words_long [] = omega arith
words_long (w ∷ ws) = let a = length-append (big_endian 8 w) (words_text ws) in let b = endian_long 8 w in let c = words_long ws in omega (arith, a, b, c)

cells_long : (p : ℕ) (os : List (Option Cell)) → length (cells_text (loaded_from p os)) ≡ cells_bytes (standing_from p os)
cells_long p [] = refl
cells_long p (None ∷ os) = cells_long (suc p) os
cells_long p (Some c ∷ os) =
    let rest = cells_text (loaded_from (suc p) os) in
    let place = big_endian 4 p in
    let tag = big_endian 4 c.tag in
    let size = big_endian 1 (length c.fields) in
    let words = words_text c.fields in
    let a = length-append (place ++ (tag ++ (size ++ words))) rest in
    let b = length-append place (tag ++ (size ++ words)) in
    let d = length-append tag (size ++ words) in
    let e = length-append size words in
    let f = endian_long 4 p in
    let g = endian_long 4 c.tag in
    let h = endian_long 1 (length c.fields) in
    let k = words_long c.fields in
    let m = cells_long (suc p) os in
    omega (arith, a, b, d, e, f, g, h, k, m)

change_long : (c : Change) → length (change_text c) + 8 ≡ reported_bytes (as_reported c)
change_long (Write place tag fields) =
    let p = big_endian 4 place in
    let t = big_endian 4 tag in
    let a = length-append p (t ++ words_text fields) in
    let b = length-append t (words_text fields) in
    let d = endian_long 4 place in
    let e = endian_long 4 tag in
    let f = words_long fields in
    omega (arith, a, b, d, e, f)
change_long (Release place) = let a = endian_long 4 place in omega (arith, a)

events_long : (es : List Event) → length (events_text es) ≡ events_bytes (map noted es)
events_long [] = refl
events_long (e ∷ es) =
    let one = big_endian 8 e.step ++ change_text e.change in
    let a = length-append one (events_text es) in
    let b = length-append (big_endian 8 e.step) (change_text e.change) in
    let d = endian_long 8 e.step in
    let f = change_long e.change in
    let g = events_long es in
    omega (arith, a, b, d, f, g)

file_long : (kinds : Kinds) (code : PlainCode) (s : State) (calls steps : ℕ) → length (trace_text (trace_of kinds code s calls steps)) ≡ file_bytes (standing_from 0 s.store.cells) (notes kinds code s calls steps)
file_long kinds code s calls steps =
    let t = trace_of kinds code s calls steps in
    let end = big_endian 8 steps in
    let evs = events_text t.events in
    let count = big_endian 4 (length t.events) in
    let cells = cells_text t.cells in
    let first = big_endian 4 (length t.cells) in
    let a = length-append first (cells ++ (count ++ (evs ++ end))) in
    let b = length-append cells (count ++ (evs ++ end)) in
    let d = length-append count (evs ++ end) in
    let e = length-append evs end in
    let f = endian_long 8 steps in
    let g = endian_long 4 (length t.events) in
    let h = endian_long 4 (length t.cells) in
    let k = cells_long 0 s.store.cells in
    let m = events_long (events kinds code steps (begun s calls)) in
    let head = length-append (codes "FP2T") (0 ∷ 1 ∷ (first ++ (cells ++ (count ++ (evs ++ end))))) in
    omega (arith, a, b, d, e, f, g, h, k, m, head)

pub is_long : (kinds : Kinds) (code : PlainCode) (s : State) (calls steps : ℕ) → IsTooLong (standing_from 0 s.store.cells) (notes kinds code s calls steps) steps 16777216 → IsLong (trace_of kinds code s calls steps)
is_long kinds code s calls steps (inl h) = let l = file_long kinds code s calls steps in inl (omega (arith, h, l))
is_long kinds code s calls steps (inr (inl h)) = let l = length-map (events kinds code steps (begun s calls)) noted in inr (inl (omega (arith, h, l)))
is_long kinds code s calls steps (inr (inr h)) = inr (inr h)

pub not_long : (kinds : Kinds) (code : PlainCode) (s : State) (calls steps : ℕ) (t : Memory) → Reports (standing_from 0 s.store.cells) (notes kinds code s calls steps) steps 16777216 t → IsLong (trace_of kinds code s calls steps) → ⊥
not_long kinds code s calls steps t h (inl more) = let l = file_long kinds code s calls steps in let k = h.short in omega (arith, more, l, k)
not_long kinds code s calls steps t h (inr (inl more)) = let l = length-map (events kinds code steps (begun s calls)) noted in let k = h.few in omega (arith, more, l, k)
not_long kinds code s calls steps t h (inr (inr more)) = let k = h.counted in omega (arith, more, k)
