-- The file of a trace is read as that trace. Each part of a text is read as what it was written of, and what is
-- after is left; at which offset this is, doesn't matter.
use Rattle.std.proofs.Common.{◌≡◌, ◌≢◌, ℕ, zero, suc, ◌+◌, ◌*◌, ◌/◌, ◌%◌, ◌^◌, ◌<◌, ◌≤◌, Bool, true, ◌&&◌, nat_le, nat_lt}
use Rattle.std.proofs.Common.{List, [], ◌∷◌, ◌++◌, length, Option, Some, None, refl, sym, ap, subst, ◌∙◌, arith, append_assoc, le-leb}
use native.Mathlib.Nat.{pow-suc}
use Rattle.tree_refinement.specs.fip_language.declared.limits.TheConstants.{MOST_FIELDS}
use Rattle.tree_refinement.specs.fip_language.Every.{Every}
use Rattle.tree_refinement.specs.machine_semantics.Cells.{Change, Write, Release}
use Rattle.tree_refinement.specs.machine_semantics.Traces.{Event}
use Rattle.run_loading.specs.TraceText.{Loaded, Trace, big_endian, words_text, cell_text, cells_text, change_text}
use Rattle.run_loading.specs.TraceText.{events_text, trace_text, IsWord, IsCell, AreCells, size_at, left_by, IsChange}
use Rattle.run_loading.specs.TraceText.{AreEvents, IsTrace}
use Rattle.run_loading.specs.TraceReading.{Read, Got, then_read, asked, read_number, read_words, is_size}
use Rattle.run_loading.specs.TraceReading.{read_cell, read_cells, read_write, read_change, read_event, read_events}
use Rattle.run_loading.specs.TraceReading.{last_step, read_steps, read_all_events, read_all_cells, read_trace}
use Rattle.tree_refinement.proofs.tree_semantics.machine_semantics.cell_code.fip_base.fip_language.Facts.{append_none as end_nil, some_of_other as is_some}

-- x is read, and the rest is left
abbrev Gives : {A : Type 0} → Read A → A → List ℕ → Type 0
Gives r x rest = (at : ℕ) × (r ≡ Got x at rest)

then_gives : {A B : Type 0} (r : Read A) (x : A) (rest : List ℕ) (go : A → ℕ → List ℕ → Read B) (y : B)
    (end : List ℕ) → Gives r x rest → ((at : ℕ) → Gives (go x at rest) y end) → Gives (then_read r go) y end
then_gives r x rest go y end h k = ((k h.0).0, ap (λ q. then_read q go) h.1 ∙ (k h.0).1)

asked_gives : {A : Type 0} (b : Bool) (at : ℕ) (r : Read A) (x : A) (rest : List ℕ) → b ≡ true → Gives r x rest →
    Gives (asked b at r) x rest
asked_gives b at r x rest h k = subst (λ q. Gives (asked q at r) x rest) (sym h) k

-- ---- numbers

pub number_next : (w n at : ℕ) (bytes : List ℕ) →
    read_number (suc w) n at bytes ≡ then_read (read_number w n at bytes) (λ k at' rest. read_number 1 k at' rest)
unfolding read_number
number_next zero n at bytes = refl
number_next (suc w) n at [] = refl
number_next (suc w) n at (b ∷ bytes) = number_next w (256 * n + b) (suc at) bytes

front : (m k p : ℕ) → p ≡ k * 256 → m < p → m / 256 < k
front m k p h l = omega arith

joined : (m : ℕ) → 256 * (m / 256) + m % 256 ≡ m
joined m = omega arith

none : (m : ℕ) → m < 1 → 0 ≡ m
none m h = omega arith

number_gives : (w m at : ℕ) (rest : List ℕ) → m < 256 ^ w →
    Gives (read_number w 0 at (big_endian w m ++ rest)) m rest
unfolding read_number big_endian
number_gives zero m at rest h = (at, ap (λ k. Got k at rest) (none m h))
number_gives (suc w) m at rest h =
    let below : Gives (read_number w 0 at (big_endian w (m / 256) ++ (m % 256) ∷ rest)) (m / 256) ((m % 256) ∷ rest) =
    number_gives w (m / 256) at ((m % 256) ∷ rest) (front m (256 ^ w) (256 ^ suc w) (pow-suc 256 w) h) in (
      suc below.0,
      ap (λ bytes. read_number (suc w) 0 at bytes) (append_assoc (big_endian w (m / 256)) ((m % 256) ∷ []) rest)
          ∙ (number_next w 0 at (big_endian w (m / 256) ++ (m % 256) ∷ rest)
          ∙ (ap (λ q. then_read q (λ k at' rest'. read_number 1 k at' rest')) below.1
          ∙ ap (λ k. Got k (suc below.0) rest) (joined m))),
    )

words_give : (ws : List ℕ) (at : ℕ) (rest : List ℕ) → Every IsWord ws →
    Gives (read_words (length ws) at (words_text ws ++ rest)) ws rest
words_give [] at rest h = (at, refl)
words_give (w ∷ ws) at rest h =
    subst (λ bytes. Gives (read_words (length (w ∷ ws)) at bytes) (w ∷ ws) rest)
    (sym (append_assoc (big_endian 8 w) (words_text ws) rest))
    (then_gives _ w (words_text ws ++ rest) _ (w ∷ ws) rest (number_gives 8 w at (words_text ws ++ rest) h.0)
    (λ at'. then_gives _ ws rest _ (w ∷ ws) rest (words_give ws at' rest h.1) (λ at''. (at'', refl))))

-- ---- cells

pub three : (a b c rest : List ℕ) → (a ++ (b ++ c)) ++ rest ≡ a ++ (b ++ (c ++ rest))
three a b c rest = append_assoc a (b ++ c) rest ∙ ap (λ x. a ++ x) (append_assoc b c rest)

pub four : (a b c d rest : List ℕ) → (a ++ (b ++ (c ++ d))) ++ rest ≡ a ++ (b ++ (c ++ (d ++ rest)))
four a b c d rest = append_assoc a (b ++ (c ++ d)) rest ∙ ap (λ x. a ++ x) (three b c d rest)

size_is : (k : ℕ) → 1 ≤ k → k ≤ MOST_FIELDS → is_size k ≡ true
size_is k h l = ap (λ b. b && nat_le k MOST_FIELDS) (le-leb _ _ h) ∙ le-leb _ _ l

few : (k : ℕ) → k ≤ MOST_FIELDS → k < 256 ^ 1
few k h = omega arith

cell_gives : (least at : ℕ) (c : Loaded) (rest : List ℕ) → IsCell least c →
    Gives (read_cell least at (cell_text c ++ rest)) c rest
cell_gives least at c rest h =
    subst (λ bytes. Gives (read_cell least at bytes) c rest)
    (sym (four (big_endian 4 c.place) (big_endian 4 c.tag) (big_endian 1 (length c.fields)) (words_text c.fields) rest))
    (then_gives _ c.place _ _ c rest (number_gives 4 c.place at _ h.place) (λ at1.
    asked_gives _ _ _ c rest (le-leb _ _ h.above) (
    then_gives _ c.tag _ _ c rest (number_gives 4 c.tag at1 _ h.tag) (λ at2.
    then_gives _ (length c.fields) _ _ c rest (number_gives 1 (length c.fields) at2 _ (few (length c.fields) h.few)) (λ at3.
    asked_gives _ _ _ c rest (size_is (length c.fields) h.some h.few) (
    then_gives _ c.fields rest _ c rest (words_give c.fields at3 rest h.words) (λ at4. (at4, refl))))))))

cells_give : (cs : List Loaded) (least at : ℕ) (rest : List ℕ) → AreCells least cs →
    Gives (read_cells (length cs) least at (cells_text cs ++ rest)) cs rest
cells_give [] least at rest h = (at, refl)
cells_give (c ∷ cs) least at rest h =
    subst (λ bytes. Gives (read_cells (length (c ∷ cs)) least at bytes) (c ∷ cs) rest)
    (sym (append_assoc (cell_text c) (cells_text cs) rest))
    (then_gives _ c (cells_text cs ++ rest) _ (c ∷ cs) rest (cell_gives least at c (cells_text cs ++ rest) h.0)
    (λ at'. then_gives _ cs rest _ (c ∷ cs) rest (cells_give cs (suc c.place) at' rest h.1) (λ at''. (at'', refl))))

-- ---- events

write_gives : (step place at tag : ℕ) (ws : List ℕ) (rest : List ℕ) → tag < 2 ^ 32 → Every IsWord ws →
    Gives (read_write step place (length ws) at (big_endian 4 tag ++ (words_text ws ++ rest)))
    (record { step = step; change = Write place tag ws }) rest
write_gives step place at tag ws rest h k =
    then_gives _ tag (words_text ws ++ rest) _ _ rest (number_gives 4 tag at _ h)
    (λ at'. then_gives _ ws rest _ _ rest (words_give ws at' rest k) (λ at''. (at'', refl)))

-- after the step of an event that begins at `start`
changed : List Loaded → ℕ → ℕ → ℕ → List ℕ → Read Event
changed live start step at bytes =
    then_read (read_number 1 0 at bytes) (λ op at' rest. asked (nat_lt op 2) at
    (then_read (read_number 4 0 at' rest) (λ place at'' rest'.
    read_change start step op place (size_at place live) at'' rest')))

write_op : (at : ℕ) (rest : List ℕ) → Gives (read_number 1 0 at (0 ∷ rest)) 0 rest
unfolding read_number
write_op at rest = (suc at, refl)

release_op : (at : ℕ) (rest : List ℕ) → Gives (read_number 1 0 at (1 ∷ rest)) 1 rest
unfolding read_number
release_op at rest = (suc at, refl)

change_gives : (live : List Loaded) (start step at : ℕ) (c : Change) (rest : List ℕ) → IsChange live c →
    Gives (changed live start step at (change_text c ++ rest)) (record { step = step; change = c }) rest
unfolding changed
change_gives live start step at (Write place tag ws) rest (small, size, fits, words) =
    let e : Event = record { step = step; change = Write place tag ws } in
    let back = big_endian 4 tag ++ (words_text ws ++ rest) in
    then_gives _ 0 ((big_endian 4 place ++ (big_endian 4 tag ++ words_text ws)) ++ rest) _ e rest (write_op at _) (λ at1.
    subst (λ bytes. Gives (then_read (read_number 4 0 at1 bytes) (λ p at'' rest'.
    read_change start step 0 p (size_at p live) at'' rest')) e rest)
    (sym (three (big_endian 4 place) (big_endian 4 tag) (words_text ws) rest))
    (then_gives _ place back _ e rest (number_gives 4 place at1 back small) (λ at2.
    subst (λ o. Gives (read_change start step 0 place o at2 back) e rest) (sym size)
    (write_gives step place at2 tag ws rest fits words))))
change_gives live start step at (Release place) rest (small, there) =
    let e : Event = record { step = step; change = Release place } in
    let size = is_some (size_at place live) there in
    then_gives _ 1 (big_endian 4 place ++ rest) _ e rest (release_op at _) (λ at1.
    then_gives _ place rest _ e rest (number_gives 4 place at1 rest small) (λ at2.
    subst (λ o. Gives (read_change start step 1 place o at2 rest) e rest) (sym size.1) (at2, refl)))

event_gives : (live : List Loaded) (least at : ℕ) (e : Event) (rest : List ℕ) → least ≤ e.step → e.step < 2 ^ 64 →
    IsChange live e.change →
    Gives (read_event live least at ((big_endian 8 e.step ++ change_text e.change) ++ rest)) e rest
unfolding changed
event_gives live least at e rest h l k =
    subst (λ bytes. Gives (read_event live least at bytes) e rest)
    (sym (append_assoc (big_endian 8 e.step) (change_text e.change) rest))
    (then_gives _ e.step (change_text e.change ++ rest) _ e rest (number_gives 8 e.step at _ l) (λ at'.
    asked_gives _ _ _ e rest (le-leb _ _ h) (change_gives live at e.step at' e.change rest k)))

events_give : (es : List Event) (live : List Loaded) (least last at : ℕ) (rest : List ℕ) → last < 2 ^ 64 →
    AreEvents live least last es →
    Gives (read_events (length es) live least at (events_text es ++ rest)) es rest
events_give [] live least last at rest h k = (at, refl)
events_give (e ∷ es) live least last at rest h (above, below, change, more) =
    let text = big_endian 8 e.step ++ change_text e.change in
    subst (λ bytes. Gives (read_events (length (e ∷ es)) live least at bytes) (e ∷ es) rest)
    (sym (append_assoc text (events_text es) rest))
    (then_gives _ e (events_text es ++ rest) _ (e ∷ es) rest
    (event_gives live least at e (events_text es ++ rest) above (within e.step last (2 ^ 64) below h) change)
    (λ at'. then_gives _ es rest _ (e ∷ es) rest
    (events_give es (left_by e.change live) e.step last at' rest h more) (λ at''. (at'', refl))))
  where
    within : (a b c : ℕ) → a ≤ b → b < c → a < c
    within a b c h k = omega arith

last_within : (es : List Event) (live : List Loaded) (least last : ℕ) → AreEvents live least last es → last_step es ≤ last
last_within [] live least last h = omega arith
last_within (e ∷ []) live least last (above, below, change, more) = below
last_within (e ∷ f ∷ es) live least last (above, below, change, more) =
    last_within (f ∷ es) (left_by e.change live) e.step last more

-- ---- the whole file

steps_give : (t : Trace) (at : ℕ) → IsTrace t →
    Gives (read_steps t.cells t.events at (big_endian 8 t.steps ++ [])) t []
steps_give t at h =
    then_gives _ t.steps [] _ t [] (number_gives 8 t.steps at [] h.steps) (λ at'.
    asked_gives _ _ _ t [] (le-leb _ _ (last_within t.events t.cells 1 t.steps h.events)) (at', refl))

all_events_give : (t : Trace) (at : ℕ) → IsTrace t →
    Gives (read_all_events t.cells at (big_endian 4 (length t.events) ++ (events_text t.events ++ big_endian 8 t.steps)))
    t []
all_events_give t at h =
    then_gives _ (length t.events) _ _ t [] (number_gives 4 (length t.events) at _ h.event_count) (λ at'.
    then_gives _ t.events _ _ t [] (events_give t.events t.cells 1 t.steps at' (big_endian 8 t.steps) h.steps h.events)
    (λ at''. subst (λ bytes. Gives (read_steps t.cells t.events at'' bytes) t []) (end_nil (big_endian 8 t.steps))
    (steps_give t at'' h)))

all_cells_give : (t : Trace) (at : ℕ) → IsTrace t →
    Gives (read_all_cells at (big_endian 4 (length t.cells) ++ (cells_text t.cells
    ++ (big_endian 4 (length t.events) ++ (events_text t.events ++ big_endian 8 t.steps))))) t []
all_cells_give t at h =
    then_gives _ (length t.cells) _ _ t [] (number_gives 4 (length t.cells) at _ h.cell_count) (λ at'.
    then_gives _ t.cells _ _ t [] (cells_give t.cells 0 at' _ h.cells) (λ at''. all_events_give t at'' h))

pub file_is_read : (t : Trace) → IsTrace t → (end : ℕ) × (read_trace (trace_text t) ≡ Got t end [])
file_is_read t h = all_cells_give t 6 h
