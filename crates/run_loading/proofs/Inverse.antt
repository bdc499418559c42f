-- What is read to the end of a file is a trace, and the file is its text: each step of the reader is taken back.
use Rattle.std.proofs.Common.{◌≡◌, ◌≢◌, ℕ, zero, suc, ◌+◌, ◌*◌, ◌/◌, ◌%◌, ◌^◌, ◌<◌, ◌≤◌, Bool, true, false, ◌&&◌, nat_le, nat_lt}
use Rattle.std.proofs.Common.{List, [], ◌∷◌, ◌++◌, length, Option, Some, None, refl, sym, ap, subst, ◌∙◌, arith, append_assoc}
use Rattle.std.specs.Prelude.{codes, ◌==◌}
use Rattle.std.proofs.lemmas.Bool.Decides.{nat_tests}
use native.Mathlib.Nat.{pow-suc}
use Rattle.tree_refinement.specs.fip_language.declared.limits.TheConstants.{MOST_FIELDS}
use Rattle.tree_refinement.specs.fip_language.Every.{Every}
use Rattle.tree_refinement.specs.machine_semantics.Cells.{Write, Release}
use Rattle.tree_refinement.specs.machine_semantics.Traces.{Event}
use Rattle.run_loading.specs.TraceText.{Loaded, Trace, big_endian, words_text, cell_text, cells_text, change_text}
use Rattle.run_loading.specs.TraceText.{events_text, trace_text, IsWord, IsCell, AreCells, size_at, left_by, IsChange}
use Rattle.run_loading.specs.TraceText.{AreEvents, IsTrace}
use Rattle.run_loading.specs.TraceReading.{Read, Got, Bad, then_read, asked, read_number, read_exactly, read_words, is_size}
use Rattle.run_loading.specs.TraceReading.{read_fields, read_cell, read_cells, read_write, read_change, read_event}
use Rattle.run_loading.specs.TraceReading.{read_events, last_step, read_end, read_steps, read_all_events, read_all_cells}
use Rattle.run_loading.specs.TraceReading.{read_trace, AreBytes}
use Rattle.run_loading.proofs.Reading.{number_next, three, four}
use Rattle.tree_refinement.proofs.tree_semantics.machine_semantics.cell_code.fip_base.fip_language.Facts.{and_both as both, append_none as end_nil, nat_le_true as of_le, same_number as of_same}
pub use Rattle.tree_refinement.proofs.tree_semantics.machine_semantics.cell_code.fip_base.fip_language.Facts.{nat_lt_true as of_lt}

-- ---- the reader's own words

pub same_got : {A : Type 0} (x y : A) (at e : ℕ) (rest end : List ℕ) → Got x at rest ≡ Got y e end → (x ≡ y) × (rest ≡ end)
same_got x y at e rest end h = (cc, cc)

pub not_bad : {A : Type 0} (y : A) (at e : ℕ) (end : List ℕ) → ◌≡◌ {A = Read A} (Bad at) (Got y e end) → ⊥
not_bad y at e end h = cc

pub back_then : {A B : Type 0} (r : Read A) (go : A → ℕ → List ℕ → Read B) (y : B) (e : ℕ) (end : List ℕ) →
    then_read r go ≡ Got y e end →
    (x : A) × (at : ℕ) × (rest : List ℕ) × (r ≡ Got x at rest) × (go x at rest ≡ Got y e end)
back_then (Got x at rest) go y e end h = (x, at, rest, refl, h)
back_then (Bad at) go y e end h = absurd (not_bad y at e end h)

pub back_asked : {A : Type 0} (b : Bool) (at : ℕ) (r : Read A) (y : A) (e : ℕ) (end : List ℕ) →
    asked b at r ≡ Got y e end → (b ≡ true) × (r ≡ Got y e end)
back_asked true at r y e end h = (refl, h)
back_asked false at r y e end h = absurd (not_bad y at e end h)

-- ---- numbers

-- bytes are the text, and then rest, which are bytes again
abbrev Before : List ℕ → List ℕ → List ℕ → Type 0
Before bytes text rest = (bytes ≡ text ++ rest) × AreBytes rest

back_one : (k at : ℕ) (bytes : List ℕ) (m e : ℕ) (rest : List ℕ) → AreBytes bytes →
    read_number 1 k at bytes ≡ Got m e rest →
    (b : ℕ) × (b < 256) × (m ≡ 256 * k + b) × (bytes ≡ b ∷ rest) × AreBytes rest
unfolding read_number
back_one k at [] m e rest small h = absurd (not_bad m at e rest h)
back_one k at (b ∷ bytes) m e rest small h =
    let same = same_got (256 * k + b) m (suc at) e bytes rest h in
    (b, small.0, sym same.0, ap (λ bs. b ∷ bs) same.1, subst AreBytes same.1 small.1)

quotient : (m k b : ℕ) → b < 256 → m ≡ 256 * k + b → m / 256 ≡ k
quotient m k b h e = omega arith

remainder : (m k b : ℕ) → b < 256 → m ≡ 256 * k + b → m % 256 ≡ b
remainder m k b h e = omega arith

below : (m k b p q : ℕ) → p ≡ q * 256 → k < q → b < 256 → m ≡ 256 * k + b → m < p
below m k b p q h l l' e = omega arith

none_below : (m : ℕ) → 0 ≡ m → m < 1
none_below m h = omega arith

back_number : (w at : ℕ) (bytes : List ℕ) (m e : ℕ) (rest : List ℕ) → AreBytes bytes →
    read_number w 0 at bytes ≡ Got m e rest → (m < 256 ^ w) × Before bytes (big_endian w m) rest
unfolding read_number big_endian
back_number zero at bytes m e rest small h =
    let same = same_got 0 m at e bytes rest h in
    (none_below m same.0, (same.1, subst AreBytes same.1 small))
back_number (suc w) at bytes m e rest small h =
    let parts = back_then (read_number w 0 at bytes) (λ k at' rest'. read_number 1 k at' rest') m e rest
    (sym (number_next w 0 at bytes) ∙ h) in
    let high = back_number w at bytes parts.0 parts.1 parts.2 small parts.3 in
    let low = back_one parts.0 parts.1 parts.2 m e rest (high.1).1 parts.4 in (
      below m parts.0 low.0 (256 ^ suc w) (256 ^ w) (pow-suc 256 w) high.0 low.1 low.2,
      (
        (high.1).0
            ∙ (ap (λ bs. big_endian w parts.0 ++ bs) low.3
            ∙ (ap (λ k. big_endian w k ++ (low.0 ∷ rest)) (sym (quotient m parts.0 low.0 low.1 low.2))
            ∙ (ap (λ b. big_endian w (m / 256) ++ (b ∷ rest)) (sym (remainder m parts.0 low.0 low.1 low.2))
            ∙ sym (append_assoc (big_endian w (m / 256)) ((m % 256) ∷ []) rest)))),
        low.4,
      ),
    )

back_exactly : (ws : List ℕ) (at : ℕ) (bytes : List ℕ) (u : Unit {0}) (e : ℕ) (rest : List ℕ) → AreBytes bytes →
    read_exactly ws at bytes ≡ Got u e rest → Before bytes ws rest
back_exactly [] at bytes u e rest small h =
    let same = same_got tt u at e bytes rest h in (same.1, subst AreBytes same.1 small)
back_exactly (w ∷ ws) at [] u e rest small h = absurd (not_bad u at e rest h)
back_exactly (w ∷ ws) at (b ∷ bytes) u e rest small h =
    let test = back_asked (b == w) at (read_exactly ws (suc at) bytes) u e rest h in
    let more = back_exactly ws (suc at) bytes u e rest small.1 test.1 in
    (ap (λ x. x ∷ bytes) (of_same b w test.0) ∙ ap (λ bs. w ∷ bs) more.0, more.1)

-- ---- words

abbrev Words : ℕ → List ℕ → List ℕ → List ℕ → Type 0
Words n bytes ws rest = (length ws ≡ n) × Every IsWord ws × Before bytes (words_text ws) rest

back_words : (n at : ℕ) (bytes ws : List ℕ) (e : ℕ) (rest : List ℕ) → AreBytes bytes →
    read_words n at bytes ≡ Got ws e rest → Words n bytes ws rest
back_words zero at bytes ws e rest small h =
    let same = same_got [] ws at e bytes rest h in
    subst (λ xs. Words 0 bytes xs rest) same.0 (refl, tt, (same.1, subst AreBytes same.1 small))
back_words (suc n) at bytes ws e rest small h =
    let one = back_then (read_number 8 0 at bytes) _ ws e rest h in
    let word = back_number 8 at bytes one.0 one.1 one.2 small one.3 in
    let more = back_then (read_words n one.1 one.2) (λ xs at'' rest'. Got (one.0 ∷ xs) at'' rest') ws e rest one.4 in
    let others = back_words n one.1 one.2 more.0 more.1 more.2 (word.1).1 more.3 in
    let same = same_got (one.0 ∷ more.0) ws more.1 e more.2 rest more.4 in
    subst (λ xs. Words (suc n) bytes xs rest) same.0 (
      ap suc others.0,
      (word.0, others.1),
      (
        subst (λ r. bytes ≡ words_text (one.0 ∷ more.0) ++ r) same.1
            ((word.1).0 ∙ (ap (λ bs. big_endian 8 one.0 ++ bs) (others.2).0
            ∙ sym (append_assoc (big_endian 8 one.0) (words_text more.0) more.2))),
        subst AreBytes same.1 (others.2).1,
      ),
    )

-- ---- cells

abbrev Cell' : ℕ → List ℕ → Loaded → List ℕ → Type 0
Cell' least bytes c rest = IsCell least c × Before bytes (cell_text c) rest

of_size : (k : ℕ) → is_size k ≡ true → (1 ≤ k) × (k ≤ MOST_FIELDS)
of_size k h = let parts = both (nat_le 1 k) (nat_le k MOST_FIELDS) h in (of_le 1 k parts.0, of_le k MOST_FIELDS parts.1)

back_fields : (start place tag size at : ℕ) (bytes : List ℕ) (c : Loaded) (e : ℕ) (rest : List ℕ) → AreBytes bytes →
    read_fields start place tag size at bytes ≡ Got c e rest →
    (ws : List ℕ) × (c ≡ record { place = place; tag = tag; fields = ws }) × (1 ≤ size) × (size ≤ MOST_FIELDS)
    × Words size bytes ws rest
back_fields start place tag size at bytes c e rest small h =
    let test = back_asked (is_size size) start _ c e rest h in
    let parts = back_then (read_words size at bytes)
    (λ ws at' rest'. Got (record { place = place; tag = tag; fields = ws }) at' rest') c e rest test.1 in
    let words = back_words size at bytes parts.0 parts.1 parts.2 small parts.3 in
    let same = same_got (record { place = place; tag = tag; fields = parts.0 }) c parts.1 e parts.2 rest parts.4 in
    let sized = of_size size test.0 in
    (parts.0, sym same.0, sized.0, sized.1, subst (λ r. Words size bytes parts.0 r) same.1 words)

back_cell : (least at : ℕ) (bytes : List ℕ) (c : Loaded) (e : ℕ) (rest : List ℕ) → AreBytes bytes →
    read_cell least at bytes ≡ Got c e rest → Cell' least bytes c rest
back_cell least at bytes c e rest small h =
    let a = back_then (read_number 4 0 at bytes) _ c e rest h in
    let place = back_number 4 at bytes a.0 a.1 a.2 small a.3 in
    let test = back_asked (nat_le least a.0) at _ c e rest a.4 in
    let b = back_then (read_number 4 0 a.1 a.2) _ c e rest test.1 in
    let tag = back_number 4 a.1 a.2 b.0 b.1 b.2 (place.1).1 b.3 in
    let d = back_then (read_number 1 0 b.1 b.2) _ c e rest b.4 in
    let size = back_number 1 b.1 b.2 d.0 d.1 d.2 (tag.1).1 d.3 in
    let f = back_fields at a.0 b.0 d.0 d.1 d.2 c e rest (size.1).1 d.4 in
    let ws : List ℕ = f.0 in
    let words = f.4 in
    subst (λ x. Cell' least bytes x rest) (sym f.1) (
      record {
        above = of_le least a.0 test.0;
        place = place.0;
        tag = tag.0;
        some = subst (λ k. 1 ≤ k) (sym words.0) f.2;
        few = subst (λ k. k ≤ MOST_FIELDS) (sym words.0) f.3;
        words = words.1;
      },
      (
        (place.1).0 ∙ (ap (λ bs. big_endian 4 a.0 ++ bs) ((tag.1).0 ∙ ap (λ bs. big_endian 4 b.0 ++ bs) (
            (size.1).0 ∙ (ap (λ k. big_endian 1 k ++ d.2) (sym words.0)
            ∙ ap (λ bs. big_endian 1 (length ws) ++ bs) (words.2).0)))
            ∙ sym (four (big_endian 4 a.0) (big_endian 4 b.0) (big_endian 1 (length ws)) (words_text ws) rest)),
        (words.2).1,
      ),
    )

abbrev Cells : ℕ → ℕ → List ℕ → List Loaded → List ℕ → Type 0
Cells n least bytes cs rest = (length cs ≡ n) × AreCells least cs × Before bytes (cells_text cs) rest

back_cells : (n least at : ℕ) (bytes : List ℕ) (cs : List Loaded) (e : ℕ) (rest : List ℕ) → AreBytes bytes →
    read_cells n least at bytes ≡ Got cs e rest → Cells n least bytes cs rest
back_cells zero least at bytes cs e rest small h =
    let same = same_got [] cs at e bytes rest h in
    subst (λ xs. Cells 0 least bytes xs rest) same.0 (refl, tt, (same.1, subst AreBytes same.1 small))
back_cells (suc n) least at bytes cs e rest small h =
    let one = back_then (read_cell least at bytes) _ cs e rest h in
    let cell = back_cell least at bytes one.0 one.1 one.2 small one.3 in
    let more = back_then (read_cells n (suc (one.0).place) one.1 one.2)
    (λ xs at'' rest'. Got (one.0 ∷ xs) at'' rest') cs e rest one.4 in
    let others = back_cells n (suc (one.0).place) one.1 one.2 more.0 more.1 more.2 (cell.1).1 more.3 in
    let same = same_got (one.0 ∷ more.0) cs more.1 e more.2 rest more.4 in
    subst (λ xs. Cells (suc n) least bytes xs rest) same.0 (
      ap suc others.0,
      (cell.0, others.1),
      (
        subst (λ r. bytes ≡ cells_text (one.0 ∷ more.0) ++ r) same.1
            ((cell.1).0 ∙ (ap (λ bs. cell_text one.0 ++ bs) (others.2).0
            ∙ sym (append_assoc (cell_text one.0) (cells_text more.0) more.2))),
        subst AreBytes same.1 (others.2).1,
      ),
    )

-- ---- events

-- the bytes after an event's step
abbrev Changes : List Loaded → ℕ → List ℕ → Event → List ℕ → Type 0
Changes live step bytes v rest = (v.step ≡ step) × IsChange live v.change × Before bytes (change_text v.change) rest

back_write : (live : List Loaded) (step place size at : ℕ) (bytes : List ℕ) (v : Event) (e : ℕ) (rest : List ℕ) →
    size_at place live ≡ Some size → place < 2 ^ 32 → AreBytes bytes →
    read_write step place size at bytes ≡ Got v e rest →
    Changes live step (0 ∷ (big_endian 4 place ++ bytes)) v rest
back_write live step place size at bytes v e rest there low small h =
    let a = back_then (read_number 4 0 at bytes) _ v e rest h in
    let tag = back_number 4 at bytes a.0 a.1 a.2 small a.3 in
    let b = back_then (read_words size a.1 a.2)
    (λ ws at' rest'. Got (record { step = step; change = Write place a.0 ws }) at' rest') v e rest a.4 in
    let words = back_words size a.1 a.2 b.0 b.1 b.2 (tag.1).1 b.3 in
    let same = same_got (record { step = step; change = Write place a.0 b.0 }) v b.1 e b.2 rest b.4 in
    subst (λ x. Changes live step (0 ∷ (big_endian 4 place ++ bytes)) x rest) same.0 (
      refl,
      (low, there ∙ ap (λ k. Some k) (sym words.0), tag.0, words.1),
      (
        ap (λ bs. 0 ∷ bs) (ap (λ bs. big_endian 4 place ++ bs)
            ((tag.1).0 ∙ ap (λ bs. big_endian 4 a.0 ++ bs) ((words.2).0 ∙ ap (λ r. words_text b.0 ++ r) same.1))
            ∙ sym (three (big_endian 4 place) (big_endian 4 a.0) (words_text b.0) rest)),
        subst AreBytes same.1 (words.2).1,
      ),
    )

not_none : (n : ℕ) (o : Option ℕ) → o ≡ Some n → o ≢ None
not_none n o h k = cc

back_release : (live : List Loaded) (step place size k at : ℕ) (bytes : List ℕ) (v : Event) (e : ℕ) (rest : List ℕ) →
    size_at place live ≡ Some size → place < 2 ^ 32 → suc k < 2 → AreBytes bytes →
    Got (record { step = step; change = Release place }) at bytes ≡ Got v e rest →
    Changes live step (suc k ∷ (big_endian 4 place ++ bytes)) v rest
back_release live step place size k at bytes v e rest there low one small h =
    let same = same_got (record { step = step; change = Release place }) v at e bytes rest h in
    let is : suc k ≡ 1 = omega arith in
    subst (λ x. Changes live step (suc k ∷ (big_endian 4 place ++ bytes)) x rest) same.0 (
      refl,
      (low, not_none size (size_at place live) there),
      (
        ap (λ x. x ∷ (big_endian 4 place ++ bytes)) is ∙ ap (λ r. 1 ∷ (big_endian 4 place ++ r)) same.1,
        subst AreBytes same.1 small,
      ),
    )

back_change : (live : List Loaded) (start step op place : ℕ) (o : Option ℕ) (at : ℕ) (bytes : List ℕ) (v : Event)
    (e : ℕ) (rest : List ℕ) → size_at place live ≡ o → place < 2 ^ 32 → op < 2 → AreBytes bytes →
    read_change start step op place o at bytes ≡ Got v e rest →
    Changes live step (op ∷ (big_endian 4 place ++ bytes)) v rest
back_change live start step op place None at bytes v e rest there low two small h = absurd (not_bad v start e rest h)
back_change live start step zero place (Some size) at bytes v e rest there low two small h =
    back_write live step place size at bytes v e rest there low small h
back_change live start step (suc k) place (Some size) at bytes v e rest there low two small h =
    back_release live step place size k at bytes v e rest there low two small h

abbrev Event' : List Loaded → ℕ → List ℕ → Event → List ℕ → Type 0
Event' live least bytes v rest = (least ≤ v.step) × (v.step < 2 ^ 64) × IsChange live v.change
    × Before bytes (big_endian 8 v.step ++ change_text v.change) rest

no_more : (m b : ℕ) → m ≡ 256 * 0 + b → m ≡ b
no_more m b h = omega arith

back_event : (live : List Loaded) (least at : ℕ) (bytes : List ℕ) (v : Event) (e : ℕ) (rest : List ℕ) → AreBytes bytes →
    read_event live least at bytes ≡ Got v e rest → Event' live least bytes v rest
back_event live least at bytes v e rest small h =
    let a = back_then (read_number 8 0 at bytes) _ v e rest h in
    let step = back_number 8 at bytes a.0 a.1 a.2 small a.3 in
    let first = back_asked (nat_le least a.0) at _ v e rest a.4 in
    let b = back_then (read_number 1 0 a.1 a.2) _ v e rest first.1 in
    let op = back_one 0 a.1 a.2 b.0 b.1 b.2 (step.1).1 b.3 in
    let second = back_asked (nat_lt b.0 2) a.1 _ v e rest b.4 in
    let d = back_then (read_number 4 0 b.1 b.2) _ v e rest second.1 in
    let place = back_number 4 b.1 b.2 d.0 d.1 d.2 op.4 d.3 in
    let f = back_change live at a.0 b.0 d.0 (size_at d.0 live) d.1 d.2 v e rest refl place.0 (of_lt b.0 2 second.0)
    (place.1).1 d.4 in (
      subst (λ k. least ≤ k) (sym f.0) (of_le least a.0 first.0),
      subst (λ k. k < 2 ^ 64) (sym f.0) step.0,
      f.1,
      (
        (step.1).0 ∙ (ap (λ bs. big_endian 8 a.0 ++ bs) (op.3 ∙ (ap (λ x. x ∷ b.2) (sym (no_more b.0 op.0 op.2))
            ∙ (ap (λ bs. b.0 ∷ bs) (place.1).0 ∙ (f.2).0)))
            ∙ (ap (λ k. big_endian 8 k ++ (change_text v.change ++ rest)) (sym f.0)
            ∙ sym (append_assoc (big_endian 8 v.step) (change_text v.change) rest))),
        (f.2).1,
      ),
    )

-- events that stop at a number that is no less than the last one's step
abbrev Events : ℕ → List Loaded → ℕ → List ℕ → List Event → List ℕ → Type 0
Events n live least bytes es rest = (length es ≡ n) × ((last : ℕ) → last_step es ≤ last → AreEvents live least last es)
    × Before bytes (events_text es) rest

reaches : (v : Event) (es : List Event) (live : List Loaded) (last : ℕ) → last_step (v ∷ es) ≤ last →
    (last_step es ≤ last → AreEvents live v.step last es) → v.step ≤ last
reaches v [] live last h k = h
reaches v (w ∷ es) live last h k = let more = k h in up v.step w.step last more.0 more.1
  where
    up : (a b c : ℕ) → a ≤ b → b ≤ c → a ≤ c
    up a b c p q = omega arith

goes_on : (v : Event) (es : List Event) (last : ℕ) → last_step (v ∷ es) ≤ last → last_step es ≤ last
goes_on v [] last h = omega arith
goes_on v (w ∷ es) last h = h

back_events : (n : ℕ) (live : List Loaded) (least at : ℕ) (bytes : List ℕ) (es : List Event) (e : ℕ) (rest : List ℕ) →
    AreBytes bytes → read_events n live least at bytes ≡ Got es e rest → Events n live least bytes es rest
back_events zero live least at bytes es e rest small h =
    let same = same_got [] es at e bytes rest h in
    subst (λ xs. Events 0 live least bytes xs rest) same.0 (refl, λ last k. tt, (same.1, subst AreBytes same.1 small))
back_events (suc n) live least at bytes es e rest small h =
    let one = back_then (read_event live least at bytes) _ es e rest h in
    let v : Event = one.0 in
    let event = back_event live least at bytes v one.1 one.2 small one.3 in
    let live' : List Loaded = left_by v.change live in
    let more = back_then (read_events n live' v.step one.1 one.2)
    (λ xs at'' rest'. Got (v ∷ xs) at'' rest') es e rest one.4 in
    let others = back_events n live' v.step one.1 one.2 more.0 more.1 more.2 (event.3).1 more.3 in
    let same = same_got (v ∷ more.0) es more.1 e more.2 rest more.4 in
    let text = big_endian 8 v.step ++ change_text v.change in
    subst (λ xs. Events (suc n) live least bytes xs rest) same.0 (
      ap suc others.0,
      λ last k. (
        event.0,
        reaches v more.0 live' last k (others.1 last),
        event.2,
        others.1 last (goes_on v more.0 last k),
      ),
      (
        subst (λ r. bytes ≡ events_text (v ∷ more.0) ++ r) same.1
            ((event.3).0 ∙ (ap (λ bs. text ++ bs) (others.2).0 ∙ sym (append_assoc text (events_text more.0) more.2))),
        subst AreBytes same.1 (others.2).1,
      ),
    )

-- ---- the whole file

back_end : {A : Type 0} (x y : A) (at e : ℕ) (bytes : List ℕ) → read_end x at bytes ≡ Got y e [] →
    (x ≡ y) × (bytes ≡ [])
back_end x y at e [] h = ((same_got x y at e [] [] h).0, refl)
back_end x y at e (b ∷ bytes) h = absurd (not_bad y at e [] h)

-- what is after the cells, the events, and the version
abbrev Ends : List Loaded → List Event → List ℕ → Trace → Type 0
Ends cells events bytes t = (t ≡ record { cells = cells; events = events; steps = t.steps }) × (t.steps < 2 ^ 64)
    × (last_step events ≤ t.steps) × (bytes ≡ big_endian 8 t.steps)

back_steps : (cells : List Loaded) (events : List Event) (at : ℕ) (bytes : List ℕ) (t : Trace) (e : ℕ) → AreBytes bytes →
    read_steps cells events at bytes ≡ Got t e [] → Ends cells events bytes t
back_steps cells events at bytes t e small h =
    let a = back_then (read_number 8 0 at bytes) _ t e [] h in
    let steps = back_number 8 at bytes a.0 a.1 a.2 small a.3 in
    let test = back_asked (nat_le (last_step events) a.0) at _ t e [] a.4 in
    let t' : Trace = record { cells = cells; events = events; steps = a.0 } in
    let end = back_end t' t a.1 e a.2 test.1 in
    subst (λ x. Ends cells events bytes x) end.0 (
      refl,
      steps.0,
      of_le (last_step events) a.0 test.0,
      (steps.1).0 ∙ (ap (λ r. big_endian 8 a.0 ++ r) end.1 ∙ end_nil (big_endian 8 a.0)),
    )

abbrev events_file : Trace → List ℕ
events_file t = big_endian 4 (length t.events) ++ (events_text t.events ++ big_endian 8 t.steps)

abbrev FromEvents : List Loaded → List ℕ → Trace → Type 0
FromEvents cells bytes t = (t.cells ≡ cells) × (length t.events < 2 ^ 32) × AreEvents cells 1 t.steps t.events
    × (t.steps < 2 ^ 64) × (bytes ≡ events_file t)

back_all_events : (cells : List Loaded) (at : ℕ) (bytes : List ℕ) (t : Trace) (e : ℕ) → AreBytes bytes →
    read_all_events cells at bytes ≡ Got t e [] → FromEvents cells bytes t
back_all_events cells at bytes t e small h =
    let a = back_then (read_number 4 0 at bytes) _ t e [] h in
    let count = back_number 4 at bytes a.0 a.1 a.2 small a.3 in
    let b = back_then (read_events a.0 cells 1 a.1 a.2) _ t e [] a.4 in
    let events = back_events a.0 cells 1 a.1 a.2 b.0 b.1 b.2 (count.1).1 b.3 in
    let end = back_steps cells b.0 b.1 b.2 t e (events.2).1 b.4 in
    subst (λ x. FromEvents cells bytes x) (sym end.0) (
      refl,
      subst (λ k. k < 2 ^ 32) (sym events.0) count.0,
      events.1 t.steps end.2,
      end.1,
      (count.1).0 ∙ (ap (λ k. big_endian 4 k ++ a.2) (sym events.0)
          ∙ ap (λ bs. big_endian 4 (length b.0) ++ bs) ((events.2).0 ∙ ap (λ r. events_text b.0 ++ r) end.3)),
    )

abbrev cells_file : Trace → List ℕ
cells_file t = big_endian 4 (length t.cells) ++ (cells_text t.cells ++ events_file t)

back_all_cells : (at : ℕ) (bytes : List ℕ) (t : Trace) (e : ℕ) → AreBytes bytes →
    read_all_cells at bytes ≡ Got t e [] → IsTrace t × (bytes ≡ cells_file t)
back_all_cells at bytes t e small h =
    let a = back_then (read_number 4 0 at bytes) _ t e [] h in
    let count = back_number 4 at bytes a.0 a.1 a.2 small a.3 in
    let b = back_then (read_cells a.0 0 a.1 a.2) _ t e [] a.4 in
    let cells = back_cells a.0 0 a.1 a.2 b.0 b.1 b.2 (count.1).1 b.3 in
    let f = back_all_events b.0 b.1 b.2 t e (cells.2).1 b.4 in
    let same : b.0 ≡ t.cells = sym f.0 in (
      record {
        cells = subst (λ cs. AreCells 0 cs) same cells.1;
        cell_count = subst (λ cs. length cs < 2 ^ 32) same (subst (λ k. k < 2 ^ 32) (sym cells.0) count.0);
        events = subst (λ cs. AreEvents cs 1 t.steps t.events) same f.2;
        event_count = f.1;
        steps = f.3;
      },
      subst (λ cs. bytes ≡ big_endian 4 (length cs) ++ (cells_text cs ++ events_file t)) same
          ((count.1).0 ∙ (ap (λ k. big_endian 4 k ++ a.2) (sym cells.0)
          ∙ ap (λ bs. big_endian 4 (length b.0) ++ bs) ((cells.2).0 ∙ ap (λ r. cells_text b.0 ++ r) f.4))),
    )

back_trace : (bytes : List ℕ) (t : Trace) (e : ℕ) → AreBytes bytes → read_trace bytes ≡ Got t e [] →
    IsTrace t × (bytes ≡ trace_text t)
back_trace bytes t e small h =
    let a = back_then (read_exactly (codes "FP2T" ++ (0 ∷ 1 ∷ [])) 0 bytes) (λ u at rest. read_all_cells at rest) t e [] h in
    let front = back_exactly (codes "FP2T" ++ (0 ∷ 1 ∷ [])) 0 bytes a.0 a.1 a.2 small a.3 in
    let more = back_all_cells a.1 a.2 t e front.1 a.4 in
    (more.0, front.0 ∙ ap (λ bs. (codes "FP2T" ++ (0 ∷ 1 ∷ [])) ++ bs) more.1)

pub read_is_a_trace : (bytes : List ℕ) (t : Trace) (end : ℕ) → AreBytes bytes → read_trace bytes ≡ Got t end [] →
    IsTrace t
read_is_a_trace bytes t end small h = (back_trace bytes t end small h).0

pub read_is_its_text : (bytes : List ℕ) (t : Trace) (end : ℕ) → AreBytes bytes → read_trace bytes ≡ Got t end [] →
    bytes ≡ trace_text t
read_is_its_text bytes t end small h = (back_trace bytes t end small h).1
