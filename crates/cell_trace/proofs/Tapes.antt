-- How a tape grows with its run.
use Rattle.std.proofs.Common.{◌≡◌, ◌≢◌, inl, inr, ℕ, zero, suc, ◌+◌, ◌*◌, ◌-◌, ◌^◌, ◌<◌, ◌≤◌, List, [], ◌∷◌, ◌++◌, length, length-append, map, take, Option, Some, None, min, refl, sym, ap, subst, ◌∙◌, arith}
use Rattle.std.specs.Prelude.{Err, IfSome, IfNone}
use Rattle.std.proofs.lemmas.Bool.{cases_lt}
use Rattle.std.proofs.lemmas.Option.{none-some, same_Some}
use Rattle.std.proofs.lemmas.List.{append_assoc, map-append, length-map}
use Rattle.fip_base.specs.fip_language.Store.{Cell}
use Rattle.cell_store.specs.Cells.{Cells, cell_at, IsAfter}
use Rattle.cell_store.specs.Reported.{Reported}
use Rattle.cell_trace.specs.declared.error.TraceError.{TraceError}
use Rattle.cell_trace.specs.declared.error.TraceError.TheVariants as F
use Rattle.cell_trace.specs.declared.trace.LoadedCell.{LoadedCell}
use Rattle.cell_trace.specs.declared.trace.Event.{Event}
use Rattle.cell_trace.specs.declared.trace.Trace.{Trace}
use Rattle.cell_trace.specs.declared.tape.Tape.{Tape}
use Rattle.cell_trace.specs.Traced.{Standing, Noted, standing_from, plain_cell, plain_event, cells_bytes, reported_bytes, events_bytes, IsTooLong, Reports, IsTraced}
use Rattle.cell_trace.specs.Taped.{Holds, HoldsOr, IsTape, WasReported, IsLost}
use Rattle.cell_store.proofs.Parsed.{there as cell_there}

-- bytes

cells_more : (cs ds : List Standing) → cells_bytes (cs ++ ds) ≡ cells_bytes cs + cells_bytes ds
cells_more [] ds = omega arith
cells_more (c ∷ cs) ds = let h = cells_more cs ds in omega (arith, h)

events_more : (es fs : List Noted) → events_bytes (es ++ fs) ≡ events_bytes es + events_bytes fs
events_more [] fs = omega arith
events_more (e ∷ es) fs = let h = events_more es fs in omega (arith, h)

-- what is too long stays so

long_events : (cs : List Standing) (es fs : List Noted) (n limit : ℕ) → IsTooLong cs es n limit → IsTooLong cs (es ++ fs) n limit
long_events cs es fs n limit (inl h) = let m = events_more es fs in inl (omega (arith, h, m))
long_events cs es fs n limit (inr (inl h)) = let m = length-append es fs in inr (inl (omega (arith, h, m)))
long_events cs es fs n limit (inr (inr h)) = inr (inr h)

long_cells : (cs ds : List Standing) (es : List Noted) (n limit : ℕ) → IsTooLong cs es n limit → IsTooLong (cs ++ ds) es n limit
long_cells cs ds es n limit (inl h) = let m = cells_more cs ds in inl (omega (arith, h, m))
long_cells cs ds es n limit (inr h) = inr h

long_steps : (cs : List Standing) (es : List Noted) (n limit : ℕ) → IsTooLong cs es n limit → IsTooLong cs es (n + 1) limit
long_steps cs es n limit (inl h) = inl h
long_steps cs es n limit (inr (inl h)) = inr (inl h)
long_steps cs es n limit (inr (inr h)) = inr (inr (omega (arith, h)))

-- what is lost stays so

held_events : (cs : List Standing) (es fs : List Noted) (n limit : ℕ) (t : Tape) (o : Option TraceError) → (o ≡ None → 2 ^ 64 ≤ n) → HoldsOr o cs es n limit t → HoldsOr o cs (es ++ fs) n limit t
held_events cs es fs n limit t None over h = λ less. let more = over refl in absurd (omega (arith, less, more))
held_events cs es fs n limit t (Some F.TooLong) over h = long_events cs es fs n limit h
held_events cs es fs n limit t (Some F.NoMemory) over h = tt

held_cells : (cs ds : List Standing) (es : List Noted) (n limit : ℕ) (t : Tape) (o : Option TraceError) → o ≢ None → HoldsOr o cs es n limit t → HoldsOr o (cs ++ ds) es n limit t
held_cells cs ds es n limit t None lost h = absurd (lost refl)
held_cells cs ds es n limit t (Some F.TooLong) lost h = long_cells cs ds es n limit h
held_cells cs ds es n limit t (Some F.NoMemory) lost h = tt

pub lost_events : (cs : List Standing) (es fs : List Noted) (n limit : ℕ) (t : Tape) → t.lost ≢ None → IsTape cs es n limit t → IsTape cs (es ++ fs) n limit t
lost_events cs es fs n limit t lost a = record {
  limit_is = a.limit_is;
  counts = a.counts;
  over = a.over;
  holds = held_events cs es fs n limit t t.lost (λ none. absurd (lost none)) a.holds;
}

pub lost_cells : (cs ds : List Standing) (es : List Noted) (n limit : ℕ) (t : Tape) → t.lost ≢ None → IsTape cs es n limit t → IsTape (cs ++ ds) es n limit t
lost_cells cs ds es n limit t lost a = record {
  limit_is = a.limit_is;
  counts = a.counts;
  over = a.over;
  holds = held_cells cs ds es n limit t t.lost lost a.holds;
}

-- where steps can't be counted

many_steps : (cs : List Standing) (es : List Noted) (n limit : ℕ) (t : Tape) → t.steps ≡ None → IsTape cs es n limit t → 2 ^ 64 ≤ n
many_steps cs es n limit t none a = elim (cases_lt n (2 ^ 64)) [
  | inl less ↦ absurd (none-some n (sym none ∙ a.counts less))
  | inr more ↦ more
]

pub uncounted : (cs : List Standing) (es fs : List Noted) (n limit : ℕ) (t : Tape) → t.steps ≡ None → IsTape cs es n limit t → IsTape cs (es ++ fs) n limit t
uncounted cs es fs n limit t none a = record {
  limit_is = a.limit_is;
  counts = a.counts;
  over = a.over;
  holds = held_events cs es fs n limit t t.lost (λ kept. many_steps cs es n limit t none a) a.holds;
}

few_steps : (cs : List Standing) (es : List Noted) (n limit : ℕ) (t : Tape) (step : ℕ) → t.steps ≡ Some step → IsTape cs es n limit t → n < 2 ^ 64
few_steps cs es n limit t step is a = elim (cases_lt n (2 ^ 64)) [
  | inl less ↦ less
  | inr more ↦ absurd (none-some step (sym (a.over more) ∙ is))
]

pub step_is : (cs : List Standing) (es : List Noted) (n limit : ℕ) (t : Tape) (step : ℕ) → t.steps ≡ Some step → IsTape cs es n limit t → step ≡ n
step_is cs es n limit t step is a = same_Some step n (sym is ∙ a.counts (few_steps cs es n limit t step is a))

-- giving up

pub memory_lost : (cs ds : List Standing) (es fs : List Noted) (n limit : ℕ) (old mid new : Tape) → IsTape cs es n limit old → mid.limit ≡ old.limit → mid.steps ≡ old.steps → IsLost mid F.NoMemory new → IsTape ds fs n limit new
memory_lost cs ds es fs n limit old mid new a limit_is steps l = record {
  limit_is = l.limit_is ∙ limit_is ∙ a.limit_is;
  counts = λ less. l.steps_are ∙ steps ∙ a.counts less;
  over = λ more. l.steps_are ∙ steps ∙ a.over more;
  holds = subst (λ o. HoldsOr o ds fs n limit new) (sym l.lost) tt;
}

pub length_lost : (cs ds : List Standing) (es fs : List Noted) (n limit : ℕ) (old new : Tape) → IsTape cs es n limit old → IsLost old F.TooLong new → IsTooLong ds fs n limit → IsTape ds fs n limit new
length_lost cs ds es fs n limit old new a l long = record {
  limit_is = l.limit_is ∙ a.limit_is;
  counts = λ less. l.steps_are ∙ a.counts less;
  over = λ more. l.steps_are ∙ a.over more;
  holds = subst (λ o. HoldsOr o ds fs n limit new) (sym l.lost) long;
}

-- what is held

holds_all : (cs : List Standing) (es : List Noted) (n limit : ℕ) (t : Tape) → t.lost ≡ None → IsTape cs es n limit t → n < 2 ^ 64 → Holds cs es limit t
holds_all cs es n limit t kept a = subst (λ o. HoldsOr o cs es n limit t) kept a.holds

pub full_events : (cs : List Standing) (es : List Noted) (e : Noted) (n limit : ℕ) (t : Tape) → t.lost ≡ None → IsTape cs es n limit t → length t.events.items ≡ 4294967295 → IsTooLong cs (es ++ e ∷ []) n limit
full_events cs es e n limit t kept a full = elim (cases_lt n (2 ^ 64)) [
  | inl less ↦ (
      let h = holds_all cs es n limit t kept a less in
      let same = ap length h.events_are in
      let mapped = length-map t.events.items plain_event in
      let more = length-append es (e ∷ []) in
      inr (inl (omega (arith, full, same, mapped, more))))
  | inr more ↦ inr (inr more)
]

pub full_bytes : (cs : List Standing) (es : List Noted) (e : Noted) (n limit bytes : ℕ) (t : Tape) → t.lost ≡ None → IsTape cs es n limit t → bytes ≡ min (reported_bytes e.reported) (2 ^ 64 - 1) → t.limit < t.bytes + bytes → IsTooLong cs (es ++ e ∷ []) n limit
full_bytes cs es e n limit bytes t kept a is full = elim (cases_lt n (2 ^ 64)) [
  | inl less ↦ (
      let h = holds_all cs es n limit t kept a less in
      let b = h.bytes in
      let l = a.limit_is in
      let more = events_more es (e ∷ []) in
      inl (omega (arith, full, b, l, more, is)))
  | inr more ↦ inr (inr more)
]

pub event_kept : (cs : List Standing) (es : List Noted) (e : Event) (n limit bytes : ℕ) (old new : Tape) → old.lost ≡ None → IsTape cs es n limit old → bytes ≡ min (reported_bytes (plain_event e).reported) (2 ^ 64 - 1) → length old.events.items ≢ 4294967295 → old.bytes + bytes ≤ old.limit → old.bytes + bytes < 2 ^ 64 → new.limit ≡ old.limit → new.steps ≡ old.steps → new.lost ≡ old.lost → new.bytes ≡ old.bytes + bytes → new.loaded.items ≡ old.loaded.items → new.events.items ≡ old.events.items ++ e ∷ [] → IsTape cs (es ++ plain_event e ∷ []) n limit new
event_kept cs es e n limit bytes old new kept a is few room top limit_is steps lost byte loaded events = record {
  limit_is = limit_is ∙ a.limit_is;
  counts = λ less. steps ∙ a.counts less;
  over = λ more. steps ∙ a.over more;
  holds = subst (λ o. HoldsOr o cs (es ++ plain_event e ∷ []) n limit new) (sym (lost ∙ kept)) (λ less.
      let h = holds_all cs es n limit old kept a less in
      let b = h.bytes in
      let l = a.limit_is in
      let more = events_more es (plain_event e ∷ []) in
      let hs = h.few in
      let longer = ap length events ∙ length-append old.events.items (e ∷ []) in
      record {
        cells_are = ap (map plain_cell) loaded ∙ h.cells_are;
        events_are = ap (map plain_event) events ∙ map-append plain_event old.events.items (e ∷ []) ∙ ap (λ fs. fs ++ plain_event e ∷ []) h.events_are;
        bytes = omega (arith, byte, b, more, is, room, top);
        short = omega (arith, byte, room, l);
        few = omega (arith, longer, hs, few);
      });
}

pub full_cells : (cs : List Standing) (c : Standing) (limit bytes : ℕ) (t : Tape) → t.lost ≡ None → IsTape cs [] 0 limit t → bytes ≡ min (min (length c.cell.fields * 8) (2 ^ 64 - 1) + 9) (2 ^ 64 - 1) → t.limit < t.bytes + bytes → IsTooLong (cs ++ c ∷ []) [] 0 limit
full_cells cs c limit bytes t kept a is full =
    let h = holds_all cs [] 0 limit t kept a (omega arith) in
    let b = h.bytes in
    let l = a.limit_is in
    let more = cells_more cs (c ∷ []) in
    inl (omega (arith, full, b, l, more, is))

pub cell_kept : (cs : List Standing) (c : LoadedCell) (limit bytes : ℕ) (old new : Tape) → old.lost ≡ None → IsTape cs [] 0 limit old → bytes ≡ min (min (length c.fields.items * 8) (2 ^ 64 - 1) + 9) (2 ^ 64 - 1) → old.bytes + bytes ≤ old.limit → old.bytes + bytes < 2 ^ 64 → new.limit ≡ old.limit → new.steps ≡ old.steps → new.lost ≡ old.lost → new.bytes ≡ old.bytes + bytes → new.loaded.items ≡ old.loaded.items ++ c ∷ [] → new.events.items ≡ old.events.items → IsTape (cs ++ plain_cell c ∷ []) [] 0 limit new
cell_kept cs c limit bytes old new kept a is room top limit_is steps lost byte loaded events = record {
  limit_is = limit_is ∙ a.limit_is;
  counts = λ less. steps ∙ a.counts less;
  over = λ more. steps ∙ a.over more;
  holds = subst (λ o. HoldsOr o (cs ++ plain_cell c ∷ []) [] 0 limit new) (sym (lost ∙ kept)) (λ less.
      let h = holds_all cs [] 0 limit old kept a less in
      let b = h.bytes in
      let l = a.limit_is in
      let more = cells_more cs (plain_cell c ∷ []) in
      let hs = h.few in
      let same = ap length events in
      record {
        cells_are = ap (map plain_cell) loaded ∙ map-append plain_cell old.loaded.items (c ∷ []) ∙ ap (λ ds. ds ++ plain_cell c ∷ []) h.cells_are;
        events_are = ap (map plain_event) events ∙ h.events_are;
        bytes = omega (arith, byte, b, more, is, room, top);
        short = omega (arith, byte, room, l);
        few = omega (arith, same, hs);
      });
}

-- a step more

step_held : (cs : List Standing) (es : List Noted) (n limit : ℕ) (old new : Tape) (o : Option TraceError) → new.bytes ≡ old.bytes → new.loaded ≡ old.loaded → new.events ≡ old.events → HoldsOr o cs es n limit old → HoldsOr o cs es (n + 1) limit new
step_held cs es n limit old new None bytes loaded events h = λ less.
    let k = h (omega (arith, less)) in
    let a = k.bytes in
    let b = k.short in
    let f = k.few in
    record {
      cells_are = ap (λ xs. map plain_cell xs.items) loaded ∙ k.cells_are;
      events_are = ap (λ xs. map plain_event xs.items) events ∙ k.events_are;
      bytes = bytes ∙ a;
      short = omega (arith, bytes, b);
      few = subst (λ xs. length xs.items ≤ 4294967295) (sym events) f;
    }
step_held cs es n limit old new (Some F.TooLong) bytes loaded events h = long_steps cs es n limit h
step_held cs es n limit old new (Some F.NoMemory) bytes loaded events h = tt

-- where steps are counted, and where they aren't
pub step_more : (cs : List Standing) (es : List Noted) (n limit : ℕ) (old new : Tape) → ((s : ℕ) → old.steps ≡ Some s → s + 1 < 2 ^ 64 → new.steps ≡ Some (s + 1)) → ((s : ℕ) → old.steps ≡ Some s → 2 ^ 64 ≤ s + 1 → new.steps ≡ None) → (old.steps ≡ None → new.steps ≡ None) → new.limit ≡ old.limit → new.lost ≡ old.lost → new.bytes ≡ old.bytes → new.loaded ≡ old.loaded → new.events ≡ old.events → IsTape cs es n limit old → IsTape cs es (n + 1) limit new
step_more cs es n limit old new goes ends stays limit_is lost bytes loaded events a = record {
  limit_is = limit_is ∙ a.limit_is;
  counts = λ less. goes n (a.counts (omega (arith, less))) less;
  over = λ more. elim (cases_lt n (2 ^ 64)) [
    | inl less ↦ ends n (a.counts less) more
    | inr past ↦ stays (a.over past)
  ];
  holds = subst (λ o. HoldsOr o cs es (n + 1) limit new) (sym lost) (step_held cs es n limit old new old.lost bytes loaded events a.holds);
}

-- the end

pub lost_traced : (cs : List Standing) (es : List Noted) (n limit : ℕ) (t : Tape) (e : TraceError) → t.lost ≡ Some e → IsTape cs es n limit t → IsTraced cs es n limit (Err e)
lost_traced cs es n limit t e lost a = by e (subst (λ o. HoldsOr o cs es n limit t) lost a.holds)
  where
    by : (e : TraceError) → HoldsOr (Some e) cs es n limit t → IsTraced cs es n limit (Err e)
    by F.TooLong h = h
    by F.NoMemory h = tt

pub steps_traced : (cs : List Standing) (es : List Noted) (n limit : ℕ) (t : Tape) → t.steps ≡ None → IsTape cs es n limit t → IsTooLong cs es n limit
steps_traced cs es n limit t none a = inr (inr (many_steps cs es n limit t none a))

pub all_traced : (cs : List Standing) (es : List Noted) (n limit : ℕ) (t : Tape) (u : Trace) → t.lost ≡ None → t.steps ≡ Some u.steps → u.cells.items ≡ t.loaded.items → u.events.items ≡ t.events.items → IsTape cs es n limit t → Reports cs es n limit u
all_traced cs es n limit t u kept steps cells events a =
    let less = few_steps cs es n limit t u.steps steps a in
    let h = holds_all cs es n limit t kept a less in
    let b = h.bytes in
    let s = h.short in
    let f = h.few in
    let same = ap length h.events_are in
    let mapped = length-map t.events.items plain_event in
    record {
      cells_are = ap (map plain_cell) cells ∙ h.cells_are;
      events_are = ap (map plain_event) events ∙ h.events_are;
      steps_are = step_is cs es n limit t u.steps steps a;
      short = omega (arith, b, s);
      few = omega (arith, f, same, mapped);
      counted = less;
    }

-- what a store is reported

pub reported_more : (first : Tape) (ts : List Reported) (mid : Tape) (t : Reported) (now : Tape) → WasReported first ts mid → ((cs : List Standing) (es : List Noted) (n limit : ℕ) → IsTape cs es n limit mid → IsTape cs (es ++ record { step = n; reported = t } ∷ []) n limit now) → WasReported first (ts ++ t ∷ []) now
reported_more first ts mid t now reported more cs es n limit a =
    let f = λ (u : Reported). (let e : Noted = record { step = n; reported = u } in e) in
    let same = append_assoc es (map f ts) (f t ∷ []) ∙ ap (λ fs. es ++ fs) (sym (map-append f ts (t ∷ []))) in
    subst (λ fs. IsTape cs fs n limit now) same (more cs (es ++ map f ts) n limit (reported cs es n limit a))

-- ---- the cells of a store

-- where no cell begins further on, all were seen
pub none_from : (cs : Cells) (p k : ℕ) → ((r : ℕ) → k ≤ r → cell_at cs r ≡ None) → standing_from p (take k cs) ≡ standing_from p cs
none_from [] p zero none = refl
none_from [] p (suc k) none = refl
none_from (o ∷ cs) p zero none = by o (none 0 (omega arith)) (none_from cs (suc p) 0 (λ r l. none (suc r) (omega arith)))
  where
    by : (o : Option Cell) → o ≡ None → [] ≡ standing_from (suc p) cs → [] ≡ standing_from p (o ∷ cs)
    by None e rest = rest
    by (Some c) e rest = absurd (none-some c (sym e))
none_from (None ∷ cs) p (suc k) none = none_from cs (suc p) k (λ r l. none (suc r) (omega (arith, l)))
none_from (Some c ∷ cs) p (suc k) none = ap (λ xs. record { place = p; cell = c } ∷ xs) (none_from cs (suc p) k (λ r l. none (suc r) (omega (arith, l))))

-- where none begins between two places, as many were seen
pub none_between : (cs : Cells) (p k m : ℕ) → k ≤ m → ((r : ℕ) → k ≤ r → r < m → cell_at cs r ≡ None) → standing_from p (take k cs) ≡ standing_from p (take m cs)
none_between [] p zero zero l none = refl
none_between [] p zero (suc m) l none = refl
none_between [] p (suc k) zero l none = refl
none_between [] p (suc k) (suc m) l none = refl
none_between (o ∷ cs) p zero zero l none = refl
none_between (o ∷ cs) p zero (suc m) l none = by o (none 0 (omega arith) (omega arith)) (none_between cs (suc p) 0 m (omega arith) (λ r g h. none (suc r) (omega arith) (omega (arith, h))))
  where
    by : (o : Option Cell) → o ≡ None → [] ≡ standing_from (suc p) (take m cs) → [] ≡ standing_from p (o ∷ take m cs)
    by None e rest = rest
    by (Some c) e rest = absurd (none-some c (sym e))
none_between (o ∷ cs) p (suc k) zero l none = absurd (omega (arith, l))
none_between (None ∷ cs) p (suc k) (suc m) l none = none_between cs (suc p) k m (omega (arith, l)) (λ r g h. none (suc r) (omega (arith, g)) (omega (arith, h)))
none_between (Some c ∷ cs) p (suc k) (suc m) l none = ap (λ xs. record { place = p; cell = c } ∷ xs) (none_between cs (suc p) k m (omega (arith, l)) (λ r g h. none (suc r) (omega (arith, g)) (omega (arith, h))))

-- a cell more
pub one_from : (cs : Cells) (p q : ℕ) (c : Cell) → cell_at cs q ≡ Some c → standing_from p (take (suc q) cs) ≡ standing_from p (take q cs) ++ record { place = p + q; cell = c } ∷ []
one_from [] p q c e = absurd (none-some c e)
one_from (o ∷ cs) p zero c e =
    let place : p + 0 ≡ p = omega arith in
    subst (λ o. standing_from p (o ∷ []) ≡ record { place = p + 0; cell = c } ∷ []) (sym e) (λ i. record { place = sym place i; cell = c } ∷ [])
one_from (None ∷ cs) p (suc q) c e =
    let place : suc p + q ≡ p + suc q = omega arith in
    one_from cs (suc p) q c e ∙ ap (λ r. standing_from (suc p) (take q cs) ++ record { place = r; cell = c } ∷ []) place
one_from (Some d ∷ cs) p (suc q) c e =
    let place : suc p + q ≡ p + suc q = omega arith in
    ap (λ xs. record { place = p; cell = d } ∷ xs) (one_from cs (suc p) q c e ∙ ap (λ r. standing_from (suc p) (take q cs) ++ record { place = r; cell = c } ∷ []) place)

-- ---- a recorder before its first step

-- how far the cells reach after a place
abbrev pub left_behind : Cells → Option ℕ → ℕ
left_behind cs None = 0
left_behind cs (Some p) = suc (length cs - p)

-- the cells before this place, or all, are kept
abbrev pub HasLoaded : Cells → Option ℕ → Tape → Tape → Type 0
HasLoaded cs None first t = (limit : ℕ) → IsTape [] [] 0 limit first → IsTape (standing_from 0 cs) [] 0 limit t
HasLoaded cs (Some q) first t = (limit : ℕ) → IsTape [] [] 0 limit first → IsTape (standing_from 0 (take q cs)) [] 0 limit t

pub first_loaded : (cs : Cells) (o : Option ℕ) (t : Tape) → IfSome o (λ q. (r : ℕ) → IsAfter None r → r < q → cell_at cs r ≡ None) → IfNone o ((r : ℕ) → IsAfter None r → cell_at cs r ≡ None) → HasLoaded cs o t t
first_loaded cs None t some none = λ limit a. subst (λ ds. IsTape ds [] 0 limit t) (none_from cs 0 0 (λ r l. none r tt)) a
first_loaded cs (Some q) t some none = λ limit a. subst (λ ds. IsTape ds [] 0 limit t) (none_between cs 0 0 q (omega arith) (λ r l h. some r tt h)) a

pub next_loaded : (cs : Cells) (p : ℕ) (o : Option ℕ) (first old new : Tape) → cell_at cs p ≢ None → IfSome o (IsAfter (Some p)) → IfSome o (λ q. (r : ℕ) → IsAfter (Some p) r → r < q → cell_at cs r ≡ None) → IfNone o ((r : ℕ) → IsAfter (Some p) r → cell_at cs r ≡ None) → ((ds : List Standing) (limit : ℕ) → IsTape ds [] 0 limit old → (c : Cell) → cell_at cs p ≡ Some c → IsTape (ds ++ record { place = p; cell = c } ∷ []) [] 0 limit new) → HasLoaded cs (Some p) first old → HasLoaded cs o first new
next_loaded cs p o first old new there following some none more h = by o following some none
  where
    here : (c : Cell) × (cell_at cs p ≡ Some c)
    here = cell_there (cell_at cs p) there

    same : standing_from 0 (take p cs) ++ record { place = p; cell = here.0 } ∷ [] ≡ standing_from 0 (take (suc p) cs)
    same = ap (λ q. standing_from 0 (take p cs) ++ record { place = q; cell = here.0 } ∷ []) (omega arith) ∙ sym (one_from cs 0 p here.0 here.1)

    one : (limit : ℕ) → IsTape [] [] 0 limit first → IsTape (standing_from 0 (take (suc p) cs)) [] 0 limit new
    one limit a = subst (λ ds. IsTape ds [] 0 limit new) same (more (standing_from 0 (take p cs)) limit (h limit a) here.0 here.1)

    by : (o : Option ℕ) → IfSome o (IsAfter (Some p)) → IfSome o (λ q. (r : ℕ) → IsAfter (Some p) r → r < q → cell_at cs r ≡ None) → IfNone o ((r : ℕ) → IsAfter (Some p) r → cell_at cs r ≡ None) → HasLoaded cs o first new
    by None following some none = λ limit a. subst (λ ds. IsTape ds [] 0 limit new) (none_from cs 0 (suc p) (λ r l. none r (omega (arith, l)))) (one limit a)
    by (Some q) following some none = λ limit a. subst (λ ds. IsTape ds [] 0 limit new) (none_between cs 0 (suc p) q (omega (arith, following)) (λ r l l'. some r (omega (arith, l)) l')) (one limit a)

pub within : (cs : Cells) (p : ℕ) → cell_at cs p ≢ None → p < length cs
within [] p there = absurd (there refl)
within (o ∷ cs) zero there = omega arith
within (o ∷ cs) (suc p) there = let h = within cs p there in omega (arith, h)

pub less_left : (cs : Cells) (p : ℕ) (o : Option ℕ) → cell_at cs p ≢ None → IfSome o (IsAfter (Some p)) → left_behind cs o < left_behind cs (Some p)
less_left cs p None there following = omega arith
less_left cs p (Some q) there following = let l = within cs p there in omega (arith, l, following)
