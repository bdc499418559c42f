-- One step of a walk further: what was found below an instruction, and what the step takes of that.
use Rattle.std.proofs.Common.{◌≡◌, ◌⊎◌, inl, inr, ℕ, zero, suc, ◌<◌, ◌≤◌, Bool, true, false, List, [], ◌∷◌, ◌++◌, length, Option, Some, None, slice_get, refl, sym, ap, ap₂, ◌∙◌, subst, subst₂, true≢false, arith}
use Rattle.std.proofs.lemmas.Bool.{cases_lt}
use Rattle.std.proofs.lemmas.Option.{same_Some, none-some, slice_get_within}
use Rattle.std.proofs.lemmas.List.{append-nil}
use Rattle.call_groups.specs.CallGraph.{In}
use Rattle.cell_code.specs.declared.code.Instr.{Instr}
use Rattle.cell_code.specs.declared.code.Instr.TheVariants as I
use Rattle.cell_code.specs.declared.kind.Kind.{Kind}
use Rattle.code_rules.specs.declared.rule.SoundRule.{SoundRule}
use Rattle.code_rules.specs.declared.rule.SoundRule.TheVariants.{S1, S5}
use Rattle.cell_code.specs.Plain.{PlainFunction, PlainCode}
use Rattle.code_rules.specs.Codes.{label_at}
use Rattle.code_rules.specs.Handing.{kept_if}
use Rattle.code_rules.specs.Ranges.{in_range}
use Rattle.code_rules.specs.Leaves.{Leaves}
use Rattle.code_rules.specs.Flow.{is_as_asked, IsInstr, Holds, Comes, KnownAt, IsReachedAt}
use Rattle.code_rules.specs.Entry.{entry}
use Rattle.code_rules.specs.Endings.{is_end}
use Rattle.code_rules.specs.Calls.{IsCall}
use Rattle.code_rules.proofs.Once.{known_once}
use Rattle.code_rows.specs.declared.least.Violation.{Violation}
use Rattle.code_rows.specs.Noting.{noted_unless, noted_all, InKept, Answers}
use Rattle.code_rows.proofs.Noted.{OrKept, answers_same, answers_noted}
use Rattle.code_verify.specs.declared.walk.DropType.{DropType}
use Rattle.code_verify.specs.declared.walk.Found.{Found}
use Rattle.code_verify.specs.Steps.{here, known_kept, fits_next, asked, GoesFrom, GoesAfter, call_to, waits_at, drops_at, calls_of_instr, waiting_of_instr, drops_of_instr, TookKnown, TookUnknown, Took}
use Rattle.code_verify.specs.Checked.{HasMachineInt, ReachedDrop}
use Rattle.code_verify.specs.Finding.{BreaksAlone, ReachedCall, Coming, Knowing, BrokenBelow, AreInOrder, HasMachineIntsBelow, IsFound}
use Rattle.code_verify.proofs.InstrFacts.{end_leaves, in_left, in_right, in_parts, in_nil, in_calls, calls_in, in_waiting, waiting_in, IsDropOf, in_drops, drops_in, drops_cases}
use Rattle.code_verify.proofs.Breaking.{known_reports, unknown_reports, next_reports, known_finds, unknown_finds}
use Rattle.fip_language.proofs.Facts.{less_or_same as below_or_at}
use Rattle.code_verify.proofs.Breaking.{same_instr}

-- ---- the least violation

known_least : (c : PlainCode) (n : ℕ) (f : PlainFunction) (i : ℕ) (ks : List Kind) (x : Instr) (goes : Bool) (left : List Kind) (o : Option Violation) → KnownAt c f i ks → IsInstr f i x → GoesFrom c f i ks x goes left → Answers (BrokenBelow c n f i) o → Answers (BrokenBelow c n f (suc i)) (asked c n f i ks x goes left o)
known_least c n f i ks x goes left o kn is g a =
    answers_same Both (BrokenBelow c n f (suc i)) (asked c n f i ks x goes left o) there back
    (answers_noted ((fits_next f i goes left, S5) ∷ []) (OrKept (BrokenBelow c n f i) n i (known_kept c f i ks x)) n i (noted_all n i o (known_kept c f i ks x))
    (answers_noted (known_kept c f i ks x) (BrokenBelow c n f i) n i o a))
  where
    Both : ℕ → ℕ → SoundRule → Type 0
    Both = OrKept (OrKept (BrokenBelow c n f i) n i (known_kept c f i ks x)) n i ((fits_next f i goes left, S5) ∷ [])

    at_it : (m j : ℕ) (r : SoundRule) → m ≡ n → j ≡ i → BreaksAlone c f i r → BrokenBelow c n f (suc i) m j r
    at_it m j r e h b = (e, omega (arith, h), subst (λ k. BreaksAlone c f k r) (sym h) b)

    there : (m j : ℕ) (r : SoundRule) → OrKept (OrKept (BrokenBelow c n f i) n i (known_kept c f i ks x)) n i ((fits_next f i goes left, S5) ∷ []) m j r → BrokenBelow c n f (suc i) m j r
    there m j r (inl (inl p)) = (let l = p.1 in (p.0, omega (arith, l), p.2))
    there m j r (inl (inr p)) = at_it m j r p.0 p.1 (known_reports c f i ks x r kn is p.2)
    there m j r (inr p) = at_it m j r p.0 p.1 (next p.2)
      where
        next : InKept r ((fits_next f i goes left, S5) ∷ []) → BreaksAlone c f i r
        next (inl q) = next_reports c f i ks x goes left r kn is g q.0 q.1
        next (inr q) = absurd q

    back : (m j : ℕ) (r : SoundRule) → BrokenBelow c n f (suc i) m j r → OrKept (OrKept (BrokenBelow c n f i) n i (known_kept c f i ks x)) n i ((fits_next f i goes left, S5) ∷ []) m j r
    back m j r p = by (below_or_at i j p.1)
      where
        found : j ≡ i → InKept r (known_kept c f i ks x) ⊎ ((fits_next f i goes left ≡ false) × (r ≡ S5)) → OrKept (OrKept (BrokenBelow c n f i) n i (known_kept c f i ks x)) n i ((fits_next f i goes left, S5) ∷ []) m j r
        found h (inl q) = inl (inr (p.0, h, q))
        found h (inr q) = inr (p.0, h, inl q)

        by : (j < i) ⊎ (j ≡ i) → OrKept (OrKept (BrokenBelow c n f i) n i (known_kept c f i ks x)) n i ((fits_next f i goes left, S5) ∷ []) m j r
        by (inl l) = inl (inl (p.0, l, p.2))
        by (inr h) = found h (known_finds c f i ks x goes left r kn is g (subst (λ k. BreaksAlone c f k r) h p.2))

unknown_least : (c : PlainCode) (n : ℕ) (f : PlainFunction) (i : ℕ) (x : Instr) (o : Option Violation) → ((ks : List Kind) → KnownAt c f i ks → ⊥) → IsInstr f i x → Answers (BrokenBelow c n f i) o → Answers (BrokenBelow c n f (suc i)) (noted_unless n i (in_range c f i x) S1 o)
unknown_least c n f i x o never is a = answers_same (OrKept (BrokenBelow c n f i) n i ((in_range c f i x, S1) ∷ [])) (BrokenBelow c n f (suc i)) (noted_unless n i (in_range c f i x) S1 o) there back (answers_noted ((in_range c f i x, S1) ∷ []) (BrokenBelow c n f i) n i o a)
  where
    there : (m j : ℕ) (r : SoundRule) → OrKept (BrokenBelow c n f i) n i ((in_range c f i x, S1) ∷ []) m j r → BrokenBelow c n f (suc i) m j r
    there m j r (inl p) = (let l = p.1 in (p.0, omega (arith, l), p.2))
    there m j r (inr p) = at p.1 p.2
      where
        at : j ≡ i → InKept r ((in_range c f i x, S1) ∷ []) → BrokenBelow c n f (suc i) m j r
        at h (inl q) = (p.0, omega (arith, h), subst (λ k. BreaksAlone c f k r) (sym h) (unknown_reports c f i x r is q.0 q.1))
        at h (inr q) = absurd q

    back : (m j : ℕ) (r : SoundRule) → BrokenBelow c n f (suc i) m j r → OrKept (BrokenBelow c n f i) n i ((in_range c f i x, S1) ∷ []) m j r
    back m j r p = by (below_or_at i j p.1)
      where
        by : (j < i) ⊎ (j ≡ i) → OrKept (BrokenBelow c n f i) n i ((in_range c f i x, S1) ∷ []) m j r
        by (inl l) = inl (p.0, l, p.2)
        by (inr h) = inr (p.0, h, inl (unknown_finds c f i x r never is (subst (λ k. BreaksAlone c f k r) h p.2)))

-- ---- what is reached at one instruction

call_here : (c : PlainCode) (f : PlainFunction) (i g : ℕ) (w : Bool) (x : Instr) → IsInstr f i x → ReachedCall c f i g w → IsCall x g w
call_here c f i g w x is r = subst (λ y. IsCall y g w) (same_instr f i r.instr x r.reached.instr is) r.call

drop_here : (c : PlainCode) (f : PlainFunction) (i t : ℕ) (ks : List Kind) (x : Instr) → KnownAt c f i ks → IsInstr f i x → ReachedDrop c f i t → In (drops_at i t) (drops_of_instr ks i x)
drop_here c f i t ks x kn is r =
    let e : I.Drop r.register ≡ x = same_instr f i (I.Drop r.register) x r.reached.instr is in
    let k : r.kinds ≡ ks = known_once c f i r.kinds ks r.reached.known kn in
    subst₂ (λ q y. In (drops_at i t) (drops_of_instr q i y)) k e (drops_in r.kinds i r.register t r.set r.owned)

here_drop : (c : PlainCode) (f : PlainFunction) (i t : ℕ) (ks : List Kind) (x : Instr) → KnownAt c f i ks → IsInstr f i x → IsDropOf ks x t → ReachedDrop c f i t
here_drop c f i t ks x kn is d = record { kinds = ks; register = d.register; set = d.set; reached = record { known = kn; instr = is ∙ ap Some d.is }; owned = d.owned }

-- ---- drops stay in order

at_push : {A : Type 0} (xs : List A) (y : A) (i : ℕ) (x : A) → slice_get (xs ++ y ∷ []) i ≡ Some x → (slice_get xs i ≡ Some x) ⊎ ((i ≡ length xs) × (y ≡ x))
at_push [] y zero x e = inr (refl, same_Some y x e)
at_push [] y (suc i) x e = absurd (none-some x e)
at_push (z ∷ xs) y zero x e = inl e
at_push (z ∷ xs) y (suc i) x e = later (at_push xs y i x e)
  where
    later : (slice_get xs i ≡ Some x) ⊎ ((i ≡ length xs) × (y ≡ x)) → (slice_get xs i ≡ Some x) ⊎ ((suc i ≡ length (z ∷ xs)) × (y ≡ x))
    later (inl h) = inl h
    later (inr h) = inr (ap suc h.0, h.1)

order_push : (ds : List DropType) (y : DropType) → AreInOrder ds → ((d : DropType) → In d ds → d.at < y.at) → AreInOrder (ds ++ y ∷ [])
order_push ds y o l j k d e h p q = by (at_push ds y j d p) (at_push ds y k e q)
  where
    by : (slice_get ds j ≡ Some d) ⊎ ((j ≡ length ds) × (y ≡ d)) → (slice_get ds k ≡ Some e) ⊎ ((k ≡ length ds) × (y ≡ e)) → d.at < e.at
    by (inl a) (inl b) = o j k d e h a b
    by (inl a) (inr b) = (let m = l d (j, a) in let s = ap (λ (w : DropType). w.at) b.1 in omega (arith, m, s))
    by (inr a) (inl b) = (let m = slice_get_within ds k e b in let s = a.0 in absurd (omega (arith, m, s, h)))
    by (inr a) (inr b) = (let s = a.0 in let t = b.0 in absurd (omega (arith, s, t, h)))

order_more : (ds : List DropType) (i : ℕ) (ks : List Kind) (x : Instr) → AreInOrder ds → ((d : DropType) → In d ds → d.at < i) → AreInOrder (ds ++ drops_of_instr ks i x)
order_more ds i ks x o l = by (drops_cases ks i x)
  where
    by : (drops_of_instr ks i x ≡ []) ⊎ ((t : ℕ) × (drops_of_instr ks i x ≡ drops_at i t ∷ [])) → AreInOrder (ds ++ drops_of_instr ks i x)
    by (inl e) = subst AreInOrder (sym (ap (λ ys. ds ++ ys) e ∙ append-nil ds)) o
    by (inr e) = subst AreInOrder (sym (ap (λ ys. ds ++ ys) e.1)) (order_push ds (drops_at i e.0) o l)

-- ---- one step further

step_known : (c : PlainCode) (n : ℕ) (f : PlainFunction) (i : ℕ) (ks : List Kind) (x : Instr) (goes : Bool) (left : List Kind) (old new : Found) → KnownAt c f i ks → IsInstr f i x → GoesFrom c f i ks x goes left → TookKnown c n f i ks x goes left old new → IsFound c n f i old → IsFound c n f (suc i) new
step_known c n f i ks x goes left old new kn is g t a = record {
  least = subst (Answers (BrokenBelow c n f (suc i))) (sym t.least) (known_least c n f i ks x goes left old.least.first kn is g a.least);
  calls = λ h w. (calls_report h w, calls_from h w);
  waiting = λ j h. (waiting_report j h, waiting_from j h);
  drops = λ j u. (drops_report j u, drops_from j u);
  in_order = subst AreInOrder (sym t.drops) (order_more old.drops.items i ks x a.in_order drops_below);
  flows = flows;
}
  where
    calls_report : (h : ℕ) (w : Bool) → In (call_to h w) new.calls.items → (j : ℕ) × (j < suc i) × ReachedCall c f j h w
    calls_report h w m = by (in_parts old.calls.items (calls_of_instr c x) (call_to h w) (subst (In (call_to h w)) t.calls m))
      where
        by : In (call_to h w) old.calls.items ⊎ In (call_to h w) (calls_of_instr c x) → (j : ℕ) × (j < suc i) × ReachedCall c f j h w
        by (inl p) = (let r = (a.calls h w).0 p in let l = r.1 in (r.0, omega (arith, l), r.2))
        by (inr p) = (let q = in_calls c x h w p in (i, omega arith, record { kinds = ks; instr = x; reached = record { known = kn; instr = is }; call = q.0; there = q.1 }))

    calls_from : (h : ℕ) (w : Bool) → (j : ℕ) × (j < suc i) × ReachedCall c f j h w → In (call_to h w) new.calls.items
    calls_from h w r = subst (In (call_to h w)) (sym t.calls) (by (below_or_at i r.0 r.1))
      where
        by : (r.0 < i) ⊎ (r.0 ≡ i) → In (call_to h w) (old.calls.items ++ calls_of_instr c x)
        by (inl l) = in_left old.calls.items (calls_of_instr c x) (call_to h w) ((a.calls h w).1 (r.0, l, r.2))
        by (inr e) = in_right old.calls.items (calls_of_instr c x) (call_to h w) (calls_in c x h w (call_here c f i h w x is (subst (λ j. ReachedCall c f j h w) e r.2)) r.2.there)

    waiting_report : (j h : ℕ) → In (waits_at j h) new.waiting.items → (j < suc i) × ReachedCall c f j h true
    waiting_report j h m = by (in_parts old.waiting.items (waiting_of_instr c i x) (waits_at j h) (subst (In (waits_at j h)) t.waiting m))
      where
        by : In (waits_at j h) old.waiting.items ⊎ In (waits_at j h) (waiting_of_instr c i x) → (j < suc i) × ReachedCall c f j h true
        by (inl p) = (let r = (a.waiting j h).0 p in let l = r.0 in (omega (arith, l), r.1))
        by (inr p) = (let q = in_waiting c i x j h p in let e = q.0 in (omega (arith, e), subst (λ k. ReachedCall c f k h true) e (record { kinds = ks; instr = x; reached = record { known = kn; instr = is }; call = q.1; there = q.2 })))

    waiting_from : (j h : ℕ) → (j < suc i) × ReachedCall c f j h true → In (waits_at j h) new.waiting.items
    waiting_from j h r = subst (In (waits_at j h)) (sym t.waiting) (by (below_or_at i j r.0))
      where
        by : (j < i) ⊎ (j ≡ i) → In (waits_at j h) (old.waiting.items ++ waiting_of_instr c i x)
        by (inl l) = in_left old.waiting.items (waiting_of_instr c i x) (waits_at j h) ((a.waiting j h).1 (l, r.1))
        by (inr e) = in_right old.waiting.items (waiting_of_instr c i x) (waits_at j h) (subst (λ k. In (waits_at k h) (waiting_of_instr c i x)) (sym e) (waiting_in c i x h (call_here c f i h true x is (subst (λ k. ReachedCall c f k h true) e r.1)) r.1.there))

    drops_report : (j u : ℕ) → In (drops_at j u) new.drops.items → (j < suc i) × ReachedDrop c f j u
    drops_report j u m = by (in_parts old.drops.items (drops_of_instr ks i x) (drops_at j u) (subst (In (drops_at j u)) t.drops m))
      where
        by : In (drops_at j u) old.drops.items ⊎ In (drops_at j u) (drops_of_instr ks i x) → (j < suc i) × ReachedDrop c f j u
        by (inl p) = (let r = (a.drops j u).0 p in let l = r.0 in (omega (arith, l), r.1))
        by (inr p) = (let q = in_drops ks i x j u p in let e = q.0 in (omega (arith, e), subst (λ k. ReachedDrop c f k u) e (here_drop c f i u ks x kn is q.1)))

    drops_from : (j u : ℕ) → (j < suc i) × ReachedDrop c f j u → In (drops_at j u) new.drops.items
    drops_from j u r = subst (In (drops_at j u)) (sym t.drops) (by (below_or_at i j r.0))
      where
        by : (j < i) ⊎ (j ≡ i) → In (drops_at j u) (old.drops.items ++ drops_of_instr ks i x)
        by (inl l) = in_left old.drops.items (drops_of_instr ks i x) (drops_at j u) ((a.drops j u).1 (l, r.1))
        by (inr e) = in_right old.drops.items (drops_of_instr ks i x) (drops_at j u) (subst (λ k. In (drops_at k u) (drops_of_instr ks i x)) (sym e) (drop_here c f i u ks x kn is (subst (λ k. ReachedDrop c f k u) e r.1)))

    drops_below : (d : DropType) → In d old.drops.items → d.at < i
    drops_below d m = ((a.drops d.at d.ty).0 m).0

    goes_on : (goes : Bool) (left : List Kind) → GoesFrom c f i ks x goes left → is_as_asked c f i ks x ≡ true → is_end x ≡ false → (after : List Kind) × Leaves c ks x after
    goes_on true left g e h = (left, g.1)
    goes_on false left (inl g) e h = absurd (true≢false (sym e ∙ g))
    goes_on false left (inr g) e h = absurd (true≢false (sym g ∙ h))

    flows : (j : ℕ) (qs : List Kind) (y : Instr) → j < suc i → IsReachedAt c f j qs y → is_as_asked c f j qs y ≡ true → is_end y ≡ false → (after : List Kind) × Leaves c qs y after
    flows j qs y l r e h = by (below_or_at i j l)
      where
        by : (j < i) ⊎ (j ≡ i) → (after : List Kind) × Leaves c qs y after
        by (inl m) = a.flows j qs y m r e h
        by (inr m) =
            let q : IsReachedAt c f i qs y = subst (λ k. IsReachedAt c f k qs y) m r in
            let same : x ≡ y = same_instr f i x y is q.instr in
            let kinds : ks ≡ qs = known_once c f i ks qs kn q.known in
            subst₂ (λ p z. (after : List Kind) × Leaves c p z after) kinds same
            (goes_on goes left g (ap₂ (is_as_asked c f i) kinds same ∙ (ap (λ k. is_as_asked c f k qs y) (sym m) ∙ e)) (ap is_end same ∙ h))

step_unknown : (c : PlainCode) (n : ℕ) (f : PlainFunction) (i : ℕ) (x : Instr) (old new : Found) → ((ks : List Kind) → KnownAt c f i ks → ⊥) → IsInstr f i x → TookUnknown c n f i x old new → IsFound c n f i old → IsFound c n f (suc i) new
step_unknown c n f i x old new never is t a = record {
  least = subst (Answers (BrokenBelow c n f (suc i))) (sym t.least) (unknown_least c n f i x old.least.first never is a.least);
  calls = λ h w. (calls_report h w, calls_from h w);
  waiting = λ j h. (waiting_report j h, waiting_from j h);
  drops = λ j u. (drops_report j u, drops_from j u);
  in_order = subst AreInOrder (sym t.drops) a.in_order;
  flows = λ j qs y l r e h. flows j qs y r e h (below_or_at i j l);
}
  where
    calls_report : (h : ℕ) (w : Bool) → In (call_to h w) new.calls.items → (j : ℕ) × (j < suc i) × ReachedCall c f j h w
    calls_report h w m = (let r = (a.calls h w).0 (subst (In (call_to h w)) t.calls m) in let l = r.1 in (r.0, omega (arith, l), r.2))

    calls_from : (h : ℕ) (w : Bool) → (j : ℕ) × (j < suc i) × ReachedCall c f j h w → In (call_to h w) new.calls.items
    calls_from h w r = by (below_or_at i r.0 r.1)
      where
        by : (r.0 < i) ⊎ (r.0 ≡ i) → In (call_to h w) new.calls.items
        by (inl l) = subst (In (call_to h w)) (sym t.calls) ((a.calls h w).1 (r.0, l, r.2))
        by (inr e) = absurd (never r.2.kinds (subst (λ k. KnownAt c f k r.2.kinds) e r.2.reached.known))

    waiting_report : (j h : ℕ) → In (waits_at j h) new.waiting.items → (j < suc i) × ReachedCall c f j h true
    waiting_report j h m = (let r = (a.waiting j h).0 (subst (In (waits_at j h)) t.waiting m) in let l = r.0 in (omega (arith, l), r.1))

    waiting_from : (j h : ℕ) → (j < suc i) × ReachedCall c f j h true → In (waits_at j h) new.waiting.items
    waiting_from j h r = by (below_or_at i j r.0)
      where
        by : (j < i) ⊎ (j ≡ i) → In (waits_at j h) new.waiting.items
        by (inl l) = subst (In (waits_at j h)) (sym t.waiting) ((a.waiting j h).1 (l, r.1))
        by (inr e) = absurd (never r.1.kinds (subst (λ k. KnownAt c f k r.1.kinds) e r.1.reached.known))

    drops_report : (j u : ℕ) → In (drops_at j u) new.drops.items → (j < suc i) × ReachedDrop c f j u
    drops_report j u m = (let r = (a.drops j u).0 (subst (In (drops_at j u)) t.drops m) in let l = r.0 in (omega (arith, l), r.1))

    drops_from : (j u : ℕ) → (j < suc i) × ReachedDrop c f j u → In (drops_at j u) new.drops.items
    drops_from j u r = by (below_or_at i j r.0)
      where
        by : (j < i) ⊎ (j ≡ i) → In (drops_at j u) new.drops.items
        by (inl l) = subst (In (drops_at j u)) (sym t.drops) ((a.drops j u).1 (l, r.1))
        by (inr e) = absurd (never r.1.kinds (subst (λ k. KnownAt c f k r.1.kinds) e r.1.reached.known))

    flows : (j : ℕ) (qs : List Kind) (y : Instr) → IsReachedAt c f j qs y → is_as_asked c f j qs y ≡ true → is_end y ≡ false → (j < i) ⊎ (j ≡ i) → (after : List Kind) × Leaves c qs y after
    flows j qs y r e h (inl m) = a.flows j qs y m r e h
    flows j qs y r e h (inr m) = absurd (never qs (subst (λ k. KnownAt c f k qs) m r.known))

pub step_found : (c : PlainCode) (n : ℕ) (f : PlainFunction) (i : ℕ) (cur : Option (List Kind)) (x : Instr) (goes : Bool) (left : List Kind) (old new : Found) → Knowing c f i cur → IsInstr f i x → GoesAfter c f i cur x goes left → Took c n f i cur x goes left old new → IsFound c n f i old → IsFound c n f (suc i) new
step_found c n f i None x goes left old new kn is g t a = step_unknown c n f i x old new kn is t a
step_found c n f i (Some ks) x goes left old new kn is g t a = step_known c n f i ks x goes left old new kn is g t a

-- ---- what comes next

pub step_coming : (c : PlainCode) (f : PlainFunction) (i : ℕ) (cur : Option (List Kind)) (x : Instr) (goes : Bool) (left : List Kind) → Knowing c f i cur → IsInstr f i x → GoesAfter c f i cur x goes left → Coming c f (suc i) (kept_if goes left)
step_coming c f i None x true left kn is g = absurd (true≢false g)
step_coming c f i None x false left kn is g = λ ks p. kn p.0 p.2
step_coming c f i (Some ks) x true left kn is g = (ks, x, kn, is, g.0, g.1)
step_coming c f i (Some ks) x false left kn is g = λ qs p. stops g p
  where
    stops : {qs : List Kind} → (is_as_asked c f i ks x ≡ false) ⊎ (is_end x ≡ true) → Comes c f (suc i) qs → ⊥
    stops (inl h) p = true≢false (sym p.4 ∙ (ap₂ (is_as_asked c f i) (known_once c f i p.0 ks p.2 kn) (same_instr f i p.1 x p.3 is) ∙ h))
    stops {qs} (inr h) p = end_leaves c p.0 p.1 qs (ap is_end (same_instr f i p.1 x p.3 is) ∙ h) p.5

knowing_by : (o : Option (List Kind)) (P : List Kind → Type 0) (ks : List Kind) → o ≡ None → P ks → Holds o P ks
knowing_by None P ks e p = p
knowing_by (Some m) P ks e p = absurd (none-some m (sym e))

pub enter_knowing : (c : PlainCode) (f : PlainFunction) (i : ℕ) (cur : Option (List Kind)) → Coming c f i cur → Knowing c f i (here (label_at f.labels i) cur)
enter_knowing c f i cur p = by (label_at f.labels i) refl cur p
  where
    by : (o : Option (List Kind)) → label_at f.labels i ≡ o → (cur : Option (List Kind)) → Coming c f i cur → Knowing c f i (here o cur)
    by None e None p = λ ks k. p ks (subst (λ o. Holds o (Comes c f i) ks) e k)
    by None e (Some ks) p = knowing_by (label_at f.labels i) (Comes c f i) ks e p
    by (Some m) e cur p = subst (λ o. Holds o (Comes c f i) m) (sym e) refl

pub first_coming : (c : PlainCode) (f : PlainFunction) (ks : List Kind) → ks ≡ entry c f → Coming c f 0 (Some ks)
first_coming c f ks e = e

pub first_found : (c : PlainCode) (n : ℕ) (f : PlainFunction) (r : Found) → r.least.first ≡ None → r.calls.items ≡ [] → r.waiting.items ≡ [] → r.drops.items ≡ [] → IsFound c n f 0 r
first_found c n f r l k w d = record {
  least = subst (Answers (BrokenBelow c n f 0)) (sym l) (λ m j q p. (let h = p.1 in omega (arith, h)));
  calls = λ h v. (λ m. absurd (in_nil (call_to h v) (subst (In (call_to h v)) k m)), λ q. absurd (let h = q.1 in omega (arith, h)));
  waiting = λ j h. (λ m. absurd (in_nil (waits_at j h) (subst (In (waits_at j h)) w m)), λ q. absurd (let h = q.0 in omega (arith, h)));
  drops = λ j u. (λ m. absurd (in_nil (drops_at j u) (subst (In (drops_at j u)) d m)), λ q. absurd (let h = q.0 in omega (arith, h)));
  in_order = subst AreInOrder (sym d) (λ j q e f h p s. absurd (none-some e p));
  flows = λ j qs y h. absurd (omega (arith, h));
}

-- ---- ints that are written

pub first_literals : (f : PlainFunction) → HasMachineIntsBelow f 0
first_literals f i x h = absurd (omega (arith, h))

pub next_literals : (f : PlainFunction) (i k : ℕ) (x : Instr) → suc i ≡ k → IsInstr f i x → HasMachineInt x → HasMachineIntsBelow f i → HasMachineIntsBelow f k
next_literals f i k x next is fits below j y h at = by (below_or_at i j (omega (arith, next, h)))
  where
    by : (j < i) ⊎ (j ≡ i) → HasMachineInt y
    by (inl l) = below j y l at
    by (inr e) = subst HasMachineInt (same_instr f i x y is (subst (λ k. IsInstr f k y) e at)) fits
