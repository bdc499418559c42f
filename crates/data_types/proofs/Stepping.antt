-- What a step of the search keeps.
use Rattle.std.proofs.Common.{◌≡◌, ℕ, zero, suc, ◌+◌, ◌<◌, ◌≤◌, ◌⊎◌, inl, inr, Bool, true, false, ◌||◌, List, [], ◌∷◌, ◌++◌, length, slice_get, slice_set, Option, Some, None, refl, ap, sym, subst, ◌∙◌, arith, true≢false, length-append, if◌then◌else◌}
use Rattle.data_types.specs.Types.{Tys, Declarations, constructors}
use Rattle.data_types.specs.Marks.{Claim, State, asked, known, marked_of, IsBlocked, BlockedAt, IsDone, Holds, IsSound, HasAll, IsAt, IsAskedAt, unmarked, room, left, with_mark}
use Rattle.data_types.specs.Steps.{Extends, Goes, GoesIf, IsStep, IsAskedAbove, AreTried}
use Rattle.std.specs.Prelude.{MatchOption}
use Rattle.data_types.specs.declared.claims.Asked.{Asked}
use Rattle.data_types.specs.declared.found.Found.{Found}
use Rattle.data_types.proofs.Values.{past, claim_holds}
use Rattle.data_types.proofs.Extending.{extends_sound}
use Rattle.fip_language.proofs.Facts.{less_or_last, same_some as some_is}

pub goes_self : (ds : Declarations) (s : State) → Goes ds s s
goes_self ds s = record { sound = λ h. h; kept = λ i t bs l. l; room = omega arith; left = omega arith }

pub goes_then : (ds : Declarations) (a b c : State) → Goes ds a b → Goes ds b c → Goes ds a c
goes_then ds a b c g h =
    let r = g.room in
    let s = h.room in
    let l = g.left in
    let m = h.left in
    record { sound = λ k. h.sound (g.sound k); kept = λ i t bs k. h.kept i t bs (g.kept i t bs k); room = omega (arith, r, s); left = omega (arith, l, m) }

pub step_self : (ds : Declarations) (s : State) → IsStep ds s s false
step_self ds s = record { goes = goes_self ds s; quiet = λ e. refl; busy = λ e. absurd (true≢false (sym e)) }

pub step_then : (ds : Declarations) (a b c : State) (x y : Bool) → IsStep ds a b x → IsStep ds b c y → IsStep ds a c (x || y)
step_then ds a b c true y g h = record { goes = goes_then ds a b c g.goes h.goes; quiet = λ e. absurd (true≢false e); busy = λ e. (let l = g.busy refl in let m = h.goes.room in omega (arith, l, m)) }
step_then ds a b c false y g h = record { goes = goes_then ds a b c g.goes h.goes; quiet = λ e. h.quiet e ∙ g.quiet refl; busy = λ e. (let l = h.busy e in let m = g.goes.room in omega (arith, l, m)) }

pub step_goes : (ds : Declarations) (a b c : State) → IsStep ds a b true → Goes ds b c → IsStep ds a c true
step_goes ds a b c g h = record { goes = goes_then ds a b c g.goes h; quiet = λ e. absurd (true≢false e); busy = λ e. (let l = g.busy refl in let m = h.room in omega (arith, l, m)) }

-- ---- claims are asked

at_kept : (a b : State) → Extends a b → (i t : ℕ) (bs : List Bool) → IsAt a i t bs → IsAt b i t bs
at_kept a b e i t bs (inl f) = inl (e.kept i (asked t bs) f)
at_kept a b e i t bs (inr f) = inr (f.0, e.kept i (known t f.0) f.1)

pub goes_extends : (ds : Declarations) (a b : State) → Extends a b → Goes ds a b
goes_extends ds a b e =
    let r = e.room in
    let m = e.more in
    let t = ap length e.todo in
    record { sound = extends_sound ds a b e; kept = at_kept a b e; room = omega (arith, r, m); left = omega (arith, r, m, t) }

pub step_extends : (ds : Declarations) (a b : State) (x : Bool) → Extends a b → (x ≡ false → length b.claims ≡ length a.claims) → (x ≡ true → length b.claims ≡ length a.claims → ⊥) → IsStep ds a b x
step_extends ds a b x e f g =
    let r = e.room in
    let m = e.more in
    record { goes = goes_extends ds a b e; quiet = λ h. e.same (f h); busy = λ h. less (length a.claims) (length b.claims) m (g h) r }
  where
    less : (m n : ℕ) → m ≤ n → (n ≡ m → ⊥) → room b + n ≤ room a + m → room b < room a
    less m n le free r = by (le_or_less n m)
      where
        by : (n ≤ m) ⊎ (m < n) → room b < room a
        by (inl l) = absurd (free (omega (arith, l, le)))
        by (inr l) = omega (arith, l, r)

        le_or_less : (i j : ℕ) → (i ≤ j) ⊎ (j < i)
        le_or_less zero j = inl (omega arith)
        le_or_less (suc i) zero = inr (omega arith)
        le_or_less (suc i) (suc j) = elim (le_or_less i j) as (λ _. (suc i ≤ suc j) ⊎ (suc j < suc i)) [ inl h ↦ inl (omega (arith, h)) | inr h ↦ inr (omega (arith, h)) ]

-- ---- a claim is marked

get_set : (cs : List Claim) (i j : ℕ) (x y : Claim) → slice_get (slice_set cs i x) j ≡ Some y → (x ≡ y) ⊎ (slice_get cs j ≡ Some y)
get_set [] i j x y e = inr e
get_set (c ∷ cs) zero zero x y e = inl cc
get_set (c ∷ cs) zero (suc j) x y e = inr e
get_set (c ∷ cs) (suc i) zero x y e = inr e
get_set (c ∷ cs) (suc i) (suc j) x y e = get_set cs i j x y e

set_get : (cs : List Claim) (i j : ℕ) (x y : Claim) → slice_get cs j ≡ Some y → (slice_get (slice_set cs i x) j ≡ Some y) ⊎ ((slice_get cs i ≡ Some y) × (slice_get (slice_set cs i x) j ≡ Some x))
set_get [] i j x y e = cc
set_get (c ∷ cs) zero zero x y e = inr (e, refl)
set_get (c ∷ cs) zero (suc j) x y e = inl e
set_get (c ∷ cs) (suc i) zero x y e = inl e
set_get (c ∷ cs) (suc i) (suc j) x y e = set_get cs i j x y e

set_length : (cs : List Claim) (i : ℕ) (x : Claim) → length (slice_set cs i x) ≡ length cs
set_length [] i x = refl
set_length (c ∷ cs) zero x = refl
set_length (c ∷ cs) (suc i) x = ap suc (set_length cs i x)

one_marked : (cs : List Claim) (i t u : ℕ) (bs as' : List Bool) → slice_get cs i ≡ Some (asked t bs) → unmarked (slice_set cs i (known u as')) + 1 ≡ unmarked cs
one_marked [] i t u bs as' e = cc
one_marked (c ∷ cs) zero t u bs as' e = by (ap marked_of e)
  where
    by : c.marked ≡ false → 0 + unmarked cs + 1 ≡ (if c.marked then 0 else 1) + unmarked cs
    by f = let g = ap {B = ℕ} (λ (b : Bool). if b then 0 else 1) f in omega (arith, g)
one_marked (c ∷ cs) (suc i) t u bs as' e = let r = one_marked cs i t u bs as' e in omega (arith, r)

mark_sound : (ds : Declarations) (s : State) (i t : ℕ) (cs : List Bool) → Holds ds t cs → IsSound ds s → IsSound ds (with_mark s i t cs)
mark_sound ds s i t cs holds sound j u bs h = by (get_set s.claims i j (known t cs) (known u bs) h)
  where
    by : (known t cs ≡ known u bs) ⊎ (slice_get s.claims j ≡ Some (known u bs)) → Holds ds u bs
    by (inl e) = subst (λ (c : Claim). Holds ds c.type c.arguments) e holds
    by (inr e) = sound j u bs e

mark_kept : (s : State) (i t : ℕ) (cs : List Bool) → IsAskedAt s i t → (j u : ℕ) (bs : List Bool) → IsAt s j u bs → IsAt (with_mark s i t cs) j u bs
mark_kept s i t cs here j u bs (inl e) = by (set_get s.claims i j (known t cs) (asked u bs) e)
  where
    same_type : slice_get s.claims i ≡ Some (asked u bs) → t ≡ u
    same_type f = ap (λ (c : Claim). c.type) (some_is (asked t here.0) (asked u bs) (sym here.1 ∙ f))

    by : (slice_get (slice_set s.claims i (known t cs)) j ≡ Some (asked u bs)) ⊎ ((slice_get s.claims i ≡ Some (asked u bs)) × (slice_get (slice_set s.claims i (known t cs)) j ≡ Some (known t cs))) → IsAt (with_mark s i t cs) j u bs
    by (inl f) = inl f
    by (inr f) = inr (cs, subst (λ v. slice_get (slice_set s.claims i (known t cs)) j ≡ Some (known v cs)) (same_type f.0) f.1)
mark_kept s i t cs here j u bs (inr e) = by (set_get s.claims i j (known t cs) (known u e.0) e.1)
  where
    by : (slice_get (slice_set s.claims i (known t cs)) j ≡ Some (known u e.0)) ⊎ ((slice_get s.claims i ≡ Some (known u e.0)) × (slice_get (slice_set s.claims i (known t cs)) j ≡ Some (known t cs))) → IsAt (with_mark s i t cs) j u bs
    by (inl f) = inr (e.0, f)
    by (inr f) = absurd (true≢false (sym (ap marked_of (sym here.1 ∙ f.0))))

-- a claim that is asked is marked, with arguments that suffice
pub step_mark : (ds : Declarations) (s : State) (i t : ℕ) (cs : List Bool) → IsAskedAt s i t → (IsSound ds s → Holds ds t cs) → IsStep ds s (with_mark s i t cs) true
step_mark ds s i t cs here holds =
    let u = one_marked s.claims i t t here.0 cs here.1 in
    let l = set_length s.claims i (known t cs) in
    let n = length-append s.todo (i ∷ []) in
    record {
      goes = record {
        sound = λ sound. mark_sound ds s i t cs (holds sound) sound;
        kept = mark_kept s i t cs here;
        room = omega (arith, u, l);
        left = omega (arith, u, l, n);
      };
      quiet = λ e. absurd (true≢false e);
      busy = λ e. omega (arith, u, l);
    }

pub if_self : (ds : Declarations) (given : Type 0) (s : State) → GoesIf ds given s s
if_self ds given s = record { sound = λ g h. h; kept = λ i t bs l. l; room = omega arith; left = omega arith }

pub if_then : (ds : Declarations) (given : Type 0) (a b c : State) → GoesIf ds given a b → GoesIf ds given b c → GoesIf ds given a c
if_then ds given a b c g h =
    let r = g.room in
    let s = h.room in
    let l = g.left in
    let m = h.left in
    record { sound = λ x k. h.sound x (g.sound x k); kept = λ i t bs k. h.kept i t bs (g.kept i t bs k); room = omega (arith, r, s); left = omega (arith, l, m) }

pub if_above : (ds : Declarations) (s : State) (i t : ℕ) (cs : List Bool) → IsAskedAbove s i t cs → GoesIf ds (Holds ds t cs) s (with_mark s i t cs)
if_above ds s i t cs above =
    let u = one_marked s.claims i t t above.arguments cs above.claim in
    let l = set_length s.claims i (known t cs) in
    let n = length-append s.todo (i ∷ []) in
    record {
      sound = λ holds sound. mark_sound ds s i t cs holds sound;
      kept = mark_kept s i t cs (above.arguments, above.claim);
      room = omega (arith, u, l);
      left = omega (arith, u, l, n);
    }

pub step_if : (ds : Declarations) (given : Type 0) (a b c : State) → (IsSound ds a → given) → IsStep ds a b true → GoesIf ds given b c → IsStep ds a c true
step_if ds given a b c f g h =
    let l = g.busy refl in
    let m = h.room in
    let r = g.goes.left in
    let s = h.left in
    record {
      goes = record { sound = λ k. h.sound (f k) (g.goes.sound k); kept = λ i t bs k. h.kept i t bs (g.goes.kept i t bs k); room = omega (arith, l, m); left = omega (arith, r, s) };
      quiet = λ e. absurd (true≢false e);
      busy = λ e. omega (arith, l, m);
    }

-- ---- what is done

pub done_not_asked : (ds : Declarations) (s : State) (i c : ℕ) → ((t : ℕ) (bs : List Bool) → slice_get s.claims i ≡ Some (asked t bs) → ⊥) → IsDone ds s i c
done_not_asked ds s i c free t bs e = absurd (free t bs e)

pub done_no_fields : (ds : Declarations) (s : State) (i c t : ℕ) (bs : List Bool) → slice_get s.claims i ≡ Some (asked t bs) → slice_get (constructors ds t) c ≡ None → IsDone ds s i c
done_no_fields ds s i c t bs here n u as' e fs f =
    let same = some_is (asked t bs) (asked u as') (sym here ∙ e) in
    let g : slice_get (constructors ds t) c ≡ Some fs = ap (λ (r : Claim). slice_get (constructors ds r.type) c) same ∙ f in
    cc

pub done_blocked : (ds : Declarations) (s : State) (i c t : ℕ) (bs : List Bool) (fs : Tys) → slice_get s.claims i ≡ Some (asked t bs) → slice_get (constructors ds t) c ≡ Some fs → IsBlocked s bs fs → IsDone ds s i c
done_blocked ds s i c t bs fs here shape b u as' e gs f =
    let same = some_is (asked t bs) (asked u as') (sym here ∙ e) in
    let g : slice_get (constructors ds t) c ≡ Some gs = ap (λ (r : Claim). slice_get (constructors ds r.type) c) same ∙ f in
    let same_fields : fs ≡ gs = some_is fs gs (sym shape ∙ g) in
    subst (λ (r : Claim). IsBlocked s r.arguments gs) same (subst (IsBlocked s bs) same_fields b)

-- some constructors of a claim are looked at
abbrev pub Visiting : Declarations → State → State → Bool → ℕ → ℕ → Type 0
Visiting ds a b x i n = IsStep ds a b x × (x ≡ false → (c : ℕ) → c < n → IsDone ds b i c)

pub visiting_first : (ds : Declarations) (s : State) (i : ℕ) → Visiting ds s s false i 0
visiting_first ds s i = (step_self ds s, λ e c lt. absurd (omega (arith, lt)))

pub visiting_next : (ds : Declarations) (a b d : State) (x y : Bool) (i n : ℕ) → Visiting ds a b x i n → IsStep ds b d y → (y ≡ false → IsDone ds d i n) → Visiting ds a d (x || y) i (n + 1)
visiting_next ds a b d true y i n v g done = (step_then ds a b d true y v.0 g, λ e. absurd (true≢false e))
visiting_next ds a b d false y i n v g done = (step_then ds a b d false y v.0 g, λ e c lt. by e c (less_or_last c n lt))
  where
    by : y ≡ false → (c : ℕ) → (c < n) ⊎ (c ≡ n) → IsDone ds d i c
    by e c (inl l) = subst (λ s. IsDone ds s i c) (sym (g.quiet e)) (v.1 refl c l)
    by e c (inr f) = subst (IsDone ds d i) (sym f) (done e)

pub visiting_last : (ds : Declarations) (a b : State) (x : Bool) (i t : ℕ) (bs : List Bool) (n : ℕ) → Visiting ds a b x i n → slice_get a.claims i ≡ Some (asked t bs) → n ≡ length (constructors ds t) → x ≡ false → (c : ℕ) → IsDone ds b i c
visiting_last ds a b x i t bs n v here all e c = by (less_or_more c n)
  where
    same : b ≡ a
    same = v.0.quiet e

    there : slice_get b.claims i ≡ Some (asked t bs)
    there = ap (λ (s : State). slice_get s.claims i) same ∙ here

    less_or_more : (j m : ℕ) → (j < m) ⊎ (m ≤ j)
    less_or_more j zero = inr (omega arith)
    less_or_more zero (suc m) = inl (omega arith)
    less_or_more (suc j) (suc m) = elim (less_or_more j m) as (λ _. (suc j < suc m) ⊎ (suc m ≤ suc j)) [ inl l ↦ inl (omega (arith, l)) | inr l ↦ inr (omega (arith, l)) ]

    by : (c < n) ⊎ (n ≤ c) → IsDone ds b i c
    by (inl l) = v.1 e c l
    by (inr l) = λ u cs f fs g. (let r = some_is (asked t bs) (asked u cs) (sym there ∙ f) in let lt = past (constructors ds u) c fs g in let m = all ∙ ap (λ (d : Claim). length (constructors ds d.type)) r in absurd (omega (arith, l, lt, m)))

-- some claims are looked at
abbrev pub Passing : Declarations → State → State → Bool → ℕ → Type 0
Passing ds a b x n = IsStep ds a b x × (x ≡ false → (i : ℕ) → i < n → (c : ℕ) → IsDone ds b i c)

pub passing_first : (ds : Declarations) (s : State) → Passing ds s s false 0
passing_first ds s = (step_self ds s, λ e i lt. absurd (omega (arith, lt)))

pub passing_next : (ds : Declarations) (a b d : State) (x y : Bool) (n : ℕ) → Passing ds a b x n → IsStep ds b d y → (y ≡ false → (c : ℕ) → IsDone ds d n c) → Passing ds a d (x || y) (n + 1)
passing_next ds a b d true y n v g done = (step_then ds a b d true y v.0 g, λ e. absurd (true≢false e))
passing_next ds a b d false y n v g done = (step_then ds a b d false y v.0 g, λ e i lt. by e i (less_or_last i n lt))
  where
    by : y ≡ false → (i : ℕ) → (i < n) ⊎ (i ≡ n) → (c : ℕ) → IsDone ds d i c
    by e i (inl l) c = subst (λ s. IsDone ds s i c) (sym (g.quiet e)) (v.1 refl i l c)
    by e i (inr f) c = subst (λ j. IsDone ds d j c) (sym f) (done e c)

-- ---- the list of what is to be looked at

pub goes_next : (ds : Declarations) (a b : State) (i : ℕ) → a ≡ record { claims = b.claims; todo = b.todo ++ i ∷ [] } → Goes ds a b × (left b < left a)
goes_next ds a b i e =
    let n = length-append b.todo (i ∷ []) in
    let both : Goes ds (record { claims = b.claims; todo = b.todo ++ i ∷ [] }) b × (left b < left (record { claims = b.claims; todo = b.todo ++ i ∷ [] })) = (record { sound = λ h. h; kept = λ i t bs l. l; room = omega arith; left = omega (arith, n) }, omega (arith, n)) in
    subst (λ (s : State). Goes ds s b × (left b < left s)) (sym e) both

-- ---- for the code

pub goes_step : (ds : Declarations) (a b c : State) → Goes ds a b → IsStep ds b c true → IsStep ds a c true
goes_step ds a b c g h = record { goes = goes_then ds a b c g h.goes; quiet = λ e. absurd (true≢false e); busy = λ e. (let l = h.busy refl in let m = g.room in omega (arith, l, m)) }

pub step_listed : (ds : Declarations) (a b : State) (x : Bool) (n m : ℕ) → Extends a b → n ≡ length b.claims → m ≡ length a.claims → (x ≡ false → n ≡ m) → (x ≡ true → n ≡ m → ⊥) → IsStep ds a b x
step_listed ds a b x n m e g h p q = step_extends ds a b x e (λ r. sym g ∙ p r ∙ h) (λ r k. q r (g ∙ k ∙ sym h))

-- what is read of the claim at a place
abbrev pub Reads : State → ℕ → Option Asked → Type 0
Reads s i o = MatchOption o ((t : ℕ) (bs : List Bool) → slice_get s.claims i ≡ Some (asked t bs) → ⊥) (λ a. slice_get s.claims i ≡ Some (asked a.ty a.arguments.items))

pub claim_there : (s : State) (i : ℕ) (o : Option Asked) (a : Asked) → Reads s i o → o ≡ Some a → slice_get s.claims i ≡ Some (asked a.ty a.arguments.items)
claim_there s i o a h e = subst (Reads s i) e h

pub claim_not_there : (s : State) (i : ℕ) (o : Option Asked) → Reads s i o → o ≡ None → (t : ℕ) (bs : List Bool) → slice_get s.claims i ≡ Some (asked t bs) → ⊥
claim_not_there s i o h e = subst (Reads s i) e h
