-- Lists of registers, in which each occurs once.
use Rattle.std.proofs.Common.{◌≡◌, ℕ, zero, suc, ◌<◌, ◌≤◌, ◌+◌, ◌⊎◌, inl, inr, List, [], ◌∷◌, ◌++◌, length, take, drop, set, refl, sym, ap, ◌∙◌, subst, arith}
use Rattle.std.specs.Prelude.{Bool, true, false, ◌||◌, Option, Some, None, slice_get, ◌==◌}
use Rattle.cell_code.specs.declared.kind.Kind.{Kind}
use Rattle.std.proofs.lemmas.Bool.Decides.{eqb_tells}
use Rattle.code_rules.specs.Kinds.{at, has}
use Rattle.kind_domain.specs.Leading.{trues, AreLents, Grows, ClosedBelow, kept_at, leads}
use Rattle.fip_base.proofs.fip_language.Facts.{append_more, append_none_back as append_none, length_join as long_append, or_cases, or_first as or_with, or_last, same_number as same_here}
pub use Rattle.fip_base.proofs.fip_language.Facts.{drop_past as past_end, set_length as items_long, take_few as take_short}

pub trues_few : (bs : List Bool) → trues bs ≤ length bs
trues_few [] = omega arith
trues_few (true ∷ bs) = let h = trues_few bs in omega arith
trues_few (false ∷ bs) = let h = trues_few bs in omega arith

-- Where one isn't true, fewer are.
pub trues_less : (bs : List Bool) (q : ℕ) → slice_get bs q ≡ Some false → trues bs < length bs
trues_less [] q e = absurd (cc)
trues_less (true ∷ bs) zero e = absurd (cc)
trues_less (true ∷ bs) (suc q) e = let h = trues_less bs q e in omega arith
trues_less (false ∷ bs) zero e = let h = trues_few bs in omega arith
trues_less (false ∷ bs) (suc q) e = let h = trues_less bs q e in omega arith

true_or_false : (bs : List Bool) (q : ℕ) → q < length bs →
    (slice_get bs q ≡ Some true) ⊎ (slice_get bs q ≡ Some false)
true_or_false [] q h = absurd (omega arith)
true_or_false (true ∷ bs) zero h = inl refl
true_or_false (false ∷ bs) zero h = inr refl
true_or_false (b ∷ bs) (suc q) h = true_or_false bs q (omega arith)

-- Where as many are true as there are, each is.
pub all_true : (bs : List Bool) (q : ℕ) → length bs ≤ trues bs → q < length bs → slice_get bs q ≡ Some true
all_true bs q l h =
    elim (true_or_false bs q h) [ inl e ↦ e | inr e ↦ absurd (let g = trues_less bs q e in omega arith) ]

pub trues_set : (bs : List Bool) (q : ℕ) → slice_get bs q ≡ Some false → trues (set bs q true) ≡ suc (trues bs)
trues_set [] q e = absurd (cc)
trues_set (true ∷ bs) zero e = absurd (cc)
trues_set (true ∷ bs) (suc q) e = ap suc (trues_set bs q e)
trues_set (false ∷ bs) zero e = refl
trues_set (false ∷ bs) (suc q) e = trues_set bs q e

pub none_true : (bs : List Bool) → ((q : ℕ) → slice_get bs q ≡ Some true → ⊥) → trues bs ≡ 0
none_true [] h = refl
none_true (true ∷ bs) h = absurd (h 0 refl)
none_true (false ∷ bs) h = none_true bs (λ q. h (suc q))

pub bools_long : (bs : List Bool) (q : ℕ) (b : Bool) → length (set bs q b) ≡ length bs
bools_long [] q b = refl
bools_long (x ∷ bs) zero b = refl
bools_long (x ∷ bs) (suc q) b = ap suc (bools_long bs q b)

-- an item put after the first ones
pub take_set : (xs : List ℕ) (n x : ℕ) → n < length xs → take (suc n) (set xs n x) ≡ take n xs ++ x ∷ []
take_set [] n x h = absurd (omega arith)
take_set (y ∷ xs) zero x h = refl
take_set (y ∷ xs) (suc n) x h = ap (λ r. y ∷ r) (take_set xs n x (omega arith))

or_on : (a b c : Bool) → ((b ≡ true) → c ≡ true) → (a || b) ≡ true → (a || c) ≡ true
or_on true b c f e = refl
or_on false b c f e = f e

pub has_more : (xs : List ℕ) (x q : ℕ) → has xs q ≡ true → has (xs ++ x ∷ []) q ≡ true
has_more [] x q e = absurd (cc)
has_more (y ∷ xs) x q e = or_on (y == q) (has xs q) (has (xs ++ x ∷ []) q) (λ h. has_more xs x q h) e

pub has_left : (xs ys : List ℕ) (q : ℕ) → has xs q ≡ true → has (xs ++ ys) q ≡ true
has_left [] ys q e = absurd (cc)
has_left (x ∷ xs) ys q e = or_on (x == q) (has xs q) (has (xs ++ ys) q) (λ h. has_left xs ys q h) e

pub has_right : (xs ys : List ℕ) (q : ℕ) → has ys q ≡ true → has (xs ++ ys) q ≡ true
has_right [] ys q e = e
has_right (x ∷ xs) ys q e = or_last (x == q) (has (xs ++ ys) q) (has_right xs ys q e)

pub has_either : (xs ys : List ℕ) (q : ℕ) → has (xs ++ ys) q ≡ true → (has xs q ≡ true) ⊎ (has ys q ≡ true)
has_either [] ys q e = inr e
has_either (x ∷ xs) ys q e =
    elim (or_cases (x == q) (has (xs ++ ys) q) e) [
      | inl h ↦ inl (or_with (x == q) (has xs q) h)
      | inr h ↦ elim (has_either xs ys q h) [ inl i ↦ inl (or_last (x == q) (has xs q) i) | inr i ↦ inr i ]
    ]

pub has_new : (xs : List ℕ) (x : ℕ) → has (xs ++ x ∷ []) x ≡ true
has_new [] x = elim (eqb_tells x x) [ inl h ↦ or_with (x == x) false h.0 | inr h ↦ absurd (h.1 refl) ]
has_new (y ∷ xs) x = or_last (y == x) (has (xs ++ x ∷ []) x) (has_new xs x)

bool_set : (bs : List Bool) (d q : ℕ) → slice_get (set bs d true) q ≡ Some true →
    (d ≡ q) ⊎ (slice_get bs q ≡ Some true)
bool_set [] d q e = absurd (cc)
bool_set (b ∷ bs) zero zero e = inl refl
bool_set (b ∷ bs) zero (suc q) e = inr e
bool_set (b ∷ bs) (suc d) zero e = inr e
bool_set (b ∷ bs) (suc d) (suc q) e = elim (bool_set bs d q e) [ inl h ↦ inl (ap suc h) | inr h ↦ inr h ]

listed_then : (xs : List ℕ) (listed : List Bool) (d q : ℕ) → (slice_get listed q ≡ Some true → has xs q ≡ true) →
    (d ≡ q) ⊎ (slice_get listed q ≡ Some true) → has (xs ++ d ∷ []) q ≡ true
listed_then xs listed d q h (inl e) = ap (λ x. has (xs ++ d ∷ []) x) (sym e) ∙ has_new xs d
listed_then xs listed d q h (inr e) = has_more xs d q (h e)

bool_kept : (bs : List Bool) (d q : ℕ) → slice_get bs q ≡ Some true → slice_get (set bs d true) q ≡ Some true
bool_kept [] d q e = e
bool_kept (b ∷ bs) zero zero e = refl
bool_kept (b ∷ bs) zero (suc q) e = e
bool_kept (b ∷ bs) (suc d) zero e = e
bool_kept (b ∷ bs) (suc d) (suc q) e = bool_kept bs d q e

bool_new : (bs : List Bool) (d : ℕ) (b : Bool) → slice_get bs d ≡ Some b → slice_get (set bs d true) d ≡ Some true
bool_new [] d b e = absurd (cc)
bool_new (x ∷ bs) zero b e = refl
bool_new (x ∷ bs) (suc d) b e = bool_new bs d b e

one_number : (d q : ℕ) → has (d ∷ []) q ≡ true → d ≡ q
one_number d q e =
    elim (or_cases (d == q) false e) [
      | inl h ↦ elim (eqb_tells d q) [ inl i ↦ i.1 | inr i ↦ absurd (let z = i.0 in cc) ]
      | inr h ↦ absurd (cc)
    ]

plus_one : (n : ℕ) → n + 1 ≡ suc n
plus_one n = omega arith

lents_next : (items : List ℕ) (top : ℕ) (listed : List Bool) (os : List (Option ℕ)) (d : ℕ) →
    AreLents items top listed os →
    slice_get listed d ≡ Some false → AreLents (set items top d) (suc top) (set listed d true) os
lents_next items top listed os d h e = record {
  reached_long = h.reached_long ∙ sym (items_long items top d);
  long = bools_long listed d true ∙ h.long ∙ sym (items_long items top d);
  many = ap suc h.many ∙ sym (trues_set listed d e);
  lists = λ q g.
      let few = trues_less listed d e in
      let long = h.long in
      let many = h.many in
      ap (λ xs. has xs q) (take_set items top d (omega arith)) ∙ listed_then (take top items) listed d q
      (λ i. h.lists q i) (bool_set listed d q g);
  marks = λ q g.
      let few = trues_less listed d e in
      let long = h.long in
      let many = h.many in
      elim (has_either (take top items) (d ∷ []) q
      (ap (λ xs. has xs q) (sym (take_set items top d (omega arith))) ∙ g)) [
        | inl i ↦ bool_kept listed d q (h.marks q i)
        | inr i ↦ subst (λ z. slice_get (set listed d true) z ≡ Some true) (one_number d q i) (bool_new listed d false e)
      ];
  only = λ q x g.
      let few = trues_less listed d e in
      let long = h.long in
      let many = h.many in
      ap (λ xs. has xs q) (take_set items top d (omega arith)) ∙ has_more (take top items) d q (h.only q x g);
}

pub lents_added : (items : List ℕ) (top : ℕ) (listed : List Bool) (os : List (Option ℕ)) (d : ℕ) →
    AreLents items top listed os →
    slice_get listed d ≡ Some false → AreLents (set items top d) (top + 1) (set listed d true) os
lents_added items top listed os d h e =
    subst (λ n. AreLents (set items top d) n (set listed d true) os) (sym (plus_one top))
    (lents_next items top listed os d h e)

-- the registers that are listed once one more is
pub held_new : (items : List ℕ) (top d : ℕ) → top < length items → has (take (top + 1) (set items top d)) d ≡ true
held_new items top d h =
    ap (λ n. has (take n (set items top d)) d) (plus_one top) ∙ ap (λ xs. has xs d) (take_set items top d h)
    ∙ has_new (take top items) d

pub held_more : (items : List ℕ) (top d : ℕ) → top < length items → (q : ℕ) → has (take top items) q ≡ true →
    has (take (top + 1) (set items top d)) q ≡ true
held_more items top d h q e =
    ap (λ n. has (take n (set items top d)) q) (plus_one top) ∙ ap (λ xs. has xs q) (take_set items top d h)
    ∙ has_more (take top items) d q e

pub held_only : (items : List ℕ) (top d : ℕ) → top < length items → (q : ℕ) →
    has (take (top + 1) (set items top d)) q ≡ true → (has (take top items) q ≡ true) ⊎ (d ≡ q)
held_only items top d h q e =
    elim (has_either (take top items) (d ∷ []) q
    (sym (ap (λ n. has (take n (set items top d)) q) (plus_one top) ∙ ap (λ xs. has xs q) (take_set items top d h)) ∙ e)) [
      | inl i ↦ inl i
      | inr i ↦ inr (one_number d q i)
    ]

-- lists that grow

pub grows_one : (items : List ℕ) (top d : ℕ) → top < length items →
    Grows (take top items) (take (top + 1) (set items top d))
grows_one items top d h = (
  d ∷ [],
  ap (λ n. take n (set items top d)) (plus_one top) ∙ take_set items top d h,
)

pub grows_same : (xs ys : List ℕ) → ys ≡ xs → Grows xs ys
grows_same xs ys e = ([], e ∙ append_none xs)

pub grows_on : (xs ys zs : List ℕ) → Grows xs ys → Grows ys zs → Grows xs zs
grows_on xs ys zs g h = (g.0 ++ h.0, h.1 ∙ ap (λ l. l ++ h.0) g.1 ∙ append_more xs g.0 h.0)

pub grows_has : (xs ys : List ℕ) → Grows xs ys → (q : ℕ) → has xs q ≡ true → has ys q ≡ true
grows_has xs ys g q e = ap (λ l. has l q) g.1 ∙ has_left xs g.0 q e

pub below_next : (q n : ℕ) → q < n + 1 → (q < n) ⊎ (n ≡ q)
below_next q n h = grind arith

-- what leads to listed registers

pub drop_append : (xs ys : List ℕ) (n : ℕ) → n ≤ length xs → drop n (xs ++ ys) ≡ drop n xs ++ ys
drop_append xs ys zero h = refl
drop_append [] ys (suc n) h = absurd (omega arith)
drop_append (x ∷ xs) ys (suc n) h = drop_append xs ys n (omega arith)

-- One register more was gone through: what leads to it was listed too.
closed_next : (ks : List Kind) (xs rest : List ℕ) (n x : ℕ) → n < length xs → drop n xs ≡ x ∷ drop (n + 1) xs →
    ClosedBelow ks xs n → ((q : ℕ) → leads x (at ks q) ≡ true → has (xs ++ rest) q ≡ true) →
    ClosedBelow ks (xs ++ rest) (n + 1)
closed_next ks xs rest n x h e c f p q a b =
    let d = drop_append xs rest (n + 1) (omega arith) in
    elim (has_either xs rest p a) [
      | inl i ↦ elim (c p q i b) [
        | inl j ↦ elim (or_cases (x == p) (has (drop (n + 1) xs) p) (ap (λ l. has l p) (sym e) ∙ j)) [
          | inl k ↦ inr (f q (ap (λ z. leads z (at ks q)) (same_here x p k) ∙ b))
          | inr k ↦ inl (ap (λ l. has l p) d ∙ has_left (drop (n + 1) xs) rest p k)
        ]
        | inr j ↦ inr (has_left xs rest q j)
      ]
      | inr i ↦ inl (ap (λ l. has l p) d ∙ has_right (drop (n + 1) xs) rest p i)
    ]

pub closed_step : (ks : List Kind) (xs ys : List ℕ) (n x : ℕ) → n < length xs → drop n xs ≡ x ∷ drop (n + 1) xs →
    ClosedBelow ks xs n → ((q : ℕ) → leads x (at ks q) ≡ true → has ys q ≡ true) → Grows xs ys →
    ClosedBelow ks ys (n + 1)
closed_step ks xs ys n x h e c f g =
    subst (λ l. ClosedBelow ks l (n + 1)) (sym g.1)
    (closed_next ks xs g.0 n x h e c (λ q i. ap (λ l. has l q) (sym g.1) ∙ f q i))

pub closed_end : (ks : List Kind) (xs : List ℕ) (n : ℕ) → length xs ≤ n → ClosedBelow ks xs n → (p q : ℕ) →
    has xs p ≡ true → leads p (at ks q) ≡ true → has xs q ≡ true
closed_end ks xs n h c p q a b =
    elim (c p q a b) [ inl i ↦ absurd (let e = ap (λ l. has l p) (past_end xs n h) in cc) | inr i ↦ i ]

pub closed_start : (ks : List Kind) (xs : List ℕ) → ClosedBelow ks xs 0
closed_start ks xs p q a b = inl a

drop_all : (xs ys : List ℕ) → drop (length xs) (xs ++ ys) ≡ ys
drop_all [] ys = refl
drop_all (x ∷ xs) ys = drop_all xs ys

-- A closed list has grown: only what is new is still to be gone through.
pub closed_more : (ks : List Kind) (xs ys : List ℕ) (n : ℕ) → n ≡ length xs →
    ((p q : ℕ) → has xs p ≡ true → leads p (at ks q) ≡ true → has xs q ≡ true) → Grows xs ys → ClosedBelow ks ys n
closed_more ks xs ys n e c g p q a b =
    elim (has_either xs g.0 p (ap (λ l. has l p) (sym g.1) ∙ a)) [
      | inl i ↦ inr (grows_has xs ys g q (c p q i b))
      | inr i ↦ inl (ap (λ m. has (drop m ys) p) e ∙ ap (λ l. has (drop (length xs) l) p) g.1
          ∙ ap (λ l. has l p) (drop_all xs g.0) ∙ i)
    ]

pub grows_within : (xs ys : List ℕ) → Grows xs ys → length xs ≤ length ys
grows_within xs ys g = let e = ap length g.1 in let f = long_append xs g.0 in omega arith

-- lists that are cleared

pub bool_unset : (bs : List Bool) (d q : ℕ) → slice_get (set bs d false) q ≡ Some true →
    (d ≡ q → ⊥) × (slice_get bs q ≡ Some true)
bool_unset [] d q e = absurd (cc)
bool_unset (b ∷ bs) zero zero e = absurd (cc)
bool_unset (b ∷ bs) zero (suc q) e = (λ h. omega arith, e)
bool_unset (b ∷ bs) (suc d) zero e = (λ h. omega arith, e)
bool_unset (b ∷ bs) (suc d) (suc q) e =
    let h = bool_unset bs d q e in
    (λ i. h.0 (omega arith), h.1)

pub heir_unset : (os : List (Option ℕ)) (r q d : ℕ) → kept_at (set os r None) q ≡ Some d →
    (r ≡ q → ⊥) × (kept_at os q ≡ Some d)
heir_unset [] r q d e = absurd (cc)
heir_unset (o ∷ os) zero zero d e = absurd (cc)
heir_unset (o ∷ os) zero (suc q) d e = (λ h. omega arith, e)
heir_unset (o ∷ os) (suc r) zero d e = (λ h. omega arith, e)
heir_unset (o ∷ os) (suc r) (suc q) d e =
    let h = heir_unset os r q d e in
    (λ i. h.0 (omega arith), h.1)

-- one of the registers that are still to be cleared, but not the next one
pub still_later : (xs : List ℕ) (i x q : ℕ) → drop i xs ≡ x ∷ drop (i + 1) xs → (x ≡ q → ⊥) →
    has (drop i xs) q ≡ true → has (drop (i + 1) xs) q ≡ true
still_later xs i x q e n h =
    elim (or_cases (x == q) (has (drop (i + 1) xs) q) (ap (λ l. has l q) (sym e) ∙ h)) [
      | inl j ↦ absurd (n (same_here x q j))
      | inr j ↦ j
    ]

pub none_later : (xs : List ℕ) (i q : ℕ) → length xs ≤ i → has (drop i xs) q ≡ true → ⊥
none_later xs i q l h = let e = ap (λ ys. has ys q) (past_end xs i l) in cc

pub none_kept : (o : Option ℕ) → ((d : ℕ) → o ≡ Some d → ⊥) → o ≡ None
none_kept None h = refl
none_kept (Some d) h = absurd (h d refl)

pub kept_got : (os : List (Option ℕ)) (q d : ℕ) → kept_at os q ≡ Some d → slice_get os q ≡ Some (Some d)
kept_got [] q d e = absurd (cc)
kept_got (o ∷ os) zero d e = ap Some e
kept_got (o ∷ os) (suc q) d e = kept_got os q d e

pub lents_cleared : (items : List ℕ) (top : ℕ) (listed listed2 : List Bool) (os os2 : List (Option ℕ)) →
    AreLents items top listed os → ((q : ℕ) → slice_get listed2 q ≡ Some true → slice_get listed q ≡ Some true) →
    ((q : ℕ) → slice_get listed2 q ≡ Some true → has (take top items) q ≡ true → ⊥) →
    ((q d : ℕ) → kept_at os2 q ≡ Some d → kept_at os q ≡ Some d) →
    ((q d : ℕ) → kept_at os2 q ≡ Some d → has (take top items) q ≡ true → ⊥) → length listed2 ≡ length listed →
    length os2 ≡ length os → AreLents items 0 listed2 os2
lents_cleared items top listed listed2 os os2 h marks unmarked heirs unreached long more =
    let none = λ (q : ℕ) (e : slice_get listed2 q ≡ Some true). unmarked q e (h.lists q (marks q e)) in
    record {
      reached_long = more ∙ h.reached_long;
      long = long ∙ h.long;
      many = sym (none_true listed2 none);
      lists = λ q e. absurd (none q e);
      marks = λ q e. absurd (cc);
      only = λ q d e. absurd (unreached q d e (h.only q d (heirs q d e)));
    }

unheld_by : (b : Bool) (listed : List Bool) (q : ℕ) → slice_get listed q ≡ Some false →
    (b ≡ true → slice_get listed q ≡ Some true) → b ≡ false
unheld_by true listed q e h = absurd (let z = h refl in cc)
unheld_by false listed q e h = refl

-- What isn't marked isn't listed.
pub unmarked_unheld : (items : List ℕ) (top : ℕ) (listed : List Bool) (os : List (Option ℕ)) (q : ℕ) →
    AreLents items top listed os → slice_get listed q ≡ Some false → has (take top items) q ≡ false
unmarked_unheld items top listed os q h e = unheld_by (has (take top items) q) listed q e (h.marks q)
