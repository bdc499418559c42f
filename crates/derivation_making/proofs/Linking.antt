-- Scopes: an occurrence means in a term what it means in a derivation. And what binders bring into scope.
use Rattle.std.proofs.Common.{◌≡◌, ℕ, zero, suc, ◌<◌, ◌≤◌, ◌+◌, ◌⊎◌, inl, inr, refl, sym, ap, subst, ◌∙◌, List, [], ◌∷◌, ◌++◌, length, Option, Some, None, Bool, true, false, arith}
use Rattle.std.specs.Prelude.{◌==◌, if◌then◌else◌}
use Rattle.std.proofs.lemmas.Bool.Decides.{nat_tests}
use Rattle.derivation_check.specs.fip_trees.declared.program.Binder.{Binder}
use Rattle.ownership_agreement.specs.fip_rules.Marks.{Mark}
use Rattle.ownership_agreement.specs.fip_rules.World.{World}
use Rattle.ownership_agreement.specs.fip_rules.Shapes as S
use Rattle.ownership_agreement.specs.fip_rules.Shapes.{Names, mark, or_later}
use Rattle.ownership_agreement.specs.ownership_calculus.Terms.{has}
use Rattle.ownership_agreement.specs.ownership_calculus.Rules.{worth}
use Rattle.ownership_agreement.specs.Bodies.{Scalars, variables, entering, inside}
use Rattle.ownership_agreement.proofs.Basics.{past, past_inside, not_owned}
use Rattle.derivation_check.specs.Owned.{Rising}
use Rattle.derivation_check.specs.Scopes.{Known, known, named, AreNumbered}
use Rattle.derivation_check.specs.Calculus as C
use Rattle.derivation_making.specs.Made.{unscalar, numbers, added}
use Rattle.derivation_making.proofs.Lists.{tally, AreKnown, EachOf, same_number, number_self, one_true, one_false, either, rising_later}
use Rattle.type_check.proofs.fip_language.Facts.{greater_unequal as above}
pub use Rattle.type_check.proofs.fip_language.Facts.{greater_unequal_back as apart}

abbrev pub LinkAt : World → Names → Scalars → ℕ → Known → Type 0
LinkAt w c sc x v = (S.known c.marks x ≡ Some x) × (sc x ≡ w.scalar v.ty) × (x < c.next) × (v.binder ≡ x)

-- Each variable in scope is known by its binder's number.
abbrev pub Linked : World → List Known → Names → Scalars → Type 0
Linked w vs c sc = (x : ℕ) (v : Known) → known vs x ≡ Some v → LinkAt w c sc x v

-- ---- looking up

head_of : (b : Bool) (k v : Known) (o : Option Known) → (if b then Some k else o) ≡ Some v → ((b ≡ true) × (k ≡ v)) ⊎ ((b ≡ false) × (o ≡ Some v))
head_of true k v o h = inl (refl, some_same k v h)
  where
    some_same : (k v : Known) → Some k ≡ Some v → k ≡ v
    some_same k v h = cc
head_of false k v o h = inr (refl, h)

pub known_head : (k v : Known) (vs : List Known) (x : ℕ) → known (k ∷ vs) x ≡ Some v → (((k.binder == x) ≡ true) × (k ≡ v)) ⊎ (((k.binder == x) ≡ false) × (known vs x ≡ Some v))
known_head k v vs x h = head_of (k.binder == x) k v (known vs x) h

pub known_after : (k : Known) (vs : List Known) (x : ℕ) → (k.binder == x) ≡ false → known (k ∷ vs) x ≡ known vs x
known_after k vs x e = rw (e) refl

pub known_here : (k : Known) (vs : List Known) (x : ℕ) → (k.binder == x) ≡ true → known (k ∷ vs) x ≡ Some k
known_here k vs x e = rw (e) refl

later_none : (o : Option ℕ) → o ≡ or_later None o
later_none None = refl
later_none (Some i) = refl

later_both : (a b c : Option ℕ) → or_later a (or_later b c) ≡ or_later (or_later a b) c
later_both a b None = refl
later_both a b (Some i) = refl

pub known_last : (ms : List Mark) (m : Mark) (x : ℕ) → S.known (ms ++ m ∷ []) x ≡ or_later (S.known ms x) (if m.number == x then Some m.id else None)
known_last [] m x = later_none (if m.number == x then Some m.id else None)
known_last (n ∷ ms) m x =
    ap (λ (o : Option ℕ). or_later (if n.number == x then Some n.id else None) o) (known_last ms m x)
    ∙ later_both (if n.number == x then Some n.id else None) (S.known ms x) (if m.number == x then Some m.id else None)

-- ---- one binder

abbrev one_in : Names → Binder → Names
one_in c b = record { marks = c.marks ++ mark c.next b ∷ []; next = suc c.next }

abbrev one_scalar : World → ℕ → Scalars → Binder → Scalars
one_scalar w n sc b y = if n == y then w.scalar b.ty else sc y

keep_one : (w : World) (c : Names) (sc : Scalars) (b : Binder) (x : ℕ) (v : Known) → b.number ≡ c.next → LinkAt w c sc x v → LinkAt w (one_in c b) (one_scalar w c.next sc b) x v
keep_one w c sc b x v n h =
    let e : (b.number == x) ≡ false = ap (λ m. m == x) n ∙ apart x c.next h.2 in
    let f : (c.next == x) ≡ false = apart x c.next h.2 in (
      known_last c.marks (mark c.next b) x ∙ ap (λ (t : Bool). or_later (S.known c.marks x) (if t then Some c.next else None)) e ∙ h.0,
      ap (λ (t : Bool). if t then w.scalar b.ty else sc x) f ∙ h.1,
      omega arith,
      h.3,
    )

here_one : (w : World) (c : Names) (sc : Scalars) (b : Binder) (x d : ℕ) (own : Bool) → b.number ≡ c.next → (b.number == x) ≡ true → LinkAt w (one_in c b) (one_scalar w c.next sc b) x (record { binder = b.number; number = d; ty = b.ty; owned = own })
here_one w c sc b x d own n e =
    let s = same_number b.number x e in
    let f : (c.next == x) ≡ true = ap (λ m. m == x) (sym n) ∙ e in
    let t : c.next ≡ x = sym n ∙ s in (
      known_last c.marks (mark c.next b) x ∙ ap (λ (t : Bool). or_later (S.known c.marks x) (if t then Some c.next else None)) e ∙ ap (λ (m : ℕ). Some m) t,
      ap (λ (t : Bool). if t then w.scalar b.ty else sc x) f,
      omega arith,
      s,
    )

pub one_more : (n d : ℕ) (bs : List Binder) → AreNumbered (n + 1) (d + 1) bs → AreNumbered (suc n) (d + 1) bs
one_more n d bs h = let e : n + 1 ≡ suc n = omega arith in subst (λ m. AreNumbered m (d + 1) bs) e h

-- ---- some binders

keep_all : (w : World) (own : Bool) (c : Names) (sc : Scalars) (d : ℕ) (bs : List Binder) (x : ℕ) (v : Known) → AreNumbered c.next d bs → LinkAt w c sc x v → LinkAt w (inside w own c bs) (entering w c.next sc bs) x v
keep_all w own c sc d [] x v n h = h
keep_all w own c sc d (b ∷ bs) x v n h = keep_all w own (one_in c b) (one_scalar w c.next sc b) (d + 1) bs x v (one_more c.next d bs n.2) (keep_one w c sc b x v n.0 h)

pub inside_linked : (w : World) (own : Bool) (vs : List Known) (c : Names) (sc : Scalars) (d : ℕ) (bs : List Binder) → AreNumbered c.next d bs → Linked w vs c sc → Linked w (named d own bs ++ vs) (inside w own c bs) (entering w c.next sc bs)
inside_linked w own vs c sc d [] n h x v k = h x v k
inside_linked w own vs c sc d (b ∷ bs) n h x v k =
    let m = one_more c.next d bs n.2 in
    let u : Known = record { binder = b.number; number = d; ty = b.ty; owned = own } in
    elim (known_head u v (named (d + 1) own bs ++ vs) x k) [
      | inl e ↦ subst (λ (t : Known). LinkAt w (inside w own (one_in c b) bs) (entering w (suc c.next) (one_scalar w c.next sc b) bs) x t) e.1
          (keep_all w own (one_in c b) (one_scalar w c.next sc b) (d + 1) bs x u m (here_one w c sc b x d own n.0 e.0))
      | inr e ↦ inside_linked w own vs (one_in c b) (one_scalar w c.next sc b) (d + 1) bs m (λ y z q. keep_one w c sc b y z n.0 (h y z q)) x v e.1
    ]

-- names that know of the same binders, and of no fewer before them
pub later_linked : (w : World) (vs : List Known) (c : Names) (m : ℕ) (sc : Scalars) → c.next ≤ m → Linked w vs c sc → Linked w vs (record { marks = c.marks; next = m }) sc
later_linked w vs c m sc l h x v k = let g = h x v k in (g.0, g.1, (let a = g.2 in omega arith), g.3)

past_length : (n : ℕ) (bs : List Binder) → past n bs ≡ n + length bs
past_length n [] = omega arith
past_length n (b ∷ bs) = let h = past_length (suc n) bs in omega arith

pub next_inside : (w : World) (own : Bool) (c : Names) (bs : List Binder) → (inside w own c bs).next ≡ c.next + length bs
next_inside w own c bs = past_inside w own c bs ∙ past_length c.next bs

-- ---- the variables that they bring

pub skip_named : (own : Bool) (vs : List Known) (n d x : ℕ) (bs : List Binder) → AreNumbered n d bs → x < n → known (named d own bs ++ vs) x ≡ known vs x
skip_named own vs n d x [] h l = refl
skip_named own vs n d x (b ∷ bs) h l =
    let e : (b.number == x) ≡ false = ap (λ m. m == x) h.0 ∙ apart x n l in
    rw (e) (skip_named own vs (n + 1) (d + 1) x bs h.2 (omega arith))

one_tally : (s : Bool) (w : World) (n x d : ℕ) (b : Binder) (bs : List Binder) → b.number ≡ n → tally x (unscalar w (named (d + 1) true bs)) ≡ (if has (variables w (suc n) bs) x then 1 else 0) → tally x (if s then unscalar w (named (d + 1) true bs) else record { binder = b.number; number = d; ty = b.ty; owned = true } ∷ unscalar w (named (d + 1) true bs)) ≡ (if has (if s then variables w (suc n) bs else n ∷ variables w (suc n) bs) x then 1 else 0)
one_tally true w n x d b bs e h = h
one_tally false w n x d b bs e h = elim (either (n == x)) [
  | inl f ↦
      let s = same_number n x f in
      let g : (b.number == x) ≡ true = ap (λ m. m == x) e ∙ f in
      let o = one_true b.number x g in
      let z : has (variables w (suc n) bs) x ≡ false = not_owned w (suc n) x bs (omega arith) in
      let y : tally x (unscalar w (named (d + 1) true bs)) ≡ 0 = h ∙ ap (λ (t : Bool). if t then 1 else 0) z in
      rw (f) (omega arith)
  | inr f ↦
      let g : (b.number == x) ≡ false = ap (λ m. m == x) e ∙ f in
      let o = one_false b.number x g in
      rw (f) (omega arith)
]

none_added : (t : Bool) → zero ≡ (if t then 0 else 0)
none_added true = refl
none_added false = refl

pub tally_added : (w : World) (own : Bool) (n d x : ℕ) (bs : List Binder) → AreNumbered n d bs → tally x (added w own d bs) ≡ (if has (variables w n bs) x then worth own else 0)
tally_added w false n d x bs h = none_added (has (variables w n bs) x)
tally_added w true n d x [] h = refl
tally_added w true n d x (b ∷ bs) h = one_tally (w.scalar b.ty) w n x d b bs h.0 (let e : n + 1 ≡ suc n = omega arith in tally_added w true (suc n) (d + 1) x bs (subst (λ m. AreNumbered m (d + 1) bs) e h.2))

abbrev Found : World → Bool → List Known → ℕ → List ℕ → Known → Type 0
Found w own vs x ys v = ((has ys x ≡ true) × (v.owned ≡ own)) ⊎ ((has ys x ≡ false) × (known vs x ≡ Some v))

found_here : (s : Bool) (w : World) (own : Bool) (vs : List Known) (n x : ℕ) (ys : List ℕ) (v : Known) → (n == x) ≡ true → s ≡ false → v.owned ≡ own → Found w own vs x (if s then ys else n ∷ ys) v
found_here true w own vs n x ys v e f g = absurd (cc)
found_here false w own vs n x ys v e f g = inl (rw (e) refl, g)

found_later : (s : Bool) (w : World) (own : Bool) (vs : List Known) (n x : ℕ) (ys : List ℕ) (v : Known) → (n == x) ≡ false → Found w own vs x ys v → Found w own vs x (if s then ys else n ∷ ys) v
found_later true w own vs n x ys v e h = h
found_later false w own vs n x ys v e (inl h) = inl (rw (e) h.0, h.1)
found_later false w own vs n x ys v e (inr h) = inr (rw (e) h.0, h.1)

pub named_known : (w : World) (own : Bool) (vs : List Known) (n d x : ℕ) (bs : List Binder) (v : Known) → AreNumbered n d bs → known (named d own bs ++ vs) x ≡ Some v → w.scalar v.ty ≡ false → Found w own vs x (variables w n bs) v
named_known w own vs n d x [] v h k s = inr (refl, k)
named_known w own vs n d x (b ∷ bs) v h k s =
    let u : Known = record { binder = b.number; number = d; ty = b.ty; owned = own } in
    let m : n + 1 ≡ suc n = omega arith in
    elim (known_head u v (named (d + 1) own bs ++ vs) x k) [
      | inl e ↦
          let f : (n == x) ≡ true = ap (λ i. i == x) (sym h.0) ∙ e.0 in
          found_here (w.scalar b.ty) w own vs n x (variables w (suc n) bs) v f (ap (λ (t : Known). w.scalar t.ty) e.1 ∙ s) (ap (λ (t : Known). t.owned) (sym e.1))
      | inr e ↦
          let f : (n == x) ≡ false = ap (λ i. i == x) (sym h.0) ∙ e.0 in
          found_later (w.scalar b.ty) w own vs n x (variables w (suc n) bs) v f (named_known w own vs (suc n) (d + 1) x bs v (subst (λ i. AreNumbered i (d + 1) bs) m h.2) e.1 s)
    ]

-- ---- they are known

pub lift_known : (w : World) (k : Known) (us xs : List Known) → EachOf (λ y. (k.binder == y) ≡ false) xs → AreKnown w us xs → AreKnown w (k ∷ us) xs
lift_known w k us [] e h = tt
lift_known w k us (x ∷ xs) e h = (known_after k us x.binder e.0 ∙ h.0, h.1, lift_known w k us xs e.1 h.2)

pub one_above : (s : Bool) (k : ℕ) (u : Known) (us : List Known) → (k == u.binder) ≡ false → EachOf (λ y. (k == y) ≡ false) us → EachOf (λ y. (k == y) ≡ false) (if s then us else u ∷ us)
one_above true k u us e h = h
one_above false k u us e h = (e, h)

added_above : (w : World) (k n d : ℕ) (bs : List Binder) → AreNumbered n d bs → k < n → EachOf (λ y. (k == y) ≡ false) (unscalar w (named d true bs))
added_above w k n d [] h l = tt
added_above w k n d (b ∷ bs) h l =
    one_above (w.scalar b.ty) k (record { binder = b.number; number = d; ty = b.ty; owned = true }) (unscalar w (named (d + 1) true bs))
    (ap (λ m. k == m) h.0 ∙ above k n l) (added_above w k (n + 1) (d + 1) bs h.2 (omega arith))

one_known : (s : Bool) (w : World) (u : Known) (vs us : List Known) → w.scalar u.ty ≡ s → AreKnown w (u ∷ vs) us → AreKnown w (u ∷ vs) (if s then us else u ∷ us)
one_known true w u vs us e h = h
one_known false w u vs us e h = (known_here u vs u.binder (number_self u.binder), e, h)

owned_known : (w : World) (vs : List Known) (n d : ℕ) (bs : List Binder) → AreNumbered n d bs → AreKnown w (named d true bs ++ vs) (unscalar w (named d true bs))
owned_known w vs n d [] h = tt
owned_known w vs n d (b ∷ bs) h =
    let u : Known = record { binder = b.number; number = d; ty = b.ty; owned = true } in
    one_known (w.scalar b.ty) w u (named (d + 1) true bs ++ vs) (unscalar w (named (d + 1) true bs)) refl
    (lift_known w u (named (d + 1) true bs ++ vs) (unscalar w (named (d + 1) true bs)) (added_above w b.number (n + 1) (d + 1) bs h.2 (let e = h.0 in omega arith)) (owned_known w vs (n + 1) (d + 1) bs h.2))

pub added_known : (w : World) (own : Bool) (vs : List Known) (n d : ℕ) (bs : List Binder) → AreNumbered n d bs → AreKnown w (named d own bs ++ vs) (added w own d bs)
added_known w false vs n d bs h = tt
added_known w true vs n d bs h = owned_known w vs n d bs h

pub base_known : (w : World) (own : Bool) (vs : List Known) (c : Names) (sc : Scalars) (d : ℕ) (bs : List Binder) (us : List Known) → AreNumbered c.next d bs → Linked w vs c sc → AreKnown w vs us → AreKnown w (named d own bs ++ vs) us
base_known w own vs c sc d bs [] n l h = tt
base_known w own vs c sc d bs (u ∷ us) n l h =
    let g = l u.binder u h.0 in
    (skip_named own vs c.next d u.binder bs n g.2 ∙ h.0, h.1, base_known w own vs c sc d bs us n l h.2)

-- what is among known ones is before, and isn't scalar
pub there_before : (w : World) (vs : List Known) (c : Names) (sc : Scalars) (us : List Known) (x : ℕ) → Linked w vs c sc → AreKnown w vs us → 1 ≤ tally x us → (x < c.next) × (sc x ≡ false) × ((v : Known) × (known vs x ≡ Some v) × (w.scalar v.ty ≡ false))
there_before w vs c sc [] x l h t = absurd (omega arith)
there_before w vs c sc (u ∷ us) x l h t = elim (either (u.binder == x)) [
  | inl e ↦
      let k : known vs x ≡ Some u = ap (known vs) (sym (same_number u.binder x e)) ∙ h.0 in
      let g = l x u k in (g.2, g.1 ∙ h.1, (u, k, h.1))
  | inr e ↦ there_before w vs c sc us x l h.2 (let z = one_false u.binder x e in omega arith)
]

-- ---- their numbers

pub one_rising : (s : Bool) (d e : ℕ) (u : Known) (us : List Known) → u.number ≡ d → d < e → Rising (d + 1) e (numbers us) → Rising d e (numbers (if s then us else u ∷ us))
one_rising true d e u us n l h = rising_later d (d + 1) e (numbers us) h (omega arith)
one_rising false d e u us n l h = (omega arith, omega arith, subst (λ m. Rising (m + 1) e (numbers us)) (sym n) h)

owned_rising : (w : World) (d e : ℕ) (bs : List Binder) → d + length bs ≤ e → Rising d e (numbers (unscalar w (named d true bs)))
owned_rising w d e [] l = tt
owned_rising w d e (b ∷ bs) l = one_rising (w.scalar b.ty) d e (record { binder = b.number; number = d; ty = b.ty; owned = true }) (unscalar w (named (d + 1) true bs)) refl (omega arith) (owned_rising w (d + 1) e bs (omega arith))

pub added_rising : (w : World) (own : Bool) (d e : ℕ) (bs : List Binder) → d + length bs ≤ e → Rising d e (numbers (added w own d bs))
added_rising w false d e bs l = tt
added_rising w true d e bs l = owned_rising w d e bs l

one_number : (s : Bool) (d : ℕ) (u : Known) (us : List Known) (ns : List ℕ) → u.number ≡ d → numbers us ≡ ns → numbers (if s then us else u ∷ us) ≡ (if s then ns else d ∷ ns)
one_number true d u us ns n h = h
one_number false d u us ns n h = cc

pub added_numbers : (w : World) (d : ℕ) (bs : List Binder) → numbers (added w true d bs) ≡ C.numbers w d bs
added_numbers w d [] = refl
added_numbers w d (b ∷ bs) = one_number (w.scalar b.ty) d (record { binder = b.number; number = d; ty = b.ty; owned = true }) (unscalar w (named (d + 1) true bs)) (C.numbers w (d + 1) bs) refl (added_numbers w (d + 1) bs)
