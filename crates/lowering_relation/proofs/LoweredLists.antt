-- Lists: what is there where after a change, credits that are taken, numbers that are apart.
use Rattle.std.proofs.Common.{◌≡◌, ◌⊎◌, inl, inr, ℕ, zero, suc, ◌<◌, ◌≤◌, List, [], ◌∷◌, ◌++◌, Option, Some, None, Bool, true, false, refl, sym, ap, ◌∙◌, subst, ⊎_elim, arith, slice_get, slice_set}
use Rattle.std.specs.Prelude.{option_map, ◌==◌, if◌then◌else◌}
use Rattle.std.proofs.lemmas.Option.{slice_get-map}
use Rattle.tree_semantics.specs.fip_language.Every.{Among}
use Rattle.lowering_relation.specs.Tidy.{NotIn, Once, Below}
use Rattle.lowering_relation.specs.Choosing.{FewerCredits}
use Rattle.lowering_relation.specs.declared.held.Held.{Held}
use Rattle.lowering_relation.specs.declared.held.Held.TheVariants as H
use Rattle.lowering_relation.specs.declared.held.Credit.{Credit}
use Rattle.lowering_relation.specs.Known.{IsTaken, is_owned, lent_by, without, used_if, used, used_all}
pub use Rattle.match_knowledge.proofs.fip_base.fip_language.Facts.{same_some}

-- what is at j after a change at i
pub set_get : {A : Type 0} (xs : List A) (i : ℕ) (x : A) (j : ℕ) (y : A) → slice_get (slice_set xs i x) j ≡ Some y → ((j ≡ i → ⊥) × (slice_get xs j ≡ Some y)) ⊎ ((j ≡ i) × (x ≡ y))
set_get [] i x j y h = absurd (cc)
set_get (z ∷ zs) zero x zero y h = inr (refl, same_some x y h)
set_get (z ∷ zs) zero x (suc j) y h = inl (λ e. absurd (omega (arith, e)), h)
set_get (z ∷ zs) (suc i) x zero y h = inl (λ e. absurd (omega (arith, e)), h)
set_get (z ∷ zs) (suc i) x (suc j) y h = elim (set_get zs i x j y h) [
  | inl a ↦ inl (λ e. a.0 (omega (arith, e)), a.1)
  | inr a ↦ inr (ap suc a.0, a.1)
]

-- credits

pub below_not : (n r : ℕ) (cs : List Credit) → Below n cs → n ≤ r → NotIn r cs
below_not n r [] h le = tt
below_not n r (c ∷ cs) h le = (λ e. absurd (omega (arith, e, h.0, le)), below_not n r cs h.1 le)

pub below_more : (n m : ℕ) (cs : List Credit) → n ≤ m → Below n cs → Below m cs
below_more n m [] le h = tt
below_more n m (c ∷ cs) le h = (let k = h.0 in omega (arith, k, le), below_more n m cs le h.1)

not_in_drop : (r : ℕ) (bs : List Credit) (c : Credit) (cs : List Credit) → NotIn r (bs ++ (c ∷ cs)) → NotIn r (bs ++ cs) × (r ≡ c.register → ⊥)
not_in_drop r [] c cs h = (h.1, h.0)
not_in_drop r (b ∷ bs) c cs h = let two = not_in_drop r bs c cs h.1 in ((h.0, two.0), two.1)

once_drop : (bs : List Credit) (c : Credit) (cs : List Credit) → Once (bs ++ (c ∷ cs)) → Once (bs ++ cs) × NotIn c.register (bs ++ cs)
once_drop [] c cs h = (h.1, h.0)
once_drop (b ∷ bs) c cs h =
    let two = once_drop bs c cs h.1 in
    let other = not_in_drop b.register bs c cs h.0 in
    ((other.0, two.0), (λ e. other.1 (sym e), two.1))

below_drop : (n : ℕ) (bs : List Credit) (c : Credit) (cs : List Credit) → Below n (bs ++ (c ∷ cs)) → Below n (bs ++ cs) × (c.register < n)
below_drop n [] c cs h = (h.1, h.0)
below_drop n (b ∷ bs) c cs h = let two = below_drop n bs c cs h.1 in ((h.0, two.0), two.1)

pub fewer_same : (cs : List Credit) → FewerCredits cs cs
fewer_same cs = record { keeps = λ r h. h; once = λ h. h; below = λ n h. h }

pub fewer_on : (a b c : List Credit) → FewerCredits a b → FewerCredits b c → FewerCredits a c
fewer_on a b c p q = record { keeps = λ r h. q.keeps r (p.keeps r h); once = λ h. q.once (p.once h); below = λ n h. q.below n (p.below n h) }

pub taken_fewer : (cs : List Credit) (n r : ℕ) (rest : List Credit) → IsTaken cs n r rest → FewerCredits cs rest
taken_fewer cs n r rest t =
    let c : Credit = record { size = n; register = r } in
    record {
      keeps = λ q h. subst (NotIn q) (sym t.left) (not_in_drop q t.before c t.following (subst (NotIn q) t.was h)).0;
      once = λ h. subst Once (sym t.left) (once_drop t.before c t.following (subst Once t.was h)).0;
      below = λ m h. subst (Below m) (sym t.left) (below_drop m t.before c t.following (subst (Below m) t.was h)).0;
    }

pub taken_other : (cs : List Credit) (n r : ℕ) (rest : List Credit) (q : ℕ) → IsTaken cs n r rest → NotIn q cs → q ≡ r → ⊥
taken_other cs n r rest q t h = (not_in_drop q t.before (record { size = n; register = r }) t.following (subst (NotIn q) t.was h)).1

pub taken_once : (cs : List Credit) (n r : ℕ) (rest : List Credit) → IsTaken cs n r rest → Once cs → NotIn r rest
taken_once cs n r rest t h = subst (NotIn r) (sym t.left) (once_drop t.before (record { size = n; register = r }) t.following (subst Once t.was h)).1

pub taken_below : (cs : List Credit) (n r : ℕ) (rest : List Credit) (m : ℕ) → IsTaken cs n r rest → Below m cs → r < m
taken_below cs n r rest m t h = (below_drop m t.before (record { size = n; register = r }) t.following (subst (Below m) t.was h)).1

-- constructors that were matched

-- every one was there before
abbrev pub Barer : List Held → List Held → Type 0
Barer hs ks = (r t c : ℕ) → slice_get ks r ≡ Some (H.Bare t c) → slice_get hs r ≡ Some (H.Bare t c)

abbrev pub NotBare : Held → Type 0
NotBare h = (t c : ℕ) → h ≡ H.Bare t c → ⊥

pub barer_on : (a b c : List Held) → Barer a b → Barer b c → Barer a c
barer_on a b c p q r t k h = p r t k (q r t k h)

pub barer_set : (hs : List Held) (i : ℕ) (h : Held) → NotBare h → Barer hs (slice_set hs i h)
barer_set hs i h n r t c e = ⊎_elim (λ a. a.1) (λ b. absurd (n t c b.1)) (set_get hs i h r (H.Bare t c) e)

lent_not : (r u : ℕ) (root : Option ℕ) (p : Option ℕ) (t c : ℕ) → lent_by r p (H.Lent u root) ≡ H.Bare t c → ⊥
lent_not r u root None t c e = absurd (cc)
lent_not r u root (Some q) t c e = by_test (q == r) e
  where
    by_test : (b : Bool) → (if b then H.Nothing else H.Lent u root) ≡ H.Bare t c → ⊥
    by_test true h = absurd (cc)
    by_test false h = absurd (cc)

without_bare : (r : ℕ) (o : Option Held) (t c : ℕ) → option_map (without r) o ≡ Some (H.Bare t c) → o ≡ Some (H.Bare t c)
without_bare r None t c e = absurd (cc)
without_bare r (Some H.Nothing) t c e = absurd (cc)
without_bare r (Some (H.Scalar u)) t c e = absurd (cc)
without_bare r (Some (H.Owned u b)) t c e = absurd (cc)
without_bare r (Some (H.Lent u root)) t c e = absurd (lent_not r u root root t c (same_some _ _ e))
without_bare r (Some (H.Credit n)) t c e = absurd (cc)
without_bare r (Some (H.Bare u d)) t c e = e

pub barer_used_if : (b : Bool) (hs : List Held) (r : ℕ) → Barer hs (used_if b hs r)
barer_used_if false hs r q t c e = e
barer_used_if true hs r q t c e =
    barer_set hs r H.Nothing (λ u d x. absurd (cc)) q t c
    (without_bare r (slice_get (slice_set hs r H.Nothing) q) t c (sym (slice_get-map (without r) (slice_set hs r H.Nothing) q) ∙ e))

pub barer_used : (hs : List Held) (r : ℕ) → Barer hs (used hs r)
barer_used hs r = barer_used_if (is_owned (slice_get hs r)) hs r

pub barer_used_all : (hs : List Held) (rs : List ℕ) → Barer hs (used_all hs rs)
barer_used_all hs [] q t c e = e
barer_used_all hs (r ∷ rs) q t c e = barer_on hs (used hs r) (used_all (used hs r) rs) (barer_used hs r) (barer_used_all (used hs r) rs) q t c e

-- numbers

pub among_left : (x : ℕ) (xs ys : List ℕ) → Among x xs → Among x (xs ++ ys)
among_left x [] ys h = absurd h
among_left x (z ∷ xs) ys (inl e) = inl e
among_left x (z ∷ xs) ys (inr h) = inr (among_left x xs ys h)

pub among_right : (x : ℕ) (xs ys : List ℕ) → Among x ys → Among x (xs ++ ys)
among_right x [] ys h = h
among_right x (z ∷ xs) ys h = inr (among_right x xs ys h)

pub among_again : (x : ℕ) (xs ys zs : List ℕ) → Among x ((xs ++ ys) ++ zs) → Among x (xs ++ (ys ++ zs))
among_again x [] ys zs h = h
among_again x (z ∷ xs) ys zs (inl e) = inl e
among_again x (z ∷ xs) ys zs (inr h) = inr (among_again x xs ys zs h)
