-- Which heirs registers reach: what is kept of it while registers are looked at again and again.
use Rattle.kind_domain.proofs.Heirs.{kept_other, kept_own}
use Rattle.std.proofs.Common.{◌≡◌, ℕ, zero, suc, ◌<◌, ◌≤◌, ◌⊎◌, inl, inr, List, [], ◌∷◌, length, drop, set, refl, sym, ap, ◌∙◌, subst, arith}
use Rattle.std.specs.Prelude.{Bool, true, false, ◌==◌, if◌then◌else◌, Option, Some, None}
use Rattle.std.proofs.lemmas.Bool.Decides.{eqb_tells}
use Rattle.kind_domain.specs.cell_code.declared.kind.From.{From}
use Rattle.kind_domain.specs.cell_code.declared.kind.Kind.{Kind}
use Rattle.kind_domain.specs.cell_code.declared.kind.Kind.TheVariants.{Gone, Scalar, Owned, Lent, Credit}
use Rattle.kind_domain.specs.code_rules.Kinds.{at, has, from_of}
use Rattle.kind_domain.specs.code_rules.Taking.{Chain, Reaches, IsReached}
use Rattle.kind_domain.specs.Leading.{is_lent, leads}
use Rattle.register_kinds.proofs.Keeps.{from_leads}
use Rattle.kind_domain.proofs.LentLists.{none_kept}
use Rattle.register_kinds.specs.Takes.{seen_by, seen_at, next_by, next_at, AreReached, AreSettled, nones}
use Rattle.kind_domain.specs.Leading.{kept_at}
use Rattle.kind_domain.proofs.fip_language.Facts.{or_cases, some_is, true_or_false}
use Rattle.kind_domain.proofs.LentLists.{none_later as not_left}

pub nones_fewer : (os : List (Option ℕ)) (x d : ℕ) → kept_at os x ≡ None → x < length os →
    nones (set os x (Some d)) < nones os
nones_fewer [] x d e h = absurd (omega arith)
nones_fewer (None ∷ os) zero d e h = omega arith
nones_fewer (Some y ∷ os) zero d e h = absurd (cc)
nones_fewer (None ∷ os) (suc x) d e h = let g = nones_fewer os x d e (omega arith) in omega arith
nones_fewer (Some y ∷ os) (suc x) d e h = nones_fewer os x d e (omega arith)

-- a loop over the list

pub one_of : (x q : ℕ) (xs : List ℕ) → has (x ∷ xs) q ≡ true → (x ≡ q) ⊎ (has xs q ≡ true)
one_of x q xs e =
    elim (or_cases (x == q) (has xs q) e) [
      | inl h ↦ inl (elim (eqb_tells x q) [ inl g ↦ g.1 | inr g ↦ absurd (let i = g.0 in cc) ])
      | inr h ↦ inr h
    ]

-- reaching

next_if : (ks : List Kind) (heir : ℕ → Bool) (os : List (Option ℕ)) (q h : ℕ) (f : From) (b : Bool) →
    AreReached ks heir os → from_of (at ks q) ≡ Some f → heir f.register ≡ b →
    (if b then Some f.register else seen_at ks os f.register) ≡ Some h → Reaches ks heir q h
next_if ks heir os q h f true r e i g =
    (0, subst (λ o. Chain ks heir 0 o h) (sym e) (i, some_is f.register h g))
next_if ks heir os q h f false r e i g =
    let further = r f.register h g in
    (suc further.0, subst (λ o. Chain ks heir (suc further.0) o h) (sym e) (i, further.1))

next_from : (ks : List Kind) (heir : ℕ → Bool) (os : List (Option ℕ)) (q h : ℕ) (o : Option From) →
    AreReached ks heir os → from_of (at ks q) ≡ o → next_by ks heir os o ≡ Some h → Reaches ks heir q h
next_from ks heir os q h None r e g = absurd (cc)
next_from ks heir os q h (Some f) r e g = next_if ks heir os q h f (heir f.register) r e refl g

pub next_reaches : (ks : List Kind) (heir : ℕ → Bool) (os : List (Option ℕ)) (q h : ℕ) → AreReached ks heir os →
    next_at ks heir os q ≡ Some h → Reaches ks heir q h
next_reaches ks heir os q h r g = next_from ks heir os q h (from_of (at ks q)) r refl g

seen_if : (os : List (Option ℕ)) (q d : ℕ) (b : Bool) → (if b then kept_at os q else None) ≡ Some d →
    kept_at os q ≡ Some d
seen_if os q d true e = e
seen_if os q d false e = absurd (cc)

seen_same : (os pw : List (Option ℕ)) (q : ℕ) (k : Kind) → kept_at os q ≡ kept_at pw q →
    seen_by os q k ≡ seen_by pw q k
seen_same os pw q k e = ap (λ o. if is_lent k then o else None) e

pub reached_more : (ks : List Kind) (heir : ℕ → Bool) (os : List (Option ℕ)) (x h : ℕ) →
    next_at ks heir os x ≡ Some h → AreReached ks heir os → AreReached ks heir (set os x (Some h))
reached_more ks heir os x h n r q d e =
    elim (eqb_tells x q) [
      | inl g ↦ elim (kept_own os x (Some h)) [
        | inl i ↦ (let j : kept_at (set os x (Some h)) q ≡ Some d = seen_if (set os x (Some h)) q d (is_lent (at ks q)) e in
            let l : h ≡ d = some_is h d (sym i ∙ ap (kept_at (set os x (Some h))) g.1 ∙ j) in
            subst (λ z. Reaches ks heir q z) l (subst (λ z. Reaches ks heir z h) g.1
            (next_reaches ks heir os x h r n)))
        | inr i ↦ r q d (seen_same os (set os x (Some h)) q (at ks q)
            (sym (ap (λ z. kept_at (set os x (Some h)) z) (sym g.1) ∙ i ∙ ap (kept_at os) g.1)) ∙ e)
      ]
      | inr g ↦ r q d (seen_same os (set os x (Some h)) q (at ks q) (sym (kept_other os x q (Some h) g.1)) ∙ e)
    ]

-- where nothing is kept

none_seen : (os : List (Option ℕ)) (q d : ℕ) (b : Bool) → kept_at os q ≡ None →
    (if b then kept_at os q else None) ≡ Some d → ⊥
none_seen os q d true h e = cc
none_seen os q d false h e = cc

pub reached_none : (ks : List Kind) (heir : ℕ → Bool) (os : List (Option ℕ)) → ((q : ℕ) → kept_at os q ≡ None) →
    AreReached ks heir os
reached_none ks heir os n q d e = absurd (none_seen os q d (is_lent (at ks q)) (n q) e)

-- a register with a from is there

pub from_below : (ks : List Kind) (q : ℕ) (f : From) → from_of (at ks q) ≡ Some f → q < length ks
from_below [] q f e = absurd (cc)
from_below (k ∷ ks) zero f e = omega arith
from_below (k ∷ ks) (suc q) f e = let h = from_below ks q f e in omega arith

next_there : (ks : List Kind) (heir : ℕ → Bool) (os : List (Option ℕ)) (q h : ℕ) (o : Option From) →
    from_of (at ks q) ≡ o → next_by ks heir os o ≡ Some h → q < length ks
next_there ks heir os q h None e g = absurd (cc)
next_there ks heir os q h (Some f) e g = from_below ks q f e

pub next_below : (ks : List Kind) (heir : ℕ → Bool) (os : List (Option ℕ)) (q h : ℕ) →
    next_at ks heir os q ≡ Some h → q < length ks
next_below ks heir os q h g = next_there ks heir os q h (from_of (at ks q)) refl g

-- at the end

pub unlent_from : (k : Kind) → is_lent k ≡ false → from_of k ≡ None
unlent_from Gone e = refl
unlent_from (Scalar t) e = refl
unlent_from (Owned t s) e = refl
unlent_from (Lent t s root from) e = absurd (cc)
unlent_from (Credit n) e = refl

seen_lent : (os : List (Option ℕ)) (q : ℕ) (b : Bool) → b ≡ true → (if b then kept_at os q else None) ≡ None →
    kept_at os q ≡ None
seen_lent os q true h e = e
seen_lent os q false h e = absurd (cc)

-- A register that isn't seen to reach an heir has no next one, where all that reach one are listed.
next_none : (ks : List Kind) (heir : ℕ → Bool) (os : List (Option ℕ)) (qs : List ℕ) →
    ((q d : ℕ) → Reaches ks heir q d → has qs q ≡ true) → AreReached ks heir os → AreSettled ks heir os qs → (q : ℕ) →
    seen_at ks os q ≡ None → next_at ks heir os q ≡ None
next_none ks heir os qs l r s q e =
    elim (true_or_false (has qs q)) [
      | inl i ↦ elim (true_or_false (is_lent (at ks q))) [
        | inl h ↦ s q i (seen_lent os q (is_lent (at ks q)) h e)
        | inr h ↦ ap (next_by ks heir os) (unlent_from (at ks q) h)
      ]
      | inr i ↦ none_kept (next_at ks heir os q)
          (λ d g. let h = l q d (next_reaches ks heir os q d r g) in cc)
    ]

-- Where all that lead to an heir, or to a listed register, are listed, all that reach an heir are.
chain_listed : (ks : List Kind) (heir : ℕ → Bool) (qs : List ℕ) →
    ((p q : ℕ) → heir p ≡ true → leads p (at ks q) ≡ true → has qs q ≡ true) →
    ((p q : ℕ) → has qs p ≡ true → leads p (at ks q) ≡ true → has qs q ≡ true) → (n q d : ℕ) (o : Option From) →
    from_of (at ks q) ≡ o → Chain ks heir n o d → has qs q ≡ true
chain_listed ks heir qs one further zero q d None e c = absurd c
chain_listed ks heir qs one further zero q d (Some f) e c = one f.register q c.0 (from_leads (at ks q) f e)
chain_listed ks heir qs one further (suc n) q d None e c = absurd c
chain_listed ks heir qs one further (suc n) q d (Some f) e c =
    further f.register q
    (chain_listed ks heir qs one further n f.register d (from_of (at ks f.register)) refl c.1)
    (from_leads (at ks q) f e)

pub reaches_listed : (ks : List Kind) (heir : ℕ → Bool) (qs : List ℕ) →
    ((p q : ℕ) → heir p ≡ true → leads p (at ks q) ≡ true → has qs q ≡ true) →
    ((p q : ℕ) → has qs p ≡ true → leads p (at ks q) ≡ true → has qs q ≡ true) → (q d : ℕ) → Reaches ks heir q d →
    has qs q ≡ true
reaches_listed ks heir qs one further q d r = chain_listed ks heir qs one further r.0 q d (from_of (at ks q)) refl r.1

not_heir : (f : From) (o : Option ℕ) (b : Bool) → (if b then Some f.register else o) ≡ None →
    (b ≡ false) × (o ≡ None)
not_heir f o true e = absurd (cc)
not_heir f o false e = (refl, e)

zero_none : (ks : List Kind) (heir : ℕ → Bool) (os : List (Option ℕ)) (d : ℕ) (o : Option From) →
    next_by ks heir os o ≡ None → Chain ks heir zero o d → ⊥
zero_none ks heir os d None e c = c
zero_none ks heir os d (Some f) e c =
    let n = not_heir f (seen_at ks os f.register) (heir f.register) e in
    let a = n.0 in
    let b = c.0 in
    cc

suc_none : (ks : List Kind) (heir : ℕ → Bool) (os : List (Option ℕ)) (n d : ℕ) (o : Option From) →
    next_by ks heir os o ≡ None →
    ((p : ℕ) → seen_at ks os p ≡ None → Chain ks heir n (from_of (at ks p)) d → ⊥) → Chain ks heir (suc n) o d → ⊥
suc_none ks heir os n d None e h c = c
suc_none ks heir os n d (Some f) e h c = h f.register (not_heir f (seen_at ks os f.register) (heir f.register) e).1 c.1

chain_none : (ks : List Kind) (heir : ℕ → Bool) (os : List (Option ℕ)) →
    ((q : ℕ) → seen_at ks os q ≡ None → next_at ks heir os q ≡ None) → (n q d : ℕ) → seen_at ks os q ≡ None →
    Chain ks heir n (from_of (at ks q)) d → ⊥
chain_none ks heir os s zero q d e c = zero_none ks heir os d (from_of (at ks q)) (s q e) c
chain_none ks heir os s (suc n) q d e c =
    suc_none ks heir os n d (from_of (at ks q)) (s q e) (λ p g k. chain_none ks heir os s n p d g k) c

found_by : (ks : List Kind) (heir : ℕ → Bool) (os : List (Option ℕ)) (q : ℕ) (o : Option ℕ) →
    seen_at ks os q ≡ o → AreReached ks heir os →
    ((q : ℕ) → seen_at ks os q ≡ None → next_at ks heir os q ≡ None) → IsReached ks heir q o
found_by ks heir os q None e r s = λ d c. chain_none ks heir os s c.0 q d e c.1
found_by ks heir os q (Some d) e r s = r q d e

-- All is found that is reached.
pub all_found : (ks : List Kind) (heir : ℕ → Bool) (os : List (Option ℕ)) (qs : List ℕ) →
    ((q d : ℕ) → Reaches ks heir q d → has qs q ≡ true) → AreReached ks heir os → AreSettled ks heir os qs →
    (q : ℕ) → IsReached ks heir q (seen_at ks os q)
all_found ks heir os qs l r s q = found_by ks heir os q (seen_at ks os q) refl r (next_none ks heir os qs l r s)

-- One register more is settled, or has its heir kept.
pub settled_step : (ks : List Kind) (heir : ℕ → Bool) (os : List (Option ℕ)) (x q : ℕ) (xs : List ℕ) →
    (kept_at os x ≡ None → next_at ks heir os x ≡ None) →
    (kept_at os q ≡ None → (has (x ∷ xs) q ≡ true) ⊎ (next_at ks heir os q ≡ None)) → kept_at os q ≡ None →
    (has xs q ≡ true) ⊎ (next_at ks heir os q ≡ None)
settled_step ks heir os x q xs n h e =
    elim (h e) [
      | inl g ↦ elim (one_of x q xs g) [
        | inl i ↦ inr (ap (next_at ks heir os) (sym i) ∙ n (ap (kept_at os) i ∙ e))
        | inr i ↦ inl i
      ]
      | inr g ↦ inr g
    ]

pub settled_end : (ks : List Kind) (heir : ℕ → Bool) (os : List (Option ℕ)) (xs : List ℕ) (i q : ℕ) → length xs ≤ i →
    (has (drop i xs) q ≡ true) ⊎ (next_at ks heir os q ≡ None) → next_at ks heir os q ≡ None
settled_end ks heir os xs i q l (inl h) = absurd (not_left xs i q l h)
settled_end ks heir os xs i q l (inr h) = h

pub fewer_by : (b : Bool) (os after : List (Option ℕ)) → (b ≡ true → nones after < nones os) →
    (b ≡ false → after ≡ os) → nones after ≤ nones os
fewer_by true os after f g = let h = f refl in omega arith
fewer_by false os after f g = let h = ap nones (g refl) in omega arith
