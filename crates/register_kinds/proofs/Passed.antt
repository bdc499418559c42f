-- What a Take makes of all kinds where only those are looked at whose froms or roots change one by one.
use Rattle.std.proofs.Common.{◌≡◌, ℕ, ◌<◌, ◌⊎◌, inl, inr, List, [], ◌∷◌, length, map, set, refl, sym, ap, ◌∙◌, subst}
use Rattle.std.specs.Prelude.{Bool, true, false, ◌&&◌, not, is_some, ◌==◌, if◌then◌else◌, Option, Some, None}
use Rattle.std.proofs.lemmas.Bool.{eq-eqb}
use Rattle.std.proofs.lemmas.Bool.Decides.{eqb_tells}
use Rattle.kind_domain.specs.fip_language.Table.{Table}
use Rattle.kind_domain.specs.cell_code.declared.kind.From.{From}
use Rattle.kind_domain.specs.cell_code.declared.kind.Kind.{Kind}
use Rattle.kind_domain.specs.cell_code.declared.kind.Kind.TheVariants.{Gone, Scalar, Owned, Lent, Credit}
use Rattle.kind_domain.specs.code_rules.Kinds.{at, has, from_of, is_lent_of}
use Rattle.kind_domain.specs.code_rules.Changes.{forget, forget_from}
use Rattle.kind_domain.specs.code_rules.Taking.{IsReached, Part, Reaches, ends, fate, is_heir, part, part_kind, with_root}
use Rattle.kind_domain.specs.Leading.{is_lent, kept_at, names}
use Rattle.kind_domain.specs.Owners.{rooted, swapped}
use Rattle.register_kinds.specs.Sorted.{IsSorted, IsTakable}
use Rattle.register_kinds.specs.Takes.{IsPassed, fated, forgotten, in_turn, is_used, seen_at, seen_by, stands_for}
use Rattle.register_kinds.proofs.Changed.{forget_by}
use Rattle.register_kinds.proofs.Climbing.{apart_stays, found_stays, heir_named, heir_part, heir_stays, lent_in, named_is, outside_lent, outside_owner, outside_unreached, owned_source, true_or_false}
use Rattle.kind_domain.proofs.Naming.{swapped_first}
use Rattle.kind_domain.proofs.Places.{at_map, at_set_other, map_long}
use Rattle.register_kinds.proofs.Sorted.{own_chain, own_no_heir}
use Rattle.register_kinds.proofs.TakenKinds.{fated_twice, forgotten_twice, in_turn_long, rooted_part, stands_apart, stands_twice, turned, unused_case, used_case}
use Rattle.kind_domain.proofs.fip_language.Facts.{or_false_left as or_left, or_false_right as or_right}
use Rattle.register_kinds.proofs.Climbing.{fate_source}

-- the heir that a register reaches: what isn't listed and reads the tree reaches the one that keeps the name

abbrev pub star_else : Bool → Option ℕ → Option ℕ
star_else true o = o
star_else false o = None

abbrev pub star : Table → List Kind → ℕ → (ℕ → Option Part) → Option ℕ → List ℕ → List (Option ℕ) → ℕ → Option ℕ
star w ks r parts keeper qs os q = if has qs q then seen_at ks os q else
    star_else (is_lent_of r (at ks q) && not (is_heir w ks r parts q)) keeper

star_listed : (w : Table) (ks : List Kind) (r : ℕ) (parts : ℕ → Option Part) (keeper : Option ℕ) (qs : List ℕ)
    (os : List (Option ℕ)) (q : ℕ) → has qs q ≡ true → star w ks r parts keeper qs os q ≡ seen_at ks os q
star_listed w ks r parts keeper qs os q e = rw e refl

star_rest : (w : Table) (ks : List Kind) (r : ℕ) (parts : ℕ → Option Part) (keeper : Option ℕ) (qs : List ℕ)
    (os : List (Option ℕ)) (q : ℕ) → has qs q ≡ false → is_lent_of r (at ks q) ≡ true → is_heir w ks r parts q ≡ false →
    star w ks r parts keeper qs os q ≡ keeper
star_rest w ks r parts keeper qs os q e l h = rw (e, l, h) refl

star_other : (w : Table) (ks : List Kind) (r : ℕ) (parts : ℕ → Option Part) (keeper : Option ℕ) (qs : List ℕ)
    (os : List (Option ℕ)) (q : ℕ) → has qs q ≡ false → is_lent_of r (at ks q) ≡ false →
    star w ks r parts keeper qs os q ≡ None
star_other w ks r parts keeper qs os q e l = rw (e, l) refl

star_heir : (w : Table) (ks : List Kind) (r : ℕ) (parts : ℕ → Option Part) (keeper : Option ℕ) (qs : List ℕ)
    (os : List (Option ℕ)) (q : ℕ) → has qs q ≡ false → is_lent_of r (at ks q) ≡ true → is_heir w ks r parts q ≡ true →
    star w ks r parts keeper qs os q ≡ None
star_heir w ks r parts keeper qs os q e l h = rw (e, l, h) refl

other_unreached : (w : Table) (ks : List Kind) (r : ℕ) (parts : ℕ → Option Part) (q d : ℕ) → IsTakable ks r parts →
    is_lent_of r (at ks q) ≡ false → Reaches ks (is_heir w ks r parts) q d → ⊥
other_unreached w ks r parts q d t l x =
    outside_unreached ks r (is_heir w ks r parts) q d t.whole t.owned (heir_named w ks r parts) l x

heir_unreached : (w : Table) (ks : List Kind) (r : ℕ) (parts : ℕ → Option Part) (q d : ℕ) → IsTakable ks r parts →
    is_heir w ks r parts q ≡ true → Reaches ks (is_heir w ks r parts) q d → ⊥
heir_unreached w ks r parts q d t h x =
    let f = named_is r (from_of (at ks q)) (heir_named w ks r parts q h) in
    own_chain ks (is_heir w ks r parts) r x.0 (from_of (at ks q)) d f.0 f.1 f.2 (own_no_heir w ks r parts t)
    (owned_source (at ks r) t.owned) x.1

kept_is : (ks : List Kind) (os : List (Option ℕ)) (q : ℕ) → is_lent (at ks q) ≡ true → kept_at os q ≡ seen_at ks os q
kept_is ks os q e = sym (ap (λ b. if b then kept_at os q else None) e)

star_reached : (w : Table) (ks : List Kind) (r : ℕ) (parts : ℕ → Option Part) (keeper : Option ℕ) (qs : List ℕ)
    (os : List (Option ℕ)) (q : ℕ) → IsTakable ks r parts → IsSorted w ks r parts keeper qs os →
    IsReached ks (is_heir w ks r parts) q (star w ks r parts keeper qs os q)
star_reached w ks r parts keeper qs os q t s =
    elim (true_or_false (has qs q)) [
      | inl e ↦ (let g = s.good q e in
          subst (IsReached ks (is_heir w ks r parts) q)
          (kept_is ks os q g.lent ∙ sym (star_listed w ks r parts keeper qs os q e)) g.reached)
      | inr e ↦ elim (true_or_false (is_lent_of r (at ks q))) [
        | inl l ↦ elim (true_or_false (is_heir w ks r parts q)) [
          | inl h ↦ subst (IsReached ks (is_heir w ks r parts) q)
              (sym (star_heir w ks r parts keeper qs os q e l h))
              (λ d x. heir_unreached w ks r parts q d t h x)
          | inr h ↦ (let i = s.rest q e l h in
              subst (IsReached ks (is_heir w ks r parts) q)
              (sym (star_rest w ks r parts keeper qs os q e l h ∙ i.1)) i.2)
        ]
        | inr l ↦ subst (IsReached ks (is_heir w ks r parts) q) (sym (star_other w ks r parts keeper qs os q e l))
            (λ d x. other_unreached w ks r parts q d t l x)
      ]
    ]

-- What isn't listed isn't touched.
pub untouched : (g : ℕ → Kind → Kind) (qs : List ℕ) (ks : List Kind) (q : ℕ) → has qs q ≡ false →
    at (in_turn g ks qs) q ≡ at ks q
untouched g [] ks q e = refl
untouched g (x ∷ qs) ks q e =
    untouched g qs (set ks x (g x (at ks x))) q (or_right (x == q) (has qs q) e)
    ∙ at_set_other ks x q (g x (at ks x)) (λ i. let z = eq-eqb x q i in let y = or_left (x == q) (has qs q) e in cc)

-- what ends

from_agrees : (p o : ℕ → Bool) (from : Option From) →
    ((f : From) → from ≡ Some f → p f.register ≡ o f.register) → forget_from p from ≡ forget_from o from
from_agrees p o None h = refl
from_agrees p o (Some f) h = ap (λ b. if b then None else Some f) (h f refl)

forget_agrees : (p o : ℕ → Bool) (k : Kind) → ((f : From) → from_of k ≡ Some f → p f.register ≡ o f.register) →
    forget p k ≡ forget o k
forget_agrees p o Gone h = refl
forget_agrees p o (Scalar t) h = refl
forget_agrees p o (Owned t s) h = refl
forget_agrees p o (Lent t s root from) h = ap (Lent t s root) (from_agrees p o from h)
forget_agrees p o (Credit n) h = refl

lost_source : (b : Bool) (k : Kind) (f : From) → from_of (if b then Gone else k) ≡ Some f → from_of k ≡ Some f
lost_source true k f e = absurd (cc)
lost_source false k f e = e

root_source : (d : ℕ) (k : Kind) (f : From) → from_of (with_root d k) ≡ Some f → from_of k ≡ Some f
root_source d Gone f e = e
root_source d (Scalar t) f e = e
root_source d (Owned t s) f e = e
root_source d (Lent t s root from) f e = e
root_source d (Credit n) f e = e

ends_agree : (w : Table) (ks : List Kind) (r : ℕ) (parts : ℕ → Option Part) (size : ℕ) (one other : ℕ → Option ℕ)
    (p : ℕ) → (is_lent_of r (at ks p) ≡ true → (is_some (parts p) ≡ true) ⊎ (one p ≡ other p)) →
    ends w ks r parts size one p ≡ ends w ks r parts size other p
ends_agree w ks r parts size one other p h =
    elim (true_or_false (is_lent_of r (at ks p))) [
      | inl l ↦ elim (h l) [
        | inl e ↦ rw e refl
        | inr e ↦ ap (λ o. if is_some (parts p) then not (is_heir w ks r parts p) else
            (if p == r then size == 0 else is_lent_of r (at ks p) && not (is_some o))) e
      ]
      | inr l ↦ rw l refl
    ]

-- a listed register

listed_agrees : (w : Table) (ks : List Kind) (r : ℕ) (parts : ℕ → Option Part) (size : ℕ) (keeper : Option ℕ)
    (qs : List ℕ) (os : List (Option ℕ)) (q : ℕ) → IsSorted w ks r parts keeper qs os → has qs q ≡ true → (f : From) →
    from_of (at ks q) ≡ Some f → ends w ks r parts size (seen_at ks os) f.register
    ≡ ends w ks r parts size (star w ks r parts keeper qs os) f.register
listed_agrees w ks r parts size keeper qs os q s e f i =
    ends_agree w ks r parts size (seen_at ks os) (star w ks r parts keeper qs os) f.register
    (λ l. elim ((s.good q e).up f i l) [
      | inl p ↦ inl p
      | inr p ↦ inr (sym (star_listed w ks r parts keeper qs os f.register p))
    ])

-- a register that isn't listed

keeper_root : (r h : ℕ) (k : Kind) → is_lent_of r k ≡ true → rooted (swapped r h) k ≡ with_root h k
keeper_root r h Gone e = absurd (cc)
keeper_root r h (Scalar t) e = absurd (cc)
keeper_root r h (Owned t s) e = absurd (cc)
keeper_root r h (Lent t s None from) e = absurd (cc)
keeper_root r h (Lent t s (Some x) from) e =
    elim (eqb_tells x r) [
      | inl g ↦ ap (λ z. Lent t s (Some z) from) (ap (swapped r h) g.1 ∙ swapped_first r h)
      | inr g ↦ absurd (let i = g.0 in cc)
    ]
keeper_root r h (Credit n) e = absurd (cc)

part_not_ended : (w : Table) (ks : List Kind) (r : ℕ) (parts : ℕ → Option Part) (size : ℕ) (keeper : Option ℕ)
    (qs : List ℕ) (os : List (Option ℕ)) (q : ℕ) (f : From) → IsSorted w ks r parts keeper qs os → has qs q ≡ false →
    from_of (at ks q) ≡ Some f → is_some (parts f.register) ≡ true →
    ends w ks r parts size (star w ks r parts keeper qs os) f.register ≡ false
part_not_ended w ks r parts size keeper qs os q f s e i p =
    elim (true_or_false (is_heir w ks r parts f.register)) [
      | inl h ↦ heir_stays w ks r parts size (star w ks r parts keeper qs os) f.register h
      | inr h ↦ absurd (let z = s.kids f.register q p h (ap (names f.register) i ∙ eq-eqb f.register f.register refl) in cc)
    ]

source_found : (w : Table) (ks : List Kind) (r : ℕ) (parts : ℕ → Option Part) (keeper : Option ℕ) (qs : List ℕ)
    (os : List (Option ℕ)) (q h : ℕ) (f : From) → IsSorted w ks r parts keeper qs os → has qs q ≡ false →
    keeper ≡ Some h → from_of (at ks q) ≡ Some f → is_some (parts f.register) ≡ false →
    is_lent_of r (at ks f.register) ≡ true → (d : ℕ) × (star w ks r parts keeper qs os f.register ≡ Some d)
source_found w ks r parts keeper qs os q h f s e k i p l =
    elim (true_or_false (has qs f.register)) [
      | inl m ↦ (let d = s.down f.register q e (ap (names f.register) i ∙ eq-eqb f.register f.register refl) m l in
          (d.0, star_listed w ks r parts keeper qs os f.register m ∙ d.1))
      | inr m ↦ (
        h,
        star_rest w ks r parts keeper qs os f.register m l
            (elim (true_or_false (is_heir w ks r parts f.register)) [
              | inl n ↦ absurd (let z = heir_part w r (at ks f.register) (parts f.register) n in cc)
              | inr n ↦ n
            ]) ∙ k,
      )
    ]

rest_source : (w : Table) (ks : List Kind) (r : ℕ) (parts : ℕ → Option Part) (size : ℕ) (keeper : Option ℕ)
    (qs : List ℕ) (os : List (Option ℕ)) (q h : ℕ) (f : From) → IsTakable ks r parts →
    IsSorted w ks r parts keeper qs os → has qs q ≡ false → keeper ≡ Some h →
    Reaches ks (is_heir w ks r parts) q h → from_of (at ks q) ≡ Some f →
    ends w ks r parts size (star w ks r parts keeper qs os) f.register ≡ false
rest_source w ks r parts size keeper qs os q h f t s e k x i =
    elim (true_or_false (is_some (parts f.register))) [
      | inl p ↦ part_not_ended w ks r parts size keeper qs os q f s e i p
      | inr p ↦ elim (eqb_tells f.register r) [
        | inl g ↦ absurd (own_chain ks (is_heir w ks r parts) r x.0 (from_of (at ks q)) h f i g.1
            (own_no_heir w ks r parts t) (owned_source (at ks r) t.owned) x.1)
        | inr g ↦ elim (true_or_false (is_lent_of r (at ks f.register))) [
          | inl l ↦ (let y = source_found w ks r parts keeper qs os q h f s e k i p l in
              found_stays w ks r parts size (star w ks r parts keeper qs os) f.register y.0 p g.0 y.1)
          | inr l ↦ apart_stays w ks r parts size (star w ks r parts keeper qs os) f.register p g.0 l
        ]
      ]
    ]

rest_kind : (w : Table) (ks : List Kind) (r : ℕ) (parts : ℕ → Option Part) (size : ℕ) (keeper : Option ℕ)
    (qs : List ℕ) (os : List (Option ℕ)) (q h : ℕ) → IsTakable ks r parts → IsSorted w ks r parts keeper qs os →
    has qs q ≡ false → is_lent_of r (at ks q) ≡ true → is_heir w ks r parts q ≡ false → keeper ≡ Some h →
    Reaches ks (is_heir w ks r parts) q h → rooted (stands_for keeper r) (at ks q)
    ≡ forget (ends w ks r parts size (star w ks r parts keeper qs os)) (fate (star w ks r parts keeper qs os q) r (at ks q))
rest_kind w ks r parts size keeper qs os q h t s e l n k x =
    ap (λ o. rooted (stands_for o r) (at ks q)) k ∙ keeper_root r h (at ks q) l
    ∙ sym (forget_by (ends w ks r parts size (star w ks r parts keeper qs os)) (with_root h (at ks q))
    (from_of (with_root h (at ks q))) refl
    (λ f i. rest_source w ks r parts size keeper qs os q h f t s e k x (root_source h (at ks q) f i)))
    ∙ ap (λ o. forget (ends w ks r parts size (star w ks r parts keeper qs os)) (fate o r (at ks q)))
    (sym (star_rest w ks r parts keeper qs os q e l n ∙ k))

other_source : (w : Table) (ks : List Kind) (r : ℕ) (parts : ℕ → Option Part) (size : ℕ) (keeper : Option ℕ)
    (qs : List ℕ) (os : List (Option ℕ)) (q : ℕ) (f : From) → IsTakable ks r parts →
    IsSorted w ks r parts keeper qs os → has qs q ≡ false → is_lent_of r (at ks q) ≡ false →
    from_of (at ks q) ≡ Some f → ends w ks r parts size (star w ks r parts keeper qs os) f.register ≡ false
other_source w ks r parts size keeper qs os q f t s e l i =
    let n = sym (lent_in r (at ks q)) ∙ l in
    elim (true_or_false (is_some (parts f.register))) [
      | inl p ↦ part_not_ended w ks r parts size keeper qs os q f s e i p
      | inr p ↦ elim (eqb_tells f.register r) [
        | inl g ↦ absurd (outside_owner ks r q f t.whole t.owned n i g.1)
        | inr g ↦ apart_stays w ks r parts size (star w ks r parts keeper qs os) f.register p g.0
            (elim (true_or_false (is_lent_of r (at ks f.register))) [
              | inl h ↦ absurd (outside_lent ks r q f t.whole n i (sym (lent_in r (at ks f.register)) ∙ h))
              | inr h ↦ h
            ])
      ]
    ]

other_kind : (w : Table) (ks : List Kind) (r : ℕ) (parts : ℕ → Option Part) (size : ℕ) (keeper : Option ℕ)
    (qs : List ℕ) (os : List (Option ℕ)) (q : ℕ) → IsTakable ks r parts → IsSorted w ks r parts keeper qs os →
    ((h : ℕ) → keeper ≡ Some h → is_lent_of h (at ks q) ≡ false) → has qs q ≡ false →
    is_lent_of r (at ks q) ≡ false → rooted (stands_for keeper r) (at ks q)
    ≡ forget (ends w ks r parts size (star w ks r parts keeper qs os)) (fate (star w ks r parts keeper qs os q) r (at ks q))
other_kind w ks r parts size keeper qs os q t s a e l =
    stands_apart keeper r (at ks q) a l
    ∙ sym (forget_by (ends w ks r parts size (star w ks r parts keeper qs os)) (at ks q) (from_of (at ks q)) refl
    (λ f i. other_source w ks r parts size keeper qs os q f t s e l i))
    ∙ ap (λ b. forget (ends w ks r parts size (star w ks r parts keeper qs os)) (if b then Gone else at ks q)) (sym l)
    ∙ ap (λ o. forget (ends w ks r parts size (star w ks r parts keeper qs os)) (fate o r (at ks q)))
    (sym (star_other w ks r parts keeper qs os q e l))

unused_heir : (w : Table) (ks : List Kind) (r : ℕ) (parts : ℕ → Option Part) (q : ℕ) → is_used r parts q ≡ false →
    is_heir w ks r parts q ≡ false
unused_heir w ks r parts q u =
    elim (true_or_false (is_heir w ks r parts q)) [
      | inl h ↦ absurd (let z = heir_part w r (at ks q) (parts q) h in let y = or_left (is_some (parts q)) (q == r) u in cc)
      | inr h ↦ h
    ]

turned_both : (f : ℕ → ℕ) (r : ℕ) (parts : ℕ → Option Part) (os : List (Option ℕ)) (ended : ℕ → Bool)
    (ks first second : List Kind) (qs : List ℕ) (q : ℕ) → first ≡ in_turn (forgotten r parts ended) ks qs →
    second ≡ in_turn (fated f r parts os) first qs → q < length ks → has qs q ≡ true →
    at second q ≡ fated f r parts os q (forgotten r parts ended q (at ks q))
turned_both f r parts os ended ks first second qs q b c l m =
    ap (λ z. at z q) c ∙ turned (fated f r parts os) (fated_twice f r parts os) qs first q
    (subst (λ n. q < n) (sym (ap length b ∙ in_turn_long (forgotten r parts ended) ks qs)) l) (inl m)
    ∙ ap (fated f r parts os q) (ap (λ z. at z q) b
    ∙ turned (forgotten r parts ended) (forgotten_twice r parts ended) qs ks q l (inl m))

left_both : (f : ℕ → ℕ) (r : ℕ) (parts : ℕ → Option Part) (os : List (Option ℕ)) (ended : ℕ → Bool)
    (ks first second : List Kind) (qs : List ℕ) (q : ℕ) → first ≡ in_turn (forgotten r parts ended) ks qs →
    second ≡ in_turn (fated f r parts os) first qs → has qs q ≡ false → at second q ≡ at ks q
left_both f r parts os ended ks first second qs q b c m =
    ap (λ z. at z q) c ∙ untouched (fated f r parts os) qs first q m
    ∙ ap (λ z. at z q) b ∙ untouched (forgotten r parts ended) qs ks q m

-- What has been sorted, forgotten, passed on and renamed is passed.
pub sorted_passed : (w : Table) (r : ℕ) (ds ts : List ℕ) (keeper : Option ℕ) (os : List (Option ℕ))
    (ks first second last : List Kind) (qs : List ℕ) → IsTakable ks r (part ds ts) →
    IsSorted w ks r (part ds ts) keeper qs os →
    ((h : ℕ) → keeper ≡ Some h → (q : ℕ) → is_lent_of h (at ks q) ≡ false) →
    first ≡ in_turn (forgotten r (part ds ts) (ends w ks r (part ds ts) (length ds) (seen_at ks os))) ks qs →
    second ≡ in_turn (fated (stands_for keeper r) r (part ds ts) os) first qs →
    last ≡ map (rooted (stands_for keeper r)) second → IsPassed w ks r ds ts last
sorted_passed w r ds ts keeper os ks first second last qs t s a b c e =
    let f = stands_for keeper r in
    let parts = part ds ts in
    let ended = ends w ks r parts (length ds) (seen_at ks os) in
    let g = forgotten r parts ended in
    let h = fated f r parts os in
    let one = ap length b ∙ in_turn_long g ks qs in
    record {
      reached = star w ks r parts keeper qs os;
      reaches = λ q. star_reached w ks r parts keeper qs os q t s;
      long = ap length e ∙ map_long (rooted f) second ∙ ap length c ∙ in_turn_long h first qs ∙ one;
      used = λ q l p u. elim (true_or_false (has qs q)) [
        | inl m ↦ ap (λ z. part_kind w r z p) (ap (λ z. at z q) e ∙ at_map (rooted f) refl second q
            ∙ ap (rooted f) (turned_both f r parts os ended ks first second qs q b c l m))
            ∙ used_case f w r ds ts os ended q (at ks q) p u
        | inr m ↦ ap (λ z. part_kind w r z p) (ap (λ z. at z q) e ∙ at_map (rooted f) refl second q
            ∙ ap (rooted f) (left_both f r parts os ended ks first second qs q b c m))
            ∙ rooted_part f w r (at ks q) p
      ];
      unused = λ q l u. elim (true_or_false (has qs q)) [
        | inl m ↦ ap (λ z. at z q) e ∙ at_map (rooted f) refl second q
            ∙ ap (rooted f) (turned_both f r parts os ended ks first second qs q b c l m)
            ∙ unused_case f r parts os ended q (at ks q) (stands_twice keeper r)
            (stands_apart keeper r (at ks q) (λ x i. a x i q)) u
            ∙ forget_agrees ended (ends w ks r parts (length ds) (star w ks r parts keeper qs os))
            (fate (seen_by os q (at ks q)) r (at ks q))
            (λ x i. listed_agrees w ks r parts (length ds) keeper qs os q s m x
            (fate_source (seen_by os q (at ks q)) r (at ks q) x i))
            ∙ ap (λ o. forget (ends w ks r parts (length ds) (star w ks r parts keeper qs os)) (fate o r (at ks q)))
            (sym (star_listed w ks r parts keeper qs os q m))
        | inr m ↦ ap (λ z. at z q) e ∙ at_map (rooted f) refl second q
            ∙ ap (rooted f) (left_both f r parts os ended ks first second qs q b c m)
            ∙ elim (true_or_false (is_lent_of r (at ks q))) [
              | inl n ↦ (let i = s.rest q m n (unused_heir w ks r parts q u) in
                  rest_kind w ks r parts (length ds) keeper qs os q i.0 t s m n (unused_heir w ks r parts q u) i.1 i.2)
              | inr n ↦ other_kind w ks r parts (length ds) keeper qs os q t s (λ x i. a x i q) m n
            ]
      ];
    }
