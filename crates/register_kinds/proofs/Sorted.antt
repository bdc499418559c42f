-- Which registers are listed while a cell is taken apart whose tree is whole.
use Rattle.std.proofs.Common.{◌≡◌, ℕ, zero, suc, ◌+◌, ◌<◌, ◌⊎◌, inl, inr, List, [], ◌∷◌, drop, length, arith, refl, sym, ap, ◌∙◌, subst}
use Rattle.std.specs.Prelude.{Bool, true, false, ◌&&◌, not, is_some, if◌then◌else◌, Option, Some, None}
use Rattle.std.proofs.lemmas.Bool.{eq-eqb}
use Rattle.kind_domain.specs.fip_language.Table.{Table}
use Rattle.kind_domain.specs.cell_code.declared.kind.From.{From}
use Rattle.kind_domain.specs.cell_code.declared.kind.Kind.{Kind}
use Rattle.kind_domain.specs.cell_code.declared.kind.Kind.TheVariants.{Gone, Scalar, Owned, Lent, Credit}
use Rattle.kind_domain.specs.code_rules.Kinds.{at, has, from_of, is_lent_of, same_root}
use Rattle.kind_domain.specs.code_rules.Taking.{Chain, IsReached, Part, Reaches, is_heir, is_heir_by, part}
use Rattle.kind_domain.specs.Leading.{is_lent_in}
use Rattle.kind_domain.specs.Leading.{Grows, Linked, Links, is_lent, kept_at, names}
use Rattle.register_kinds.specs.Sorted.{AreGood, Candidate, IsGood, IsTakable, Rest, listed_if, listing}
use Rattle.register_kinds.specs.declared.sorting.Wanted.{Wanted}
use Rattle.register_kinds.specs.declared.sorting.Wanted.TheVariants.{Lost, Loose, Below, Ended}
use Rattle.register_kinds.proofs.Climbing.{outside_unreached, heir_named, heir_part, in_lent, lent_in, lent_there, named_is, owned_lent, owned_source, rest_reaches, true_or_false}
use Rattle.kind_domain.proofs.LentLists.{drop_append, grows_has, has_either, has_left, has_right}
use Rattle.register_kinds.proofs.Reaching.{one_of}
use Rattle.register_kinds.proofs.TakenKinds.{part_has}
use Rattle.register_kinds.specs.Takes.{seen_at}
pub use Rattle.register_kinds.proofs.Changed.{some_from}
pub use Rattle.register_kinds.proofs.Climbing.{chain_none as none_chain}
pub use Rattle.kind_domain.proofs.LentLists.{none_later as none_left}

pub named_lent : (r : ℕ) (k : Kind) → names r (from_of k) ≡ true → is_lent k ≡ true
named_lent r Gone e = absurd (cc)
named_lent r (Scalar t) e = absurd (cc)
named_lent r (Owned t s) e = absurd (cc)
named_lent r (Lent t s root from) e = refl
named_lent r (Credit n) e = absurd (cc)

root_self : (o : Option ℕ) → same_root o o ≡ true
root_self None = refl
root_self (Some r) = eq-eqb r r refl

pub lent_some : (k : Kind) → is_lent k ≡ true → (o : Option ℕ) × (is_lent_in o k ≡ true)
lent_some Gone e = absurd (cc)
lent_some (Scalar t) e = absurd (cc)
lent_some (Owned t s) e = absurd (cc)
lent_some (Lent t s root from) e = (root, root_self root)
lent_some (Credit n) e = absurd (cc)

-- The register whose cell is taken apart is no heir, and nothing is reached through it.

pub own_no_heir : (w : Table) (ks : List Kind) (r : ℕ) (parts : ℕ → Option Part) → IsTakable ks r parts →
    is_heir w ks r parts r ≡ false
own_no_heir w ks r parts t =
    elim (true_or_false (is_heir w ks r parts r)) [
      | inl e ↦ absurd (let z = heir_part w r (at ks r) (parts r) e in let y = t.own in cc)
      | inr e ↦ e
    ]

-- A register that came from another one is no heir.
other_named : (w : Table) (ks : List Kind) (r p q : ℕ) (parts : ℕ → Option Part) → names p (from_of (at ks q)) ≡ true →
    (p ≡ r → ⊥) → is_heir w ks r parts q ≡ false
other_named w ks r p q parts e n =
    elim (true_or_false (is_heir w ks r parts q)) [
      | inl h ↦ absurd (let f = named_is p (from_of (at ks q)) e in
          let g = named_is r (from_of (at ks q)) (heir_named w ks r parts q h) in
          n (sym f.2 ∙ ap (λ x. x.register) (some_from f.0 g.0 (sym f.1 ∙ g.1)) ∙ g.2))
      | inr h ↦ h
    ]

pub own_chain : (ks : List Kind) (heir : ℕ → Bool) (r n : ℕ) (from : Option From) (d : ℕ) (f : From) → from ≡ Some f →
    f.register ≡ r → heir r ≡ false → from_of (at ks r) ≡ None → Chain ks heir n from d → ⊥
own_chain ks heir r n None d f e i h s c = cc
own_chain ks heir r zero (Some g) d f e i h s c =
    let a = c.0 in let b = ap (λ x. heir x.register) (some_from g f e) in let z = ap heir i in cc
own_chain ks heir r (suc n) (Some g) d f e i h s c =
    none_chain ks heir n (from_of (at ks g.register)) d
    (ap (λ x. from_of (at ks x)) (ap (λ x. x.register) (some_from g f e) ∙ i) ∙ s) c.1

-- what is lost

pub good_lost : (w : Table) (ks : List Kind) (r q : ℕ) (parts : ℕ → Option Part) (qs : List ℕ) → IsTakable ks r parts →
    names r (from_of (at ks q)) ≡ true → is_heir w ks r parts q ≡ false → IsGood w ks r parts qs q None
good_lost w ks r q parts qs t e h =
    let f = named_is r (from_of (at ks q)) e in
    record {
      lent = named_lent r (at ks q) e;
      other = h;
      reached = λ d x. own_chain ks (is_heir w ks r parts) r x.0 (from_of (at ks q)) d f.0 f.1 f.2
          (own_no_heir w ks r parts t) (owned_source (at ks r) t.owned) x.1;
      up = λ g i l. absurd (owned_lent (Some r) (at ks r) t.owned
          (sym (lent_in r (at ks r)) ∙ ap (λ z. is_lent_of r (at ks z))
          (sym (ap (λ x. x.register) (some_from g f.0 (sym i ∙ f.1)) ∙ f.2)) ∙ l));
    }

pub good_loose : (w : Table) (ks : List Kind) (r q : ℕ) (parts : ℕ → Option Part) (qs : List ℕ) →
    is_lent_of r (at ks q) ≡ true → from_of (at ks q) ≡ None → IsGood w ks r parts qs q None
good_loose w ks r q parts qs l e = record {
  lent = in_lent (Some r) (at ks q) (sym (lent_in r (at ks q)) ∙ l);
  other = elim (true_or_false (is_heir w ks r parts q)) [
    | inl h ↦ absurd (let z = heir_named w ks r parts q h in let y = ap (names r) e in cc)
    | inr h ↦ h
  ];
  reached = λ d x. none_chain ks (is_heir w ks r parts) x.0 (from_of (at ks q)) d e x.1;
  up = λ f i m. absurd (let z = sym e ∙ i in cc);
}

-- what came from an heir

pub good_heir : (w : Table) (ks : List Kind) (r p q : ℕ) (parts : ℕ → Option Part) (qs : List ℕ) → IsTakable ks r parts →
    is_heir w ks r parts p ≡ true → names p (from_of (at ks q)) ≡ true → IsGood w ks r parts qs q (Some p)
good_heir w ks r p q parts qs t h e =
    let f = named_is p (from_of (at ks q)) e in
    record {
      lent = named_lent p (at ks q) e;
      other = other_named w ks r p q parts e
          (λ i. let z = ap (is_heir w ks r parts) i in let y = own_no_heir w ks r parts t in cc);
      reached = (0, subst (λ x. Chain ks (is_heir w ks r parts) 0 x p) (sym f.1) (ap (is_heir w ks r parts) f.2 ∙ h, f.2));
      up = λ g i l. inl (ap (λ z. is_some (parts z)) (ap (λ x. x.register) (some_from g f.0 (sym i ∙ f.1)) ∙ f.2)
          ∙ heir_part w r (at ks p) (parts p) h);
    }

-- what came from a listed one

child_none : (ks : List Kind) (heir : ℕ → Bool) (p : ℕ) (f : From) (from : Option From) (d : ℕ) → from ≡ Some f →
    f.register ≡ p → heir p ≡ false → ((d : ℕ) → Reaches ks heir p d → ⊥) → (n : ℕ) → Chain ks heir n from d → ⊥
child_none ks heir p f None d e i h r n c = cc
child_none ks heir p f (Some g) d e i h r zero c =
    let a = c.0 in let b = ap (λ x. heir x.register) (some_from g f e) in let z = ap heir i in cc
child_none ks heir p f (Some g) d e i h r (suc n) c =
    r d (n, subst (λ z. Chain ks heir n (from_of (at ks z)) d) (ap (λ x. x.register) (some_from g f e) ∙ i) c.1)

child_reached : (ks : List Kind) (heir : ℕ → Bool) (p q : ℕ) (f : From) (o : Option ℕ) → from_of (at ks q) ≡ Some f →
    f.register ≡ p → heir p ≡ false → IsReached ks heir p o → IsReached ks heir q o
child_reached ks heir p q f None e i h r = λ d x. child_none ks heir p f (from_of (at ks q)) d e i h r x.0 x.1
child_reached ks heir p q f (Some d) e i h r = (
  suc r.0,
  subst (λ x. Chain ks heir (suc r.0) x d) (sym e)
      (subst (λ z. (heir z ≡ false) × Chain ks heir r.0 (from_of (at ks z)) d) (sym i) (h, r.1)),
)

pub good_below : (w : Table) (ks : List Kind) (r p q : ℕ) (parts : ℕ → Option Part) (qs : List ℕ) (o : Option ℕ) →
    IsTakable ks r parts → has qs p ≡ true → IsGood w ks r parts qs p o → names p (from_of (at ks q)) ≡ true →
    IsGood w ks r parts qs q o
good_below w ks r p q parts qs o t l g e =
    let f = named_is p (from_of (at ks q)) e in
    record {
      lent = named_lent p (at ks q) e;
      other = other_named w ks r p q parts e (λ i. let s = lent_some (at ks p) g.lent in
          owned_lent s.0 (at ks r) t.owned (ap (λ z. is_lent_in s.0 (at ks z)) (sym i) ∙ s.1));
      reached = child_reached ks (is_heir w ks r parts) p q f.0 o f.1 f.2 g.other g.reached;
      up = λ h i m. inr (ap (has qs) (ap (λ x. x.register) (some_from h f.0 (sym i ∙ f.1)) ∙ f.2) ∙ l);
    }

-- what came from a register that gets a part and is no heir

ended_reached : (w : Table) (ks : List Kind) (r q : ℕ) (parts : ℕ → Option Part) (qs : List ℕ) (keeper : Option ℕ)
    (b : Bool) → IsTakable ks r parts → Rest w ks r parts keeper qs → is_lent (at ks q) ≡ true →
    is_heir w ks r parts q ≡ false → has qs q ≡ false → is_lent_of r (at ks q) ≡ b →
    IsReached ks (is_heir w ks r parts) q (if b then keeper else None)
ended_reached w ks r q parts qs keeper true t rest l h u e =
    let i = rest q u e h in subst (IsReached ks (is_heir w ks r parts) q) (sym i.1) i.2
ended_reached w ks r q parts qs keeper false t rest l h u e =
    λ d x. outside_unreached ks r (is_heir w ks r parts) q d t.whole t.owned (heir_named w ks r parts) e x

pub good_ended : (w : Table) (ks : List Kind) (r p q : ℕ) (parts : ℕ → Option Part) (qs : List ℕ) (keeper : Option ℕ) →
    IsTakable ks r parts → Rest w ks r parts keeper qs → is_some (parts p) ≡ true → names p (from_of (at ks q)) ≡ true →
    has qs q ≡ false → IsGood w ks r parts qs q (if is_lent_of r (at ks q) then keeper else None)
good_ended w ks r p q parts qs keeper t rest s e u =
    let f = named_is p (from_of (at ks q)) e in
    let l = named_lent p (at ks q) e in
    let h = other_named w ks r p q parts e (λ i. let z = ap (λ x. is_some (parts x)) i in let y = t.own in cc) in
    record {
      lent = l;
      other = h;
      reached = ended_reached w ks r q parts qs keeper (is_lent_of r (at ks q)) t rest l h u refl;
      up = λ g i m. inl (ap (λ z. is_some (parts z)) (ap (λ x. x.register) (some_from g f.0 (sym i ∙ f.1)) ∙ f.2) ∙ s);
    }

-- a list that grows by good ones

more_good : (w : Table) (ks : List Kind) (r q : ℕ) (parts : ℕ → Option Part) (qs more : List ℕ) (o : Option ℕ) →
    Grows qs more → IsGood w ks r parts qs q o → IsGood w ks r parts more q o
more_good w ks r q parts qs more o g h = record {
  lent = h.lent;
  other = h.other;
  reached = h.reached;
  up = λ f e l. elim (h.up f e l) [ inl i ↦ inl i | inr i ↦ inr (grows_has qs more g f.register i) ];
}

pub good_step : (w : Table) (ks : List Kind) (r : ℕ) (parts : ℕ → Option Part) (qs more : List ℕ)
    (os after : List (Option ℕ)) → AreGood w ks r parts qs os → Grows qs more →
    ((q : ℕ) → has more q ≡ true → ((has qs q ≡ true) × (kept_at after q ≡ kept_at os q))
    ⊎ (IsGood w ks r parts qs q (kept_at after q))) → AreGood w ks r parts more after
good_step w ks r parts qs more os after a g h q e =
    elim (h q e) [
      | inl i ↦ more_good w ks r q parts qs more (kept_at after q) g
          (subst (IsGood w ks r parts qs q) (sym i.1) (a q i.0))
      | inr i ↦ more_good w ks r q parts qs more (kept_at after q) g i
    ]

pub rest_more : (w : Table) (ks : List Kind) (r : ℕ) (parts : ℕ → Option Part) (keeper : Option ℕ) (qs more : List ℕ) →
    Grows qs more → Rest w ks r parts keeper qs → Rest w ks r parts keeper more
rest_more w ks r parts keeper qs more g h q u l n =
    h q (elim (true_or_false (has qs q)) [
      | inl e ↦ absurd (let z = grows_has qs more g q e in cc)
      | inr e ↦ e
    ]) l n

-- what is wanted is linked

and_first : (a b : Bool) (o p : Option ℕ) → listed_if (a && b) o ≡ Some p → a ≡ true
and_first true b o p e = refl
and_first false b o p e = absurd (cc)

some_in : (o p : Option ℕ) → Some o ≡ Some p → p ≡ o
some_in o p e = cc

and_both : (a b : Bool) (o p : Option ℕ) → listed_if (a && not b) o ≡ Some p → (a ≡ true) × (b ≡ false) × (p ≡ o)
and_both true true o p e = absurd (cc)
and_both true false o p e = (refl, refl, some_in o p e)
and_both false b o p e = absurd (cc)

if_first : (a : Bool) (o p : Option ℕ) → listed_if a o ≡ Some p → (a ≡ true) × (p ≡ o)
if_first true o p e = (refl, some_in o p e)
if_first false o p e = absurd (cc)

not_some : (o : Option From) → is_some o ≡ false → o ≡ None
not_some None e = refl
not_some (Some f) e = absurd (cc)

pub wanted_linked : (w : Table) (ks : List Kind) (below loose : Links) (r : ℕ) (parts : ℕ → Option Part) (wanted : Wanted)
    (q : ℕ) (o : Option ℕ) → ((r q : ℕ) → names r (from_of (at ks q)) ≡ true → Linked below r q) →
    ((r q : ℕ) → is_lent_of r (at ks q) ≡ true → from_of (at ks q) ≡ None → Linked loose r q) →
    listing w r parts wanted q (at ks q) ≡ Some o → Candidate below loose r wanted q
wanted_linked w ks below loose r parts Lost q o b l e =
    b r q (and_first (names r (from_of (at ks q))) (not (is_heir_by w r (at ks q) (parts q))) None o e)
wanted_linked w ks below loose r parts Loose q o b l e =
    let h = and_both (is_lent_of r (at ks q)) (is_some (from_of (at ks q))) None o e in
    l r q h.0 (not_some (from_of (at ks q)) h.1)
wanted_linked w ks below loose r parts (Below p x) q o b l e =
    b p q (if_first (names p (from_of (at ks q))) x o e).0
wanted_linked w ks below loose r parts (Ended p x) q o b l e =
    b p q (if_first (names p (from_of (at ks q))) (if is_lent_of r (at ks q) then x else None) o e).0

lent_long : (ks : List Kind) (q : ℕ) → is_lent (at ks q) ≡ true → q < length ks
lent_long ks q e = let s = lent_some (at ks q) e in lent_there ks q s.0 s.1

-- What is wanted is there.
pub wanted_there : (w : Table) (ks : List Kind) (r : ℕ) (parts : ℕ → Option Part) (wanted : Wanted) (q : ℕ)
    (o : Option ℕ) → listing w r parts wanted q (at ks q) ≡ Some o → q < length ks
wanted_there w ks r parts Lost q o e = lent_long ks q (named_lent r (at ks q)
    (and_first (names r (from_of (at ks q))) (not (is_heir_by w r (at ks q) (parts q))) None o e))
wanted_there w ks r parts Loose q o e =
    lent_long ks q (in_lent (Some r) (at ks q) (sym (lent_in r (at ks q))
    ∙ and_first (is_lent_of r (at ks q)) (not (is_some (from_of (at ks q)))) None o e))
wanted_there w ks r parts (Below p x) q o e =
    lent_long ks q (named_lent p (at ks q) (if_first (names p (from_of (at ks q))) x o e).0)
wanted_there w ks r parts (Ended p x) q o e =
    lent_long ks q (named_lent p (at ks q)
    (if_first (names p (from_of (at ks q))) (if is_lent_of r (at ks q) then x else None) o e).0)

-- what is listed is good, by what is wanted

pub listed_lost : (w : Table) (ks : List Kind) (r q : ℕ) (parts : ℕ → Option Part) (qs : List ℕ) (o : Option ℕ) →
    IsTakable ks r parts → listing w r parts Lost q (at ks q) ≡ Some o → IsGood w ks r parts qs q o
listed_lost w ks r q parts qs o t e =
    let h = and_both (names r (from_of (at ks q))) (is_heir_by w r (at ks q) (parts q)) None o e in
    subst (IsGood w ks r parts qs q) (sym h.2) (good_lost w ks r q parts qs t h.0 h.1)

pub listed_loose : (w : Table) (ks : List Kind) (r q : ℕ) (parts : ℕ → Option Part) (qs : List ℕ) (o : Option ℕ) →
    listing w r parts Loose q (at ks q) ≡ Some o → IsGood w ks r parts qs q o
listed_loose w ks r q parts qs o e =
    let h = and_both (is_lent_of r (at ks q)) (is_some (from_of (at ks q))) None o e in
    subst (IsGood w ks r parts qs q) (sym h.2)
    (good_loose w ks r q parts qs h.0 (not_some (from_of (at ks q)) h.1))

pub listed_heir : (w : Table) (ks : List Kind) (r p q : ℕ) (parts : ℕ → Option Part) (qs : List ℕ) (o : Option ℕ) →
    IsTakable ks r parts → is_heir w ks r parts p ≡ true →
    listing w r parts (Below p (Some p)) q (at ks q) ≡ Some o → IsGood w ks r parts qs q o
listed_heir w ks r p q parts qs o t h e =
    let i = if_first (names p (from_of (at ks q))) (Some p) o e in
    subst (IsGood w ks r parts qs q) (sym i.1) (good_heir w ks r p q parts qs t h i.0)

pub listed_below : (w : Table) (ks : List Kind) (r p q : ℕ) (parts : ℕ → Option Part) (qs : List ℕ) (x o : Option ℕ) →
    IsTakable ks r parts → has qs p ≡ true → IsGood w ks r parts qs p x →
    listing w r parts (Below p x) q (at ks q) ≡ Some o → IsGood w ks r parts qs q o
listed_below w ks r p q parts qs x o t l g e =
    let i = if_first (names p (from_of (at ks q))) x o e in
    subst (IsGood w ks r parts qs q) (sym i.1) (good_below w ks r p q parts qs x t l g i.0)

pub listed_ended : (w : Table) (ks : List Kind) (r p q : ℕ) (parts : ℕ → Option Part) (qs : List ℕ)
    (keeper o : Option ℕ) → IsTakable ks r parts → Rest w ks r parts keeper qs → is_some (parts p) ≡ true →
    has qs q ≡ false → listing w r parts (Ended p keeper) q (at ks q) ≡ Some o → IsGood w ks r parts qs q o
listed_ended w ks r p q parts qs keeper o t rest s u e =
    let i = if_first (names p (from_of (at ks q))) (if is_lent_of r (at ks q) then keeper else None) o e in
    subst (IsGood w ks r parts qs q) (sym i.1) (good_ended w ks r p q parts qs keeper t rest s i.0 u)

-- what is wanted, by what it came from

pub lost_wanted : (w : Table) (ks : List Kind) (r q : ℕ) (parts : ℕ → Option Part) → names r (from_of (at ks q)) ≡ true →
    is_heir w ks r parts q ≡ false → listing w r parts Lost q (at ks q) ≡ Some None
lost_wanted w ks r q parts e h = rw (e, h) refl

pub loose_wanted : (w : Table) (ks : List Kind) (r q : ℕ) (parts : ℕ → Option Part) → is_lent_of r (at ks q) ≡ true →
    from_of (at ks q) ≡ None → listing w r parts Loose q (at ks q) ≡ Some None
loose_wanted w ks r q parts e h = rw (e, h) refl

pub below_wanted : (w : Table) (ks : List Kind) (r p q : ℕ) (parts : ℕ → Option Part) (o : Option ℕ) →
    names p (from_of (at ks q)) ≡ true → listing w r parts (Below p o) q (at ks q) ≡ Some o
below_wanted w ks r p q parts o e = rw e refl

pub ended_wanted : (w : Table) (ks : List Kind) (r p q : ℕ) (parts : ℕ → Option Part) (o : Option ℕ) →
    names p (from_of (at ks q)) ≡ true →
    listing w r parts (Ended p o) q (at ks q) ≡ Some (if is_lent_of r (at ks q) then o else None)
ended_wanted w ks r p q parts o e = rw e refl

-- a list has grown by what is wanted
pub step_by : (w : Table) (ks ks2 : List Kind) (r : ℕ) (parts : ℕ → Option Part) (wanted : Wanted) (qs more : List ℕ)
    (os after : List (Option ℕ)) → ks2 ≡ ks →
    ((q : ℕ) (o : Option ℕ) → has qs q ≡ false → listing w r parts wanted q (at ks q) ≡ Some o →
    IsGood w ks r parts qs q o) → Grows qs more →
    ((q : ℕ) → has more q ≡ true → ((has qs q ≡ true) × (kept_at after q ≡ kept_at os q))
    ⊎ ((has qs q ≡ false) × (listing w r parts wanted q (at ks2 q) ≡ Some (kept_at after q)))) →
    AreGood w ks r parts qs os → AreGood w ks r parts more after
step_by w ks ks2 r parts wanted qs more os after e good g only a =
    good_step w ks r parts qs more os after a g (λ q h. elim (only q h) [
      | inl i ↦ inl i
      | inr i ↦ inr (good q (kept_at after q) i.0
          (ap (λ z. listing w r parts wanted q (at z q)) (sym e) ∙ i.1))
    ])

pub ended_kept : (w : Table) (ks : List Kind) (r p q : ℕ) (parts : ℕ → Option Part) (qs : List ℕ) (keeper o : Option ℕ) →
    IsTakable ks r parts → Rest w ks r parts keeper qs → is_some (parts p) ≡ true → has qs q ≡ false →
    listing w r parts (Ended p keeper) q (at ks q) ≡ Some o → is_lent_of r (at ks q) ≡ true → (h : ℕ) × (o ≡ Some h)
ended_kept w ks r p q parts qs keeper o t rest s u e l =
    let i = if_first (names p (from_of (at ks q))) (if is_lent_of r (at ks q) then keeper else None) o e in
    let g = good_ended w ks r p q parts qs keeper t rest s i.0 u in
    let h = rest q u l g.other in
    (h.0, i.1 ∙ ap (λ b. if b then keeper else None) l ∙ h.1)

-- lists that are closed under what came from their registers

pub named_step : (ks : List Kind) (xs ys : List ℕ) (n x : ℕ) → n < length xs → drop n xs ≡ x ∷ drop (n + 1) xs →
    ((p q : ℕ) → has xs p ≡ true → names p (from_of (at ks q)) ≡ true →
    (has (drop n xs) p ≡ true) ⊎ (has xs q ≡ true)) →
    ((q : ℕ) → names x (from_of (at ks q)) ≡ true → has ys q ≡ true) → Grows xs ys → (p q : ℕ) → has ys p ≡ true →
    names p (from_of (at ks q)) ≡ true → (has (drop (n + 1) ys) p ≡ true) ⊎ (has ys q ≡ true)
named_step ks xs ys n x h e c f g p q a b =
    let d = ap (drop (n + 1)) g.1 ∙ drop_append xs g.0 (n + 1) (omega arith) in
    elim (has_either xs g.0 p (ap (λ l. has l p) (sym g.1) ∙ a)) [
      | inl i ↦ elim (c p q i b) [
        | inl j ↦ elim (one_of x p (drop (n + 1) xs) (ap (λ l. has l p) (sym e) ∙ j)) [
          | inl k ↦ inr (f q (ap (λ z. names z (from_of (at ks q))) k ∙ b))
          | inr k ↦ inl (ap (λ l. has l p) d ∙ has_left (drop (n + 1) xs) g.0 p k)
        ]
        | inr j ↦ inr (grows_has xs ys g q j)
      ]
      | inr i ↦ inl (ap (λ l. has l p) d ∙ has_right (drop (n + 1) xs) g.0 p i)
    ]

listed_by : (ds ts : List ℕ) (p : ℕ) (o : Option Part) → part ds ts p ≡ o → is_some o ≡ true → has ds p ≡ true
listed_by ds ts p None h e = absurd (cc)
listed_by ds ts p (Some x) h e = part_has 0 ds ts p x h

pub part_listed : (ds ts : List ℕ) (p : ℕ) → is_some (part ds ts p) ≡ true → has ds p ≡ true
part_listed ds ts p e = listed_by ds ts p (part ds ts p) refl e

-- the rest, where the list is closed
pub rest_by : (w : Table) (ks : List Kind) (r : ℕ) (parts : ℕ → Option Part) (keeper : Option ℕ) (qs : List ℕ) →
    IsTakable ks r parts →
    ((q : ℕ) → names r (from_of (at ks q)) ≡ true → is_heir w ks r parts q ≡ false → has qs q ≡ true) →
    ((q : ℕ) → is_lent_of r (at ks q) ≡ true → from_of (at ks q) ≡ None → has qs q ≡ true) →
    ((p q : ℕ) → has qs p ≡ true → names p (from_of (at ks q)) ≡ true → has qs q ≡ true) →
    ((p q : ℕ) → is_heir w ks r parts p ≡ true → (keeper ≡ Some p → ⊥) → names p (from_of (at ks q)) ≡ true →
    has qs q ≡ true) → Rest w ks r parts keeper qs
rest_by w ks r parts keeper qs t one loose down other q u l n =
    let i = t.whole.held q (sym (lent_in r (at ks q)) ∙ l) in
    rest_reaches ks r (is_heir w ks r parts) qs keeper one loose down other i.steps q (from_of (at ks q)) refl i.climb
    l n u

kept_seen : (ks : List Kind) (os : List (Option ℕ)) (p h : ℕ) → is_lent (at ks p) ≡ true → kept_at os p ≡ Some h →
    seen_at ks os p ≡ Some h
kept_seen ks os p h l e = ap (λ b. if b then kept_at os p else None) l ∙ e

pub down_by : (w : Table) (ks : List Kind) (r : ℕ) (parts : ℕ → Option Part) (qs more : List ℕ) (os : List (Option ℕ)) →
    ((p q : ℕ) → has qs p ≡ true → names p (from_of (at ks q)) ≡ true → has qs q ≡ true) → Grows qs more →
    ((q : ℕ) → has more q ≡ true → (has qs q ≡ true)
    ⊎ (is_lent_of r (at ks q) ≡ true → (h : ℕ) × (kept_at os q ≡ Some h))) → (p q : ℕ) → has more q ≡ false →
    names p (from_of (at ks q)) ≡ true → has more p ≡ true → is_lent_of r (at ks p) ≡ true →
    (h : ℕ) × (seen_at ks os p ≡ Some h)
down_by w ks r parts qs more os closed g only p q u e m l =
    elim (only p m) [
      | inl i ↦ absurd (let z = grows_has qs more g q (closed p q i e) in cc)
      | inr i ↦ (let h = i l in
          (h.0, kept_seen ks os p h.0 (in_lent (Some r) (at ks p) (sym (lent_in r (at ks p)) ∙ l)) h.1))
    ]

pub good_none : (w : Table) (ks : List Kind) (r : ℕ) (parts : ℕ → Option Part) (qs : List ℕ) (os : List (Option ℕ)) →
    qs ≡ [] → AreGood w ks r parts qs os
good_none w ks r parts qs os e q h = absurd (let z = ap (λ l. has l q) e in cc)
