-- A function breaks none of the rules exactly where it is derived.
use Rattle.std.proofs.Common.{◌≡◌, ℕ, ◌≤◌, refl, sym, List, Bool, true, false, arith}
use Rattle.std.specs.Prelude.{if◌then◌else◌}
use Rattle.ownership_calculus.specs.Terms.{given, Term, Own, Credit, has}
use Rattle.ownership_calculus.specs.Rules.{Fits, setting}
use Rattle.ownership_calculus.specs.ByCases.{Derives}
use Rattle.ownership_calculus.specs.Clean.{Status, Free, Owned, asks, fewest, AllUsed, Even}
use Rattle.ownership_calculus.specs.Functions.{starting, parameters, Derived, Accepted}
use Rattle.ownership_calculus.proofs.Fit.{held, room, visible}
use Rattle.ownership_calculus.proofs.Counts.{asks_le, few, even}
use Rattle.ownership_calculus.proofs.Back.{clean}
use Rattle.ownership_calculus.proofs.Forth.{derive, clean_room, all_used_at}
use Rattle.ownership_calculus.proofs.Faithful.{by_cases, by_rules}

-- o: whether it is owned; l: whether it is borrowed
abbrev start : Bool → Bool → Status
start o l = if o then Owned false false else (if l then Free else Owned true false)

see_start : (o l : Bool) → visible (start o l) ≡ true → (if o then false else l) ≡ true
see_start true l h = h
see_start false true h = refl
see_start false false h = h

see_back : (o l : Bool) → (if o then false else l) ≡ true → visible (start o l) ≡ true
see_back true l h = h
see_back false true h = refl
see_back false false h = h

pub held_start : (o l : Bool) → held (start o l) ≡ (if o then 1 else 0)
held_start true l = refl
held_start false true = refl
held_start false false = refl

pub room_start : (o l : Bool) → room (start o l) ≡ held (start o l)
room_start true l = refl
room_start false true = refl
room_start false false = refl

pub few_start : (o l : Bool) (f : ℕ) → (o ≡ true → 1 ≤ f) → held (start o l) ≤ f
few_start true l f h = h refl
few_start false true f h = omega arith
few_start false false f h = omega arith

same_fits : (fip : Bool) (a b : ℕ) → a ≡ b → Fits fip b a
same_fits true a b e = sym e
same_fits false a b e = omega arith

abbrev Cases : Bool → List ℕ → List ℕ → List ℕ → Term → Type 0
Cases fip lent own ks e = Derives fip (setting own false (has lent)) (starting own ks) e

derived_cases : (fip : Bool) (lent own ks : List ℕ) (e : Term) → Accepted fip lent own ks e → Cases fip lent own ks e
derived_cases fip lent own ks e a =
    derive fip (setting own false (has lent)) (starting own ks) (parameters lent own) e
    (λ x. see_start (has own x) (has lent x))
    (λ x. same_fits fip (held (parameters lent own x)) (starting own ks (Own x)) (held_start (has own x) (has lent x)))
    (λ k x. few_start (has own x) (has lent x) (fewest x e) (all_used_at fip own e a.1 k x))
    (λ x. let g = clean_room fip (parameters lent own) e a.0 x in let r = room_start (has own x) (has lent x) in omega arith)
    a.2
    a.0 a.3

pub is_derived : (fip : Bool) (lent own ks : List ℕ) (e : Term) → Accepted fip lent own ks e → Derived fip lent own ks e
is_derived fip lent own ks e a = by_rules fip (setting own false (has lent)) (starting own ks) e (derived_cases fip lent own ks e a)

one_of : (b : Bool) (f : ℕ) → b ≡ true → (if b then 1 else 0) ≤ f → 1 ≤ f
one_of true f e h = h
one_of false f e h = absurd (cc)

used_start : (fip : Bool) (lent own ks : List ℕ) (e : Term) → Cases fip lent own ks e → AllUsed fip own e
used_start true lent own ks e d = λ x h. one_of (has own x) (fewest x e) h (few (setting own false (has lent)) (starting own ks) e d x)
used_start false lent own ks e d = tt

even_start : (fip : Bool) (lent own ks : List ℕ) (e : Term) → Cases fip lent own ks e → fip ≡ true → Even e
even_start true lent own ks e d k = (even (setting own false (has lent)) (starting own ks) e d).1
even_start false lent own ks e d k = absurd (cc)

credit_start : (fip : Bool) (lent own ks : List ℕ) (e : Term) → Cases fip lent own ks e → (k : ℕ) → Fits fip (given k ks) (asks (Credit k) e)
credit_start true lent own ks e d k = (even (setting own false (has lent)) (starting own ks) e d).0 k
credit_start false lent own ks e d k = asks_le false (setting own false (has lent)) (starting own ks) e d (Credit k)

accepted_cases : (fip : Bool) (lent own ks : List ℕ) (e : Term) → Cases fip lent own ks e → Accepted fip lent own ks e
accepted_cases fip lent own ks e d = (
  clean fip (setting own false (has lent)) (starting own ks) (parameters lent own) e d
      (λ x. see_back (has own x) (has lent x))
      (λ x. let r = room_start (has own x) (has lent x) in let g = held_start (has own x) (has lent x) in omega arith)
      (λ x. let g = held_start (has own x) (has lent x) in let h = asks_le fip (setting own false (has lent)) (starting own ks) e d (Own x) in omega arith),
  used_start fip lent own ks e d,
  credit_start fip lent own ks e d,
  even_start fip lent own ks e d,
)

pub is_accepted : (fip : Bool) (lent own ks : List ℕ) (e : Term) → Derived fip lent own ks e → Accepted fip lent own ks e
is_accepted fip lent own ks e d = accepted_cases fip lent own ks e (by_cases fip (setting own false (has lent)) (starting own ks) e d)
