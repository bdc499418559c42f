-- Which label maps were seen to fit, and what has changed since.
use Rattle.std.proofs.Common.{◌≡◌, ℕ, zero, suc, ◌+◌, ◌<◌, ◌≤◌, ◌⊎◌, inl, inr, List, [], ◌∷◌, ◌++◌, length, take, drop, map, set, refl, sym, ap, ◌∙◌, arith}
use Rattle.std.specs.Prelude.{Option, Some, None, slice_get}
use Rattle.std.proofs.lemmas.Bool.Decides.{eqb_tells}
use Rattle.std.proofs.lemmas.List.{length-take-le}
use Rattle.code_rules.specs.Kinds.{has}
use Rattle.kind_domain.specs.declared.log.Seen.{Seen}
use Rattle.kind_domain.specs.Sights.{since_of, AreSights, IsLog, HasBefore}
use Rattle.kind_domain.proofs.LentLists.{take_set, has_more, has_new, items_long}

some_is : (a b : List ℕ) → Some a ≡ Some b → a ≡ b
some_is a b e = cc

some_is_some : {A : Type 0} (a : Option A) (b : A) → Some a ≡ Some (Some b) → a ≡ Some b
some_is_some a b e = cc

abbrev turn_in : Seen → Option Seen → ℕ
turn_in x None = 0
turn_in x (Some s) = s.turn

abbrev changes_in : Seen → Option Seen → ℕ
changes_in x None = 0
changes_in x (Some s) = s.changes

plus_one : (n : ℕ) → n + 1 ≡ suc n
plus_one n = omega arith

since_now : (turn : ℕ) (changes : List ℕ) (s : Seen) → s.turn ≡ turn →
    since_of turn changes (Some s) ≡ Some (drop s.changes changes)
since_now turn changes s e =
    elim (eqb_tells s.turn turn) [ inl g ↦ rw g.0 refl | inr g ↦ absurd (g.1 e) ]

some_not : (xs : List ℕ) → None ≡ Some xs → ⊥
some_not xs e = cc

-- what was seen in a turn, and its changes
record Found (turn : ℕ) (changes : List ℕ) (seen : List (Option Seen)) (l : ℕ) (xs : List ℕ) : Type 0 where
  pub sight : Seen
  pub there : slice_get seen l ≡ Some (Some sight)
  pub turned : sight.turn ≡ turn
  pub changed : xs ≡ drop sight.changes changes

found_one : (turn : ℕ) (changes : List ℕ) (o : Option Seen) (xs : List ℕ) → since_of turn changes o ≡ Some xs →
    Found turn changes (o ∷ []) 0 xs
found_one turn changes None xs e = absurd (cc)
found_one turn changes (Some s) xs e =
    elim (eqb_tells s.turn turn) [
      | inl g ↦ (let f = (rw g.0 at e) in record {
        sight = s;
        there = refl;
        turned = g.1;
        changed = sym (some_is (drop s.changes changes) xs f);
      })
      | inr g ↦ (let f = (rw g.0 at e) in absurd (some_not xs f))
    ]

found : (turn : ℕ) (changes : List ℕ) (seen : List (Option Seen)) (l : ℕ) (xs : List ℕ) →
    slice_get (map (since_of turn changes) seen) l ≡ Some (Some xs) → Found turn changes seen l xs
found turn changes [] l xs e = absurd (cc)
found turn changes (o ∷ seen) zero xs e =
    let f = found_one turn changes o xs (some_is_some (since_of turn changes o) xs e) in
    record { sight = f.sight; there = f.there; turned = f.turned; changed = f.changed }
found turn changes (o ∷ seen) (suc l) xs e =
    let f = found turn changes seen l xs e in
    record { sight = f.sight; there = f.there; turned = f.turned; changed = f.changed }

pub never_seen : (turn : ℕ) (changes : List ℕ) (seen : List (Option Seen)) →
    ((l : ℕ) (s : Seen) → slice_get seen l ≡ Some (Some s) → ⊥) → (l : ℕ) (xs : List ℕ) →
    slice_get (map (since_of turn changes) seen) l ≡ Some (Some xs) → ⊥
never_seen turn changes seen h l xs e = let f = found turn changes seen l xs e in h l f.sight f.there

-- a new turn

not_turned : (s turn top changes next : ℕ) → turn < next → (s < turn) ⊎ ((s ≡ turn) × (changes ≤ top)) → s ≡ next → ⊥
not_turned s turn top changes next l (inl h) e = omega arith
not_turned s turn top changes next l (inr h) e = let g = h.0 in omega arith

pub none_seen : (turn top next : ℕ) (changes : List ℕ) (seen : List (Option Seen)) → turn < next →
    AreSights seen turn top → (l : ℕ) (xs : List ℕ) →
    slice_get (map (since_of next changes) seen) l ≡ Some (Some xs) → ⊥
none_seen turn top next changes seen n h l xs e =
    let f = found next changes seen l xs e in
    not_turned f.sight.turn turn top f.sight.changes next n (h l f.sight f.there) f.turned

-- one more change

drop_last : (c : ℕ) (ys : List ℕ) (x : ℕ) → c ≤ length ys → drop c (ys ++ x ∷ []) ≡ drop c ys ++ x ∷ []
drop_last zero ys x h = refl
drop_last (suc c) [] x h = absurd (omega arith)
drop_last (suc c) (y ∷ ys) x h = drop_last c ys x (omega arith)

changes_few : (s turn top changes : ℕ) → (s < turn) ⊎ ((s ≡ turn) × (changes ≤ top)) → s ≡ turn → changes ≤ top
changes_few s turn top changes (inl h) e = absurd (omega arith)
changes_few s turn top changes (inr h) e = h.1

since_is : (turn : ℕ) (changes : List ℕ) (seen : List (Option Seen)) (l : ℕ) (s : Seen) →
    slice_get seen l ≡ Some (Some s) → s.turn ≡ turn →
    slice_get (map (since_of turn changes) seen) l ≡ Some (Some (drop s.changes changes))
since_is turn changes [] l s e t = absurd (cc)
since_is turn changes (o ∷ seen) zero s e t =
    ap (λ x. Some (since_of turn changes x)) (some_is_some o s e) ∙ ap Some (since_now turn changes s t)
since_is turn changes (o ∷ seen) (suc l) s e t = since_is turn changes seen l s e t

pub has_before : (items : List ℕ) (top turn x : ℕ) (seen : List (Option Seen)) → IsLog items top turn seen →
    top < length items → (l : ℕ) (xs : List ℕ) →
    slice_get (map (since_of turn (take (top + 1) (set items top x))) seen) l ≡ Some (Some xs) →
    HasBefore (map (since_of turn (take top items)) seen) l xs x
has_before items top turn x seen h n l xs e =
    let f = found turn (take (top + 1) (set items top x)) seen l xs e in
    let few = changes_few f.sight.turn turn top f.sight.changes (h.sights l f.sight f.there) f.turned in
    let long = length-take-le top items h.within in
    let same : xs ≡ drop f.sight.changes (take top items) ++ x ∷ []
    = f.changed ∙ ap (λ n. drop f.sight.changes (take n (set items top x))) (plus_one top)
    ∙ ap (drop f.sight.changes) (take_set items top x n)
    ∙ drop_last f.sight.changes (take top items) x (omega arith) in
    record {
      before = drop f.sight.changes (take top items);
      is = since_is turn (take top items) seen l f.sight f.there f.turned;
      more = λ q g. ap (λ ys. has ys q) same ∙ has_more (drop f.sight.changes (take top items)) x q g;
      new = ap (λ ys. has ys x) same ∙ has_new (drop f.sight.changes (take top items)) x;
    }

sights_more_one : (s turn top changes : ℕ) → (s < turn) ⊎ ((s ≡ turn) × (changes ≤ top)) →
    (s < turn) ⊎ ((s ≡ turn) × (changes ≤ top + 1))
sights_more_one s turn top changes (inl h) = inl h
sights_more_one s turn top changes (inr h) = inr (h.0, (let g = h.1 in omega arith))

pub log_more : (items : List ℕ) (top turn x : ℕ) (seen : List (Option Seen)) → IsLog items top turn seen →
    top < length items → IsLog (set items top x) (top + 1) turn seen
log_more items top turn x seen h n = record {
  within = let l = items_long items top x in omega arith;
  sights = λ l s e. sights_more_one s.turn turn top s.changes (h.sights l s e);
}

-- seen now

seen_set : (seen : List (Option Seen)) (d l : ℕ) (x y : Option Seen) → slice_get (set seen d x) l ≡ Some y →
    (x ≡ y) ⊎ (slice_get seen l ≡ Some y)
seen_set [] d l x y e = absurd (cc)
seen_set (o ∷ seen) zero zero x y e = inl (cc)
seen_set (o ∷ seen) zero (suc l) x y e = inr e
seen_set (o ∷ seen) (suc d) zero x y e = inr e
seen_set (o ∷ seen) (suc d) (suc l) x y e = seen_set seen d l x y e

seen_now : (turn top : ℕ) (seen : List (Option Seen)) (l : ℕ) (x s : Seen) → AreSights seen turn top →
    x.turn ≡ turn → x.changes ≡ top → (Some x ≡ Some s) ⊎ (slice_get seen l ≡ Some (Some s)) →
    (s.turn < turn) ⊎ ((s.turn ≡ turn) × (s.changes ≤ top))
seen_now turn top seen l x s h t c (inl e) =
    let a = ap (turn_in x) e in let b = ap (changes_in x) e in inr (sym a ∙ t, (omega arith))
seen_now turn top seen l x s h t c (inr e) = h l s e

pub log_seen : (items : List ℕ) (top turn d : ℕ) (seen : List (Option Seen)) (x : Seen) → IsLog items top turn seen →
    x.turn ≡ turn → x.changes ≡ top → IsLog items top turn (set seen d (Some x))
log_seen items top turn d seen x h t c = record {
  within = h.within;
  sights = λ l s e. seen_now turn top seen l x s h.sights t c (seen_set seen d l (Some x) (Some s) e);
}

map_set_other : (f : Option Seen → Option (List ℕ)) (seen : List (Option Seen)) (d l : ℕ) (x : Option Seen) →
    (d ≡ l → ⊥) → slice_get (map f (set seen d x)) l ≡ slice_get (map f seen) l
map_set_other f [] d l x h = refl
map_set_other f (o ∷ seen) zero zero x h = absurd (h refl)
map_set_other f (o ∷ seen) zero (suc l) x h = refl
map_set_other f (o ∷ seen) (suc d) zero x h = refl
map_set_other f (o ∷ seen) (suc d) (suc l) x h = map_set_other f seen d l x (λ e. h (ap suc e))

pub seen_other : (turn : ℕ) (changes : List ℕ) (seen : List (Option Seen)) (d l : ℕ) (x : Option Seen) (xs : List ℕ) →
    (d ≡ l → ⊥) → slice_get (map (since_of turn changes) (set seen d x)) l ≡ Some (Some xs) →
    slice_get (map (since_of turn changes) seen) l ≡ Some (Some xs)
seen_other turn changes seen d l x xs h e = sym (map_set_other (since_of turn changes) seen d l x h) ∙ e
