-- The walk that numbers, and what its list is: all that is reached, in one order.
use Rattle.std.proofs.Common.{◌≡◌, ℕ, zero, suc, ◌+◌, ◌<◌, ◌≤◌, ◌⊎◌, inl, inr, Bool, true, false, List, [], ◌∷◌, ◌++◌, length, slice_get, Some, None, refl, ap, sym, subst, ◌∙◌, arith, if◌then◌else◌, append_assoc, append-nil}
use Rattle.std.specs.List.{list_any}
use Rattle.fip_base.specs.fip_language.Every.{Among}
use Rattle.fip_base.specs.fip_language.Mentions.{all_of}
use Rattle.closed_types.specs.Numbering.{with_new, Differ}
use Rattle.closed_types.specs.Numbering.{with_all, firsts, Way, Reached, AreNumbered, AreMore}
use Rattle.closed_types.proofs.Sameness.{IsSame, found, missing}
use Rattle.fip_base.proofs.fip_language.Facts.{length_append}
use Rattle.closed_types.proofs.Heard.{all_of_append as of_append}

-- ---- lists

pub among_left : {A : Type 0} (x : A) (xs ys : List A) → Among x xs → Among x (xs ++ ys)
among_left x [] ys h = absurd h
among_left x (y ∷ xs) ys (inl e) = inl e
among_left x (y ∷ xs) ys (inr h) = inr (among_left x xs ys h)

pub among_right : {A : Type 0} (x : A) (xs ys : List A) → Among x ys → Among x (xs ++ ys)
among_right x [] ys h = h
among_right x (y ∷ xs) ys h = inr (among_right x xs ys h)

pub among_either : {A : Type 0} (x : A) (xs ys : List A) → Among x (xs ++ ys) → Among x xs ⊎ Among x ys
among_either x [] ys h = inr h
among_either x (y ∷ xs) ys (inl e) = inl (inl e)
among_either x (y ∷ xs) ys (inr h) = later (among_either x xs ys h)
  where
    later : Among x xs ⊎ Among x ys → Among x (y ∷ xs) ⊎ Among x ys
    later (inl a) = inl (inr a)
    later (inr b) = inr b

pub among_of : {A B : Type 0} (f : A → List B) (x : A) (y : B) (xs : List A) → Among x xs → Among y (f x) → Among y (all_of f xs)
among_of f x y [] h g = absurd h
among_of f x y (z ∷ xs) (inl e) g = among_left y (f z) (all_of f xs) (subst (λ w. Among y (f w)) e g)
among_of f x y (z ∷ xs) (inr h) g = among_right y (f z) (all_of f xs) (among_of f x y xs h g)

differ_last : {A : Type 0} (xs : List A) (x : A) → (Among x xs → ⊥) → Differ xs → Differ (xs ++ x ∷ [])
differ_last [] x new d = ((λ h. h), tt)
differ_last (y ∷ ys) x new d = ((λ h. by (among_either y ys (x ∷ []) h)), differ_last ys x (λ h. new (inr h)) d.1)
  where
    by : Among y ys ⊎ Among y (x ∷ []) → ⊥
    by (inl h) = d.0 h
    by (inr (inl e)) = new (inl (sym e))
    by (inr (inr h)) = h

differ_apart : {A : Type 0} (xs : List A) (x : A) (ys : List A) → Differ (xs ++ x ∷ ys) → Among x xs → ⊥
differ_apart [] x ys d h = h
differ_apart (z ∷ xs) x ys d (inl e) = d.0 (subst (λ w. Among w (xs ++ x ∷ ys)) e (among_right x xs (x ∷ ys) (inl refl)))
differ_apart (z ∷ xs) x ys d (inr h) = differ_apart xs x ys d.1 h

cancel : {A : Type 0} (zs xs ys : List A) → zs ++ xs ≡ zs ++ ys → xs ≡ ys
cancel [] xs ys e = e
cancel (z ∷ zs) xs ys e = cancel zs xs ys (let f : zs ++ xs ≡ zs ++ ys = cc in f)

-- ---- with_new and with_all

module _ {A : Type 0} (same : A → A → Bool) (exact : IsSame same) where
  -- what adding does: others stand after, each of them new, and from what was added
  pub record Adds (xs ys zs : List A) : Type 0 where
    pub more : List A
    pub following : zs ≡ xs ++ more
    pub has : (y : A) → Among y ys → Among y zs
    pub only : (z : A) → Among z zs → Among z xs ⊎ Among z ys
    pub differ : Differ xs → Differ zs

  adds_by : (b : Bool) (xs : List A) (x : A) → list_any (λ z. same x z) xs ≡ b → Adds xs (x ∷ []) (if b then xs else xs ++ x ∷ [])
  adds_by true xs x e =
      record {
        more = [];
        following = sym (append-nil xs);
        has = λ y h. elim h as (λ _. Among y xs) [ inl q ↦ subst (λ w. Among w xs) (sym q) (found same exact x xs e) | inr k ↦ absurd k ];
        only = λ z h. inl h;
        differ = λ d. d;
      }
  adds_by false xs x e =
      record {
        more = x ∷ [];
        following = refl;
        has = λ y h. among_right y xs (x ∷ []) h;
        only = λ z h. among_either z xs (x ∷ []) h;
        differ = differ_last xs x (missing same exact x xs e);
      }

  adds_new : (xs : List A) (x : A) → Adds xs (x ∷ []) (with_new same xs x)
  adds_new xs x = adds_by (list_any (λ z. same x z) xs) xs x refl

  adds_more : (xs : List A) (y : A) (ys us vs : List A) → Adds xs (y ∷ []) us → Adds us ys vs → Adds xs (y ∷ ys) vs
  adds_more xs y ys us vs a b =
      record {
        more = a.more ++ b.more;
        following = b.following ∙ ap (λ l. l ++ b.more) a.following ∙ append_assoc xs a.more b.more;
        has = λ z h. elim h as (λ _. Among z vs) [
          | inl e ↦ subst (λ l. Among z l) (sym b.following) (among_left z us b.more (a.has z (inl e)))
          | inr k ↦ b.has z k
        ];
        only = λ z h. elim (b.only z h) as (λ _. Among z xs ⊎ Among z (y ∷ ys)) [
          | inl k ↦ first z (a.only z k)
          | inr k ↦ inr (inr k)
        ];
        differ = λ d. b.differ (a.differ d);
      }
    where
      first : (z : A) → Among z xs ⊎ Among z (y ∷ []) → Among z xs ⊎ Among z (y ∷ ys)
      first z (inl k) = inl k
      first z (inr (inl e)) = inr (inl e)
      first z (inr (inr k)) = absurd k

  pub adds : (xs ys : List A) → Adds xs ys (with_all same xs ys)
  adds xs [] = record { more = []; following = sym (append-nil xs); has = λ y h. absurd h; only = λ z h. inl h; differ = λ d. d }
  adds xs (y ∷ ys) = adds_more xs y ys (with_new same xs y) (with_all same (with_new same xs y) ys) (adds_new xs y) (adds (with_new same xs y) ys)

  pub all_append : (xs ys zs : List A) → with_all same xs (ys ++ zs) ≡ with_all same (with_all same xs ys) zs
  all_append xs [] zs = refl
  all_append xs (y ∷ ys) zs = all_append (with_new same xs y) ys zs

  -- ---- the walk: what comes next from the first ones has been added, what waits is after them

  pub record IsWalk (roots : List A) (next : A → List A) (i : ℕ) (xs : List A) : Type 0 where
    pub done : List A
    pub waits : List A
    pub split : xs ≡ done ++ waits
    pub so_many : length done ≡ i
    pub ordered : xs ≡ firsts same (roots ++ all_of next done)
    pub reached : (x : A) → Among x xs → Reached roots next x

  root_reached : (roots : List A) (next : A → List A) (x : A) → Among x roots → Reached roots next x
  root_reached roots next x h = record { root = x; among = h; over = []; way = refl }

  way_on : (next : A → List A) (x : A) (ys : List A) (y z : A) → Way next x ys y → Among z (next y) → Way next x (ys ++ z ∷ []) z
  way_on next x [] y z w h = (subst (λ v. Among z (next v)) (sym w) h, refl)
  way_on next x (v ∷ ys) y z w h = (w.0, way_on next v ys y z w.1 h)

  pub next_reached : (roots : List A) (next : A → List A) (x y : A) → Reached roots next x → Among y (next x) → Reached roots next y
  next_reached roots next x y r h = record { root = r.root; among = r.among; over = r.over ++ y ∷ []; way = way_on next r.root r.over x y r.way h }

  pub walk_starts : (roots : List A) (next : A → List A) → IsWalk roots next 0 (firsts same roots)
  walk_starts roots next =
      record {
        done = [];
        waits = firsts same roots;
        split = refl;
        so_many = refl;
        ordered = ap (firsts same) (sym (append-nil roots));
        reached = λ x h. elim ((adds [] roots).only x h) as (λ _. Reached roots next x) [ inl k ↦ absurd k | inr k ↦ root_reached roots next x k ];
      }

  shift : (done : List A) (x : A) (rest : List A) → done ++ x ∷ rest ≡ (done ++ x ∷ []) ++ rest
  shift done x rest = sym (append_assoc done (x ∷ []) rest)

  -- the item at i is the first that waits
  first_waits : (done waits : List A) (i : ℕ) (x : A) → length done ≡ i → slice_get (done ++ waits) i ≡ Some x → (rest : List A) × (waits ≡ x ∷ rest)
  first_waits [] [] zero x n e = cc
  first_waits [] (w ∷ ws) zero x n e = (ws, (let f : w ≡ x = cc in ap (λ v. v ∷ ws) f))
  first_waits [] ws (suc i) x n e = absurd (omega (arith, n))
  first_waits (d ∷ done) ws zero x n e = absurd (omega (arith, n))
  first_waits (d ∷ done) ws (suc i) x n e = first_waits done ws i x (omega (arith, n)) e

  none_waits : (done waits : List A) (i : ℕ) → length done ≡ i → slice_get (done ++ waits) i ≡ None → waits ≡ []
  none_waits [] [] i n e = refl
  none_waits [] (w ∷ ws) zero n e = cc
  none_waits [] (w ∷ ws) (suc i) n e = absurd (omega (arith, n))
  none_waits (d ∷ done) ws zero n e = absurd (omega (arith, n))
  none_waits (d ∷ done) ws (suc i) n e = none_waits done ws i (omega (arith, n)) e

  ordered_on : (roots : List A) (next : A → List A) (done : List A) (x : A) (xs : List A) → xs ≡ firsts same (roots ++ all_of next done) → with_all same xs (next x) ≡ firsts same (roots ++ all_of next (done ++ x ∷ []))
  ordered_on roots next done x xs e =
      ap (λ l. with_all same l (next x)) e
      ∙ sym (all_append [] (roots ++ all_of next done) (next x))
      ∙ ap (firsts same) (append_assoc roots (all_of next done) (next x))
      ∙ ap (λ l. firsts same (roots ++ l)) (ap (λ l. all_of next done ++ l) (sym (append-nil (next x))) ∙ sym (of_append next done (x ∷ [])))

  goes_by : (roots : List A) (next : A → List A) (i : ℕ) (xs : List A) (x : A) (w : IsWalk roots next i xs) (rest : List A) → w.waits ≡ x ∷ rest → IsWalk roots next (i + 1) (with_all same xs (next x))
  goes_by roots next i xs x w rest e =
      let a = adds xs (next x) in
      let here : xs ≡ w.done ++ x ∷ rest = w.split ∙ ap (λ l. w.done ++ l) e in
      let n = w.so_many in
      let m = length_append w.done (x ∷ []) in
      record {
        done = w.done ++ x ∷ [];
        waits = rest ++ a.more;
        split = a.following ∙ ap (λ l. l ++ a.more) (here ∙ shift w.done x rest) ∙ append_assoc (w.done ++ x ∷ []) rest a.more;
        so_many = omega (arith, n, m);
        ordered = ordered_on roots next w.done x xs w.ordered;
        reached = λ y h. elim (a.only y h) as (λ _. Reached roots next y) [
          | inl k ↦ w.reached y k
          | inr k ↦ next_reached roots next x y (w.reached x (subst (λ l. Among x l) (sym here) (among_right x w.done (x ∷ rest) (inl refl)))) k
        ];
      }

  pub walk_goes : (roots : List A) (next : A → List A) (i : ℕ) (xs : List A) (x : A) → slice_get xs i ≡ Some x → IsWalk roots next i xs → IsWalk roots next (i + 1) (with_all same xs (next x))
  walk_goes roots next i xs x e w =
      let f = first_waits w.done w.waits i x w.so_many (ap (λ l. slice_get l i) (sym w.split) ∙ e) in
      goes_by roots next i xs x w f.0 f.1

  pub walk_ends : (roots : List A) (next : A → List A) (i : ℕ) (xs : List A) → slice_get xs i ≡ None → IsWalk roots next i xs → AreNumbered same roots next xs
  walk_ends roots next i xs e w =
      let f = none_waits w.done w.waits i w.so_many (ap (λ l. slice_get l i) (sym w.split) ∙ e) in
      let all : xs ≡ w.done = w.split ∙ ap (λ l. w.done ++ l) f ∙ append-nil w.done in
      record { reached = w.reached; ordered = w.ordered ∙ ap (λ l. firsts same (roots ++ all_of next l)) (sym all) }

  firsts_differ : (ys : List A) → Differ (firsts same ys)
  firsts_differ ys = (adds [] ys).differ tt

  pub walk_many : (roots : List A) (next : A → List A) (i n : ℕ) (xs : List A) → n < length xs → IsWalk roots next i xs → AreMore n roots next
  walk_many roots next i n xs h w = record { some = xs; differ = subst Differ (sym w.ordered) (firsts_differ (roots ++ all_of next w.done)); reached = w.reached; many = h }

  -- ---- a numbered list

  pub numbered_differ : (roots : List A) (next : A → List A) (xs : List A) → AreNumbered same roots next xs → Differ xs
  numbered_differ roots next xs h = subst Differ (sym h.ordered) (firsts_differ (roots ++ all_of next xs))

  pub numbered_roots : (roots : List A) (next : A → List A) (xs : List A) → AreNumbered same roots next xs → (x : A) → Among x roots → Among x xs
  numbered_roots roots next xs h x a =
      subst (λ l. Among x l) (sym h.ordered) ((adds [] (roots ++ all_of next xs)).has x (among_left x roots (all_of next xs) a))

  pub numbered_next : (roots : List A) (next : A → List A) (xs : List A) → AreNumbered same roots next xs → (x y : A) → Among x xs → Among y (next x) → Among y xs
  numbered_next roots next xs h x y a b =
      subst (λ l. Among y l) (sym h.ordered) ((adds [] (roots ++ all_of next xs)).has y (among_right y roots (all_of next xs) (among_of next x y xs a b)))

  along : (next : A → List A) (P : A → Type 0) → ((x y : A) → P x → Among y (next x) → P y) → (x : A) (ys : List A) (z : A) → P x → Way next x ys z → P z
  along next P step x [] z p w = subst P w p
  along next P step x (y ∷ ys) z p w = along next P step y ys z (step x y p w.0) w.1

  -- what is reached is in every set that holds the roots and is closed
  pub reached_in : (roots : List A) (next : A → List A) (P : A → Type 0) → ((x : A) → Among x roots → P x) → ((x y : A) → P x → Among y (next x) → P y) → (x : A) → Reached roots next x → P x
  reached_in roots next P root step x r = along next P step r.root r.over x (root r.root r.among) r.way

  pub numbered_all : (roots : List A) (next : A → List A) (xs : List A) → AreNumbered same roots next xs → (x : A) → Reached roots next x → Among x xs
  numbered_all roots next xs h = reached_in roots next (λ x. Among x xs) (numbered_roots roots next xs h) (numbered_next roots next xs h)

  -- ---- no more are reached than are numbered

  abbrev without : A → List A → List A
  without x [] = []
  without x (y ∷ ys) = if same x y then ys else y ∷ without x ys

  shorter_by : (b : Bool) (x y : A) (ys : List A) → same x y ≡ b → (Among x ys → suc (length (without x ys)) ≡ length ys) → Among x (y ∷ ys) → suc (length (if b then ys else y ∷ without x ys)) ≡ length (y ∷ ys)
  shorter_by true x y ys e rest h = refl
  shorter_by false x y ys e rest (inl q) = absurd (exact.no x y e q)
  shorter_by false x y ys e rest (inr h) = ap suc (rest h)

  shorter : (x : A) (ys : List A) → Among x ys → suc (length (without x ys)) ≡ length ys
  shorter x [] h = absurd h
  shorter x (y ∷ ys) h = shorter_by (same x y) x y ys refl (shorter x ys) h

  stays_by : (b : Bool) (x z y : A) (ys : List A) → same x y ≡ b → (z ≡ x → ⊥) → (Among z ys → Among z (without x ys)) → Among z (y ∷ ys) → Among z (if b then ys else y ∷ without x ys)
  stays_by true x z y ys e other rest (inl q) = absurd (other (q ∙ sym (exact.yes x y e)))
  stays_by true x z y ys e other rest (inr h) = h
  stays_by false x z y ys e other rest (inl q) = inl q
  stays_by false x z y ys e other rest (inr h) = inr (rest h)

  stays : (x z : A) (ys : List A) → (z ≡ x → ⊥) → Among z ys → Among z (without x ys)
  stays x z [] other h = h
  stays x z (y ∷ ys) other h = stays_by (same x y) x z y ys refl other (stays x z ys other) h

  pub no_longer : (xs ys : List A) → Differ xs → ((x : A) → Among x xs → Among x ys) → length xs ≤ length ys
  no_longer [] ys d h = omega arith
  no_longer (x ∷ xs) ys d h =
      let s = shorter x ys (h x (inl refl)) in
      let r = no_longer xs (without x ys) d.1 (λ z k. stays x z ys (λ q. d.0 (subst (λ w. Among w xs) q k)) (h z (inr k))) in
      omega (arith, s, r)

  -- where at most n are numbered, no more are reached
  pub numbered_few : (roots : List A) (next : A → List A) (xs : List A) (n : ℕ) → AreNumbered same roots next xs → length xs ≤ n → AreMore n roots next → ⊥
  numbered_few roots next xs n h few more =
      let l = no_longer more.some xs more.differ (λ x k. numbered_all roots next xs h x (more.reached x k)) in
      let m = more.many in
      omega (arith, few, l, m)

  -- ---- there is one numbering

  -- xs goes on after done, or all of it is in done
  goes_or_within : (ws us done : List A) (x : A) (rest : List A) → ws ++ us ≡ done ++ x ∷ rest → ((more : List A) × (ws ≡ done ++ x ∷ more)) ⊎ ((z : A) → Among z ws → Among z done)
  goes_or_within [] us done x rest e = inr (λ z h. absurd h)
  goes_or_within (w ∷ ws) us [] x rest e = inl (ws, (let f : w ≡ x = cc in ap (λ v. v ∷ ws) f))
  goes_or_within (w ∷ ws) us (d ∷ done) x rest e =
      let f : w ≡ d = cc in
      let g : ws ++ us ≡ done ++ x ∷ rest = cc in
      elim (goes_or_within ws us done x rest g) as (λ _. ((more : List A) × (w ∷ ws ≡ (d ∷ done) ++ x ∷ more)) ⊎ ((z : A) → Among z (w ∷ ws) → Among z (d ∷ done))) [
        | inl k ↦ inl (k.0, ap (λ l. w ∷ l) k.1 ∙ ap (λ v. v ∷ (done ++ x ∷ k.0)) f)
        | inr k ↦ inr (λ z h. elim h as (λ _. Among z (d ∷ done)) [ inl q ↦ inl (q ∙ f) | inr a ↦ inr (k z a) ])
      ]

  -- the list is what is reached from its first ones, with more after
  prefix_of : (roots : List A) (next : A → List A) (done rest : List A) → AreNumbered same roots next (done ++ rest) → (us : List A) × (firsts same (roots ++ all_of next done) ++ us ≡ done ++ rest)
  prefix_of roots next done rest h =
      let a = adds (firsts same (roots ++ all_of next done)) (all_of next rest) in (
        a.more,
        sym a.following
            ∙ sym (all_append [] (roots ++ all_of next done) (all_of next rest))
            ∙ ap (firsts same) (append_assoc roots (all_of next done) (all_of next rest) ∙ ap (λ l. roots ++ l) (sym (of_append next done rest)))
            ∙ sym h.ordered,
      )

  -- where all that the first ones reach is among them, nothing stands after them
  closed_all : (roots : List A) (next : A → List A) (done : List A) → ((z : A) → Among z (firsts same (roots ++ all_of next done)) → Among z done) → (x : A) → Reached roots next x → Among x done
  closed_all roots next done h =
      let a = adds [] (roots ++ all_of next done) in
      reached_in roots next (λ x. Among x done) (λ x k. h x (a.has x (among_left x roots (all_of next done) k))) (λ x y k l. h y (a.has y (among_right y roots (all_of next done) (among_of next x y done k l))))

  one_more : (roots : List A) (next : A → List A) (done : List A) (x : A) (rest : List A) → AreNumbered same roots next (done ++ x ∷ rest) → (more : List A) × (firsts same (roots ++ all_of next done) ≡ done ++ x ∷ more)
  one_more roots next done x rest h =
      let p = prefix_of roots next done (x ∷ rest) h in
      elim (goes_or_within (firsts same (roots ++ all_of next done)) p.0 done x rest p.1) as (λ _. (more : List A) × (firsts same (roots ++ all_of next done) ≡ done ++ x ∷ more)) [
        | inl k ↦ k
        | inr k ↦ absurd (differ_apart done x rest (numbered_differ roots next (done ++ x ∷ rest) h) (closed_all roots next done k x (h.reached x (among_right x done (x ∷ rest) (inl refl)))))
      ]

  -- nothing stands after a whole numbering
  no_more : (roots : List A) (next : A → List A) (done : List A) (x : A) (rest : List A) → AreNumbered same roots next done → AreNumbered same roots next (done ++ x ∷ rest) → ⊥
  no_more roots next done x rest h g =
      differ_apart done x rest (numbered_differ roots next (done ++ x ∷ rest) g) (numbered_all roots next done h x (g.reached x (among_right x done (x ∷ rest) (inl refl))))

  head_same : (done : List A) (x y : A) (xs ys : List A) → done ++ x ∷ xs ≡ done ++ y ∷ ys → x ≡ y
  head_same [] x y xs ys e = cc
  head_same (d ∷ done) x y xs ys e = head_same done x y xs ys (let f : done ++ x ∷ xs ≡ done ++ y ∷ ys = cc in f)

  rest_same : (roots : List A) (next : A → List A) (done xs ys : List A) → AreNumbered same roots next (done ++ xs) → AreNumbered same roots next (done ++ ys) → xs ≡ ys
  rest_same roots next done [] [] h g = refl
  rest_same roots next done [] (y ∷ ys) h g = absurd (no_more roots next done y ys (subst (AreNumbered same roots next) (append-nil done) h) g)
  rest_same roots next done (x ∷ xs) [] h g = absurd (no_more roots next done x xs (subst (AreNumbered same roots next) (append-nil done) g) h)
  rest_same roots next done (x ∷ xs) (y ∷ ys) h g =
      let a = one_more roots next done x xs h in
      let b = one_more roots next done y ys g in
      let e : x ≡ y = head_same done x y a.0 b.0 (sym a.1 ∙ b.1) in
      let g' : AreNumbered same roots next (done ++ x ∷ ys) = subst (λ w. AreNumbered same roots next (done ++ w ∷ ys)) (sym e) g in
      ap (λ w. w ∷ xs) e ∙ ap (λ l. y ∷ l) (rest_same roots next (done ++ x ∷ []) xs ys (subst (AreNumbered same roots next) (shift done x xs) h) (subst (AreNumbered same roots next) (shift done x ys) g'))

  pub one_numbering : (roots : List A) (next : A → List A) (xs ys : List A) → AreNumbered same roots next xs → AreNumbered same roots next ys → xs ≡ ys
  one_numbering roots next = rest_same roots next []
