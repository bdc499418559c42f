-- Names of the registers that own trees.
use Rattle.std.proofs.Common.{◌≡◌, ℕ, zero, suc, ◌+◌, ◌<◌, ◌≤◌, inl, inr, List, [], ◌∷◌, ◌++◌, length, drop, map, set, get_or, refl, sym, ap, ◌∙◌, subst, arith}
use Rattle.std.specs.Prelude.{true, false, ◌&&◌, Some, None, slice_get}
use Rattle.std.proofs.lemmas.Bool.{eq-eqb, ne_eqb}
use Rattle.std.proofs.lemmas.Bool.Decides.{eqb_tells}
use Rattle.cell_code.specs.declared.kind.Kind.{Kind}
use Rattle.cell_code.specs.declared.kind.Kind.TheVariants.{Gone, Scalar, Owned, Lent, Credit}
use Rattle.code_rules.specs.Kinds.{at, are_free, from_of, is_free, is_lent_of, set_of}
use Rattle.kind_domain.specs.Owners.{AreNames, number_at, number_or, rooted, swapped}
use Rattle.kind_domain.specs.declared.known.Known.{Known}
use Rattle.kind_domain.specs.Views.{kind_of, kinds_of}
use Rattle.kind_domain.proofs.Places.{kinds_get, kinds_long, kinds_none, kinds_set, at_map, map_long}
use Rattle.fip_base.proofs.fip_language.Facts.{less_or_not as below_or, same_number as same_from}
pub use Rattle.fip_base.proofs.fip_language.Facts.{set_length}

-- tables, by place

number_in : (os : List ℕ) (n m d : ℕ) → n < length os → number_or m (slice_get os n) ≡ get_or os n d
number_in [] n m d h = absurd (omega arith)
number_in (o ∷ os) zero m d h = refl
number_in (o ∷ os) (suc n) m d h = number_in os n m d (omega arith)

pub number_get : (os : List ℕ) (n d : ℕ) → n < length os → number_at os n ≡ get_or os n d
number_get os n d h = number_in os n n d h

number_out : (os : List ℕ) (n m : ℕ) → length os ≤ n → number_or m (slice_get os n) ≡ m
number_out [] n m h = refl
number_out (o ∷ os) zero m h = absurd (omega arith)
number_out (o ∷ os) (suc n) m h = number_out os n m (omega arith)

pub number_past : (os : List ℕ) (n : ℕ) → length os ≤ n → number_at os n ≡ n
number_past os n h = number_out os n n h

own_in : (os : List ℕ) (x o m : ℕ) → x < length os → number_or m (slice_get (set os x o) x) ≡ o
own_in [] x o m h = absurd (omega arith)
own_in (y ∷ os) zero o m h = refl
own_in (y ∷ os) (suc x) o m h = own_in os x o m (omega arith)

pub number_own : (os : List ℕ) (x o : ℕ) → x < length os → number_at (set os x o) x ≡ o
number_own os x o h = own_in os x o x h

other_in : (os : List ℕ) (x n o m : ℕ) → (x ≡ n → ⊥) →
    number_or m (slice_get (set os x o) n) ≡ number_or m (slice_get os n)
other_in [] x n o m h = refl
other_in (y ∷ os) zero zero o m h = absurd (h refl)
other_in (y ∷ os) zero (suc n) o m h = refl
other_in (y ∷ os) (suc x) zero o m h = refl
other_in (y ∷ os) (suc x) (suc n) o m h = other_in os x n o m (λ e. h (ap suc e))

pub number_other : (os : List ℕ) (x n o : ℕ) → (x ≡ n → ⊥) → number_at (set os x o) n ≡ number_at os n
number_other os x n o h = other_in os x n o n h

-- two numbers are given at two places
twice_last : (os : List ℕ) (x y p q : ℕ) → y < length os → number_at (set (set os x p) y q) y ≡ q
twice_last os x y p q h =
    number_own (set os x p) y q (let e = set_length os x p in omega arith)

twice_first : (os : List ℕ) (x y p q : ℕ) → x < length os → (y ≡ x → ⊥) →
    number_at (set (set os x p) y q) x ≡ p
twice_first os x y p q h n = number_other (set os x p) y x q n ∙ number_own os x p h

twice_other : (os : List ℕ) (x y n p q : ℕ) → (x ≡ n → ⊥) → (y ≡ n → ⊥) →
    number_at (set (set os x p) y q) n ≡ number_at os n
twice_other os x y n p q h i = number_other (set os x p) y n q i ∙ number_other os x n p h

-- Two tables of which one leads back from the other, once two entries of each have changed places.
back_again : (fs gs : List ℕ) (a b f s : ℕ) → ((n : ℕ) → number_at gs (number_at fs n) ≡ n) →
    f ≡ number_at fs a → s ≡ number_at fs b → a < length fs → b < length fs → f < length gs → s < length gs →
    (n : ℕ) → number_at (set (set gs f b) s a) (number_at (set (set fs a s) b f) n) ≡ n
back_again fs gs a b f s h i j la lb lf ls n =
    elim (eqb_tells b n) [
      | inl x ↦ ap (λ z. number_at (set (set gs f b) s a) (number_at (set (set fs a s) b f) z)) (sym x.1)
          ∙ ap (number_at (set (set gs f b) s a)) (twice_last fs a b s f lb)
          ∙ elim (eqb_tells s f) [
            | inl y ↦ ap (number_at (set (set gs f b) s a)) (sym y.1) ∙ twice_last gs f s b a ls
                ∙ sym (h a) ∙ ap (number_at gs) (sym i) ∙ ap (number_at gs) (sym y.1) ∙ ap (number_at gs) j ∙ h b
            | inr y ↦ twice_first gs f s b a lf y.1
          ]
          ∙ x.1
      | inr x ↦ elim (eqb_tells a n) [
        | inl y ↦ ap (number_at (set (set gs f b) s a))
            (ap (number_at (set (set fs a s) b f)) (sym y.1)
            ∙ twice_first fs a b s f la (λ e. x.1 (e ∙ y.1)))
            ∙ twice_last gs f s b a ls ∙ y.1
        | inr y ↦ ap (number_at (set (set gs f b) s a)) (twice_other fs a b n s f y.1 x.1)
            ∙ twice_other gs f s (number_at fs n) b a
            (λ e. y.1 (sym (h a) ∙ ap (number_at gs) (sym i) ∙ ap (number_at gs) e ∙ h n))
            (λ e. x.1 (sym (h b) ∙ ap (number_at gs) (sym j) ∙ ap (number_at gs) e ∙ h n))
            ∙ h n
      ]
    ]

pub names_swapped : (count : ℕ) (owners names : List ℕ) (a b f s : ℕ) → AreNames count owners names → f ≡ number_at names a →
    s ≡ number_at names b → a < length names → b < length names → f < length owners → s < length owners →
    AreNames count (set (set owners f b) s a) (set (set names a s) b f)
names_swapped count owners names a b f s h i j la lb lf ls = record {
  owners_long = set_length (set owners f b) s a ∙ set_length owners f b ∙ h.owners_long;
  names_long = set_length (set names a s) b f ∙ set_length names a s ∙ h.names_long;
  named = back_again names owners a b f s h.named i j la lb lf ls;
  owned = λ n. elim (eqb_tells s n) [
    | inl x ↦ ap (number_at (set (set names a s) b f))
        (ap (number_at (set (set owners f b) s a)) (sym x.1) ∙ twice_last owners f s b a ls)
        ∙ elim (eqb_tells b a) [
          | inl y ↦ ap (number_at (set (set names a s) b f)) (sym y.1) ∙ twice_last names a b s f lb
              ∙ i ∙ ap (number_at names) (sym y.1) ∙ sym j ∙ x.1
          | inr y ↦ twice_first names a b s f la y.1 ∙ x.1
        ]
    | inr x ↦ elim (eqb_tells f n) [
      | inl y ↦ ap (number_at (set (set names a s) b f))
          (ap (number_at (set (set owners f b) s a)) (sym y.1)
          ∙ twice_first owners f s b a lf (λ e. x.1 (e ∙ y.1)))
          ∙ twice_last names a b s f lb ∙ y.1
      | inr y ↦ ap (number_at (set (set names a s) b f)) (twice_other owners f s n b a y.1 x.1)
          ∙ twice_other names a b (number_at owners n) s f
          (λ e. y.1 (i ∙ ap (number_at names) e ∙ h.owned n))
          (λ e. x.1 (j ∙ ap (number_at names) e ∙ h.owned n))
          ∙ h.owned n
    ]
  ];
}

pub swapped_first : (a b : ℕ) → swapped a b a ≡ b
swapped_first a b = rw (eq-eqb a a refl) refl

pub swapped_second : (a b : ℕ) → swapped a b b ≡ a
swapped_second a b =
    elim (eqb_tells b a) [
      | inl x ↦ rw x.0 x.1
      | inr x ↦ rw (x.0, eq-eqb b b refl) refl
    ]

pub swapped_none : (a b r : ℕ) → (r ≡ a → ⊥) → (r ≡ b → ⊥) → swapped a b r ≡ r
swapped_none a b r h i = rw (ne_eqb r a h, ne_eqb r b i) refl

-- the registers of names, once two have changed places
swapped_by : (count : ℕ) (owners names : List ℕ) (a b f s n : ℕ) → AreNames count owners names → f ≡ number_at names a →
    s ≡ number_at names b → f < length owners → s < length owners →
    number_at (set (set owners f b) s a) n ≡ swapped a b (number_at owners n)
swapped_by count owners names a b f s n h i j lf ls =
    elim (eqb_tells s n) [
      | inl x ↦ (let o : number_at owners n ≡ b = ap (number_at owners) (sym x.1 ∙ j) ∙ h.named b in
          ap (number_at (set (set owners f b) s a)) (sym x.1) ∙ twice_last owners f s b a ls
          ∙ sym (swapped_second a b) ∙ ap (swapped a b) (sym o))
      | inr x ↦ elim (eqb_tells f n) [
        | inl y ↦ (let o : number_at owners n ≡ a = ap (number_at owners) (sym y.1 ∙ i) ∙ h.named a in
            ap (number_at (set (set owners f b) s a)) (sym y.1)
            ∙ twice_first owners f s b a lf (λ e. x.1 (e ∙ y.1))
            ∙ sym (swapped_first a b) ∙ ap (swapped a b) (sym o))
        | inr y ↦ twice_other owners f s n b a y.1 x.1
            ∙ sym (swapped_none a b (number_at owners n)
            (λ e. y.1 (i ∙ ap (number_at names) (sym e) ∙ h.owned n))
            (λ e. x.1 (j ∙ ap (number_at names) (sym e) ∙ h.owned n)))
      ]
    ]

-- kinds by names

pub rooted_twice : (f g : ℕ → ℕ) → ((n : ℕ) → f (g n) ≡ n) → (k : Kind) → rooted f (rooted g k) ≡ k
rooted_twice f g h Gone = refl
rooted_twice f g h (Scalar t) = refl
rooted_twice f g h (Owned t s) = refl
rooted_twice f g h (Lent t s None from) = refl
rooted_twice f g h (Lent t s (Some r) from) = ap (λ x. Lent t s (Some x) from) (h r)
rooted_twice f g h (Credit k) = refl

rooted_both : (f g h : ℕ → ℕ) → ((n : ℕ) → h n ≡ g (f n)) → (k : Kind) → rooted h k ≡ rooted g (rooted f k)
rooted_both f g h e Gone = refl
rooted_both f g h e (Scalar t) = refl
rooted_both f g h e (Owned t s) = refl
rooted_both f g h e (Lent t s None from) = refl
rooted_both f g h e (Lent t s (Some r) from) = ap (λ x. Lent t s (Some x) from) (e r)
rooted_both f g h e (Credit k) = refl

pub rooted_none : (f : ℕ → ℕ) → ((n : ℕ) → f n ≡ n) → (k : Kind) → rooted f k ≡ k
rooted_none f h Gone = refl
rooted_none f h (Scalar t) = refl
rooted_none f h (Owned t s) = refl
rooted_none f h (Lent t s None from) = refl
rooted_none f h (Lent t s (Some r) from) = ap (λ x. Lent t s (Some x) from) (h r)
rooted_none f h (Credit k) = refl

pub all_same : (f : ℕ → ℕ) → ((n : ℕ) → f n ≡ n) → (ks : List Kind) → map (rooted f) ks ≡ ks
all_same f h [] = refl
all_same f h (k ∷ ks) = let a = rooted_none f h k in let b = all_same f h ks in cc

all_both : (f g h : ℕ → ℕ) → ((n : ℕ) → h n ≡ g (f n)) → (ks : List Kind) →
    map (rooted h) ks ≡ map (rooted g) (map (rooted f) ks)
all_both f g h e [] = refl
all_both f g h e (k ∷ ks) = let a = rooted_both f g h e k in let b = all_both f g h e ks in cc

pub all_swapped : (count : ℕ) (owners names : List ℕ) (a b f s : ℕ) (ks : List Kind) → AreNames count owners names →
    f ≡ number_at names a → s ≡ number_at names b → f < length owners → s < length owners →
    map (rooted (number_at (set (set owners f b) s a))) ks ≡ map (rooted (swapped a b)) (map (rooted (number_at owners)) ks)
all_swapped count owners names a b f s ks h i j lf ls =
    all_both (number_at owners) (swapped a b) (number_at (set (set owners f b) s a))
    (λ n. swapped_by count owners names a b f s n h i j lf ls) ks

map_set : (f : Kind → Kind) (ks : List Kind) (d : ℕ) (k : Kind) → map f (set ks d k) ≡ set (map f ks) d (f k)
map_set f [] d k = refl
map_set f (x ∷ ks) zero k = refl
map_set f (x ∷ ks) (suc d) k = ap (λ r. f x ∷ r) (map_set f ks d k)

pub named_set : (count : ℕ) (owners names : List ℕ) (ks : List Known) (d : ℕ) (known : Known) (k : Kind) →
    AreNames count owners names → kind_of known ≡ rooted (number_at names) k →
    map (rooted (number_at owners)) (kinds_of (set ks d known)) ≡ set (map (rooted (number_at owners)) (kinds_of ks)) d k
named_set count owners names ks d known k h e =
    ap (map (rooted (number_at owners))) (kinds_set ks d known)
    ∙ map_set (rooted (number_at owners)) (kinds_of ks) d (kind_of known)
    ∙ ap (λ x. set (map (rooted (number_at owners)) (kinds_of ks)) d x)
    (ap (rooted (number_at owners)) e ∙ rooted_twice (number_at owners) (number_at names) h.named k)

pub named_past : (f : ℕ → ℕ) (ks : List Known) (d : ℕ) (k : Kind) → length ks ≤ d →
    set (map (rooted f) (kinds_of ks)) d k ≡ map (rooted f) (kinds_of ks)
named_past f [] d k h = refl
named_past f (x ∷ ks) zero k h = absurd (omega arith)
named_past f (x ∷ ks) (suc d) k h = ap (λ r. rooted f (kind_of x) ∷ r) (named_past f ks d k (omega arith))

pub named_get : (f : ℕ → ℕ) (ks : List Known) (d : ℕ) (known x : Known) (k : Kind) → d < length ks →
    known ≡ get_or ks d x → k ≡ rooted f (kind_of known) → k ≡ at (map (rooted f) (kinds_of ks)) d
named_get f ks d known x k h e g =
    g ∙ ap (λ z. rooted f (kind_of z)) e ∙ ap (rooted f) (sym (kinds_get ks d x h))
    ∙ sym (at_map (rooted f) refl (kinds_of ks) d)

pub named_none : (f : ℕ → ℕ) (ks : List Known) (d : ℕ) → length ks ≤ d →
    Gone ≡ at (map (rooted f) (kinds_of ks)) d
named_none f ks d h = ap (rooted f) (sym (kinds_none ks d h)) ∙ sym (at_map (rooted f) refl (kinds_of ks) d)

pub named_long : (f : ℕ → ℕ) (ks : List Known) → length (map (rooted f) (kinds_of ks)) ≡ length ks
named_long f ks = map_long (rooted f) (kinds_of ks) ∙ kinds_long ks

pub named_drop : (f : ℕ → ℕ) (ks : List Known) (i : ℕ) (known x : Known) (k : Kind) → i < length ks →
    known ≡ get_or ks i x → k ≡ rooted f (kind_of known) →
    drop i (map (rooted f) (kinds_of ks)) ≡ k ∷ drop (i + 1) (map (rooted f) (kinds_of ks))
named_drop f [] i known x k h e g = absurd (omega arith)
named_drop f (y ∷ ks) zero known x k h e g =
    ap (λ z. z ∷ map (rooted f) (kinds_of ks)) (ap (λ z. rooted f (kind_of z)) (sym e) ∙ sym g)
named_drop f (y ∷ ks) (suc i) known x k h e g =
    let n : suc (i + 1) ≡ suc i + 1 = (omega arith) in
    named_drop f ks i known x k (omega arith) e g
    ∙ ap (λ z. k ∷ drop z (map (rooted f) (kinds_of (y ∷ ks)))) n

pub named_end : (f : ℕ → ℕ) (ks : List Known) (i : ℕ) → length ks ≤ i →
    drop i (map (rooted f) (kinds_of ks)) ≡ []
named_end f [] zero h = refl
named_end f [] (suc i) h = refl
named_end f (y ∷ ks) zero h = absurd (omega arith)
named_end f (y ∷ ks) (suc i) h = named_end f ks i (omega arith)

-- what may be overwritten

free_rooted : (f : ℕ → ℕ) (k : Kind) → is_free (rooted f k) ≡ is_free k
free_rooted f Gone = refl
free_rooted f (Scalar t) = refl
free_rooted f (Owned t s) = refl
free_rooted f (Lent t s root from) = refl
free_rooted f (Credit k) = refl

pub all_free : (f : ℕ → ℕ) (ks : List Kind) → are_free ks ≡ are_free (map (rooted f) ks)
all_free f [] = refl
all_free f (k ∷ ks) = ap (λ b. b && are_free ks) (sym (free_rooted f k)) ∙ ap (λ b. is_free (rooted f k) && b) (all_free f ks)

-- tables of numbers that stand for themselves

end_more : (os : List ℕ) (m x n : ℕ) → length os ≡ n → number_or m (slice_get (os ++ x ∷ []) n) ≡ x
end_more [] m x zero h = refl
end_more [] m x (suc n) h = absurd (omega arith)
end_more (o ∷ os) m x zero h = absurd (omega arith)
end_more (o ∷ os) m x (suc n) h = end_more os m x n (omega arith)

not_end : (os : List ℕ) (m x n : ℕ) → (length os ≡ n → ⊥) →
    number_or m (slice_get (os ++ x ∷ []) n) ≡ number_or m (slice_get os n)
not_end [] m x zero h = absurd (h refl)
not_end [] m x (suc n) h = refl
not_end (o ∷ os) m x zero h = refl
not_end (o ∷ os) m x (suc n) h = not_end os m x n (λ e. h (ap suc e))

pub numbers_next : (os : List ℕ) (i : ℕ) → length os ≡ i → ((n : ℕ) → number_at os n ≡ n) → (n : ℕ) →
    number_at (os ++ i ∷ []) n ≡ n
numbers_next os i l h n =
    elim (eqb_tells (length os) n) [
      | inl x ↦ end_more os n i n x.1 ∙ sym l ∙ x.1
      | inr x ↦ not_end os n i n x.1 ∙ h n
    ]

pub next_length : (os : List ℕ) (x i : ℕ) → length os ≡ i → length (os ++ x ∷ []) ≡ i + 1
next_length [] x i h = (omega arith)
next_length (o ∷ os) x zero h = absurd (omega arith)
next_length (o ∷ os) x (suc i) h = let e = next_length os x i (omega arith) in omega arith

pub same_names : (count : ℕ) (os ns : List ℕ) → ((n : ℕ) → number_at os n ≡ n) → ((n : ℕ) → number_at ns n ≡ n) →
    length os ≡ count → length ns ≡ count → AreNames count os ns
same_names count os ns h i l m = record {
  owners_long = l;
  names_long = m;
  named = λ n. ap (number_at os) (i n) ∙ h n;
  owned = λ n. ap (number_at ns) (h n) ∙ i n;
}

known_length : (ks : List Known) (d : ℕ) (k : Known) → length (set ks d k) ≡ length ks
known_length [] d k = refl
known_length (x ∷ ks) zero k = refl
known_length (x ∷ ks) (suc d) k = ap suc (known_length ks d k)

pub names_set : (count : ℕ) (os ns : List ℕ) (ks : List Known) (d : ℕ) (k : Known) → AreNames count os ns →
    length ks ≡ count → AreNames (length (set ks d k)) os ns
names_set count os ns ks d k h l = subst (λ n. AreNames n os ns) (sym l ∙ sym (known_length ks d k)) h

-- The name of a register that is there has a register.
pub name_within : (count : ℕ) (owners names : List ℕ) (r : ℕ) → AreNames count owners names → r < count →
    number_at names r < length owners
name_within count owners names r h l =
    elim (below_or (number_at names r) (length owners)) [
      | inl x ↦ x
      | inr x ↦ absurd (let e = sym (number_past owners (number_at names r) x) ∙ h.named r in
          let g = h.owners_long in omega arith)
    ]

-- Kinds that differ in the root alone.

pub rooted_set : (f : ℕ → ℕ) (k : Kind) → set_of (rooted f k) ≡ set_of k
rooted_set f Gone = refl
rooted_set f (Scalar t) = refl
rooted_set f (Owned t s) = refl
rooted_set f (Lent t s root from) = refl
rooted_set f (Credit k) = refl

pub rooted_from : (f : ℕ → ℕ) (k : Kind) → from_of (rooted f k) ≡ from_of k
rooted_from f Gone = refl
rooted_from f (Scalar t) = refl
rooted_from f (Owned t s) = refl
rooted_from f (Lent t s root from) = refl
rooted_from f (Credit k) = refl

pub swapped_twice : (a b r : ℕ) → swapped a b (swapped a b r) ≡ r
swapped_twice a b r =
    elim (eqb_tells r a) [
      | inl x ↦ ap (λ z. swapped a b (swapped a b z)) x.1 ∙ ap (swapped a b) (swapped_first a b)
          ∙ swapped_second a b ∙ sym x.1
      | inr x ↦ elim (eqb_tells r b) [
        | inl y ↦ ap (λ z. swapped a b (swapped a b z)) y.1 ∙ ap (swapped a b) (swapped_second a b)
            ∙ swapped_first a b ∙ sym y.1
        | inr y ↦ ap (swapped a b) (swapped_none a b r x.1 y.1) ∙ swapped_none a b r x.1 y.1
      ]
    ]

-- A register that is borrowed from another once roots have changed was borrowed from the one that stood for it.
pub lent_swapped : (a b x : ℕ) (k : Kind) → is_lent_of x (rooted (swapped a b) k) ≡ true →
    is_lent_of (swapped a b x) k ≡ true
lent_swapped a b x Gone e = absurd (cc)
lent_swapped a b x (Scalar t) e = absurd (cc)
lent_swapped a b x (Owned t s) e = absurd (cc)
lent_swapped a b x (Lent t s None from) e = absurd (cc)
lent_swapped a b x (Lent t s (Some r) from) e =
    eq-eqb r (swapped a b x) (sym (swapped_twice a b r) ∙ ap (swapped a b) (same_from (swapped a b r) x e))
lent_swapped a b x (Credit k) e = absurd (cc)

-- What is borrowed from neither stays.
pub rooted_apart : (a b : ℕ) (k : Kind) → is_lent_of a k ≡ false → is_lent_of b k ≡ false →
    rooted (swapped a b) k ≡ k
rooted_apart a b Gone e g = refl
rooted_apart a b (Scalar t) e g = refl
rooted_apart a b (Owned t s) e g = refl
rooted_apart a b (Lent t s None from) e g = refl
rooted_apart a b (Lent t s (Some r) from) e g =
    ap (λ x. Lent t s (Some x) from) (swapped_none a b r
    (λ i. let x = eq-eqb r a i in cc) (λ i. let x = eq-eqb r b i in cc))
rooted_apart a b (Credit k) e g = refl

pub free_all : (f : ℕ → ℕ) (k : Kind) → is_free (rooted f k) ≡ is_free k
free_all f k = free_rooted f k
