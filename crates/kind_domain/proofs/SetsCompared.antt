-- Sets of label maps: which registers have one, and what of one isn't in another.
use Rattle.std.proofs.Common.{◌≡◌, ℕ, zero, suc, ◌<◌, ◌≤◌, inl, inr, List, [], ◌∷◌, length, set, get_or, refl, sym, ap, ◌∙◌, arith}
use Rattle.std.specs.Prelude.{Bool, true, false, cond, ◌==◌, Option, Some, None, Result, Ok, Err, OnOk, OnErr, IfSome, slice_get, if◌then◌else◌}
use Rattle.std.specs.declared.cmp.Ordering.{Ordering}
use Rattle.std.specs.declared.cmp.Ordering.TheVariants.{Less, Equal, Greater}
use Rattle.std.specs.BTreeMap.{BTreeMap, IsUnchanged, Updates, get_by, is_at}
use Rattle.std.specs.Map.{lookup}
use Rattle.std.specs.Ordering.{is_eq, nat_cmp, ordering_then}
use Rattle.std.proofs.lemmas.Bool.Decides.{eqb_tells}
use Rattle.std.proofs.lemmas.Map.Lookups.{exact_unsigned}
use Rattle.cell_code.specs.declared.kind.Kind.{Kind}
use Rattle.code_rules.specs.Changes.{without}
use Rattle.cell_code.specs.Plain.{LabelMap}
use Rattle.code_rules.specs.Fitting.{is_subset}
use Rattle.code_rules.specs.Kinds.{at, has, set_of}
use Rattle.kind_domain.specs.declared.label_sets.Origin.{Origin}
use Rattle.kind_domain.specs.declared.missing.Missing.{Missing}
use Rattle.kind_domain.specs.declared.missing.Missing.TheVariants.{Nothing, One, More}
use Rattle.kind_domain.specs.LabelSets.{LabelSets, AreAnswers, AreComparable, AreOrigins, IsMissing, MapsRise, Pair, allows, origin_at, pair_cmp, pair_of, set_at, set_in}
use Rattle.kind_domain.specs.Rising.{Rise, less, is_one}
use Rattle.kind_domain.proofs.Places.{at_set_same, at_set_other}
use Rattle.kind_domain.proofs.Subsets.{subset_by, subset_has}
use Rattle.fip_base.proofs.fip_language.Facts.{false_of_not_true as not_true, some_bool_same as bool_of}

-- which register of a label map has the set of a register

pub origin_get : (os : List (Option Origin)) (q : ℕ) (d : Option Origin) → q < length os → origin_at os q ≡ get_or os q d
origin_get [] q d h = absurd (omega arith)
origin_get (o ∷ os) zero d h = refl
origin_get (o ∷ os) (suc q) d h = origin_get os q d (omega arith)

pub origin_past : (os : List (Option Origin)) (q : ℕ) → length os ≤ q → origin_at os q ≡ None
origin_past [] q h = refl
origin_past (o ∷ os) zero h = absurd (omega arith)
origin_past (o ∷ os) (suc q) h = origin_past os q (omega arith)

pub origin_got : (os : List (Option Origin)) (q : ℕ) (o : Origin) → origin_at os q ≡ Some o →
    slice_get os q ≡ Some (Some o)
origin_got [] q o e = absurd (cc)
origin_got (p ∷ os) zero o e = ap (λ x. Some x) e
origin_got (p ∷ os) (suc q) o e = origin_got os q o e

origin_set_same : (os : List (Option Origin)) (d : ℕ) (o : Option Origin) (p : Origin) →
    origin_at (set os d o) d ≡ Some p → o ≡ Some p
origin_set_same [] d o p e = absurd (cc)
origin_set_same (x ∷ os) zero o p e = e
origin_set_same (x ∷ os) (suc d) o p e = origin_set_same os d o p e

origin_set_other : (os : List (Option Origin)) (d q : ℕ) (o : Option Origin) → (d ≡ q → ⊥) →
    origin_at (set os d o) q ≡ origin_at os q
origin_set_other [] d q o h = refl
origin_set_other (x ∷ os) zero zero o h = absurd (h refl)
origin_set_other (x ∷ os) zero (suc q) o h = refl
origin_set_other (x ∷ os) (suc d) zero o h = refl
origin_set_other (x ∷ os) (suc d) (suc q) o h = origin_set_other os d q o (λ e. h (ap suc e))

pub origins_one : (ks : List Kind) (sets sets2 : LabelSets) (d : ℕ) (k : Kind) (o : Option Origin) → d < length ks →
    AreOrigins ks sets → sets2.maps ≡ sets.maps → sets2.origins ≡ set sets.origins d o →
    ((p : Origin) → o ≡ Some p → set_of k ≡ set_at sets.maps p) → AreOrigins (set ks d k) sets2
origins_one ks sets sets2 d k o h a m e c q p f =
    let g : origin_at (set sets.origins d o) q ≡ Some p = (ap (λ os. origin_at os q) (sym e) ∙ f) in
    elim (eqb_tells d q) [
      | inl i ↦ ap (λ z. set_of (at (set ks d k) z)) (sym i.1) ∙ ap set_of (at_set_same ks d k h)
          ∙ c p (origin_set_same sets.origins d o p (ap (origin_at (set sets.origins d o)) i.1 ∙ g))
          ∙ ap (λ ms. set_at ms p) (sym m)
      | inr i ↦ ap set_of (at_set_other ks d q k i.1) ∙ a q p (sym (origin_set_other sets.origins d q o i.1) ∙ g)
          ∙ ap (λ ms. set_at ms p) (sym m)
    ]

-- what was found out of pairs of sets

then_equal : (a b : Ordering) → is_eq (ordering_then a b) ≡ true → (a ≡ Equal) × (b ≡ Equal)
then_equal Less b e = absurd (cc)
then_equal Equal Less e = absurd (cc)
then_equal Equal Equal e = (refl, refl)
then_equal Equal Greater e = absurd (cc)
then_equal Greater b e = absurd (cc)

set_same : (maps : List LabelMap) (o p : Origin) → o.label ≡ p.label → o.register ≡ p.register →
    set_at maps o ≡ set_at maps p
set_same maps o p e f =
    ap (λ l. set_in (slice_get maps l) o.register) e ∙ ap (λ r. set_in (slice_get maps p.label) r) f

pair_same : (own asked o p : Origin) → is_eq (pair_cmp (pair_of own asked) (pair_of o p)) ≡ true →
    (own.label ≡ o.label) × (own.register ≡ o.register) × (asked.label ≡ p.label) × (asked.register ≡ p.register)
pair_same own asked o p e =
    let a = then_equal (ordering_then (ordering_then (nat_cmp own.label o.label) (nat_cmp own.register o.register))
    (nat_cmp asked.label p.label)) (nat_cmp asked.register p.register) e in
    let b = then_equal (ordering_then (nat_cmp own.label o.label) (nat_cmp own.register o.register))
    (nat_cmp asked.label p.label) (ap is_eq a.0) in
    let c = then_equal (nat_cmp own.label o.label) (nat_cmp own.register o.register) (ap is_eq b.0) in
    (exact_unsigned _ _ c.0, exact_unsigned _ _ c.1, exact_unsigned _ _ b.1, exact_unsigned _ _ a.1)

some_missing : (a b : Missing) → Some a ≡ Some b → a ≡ b
some_missing a b e = cc

one_answer : (maps : List LabelMap) (own asked o p : Origin) (m n : Missing) (b : Bool) (old : Option Missing) →
    is_eq (pair_cmp (pair_of own asked) (pair_of o p)) ≡ b → IsMissing (set_at maps own) (set_at maps asked) m →
    (old ≡ Some n → IsMissing (set_at maps o) (set_at maps p) n) → cond b (Some m) old ≡ Some n →
    IsMissing (set_at maps o) (set_at maps p) n
one_answer maps own asked o p m n true old e h f g lacked =
    let s = pair_same own asked o p e in
    ap (λ z. is_subset (less lacked z) (set_at maps p)) (sym (set_same maps own o s.0 s.1))
    ∙ ap (λ z. is_subset (less lacked (set_at maps own)) z) (sym (set_same maps asked p s.2 s.3))
    ∙ h lacked ∙ ap (λ z. allows z lacked) (some_missing m n g)
one_answer maps own asked o p m n false old e h f g lacked = f g lacked

pub more_answers : (maps : List LabelMap) (own asked : Origin) (m : Missing) (before after : Pair → Option Missing) →
    AreAnswers maps before → IsMissing (set_at maps own) (set_at maps asked) m →
    ((k : Pair) → after k ≡ cond (is_eq (pair_cmp (pair_of own asked) k)) (Some m) (before k)) → AreAnswers maps after
more_answers maps own asked m before after a h u o p n e =
    one_answer maps own asked o p m n (is_eq (pair_cmp (pair_of own asked) (pair_of o p))) (before (pair_of o p)) refl h
    (a o p n) (sym (u (pair_of o p)) ∙ e)

-- an answer more, where there was memory for it
pub keeps_answer : {A B : Type 0} (r : Result A B) (maps : List LabelMap) (own asked : Origin) (m : Missing)
    (before after : BTreeMap Pair Missing) → AreAnswers maps (λ k. get_by (pair_cmp k) before) →
    IsMissing (set_at maps own) (set_at maps asked) m →
    OnOk r (Updates pair_cmp before after (pair_of own asked) (Some m)) → OnErr r (IsUnchanged before after) →
    AreAnswers maps (λ k. get_by (pair_cmp k) after)
keeps_answer (Ok x) maps own asked m before after a h u e =
    more_answers maps own asked m (λ k. get_by (pair_cmp k) before) (λ k. get_by (pair_cmp k) after) a h u.0
keeps_answer (Err x) maps own asked m before after a h u e =
    λ o p n f. a o p n (ap (lookup (is_at (pair_cmp (pair_of o p)))) (sym e) ∙ f)

pub missing_same : (a b own others : List ℕ) (m : Missing) → a ≡ own → b ≡ others → IsMissing a b m →
    IsMissing own others m
missing_same a b own others m e f h lacked =
    ap (λ z. is_subset (less lacked z) others) (sym e) ∙ ap (is_subset (less lacked a)) (sym f) ∙ h lacked

rise_in : (o : Option LabelMap) (r : ℕ) → ((m : LabelMap) → o ≡ Some m → (q : ℕ) → Rise (set_of (at m.kinds q))) →
    Rise (set_in o r)
rise_in None r h = tt
rise_in (Some m) r h = h m refl r

pub sets_rise : (maps : List LabelMap) (o : Origin) → MapsRise maps → Rise (set_at maps o)
sets_rise maps o h = rise_in (slice_get maps o.label) o.register (h o.label)

pub set_here : (maps : List LabelMap) (l : ℕ) (m : LabelMap) (r : ℕ) → slice_get maps l ≡ Some m →
    set_at maps (record { label = l; register = r }) ≡ set_of (at m.kinds r)
set_here maps l m r e = ap (λ o. set_in o r) e

-- What was found of two sets of label maps reports of what is known of a register.
pub within_is : (r : Option Bool) (sets : LabelSets) (ks ms : List Kind) (label q : ℕ) (lacked : Option ℕ) (k m : Kind) →
    AreComparable sets ks ms label → at ks q ≡ k → at ms q ≡ m →
    IfSome r (λ b. (o : Origin) × (origin_at sets.origins q ≡ Some o)
    × (b ≡ is_subset (less lacked (set_at sets.maps o)) (set_at sets.maps (record { label = label; register = q })))) →
    (b : Bool) → r ≡ Some b → b ≡ is_subset (less lacked (set_of k)) (set_of m)
within_is None sets ks ms label q lacked k m h e f g b i = absurd (cc)
within_is (Some x) sets ks ms label q lacked k m h e f g b i =
    let asked = set_at sets.maps (record { label = label; register = q }) in
    sym (bool_of x b i) ∙ g.2
    ∙ ap (λ z. is_subset (less lacked z) asked) (sym (h.origins q g.0 g.1) ∙ ap set_of e)
    ∙ ap (is_subset (less lacked (set_of k)))
    (set_here sets.maps label h.map.0 q h.map.1 ∙ ap (λ z. set_of (at z q)) h.map.2 ∙ ap set_of f)

-- what of a set isn't in another

without_keeps : (d : ℕ) (own : List ℕ) (c : ℕ) → has own c ≡ true → (c == d) ≡ false → has (without d own) c ≡ true
without_keeps d [] c h n = absurd (cc)
without_keeps d (x ∷ own) c h n =
    elim (eqb_tells x d) [
      | inl i ↦ rw i.0 (elim (eqb_tells x c) [
        | inl j ↦ (let f = ap (λ z. z == d) (sym j.1) ∙ i.0 in absurd (cc))
        | inr j ↦ (let f = (rw j.0 at h) in without_keeps d own c f n)
      ])
      | inr i ↦ rw i.0 (elim (eqb_tells x c) [
        | inl j ↦ rw j.0 refl
        | inr j ↦ (let f = (rw j.0 at h) in rw j.0 (without_keeps d own c f n))
      ])
    ]

less_keeps : (o : Option ℕ) (own : List ℕ) (c : ℕ) → has own c ≡ true → is_one o c ≡ false → has (less o own) c ≡ true
less_keeps None own c h n = h
less_keeps (Some d) own c h n = without_keeps d own c h n

lacks : (o : Option ℕ) (own others : List ℕ) (c : ℕ) → has own c ≡ true → has others c ≡ false → is_one o c ≡ false →
    is_subset (less o own) others ≡ false
lacks o own others c h g n =
    not_true (is_subset (less o own) others)
    (λ e. let f = subset_has (less o own) others c e (less_keeps o own c h n) in cc)

one_of : (o : Option ℕ) (c : ℕ) → is_one o c ≡ true → o ≡ Some c
one_of None c e = absurd (cc)
one_of (Some d) c e = elim (eqb_tells c d) [ inl i ↦ ap (λ z. Some z) (sym i.1) | inr i ↦ absurd (let f = i.0 in cc) ]

pub missing_none : (own others : List ℕ) → is_subset own others ≡ true → IsMissing own others Nothing
missing_none own others h lacked = subset_by lacked own others (λ x e n. subset_has own others x h e)

missing_by : (own others : List ℕ) (c : ℕ) (lacked : Option ℕ) (b s : Bool) → is_one lacked c ≡ b →
    has own c ≡ true → has others c ≡ false → is_subset (less (Some c) own) others ≡ s →
    is_subset (less lacked own) others ≡ (if b then s else false)
missing_by own others c lacked true s e h g f =
    ap (λ o. is_subset (less o own) others) (one_of lacked c e) ∙ f
missing_by own others c lacked false s e h g f = lacks lacked own others c h g e

if_true : (b : Bool) → (if b then true else false) ≡ b
if_true true = refl
if_true false = refl

if_false : (b : Bool) → (if b then false else false) ≡ false
if_false true = refl
if_false false = refl

pub missing_one : (own others : List ℕ) (c : ℕ) → has own c ≡ true → has others c ≡ false →
    is_subset (less (Some c) own) others ≡ true → IsMissing own others (One c)
missing_one own others c h g f lacked =
    missing_by own others c lacked (is_one lacked c) true refl h g f ∙ if_true (is_one lacked c)

pub missing_more : (own others : List ℕ) (c : ℕ) → has own c ≡ true → has others c ≡ false →
    is_subset (less (Some c) own) others ≡ false → IsMissing own others More
missing_more own others c h g f lacked =
    missing_by own others c lacked (is_one lacked c) false refl h g f ∙ if_false (is_one lacked c)
