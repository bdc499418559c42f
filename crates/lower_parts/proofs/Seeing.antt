-- Which positions were read: a test reads what it asks for before, and one that isn't written finds nothing out.
use Rattle.std.proofs.Common.{◌≡◌, ◌⊎◌, inl, inr, refl, sym, ap, ◌∙◌, subst, true≢false, arith, ℕ, zero, suc, ◌+◌, ◌<◌, Bool, true, false, not, List, [], ◌∷◌, ◌++◌, length, Some}
use Rattle.std.specs.Prelude.{ℤ, if◌then◌else◌, ◌==◌}
use Rattle.std.proofs.lemmas.Bool.{eqb-true, eq-eqb}
use Rattle.fip_language.specs.Every.{Among}
use Rattle.fip_language.specs.Table.{Table, constructors}
use Rattle.lower_frame.specs.code_rules.Types.{numbers, count, all, fields, fields_of}
use Rattle.match_knowledge.specs.declared.heads.Head.{Head}
use Rattle.match_knowledge.specs.declared.heads.Head.TheVariants.{Number, Tag}
use Rattle.match_knowledge.specs.declared.verdicts.Verdict.TheVariants as D
use Rattle.match_knowledge.specs.ValueHeads.{IsHead, same_head}
use Rattle.match_knowledge.specs.Patterns as M
use Rattle.match_knowledge.specs.Patterns.{IsPattern, ArePatterns}
use Rattle.match_knowledge.specs.Known.{Known, Open, Is, Knowns, NoKnowns, MoreKnowns, compare, compare_all, is_asks, is_in, is_last, are_last, none_left, opens, side, side_all}
use Rattle.match_knowledge.proofs.Facts.{same_is}
use Rattle.match_knowledge.proofs.Living.{is_all_out}
use Rattle.match_knowledge.proofs.Split.{asks_is, both_asks, is_asking}
use Rattle.match_knowledge.proofs.VerdictFacts.{if_asks}
use Rattle.lower_frame.specs.lowering_relation.Spots.{Spot, At, Spots, NoSpots, MoreSpots, register, below, all_in, Differ, AllDiffer}
use Rattle.lower_frame.specs.lowering_relation.Reading.{Reading, read_if, read_one, contains, reading, reading_first}
use Rattle.lower_frame.proofs.lowering_relation.MatchLists.{in_head, in_tail}
use Rattle.lower_frame.specs.lowering_relation.Sights.{kept, not_in, is_tag, left, Fresh, AllFresh}
use Rattle.lower_parts.specs.Seen.{NoneRead, Seen, AllSeen}
use Rattle.lower_parts.proofs.Folding.{if_true, if_false}
use Rattle.fip_language.proofs.Facts.{same_some, true_or_false as or_not}
use Rattle.lower_parts.proofs.Arriving.{head_fields}

-- the constructors that are left

kept_same : (p q : ℕ → Bool) (xs : List ℕ) → ((x : ℕ) → Among x xs → p x ≡ q x) → kept p xs ≡ kept q xs
kept_same p q [] h = refl
kept_same p q (x ∷ xs) h = ap (λ b. if b then x ∷ kept p xs else kept p xs) (h x (inl refl)) ∙ ap (λ zs. if q x then x ∷ zs else zs) (kept_same p q xs (λ y a. h y (inr a)))

kept_all : (p : ℕ → Bool) (xs : List ℕ) → ((x : ℕ) → p x ≡ true) → kept p xs ≡ xs
kept_all p [] h = refl
kept_all p (x ∷ xs) h = if_true (p x) (x ∷ kept p xs) (kept p xs) (h x) ∙ ap (λ ys. x ∷ ys) (kept_all p xs h)

numbers_below : (i n x : ℕ) → Among x (numbers i n) → x < i + n
numbers_below i zero x m = absurd m
numbers_below i (suc n) x (inl e) = omega (arith, e)
numbers_below i (suc n) x (inr m) = let z = numbers_below (suc i) n x m in omega (arith, z)

left_last : (w : Table) (t c : ℕ) (out : List Head) (ks : Knowns) → none_left w t (Tag c ∷ out) ≡ true → is_in (Tag c) out ≡ false → left w t (Is (Tag c) ks) ≡ left w t (Open out)
left_last w zero c out ks last none = absurd (true≢false (sym last))
left_last w (suc t) c out ks last none = kept_same (is_tag (Tag c)) (not_in out) (all w (suc t)) each
  where
    each : (x : ℕ) → Among x (all w (suc t)) → (c == x) ≡ not (is_in (Tag x) out)
    each x m = elim (or_not (c == x)) [
      | inl e ↦ e ∙ sym (ap not (ap (λ y. is_in (Tag y) out) (sym (eqb-true c x e)) ∙ none))
      | inr e ↦ e ∙ sym (ap not (sym (if_false (c == x) true (is_in (Tag x) out) e) ∙ is_all_out (length (constructors w (suc t))) x (Tag c ∷ out) last (let z = numbers_below 0 (count w (suc t)) x m in omega (arith, z))))
    ]

opens_fresh : (w : Table) (ts : List ℕ) (ps : M.Patterns) → ArePatterns w ts ps → AllFresh w ts (opens ps)
opens_fresh w [] ps are = tt
opens_fresh w (t ∷ ts) M.NoPatterns are = absurd are
opens_fresh w (t ∷ ts) (M.MorePatterns p ps) are = (kept_all (not_in []) (all w t) (λ x. refl), opens_fresh w ts ps are.1)

head_fresh : (w : Table) (t n : ℕ) (fs : List ℕ) (ps : M.Patterns) → IsHead w t (Tag n) fs → ArePatterns w fs ps → AllFresh w (fields w t n) (opens ps)
head_fresh w t n fs ps h are = opens_fresh w (fields w t n) ps (subst (λ ts. ArePatterns w ts ps) (sym (head_fields w t n fs h)) are)

open_left : (w : Table) (t u : ℕ) (h : Head) (ps : M.Patterns) (out : List Head) → IsPattern w t (M.Test u h ps) → is_in h out ≡ false → is_last w (M.Test u h ps) (Open out) ≡ true → u ≡ t → left w t (Is h (opens ps)) ≡ left w t (Open out)
open_left w zero u (Number i) ps out typed none last e = absurd (true≢false (sym last ∙ ap (λ t. none_left w t (Number i ∷ out)) e))
open_left w (suc t) u (Number i) ps out typed none last e = absurd typed.2
open_left w t u (Tag n) ps out typed none last e = left_last w t n out (opens ps) (ap (λ t. none_left w t (Tag n ∷ out)) (sym e) ∙ last) none

settled_fresh : (w : Table) (t u : ℕ) (h : Head) (ps : M.Patterns) (out : List Head) → IsPattern w t (M.Test u h ps) → left w t (Is h (opens ps)) ≡ left w t (Open out) → is_last w (M.Test u h ps) (Open out) ≡ true → u ≡ t → Fresh w t (Open out) → Fresh w t (Is h (opens ps))
settled_fresh w zero u (Number i) ps out typed same last e fresh = absurd (true≢false (sym last ∙ ap (λ t. none_left w t (Number i ∷ out)) e))
settled_fresh w (suc t) u (Number i) ps out typed same last e fresh = absurd typed.2
settled_fresh w t u (Tag n) ps out typed same last e fresh = (same ∙ fresh, head_fresh w t n typed.1 ps typed.2 typed.3)

-- what a pattern of the constructor has for the fields
inner : (w : Table) (t u n : ℕ) (h : Head) (ps : M.Patterns) → IsPattern w t (M.Test u h ps) → same_head h (Tag n) ≡ true → ArePatterns w (fields w t n) ps
inner w t u n h ps typed same = subst (λ ts. ArePatterns w ts ps) (sym (head_fields w t n typed.1 (subst (λ g. IsHead w t g typed.1) (same_is h (Tag n) same) typed.2))) typed.3

mutual
  last_fresh : (w : Table) (t : ℕ) (p : M.Pattern) (k : Known) → IsPattern w t p → compare p k ≡ D.Asks → is_last w p k ≡ true → Fresh w t k → Fresh w t (side true p k)
  last_fresh w t M.Any k typed asks last fresh = absurd (cc)
  last_fresh w t (M.Test u h ps) (Open out) typed asks last fresh =
      settled_fresh w t u h ps out typed (open_left w t u h ps out typed (if_asks (is_in h out) asks) last typed.0) last typed.0 fresh
  last_fresh w t (M.Test u h ps) (Is (Number j) ks) typed asks last fresh = absurd fresh
  last_fresh w t (M.Test u h ps) (Is (Tag n) ks) typed asks last fresh =
      let a = asks_is (compare_all ps ks) (same_head h (Tag n)) asks in
      (fresh.0, all_last_fresh w (fields w t n) ps ks (inner w t u n h ps typed a.0) a.1 last fresh.1)

  all_last_fresh : (w : Table) (ts : List ℕ) (ps : M.Patterns) (ks : Knowns) → ArePatterns w ts ps → compare_all ps ks ≡ D.Asks → are_last w ps ks ≡ true → AllFresh w ts ks → AllFresh w ts (side_all true ps ks)
  all_last_fresh w ts M.NoPatterns ks are asks last fresh = absurd (cc)
  all_last_fresh w ts (M.MorePatterns p ps) NoKnowns are asks last fresh = absurd (cc)
  all_last_fresh w [] (M.MorePatterns p ps) (MoreKnowns k ks) are asks last fresh = absurd are
  all_last_fresh w (t ∷ ts) (M.MorePatterns p ps) (MoreKnowns k ks) are asks last fresh = elim (or_not (is_asks (compare p k))) as (λ v. AllFresh w (t ∷ ts) (side_all true (M.MorePatterns p ps) (MoreKnowns k ks))) [
    | inl y ↦ subst (AllFresh w (t ∷ ts)) (sym (if_true (is_asks (compare p k)) (MoreKnowns (side true p k) ks) (MoreKnowns k (side_all true ps ks)) y))
        (last_fresh w t p k are.0 (is_asking (compare p k) y) (sym (if_true (is_asks (compare p k)) (is_last w p k) (are_last w ps ks) y) ∙ last) fresh.0, fresh.1)
    | inr y ↦ subst (AllFresh w (t ∷ ts)) (sym (if_false (is_asks (compare p k)) (MoreKnowns (side true p k) ks) (MoreKnowns k (side_all true ps ks)) y))
        (fresh.0, all_last_fresh w ts ps ks are.1 (both_asks (compare p k) (compare_all ps ks) asks y) (sym (if_false (is_asks (compare p k)) (is_last w p k) (are_last w ps ks) y) ∙ last) fresh.1)
  ]

-- where the same was read

abbrev PartSeen : Table → ℕ → Known → Spot → List ℕ → Type 0
PartSeen w t k s read =
    ((contains (register s) read ≡ true) × Seen w t k s read)
    ⊎ ((contains (register s) read ≡ false) × NoneRead (below s) read × Fresh w t k)

abbrev SameRead : List ℕ → List ℕ → List ℕ → Type 0
SameRead zs read more = (z : ℕ) → Among z zs → contains z more ≡ contains z read

none_on : (zs read more : List ℕ) → SameRead zs read more → NoneRead zs read → NoneRead zs more
none_on zs read more same none z a = same z a ∙ none z a

part_seen_on : (w : Table) (t : ℕ) (k : Known) (s : Spot) (read more : List ℕ) → contains (register s) more ≡ contains (register s) read → SameRead (below s) read more → (Seen w t k s read → Seen w t k s more) → PartSeen w t k s read → PartSeen w t k s more
part_seen_on w t k s read more here same deep (inl h) = inl (here ∙ h.0, deep h.1)
part_seen_on w t k s read more here same deep (inr h) = inr (here ∙ h.0, none_on (below s) read more same h.1, h.2)

mutual
  seen_on : (w : Table) (t : ℕ) (k : Known) (s : Spot) (read more : List ℕ) → SameRead (below s) read more → Seen w t k s read → Seen w t k s more
  seen_on w t (Open out) (At r fs) read more same h = none_on (all_in fs) read more same h
  seen_on w t (Is (Number i) ks) (At r fs) read more same h = none_on (all_in fs) read more same h
  seen_on w t (Is (Tag c) ks) (At r fs) read more same h = all_seen_on w (fields w t c) ks fs read more same h

  all_seen_on : (w : Table) (ts : List ℕ) (ks : Knowns) (ss : Spots) (read more : List ℕ) → SameRead (all_in ss) read more → AllSeen w ts ks ss read → AllSeen w ts ks ss more
  all_seen_on w ts ks NoSpots read more same h = tt
  all_seen_on w [] ks (MoreSpots s ss) read more same h = none_on (all_in (MoreSpots s ss)) read more same h
  all_seen_on w (t ∷ ts) NoKnowns (MoreSpots s ss) read more same h = absurd h
  all_seen_on w (t ∷ ts) (MoreKnowns k ks) (MoreSpots s ss) read more same h = (
    part_seen_on w t k s read more (same (register s) (inl refl)) (λ z a. same z (in_head z s ss a)) (λ d. seen_on w t k s read more (λ z a. same z (in_head z s ss a)) d) h.0,
    all_seen_on w ts ks ss read more (λ z a. same z (in_tail z s ss a)) h.1,
  )

-- nothing was found out

mutual
  fresh_seen : (w : Table) (t : ℕ) (k : Known) (s : Spot) (read : List ℕ) → Fresh w t k → NoneRead (below s) read → Seen w t k s read
  fresh_seen w t (Open out) (At r fs) read h u = u
  fresh_seen w t (Is (Number i) ks) (At r fs) read h u = u
  fresh_seen w t (Is (Tag n) ks) (At r fs) read h u = all_fresh_seen w (fields w t n) ks fs read h.1 u

  all_fresh_seen : (w : Table) (ts : List ℕ) (ks : Knowns) (ss : Spots) (read : List ℕ) → AllFresh w ts ks → NoneRead (all_in ss) read → AllSeen w ts ks ss read
  all_fresh_seen w ts ks NoSpots read h u = tt
  all_fresh_seen w [] ks (MoreSpots s ss) read h u = u
  all_fresh_seen w (t ∷ ts) NoKnowns (MoreSpots s ss) read h u = absurd h
  all_fresh_seen w (t ∷ ts) (MoreKnowns k ks) (MoreSpots s ss) read h u = (
    inr (u (register s) (inl refl), (λ z a. u z (in_head z s ss a)), h.0),
    all_fresh_seen w ts ks ss read h.1 (λ z a. u z (in_tail z s ss a)),
  )

pub start_seen : (w : Table) (t : ℕ) (s : Spot) → Seen w t (Open []) s []
start_seen w t (At r fs) = λ z a. refl

settled_seen : (w : Table) (t u : ℕ) (b : Bool) (h : Head) (ps : M.Patterns) (out : List Head) (r : ℕ) (fs : Spots) (read : List ℕ) → IsPattern w t (M.Test u h ps) → NoneRead (all_in fs) read → Seen w t (side b (M.Test u h ps) (Open out)) (At r fs) read
settled_seen w t u false h ps out r fs read typed none = none
settled_seen w t u true (Number i) ps out r fs read typed none = none
settled_seen w t u true (Tag n) ps out r fs read typed none = all_fresh_seen w (fields w t n) (opens ps) fs read (head_fresh w t n typed.1 ps typed.2 typed.3) none

-- a test that isn't written

last_part : (w : Table) (t : ℕ) (p : M.Pattern) (k : Known) (s : Spot) (read : List ℕ) → IsPattern w t p → compare p k ≡ D.Asks → is_last w p k ≡ true → PartSeen w t k s read → (Seen w t k s read → Seen w t (side true p k) s read) → PartSeen w t (side true p k) s read
last_part w t p k s read typed asks last (inl h) deep = inl (h.0, deep h.1)
last_part w t p k s read typed asks last (inr h) deep = inr (h.0, h.1, last_fresh w t p k typed asks last h.2)

mutual
  pub last_seen : (w : Table) (t : ℕ) (p : M.Pattern) (k : Known) (s : Spot) (read : List ℕ) → IsPattern w t p → compare p k ≡ D.Asks → is_last w p k ≡ true → Seen w t k s read → Seen w t (side true p k) s read
  last_seen w t M.Any k s read typed asks last h = absurd (cc)
  last_seen w t (M.Test u hd ps) (Open out) (At r fs) read typed asks last h = settled_seen w t u true hd ps out r fs read typed h
  last_seen w t (M.Test u hd ps) (Is (Number j) ks) (At r fs) read typed asks last h = h
  last_seen w t (M.Test u hd ps) (Is (Tag n) ks) (At r fs) read typed asks last h =
      let a = asks_is (compare_all ps ks) (same_head hd (Tag n)) asks in
      all_last_seen w (fields w t n) ps ks fs read (inner w t u n hd ps typed a.0) a.1 last h

  all_last_seen : (w : Table) (ts : List ℕ) (ps : M.Patterns) (ks : Knowns) (ss : Spots) (read : List ℕ) → ArePatterns w ts ps → compare_all ps ks ≡ D.Asks → are_last w ps ks ≡ true → AllSeen w ts ks ss read → AllSeen w ts (side_all true ps ks) ss read
  all_last_seen w ts M.NoPatterns ks ss read are asks last h = absurd (cc)
  all_last_seen w ts (M.MorePatterns p ps) NoKnowns ss read are asks last h = absurd (cc)
  all_last_seen w ts (M.MorePatterns p ps) (MoreKnowns k ks) NoSpots read are asks last h = tt
  all_last_seen w [] (M.MorePatterns p ps) (MoreKnowns k ks) (MoreSpots s ss) read are asks last h = absurd are
  all_last_seen w (t ∷ ts) (M.MorePatterns p ps) (MoreKnowns k ks) (MoreSpots s ss) read are asks last h = elim (or_not (is_asks (compare p k))) as (λ v. AllSeen w (t ∷ ts) (side_all true (M.MorePatterns p ps) (MoreKnowns k ks)) (MoreSpots s ss) read) [
    | inl y ↦ subst (λ ks. AllSeen w (t ∷ ts) ks (MoreSpots s ss) read) (sym (if_true (is_asks (compare p k)) (MoreKnowns (side true p k) ks) (MoreKnowns k (side_all true ps ks)) y)) (
      last_part w t p k s read are.0 (is_asking (compare p k) y) (sym (if_true (is_asks (compare p k)) (is_last w p k) (are_last w ps ks) y) ∙ last) h.0
          (λ d. last_seen w t p k s read are.0 (is_asking (compare p k) y) (sym (if_true (is_asks (compare p k)) (is_last w p k) (are_last w ps ks) y) ∙ last) d),
      h.1,
    )
    | inr y ↦ subst (λ ks. AllSeen w (t ∷ ts) ks (MoreSpots s ss) read) (sym (if_false (is_asks (compare p k)) (MoreKnowns (side true p k) ks) (MoreKnowns k (side_all true ps ks)) y))
        (h.0, all_last_seen w ts ps ks ss read are.1 (both_asks (compare p k) (compare_all ps ks) asks y) (sym (if_false (is_asks (compare p k)) (is_last w p k) (are_last w ps ks) y) ∙ last) h.1)
  ]

-- what is read

contains_new : (d : ℕ) (read : List ℕ) → contains d (read ++ d ∷ []) ≡ true
contains_new d [] = if_true (d == d) true false (eq-eqb d d refl)
contains_new d (r ∷ rs) = elim (or_not (d == r)) [
  | inl e ↦ if_true (d == r) true (contains d (rs ++ d ∷ [])) e
  | inr e ↦ if_false (d == r) true (contains d (rs ++ d ∷ [])) e ∙ contains_new d rs
]

contains_other : (z d : ℕ) (read : List ℕ) → (z ≡ d → ⊥) → contains z (read ++ d ∷ []) ≡ contains z read
contains_other z d [] ne = elim (or_not (z == d)) [
  | inl e ↦ absurd (ne (eqb-true z d e))
  | inr e ↦ if_false (z == d) true false e
]
contains_other z d (r ∷ rs) ne = ap (λ b. if z == r then true else b) (contains_other z d rs ne)

one_other : (x : Reading) (r i d z : ℕ) → (z ≡ d → ⊥) → contains z (read_one x r i d).read ≡ contains z x.read
one_other x r i d z ne = by (contains d x.read)
  where
    by : (b : Bool) → contains z (read_if b x r i d).read ≡ contains z x.read
    by true = refl
    by false = contains_other z d x.read ne

one_there : (x : Reading) (r i d : ℕ) → contains d (read_one x r i d).read ≡ true
one_there x r i d = by (contains d x.read) refl
  where
    by : (b : Bool) → contains d x.read ≡ b → contains d (read_if b x r i d).read ≡ true
    by true e = e
    by false e = contains_new d x.read

either_read : (b : Bool) (y z : Reading) (q : ℕ) (v : Bool) → contains q y.read ≡ v → contains q z.read ≡ v → contains q (if b then y else z).read ≡ v
either_read true y z q v e f = e
either_read false y z q v e f = f

mutual
  reading_other : (p : M.Pattern) (k : Known) (s : Spot) (x : Reading) (z : ℕ) → (Among z (below s) → ⊥) → contains z (reading p k s x).read ≡ contains z x.read
  reading_other M.Any k s x z ne = refl
  reading_other (M.Test t h ps) (Open out) s x z ne = refl
  reading_other (M.Test t h ps) (Is g ks) (At r fs) x z ne = first_other ps ks fs r 0 x z ne

  first_other : (ps : M.Patterns) (ks : Knowns) (ss : Spots) (r i : ℕ) (x : Reading) (z : ℕ) → (Among z (all_in ss) → ⊥) → contains z (reading_first ps ks ss r i x).read ≡ contains z x.read
  first_other M.NoPatterns ks ss r i x z ne = refl
  first_other (M.MorePatterns p ps) NoKnowns ss r i x z ne = refl
  first_other (M.MorePatterns p ps) (MoreKnowns k ks) NoSpots r i x z ne = refl
  first_other (M.MorePatterns p ps) (MoreKnowns k ks) (MoreSpots s ss) r i x z ne =
      either_read (is_asks (compare p k)) (reading p k s (read_one x r i (register s))) (reading_first ps ks ss r (suc i) x) z (contains z x.read)
      (reading_other p k s (read_one x r i (register s)) z (λ a. ne (in_head z s ss a)) ∙ one_other x r i (register s) z (λ e. ne (inl e)))
      (first_other ps ks ss r (suc i) x z (λ a. ne (in_tail z s ss a)))

-- a part that is read now, if it wasn't before
part_read : (w : Table) (t : ℕ) (k : Known) (s : Spot) (x : Reading) (r i : ℕ) → (Among (register s) (below s) → ⊥) → PartSeen w t k s x.read → Seen w t k s (read_one x r i (register s)).read
part_read w t k s x r i apart (inl h) = seen_on w t k s x.read (read_one x r i (register s)).read (λ z a. one_other x r i (register s) z (λ e. apart (subst (λ q. Among q (below s)) e a))) h.1
part_read w t k s x r i apart (inr h) = fresh_seen w t k s (read_one x r i (register s)).read h.2 (λ z a. one_other x r i (register s) z (λ e. apart (subst (λ q. Among q (below s)) e a)) ∙ h.1 z a)

no_fields : (w : Table) (t u : ℕ) (h : Head) (i : ℤ) (ps : M.Patterns) (ks : Knowns) → IsPattern w t (M.Test u h ps) → same_head h (Number i) ≡ true → compare_all ps ks ≡ D.Asks → ⊥
no_fields w t u h i ps ks typed same asks = by t ps (subst (λ g. IsHead w t g typed.1) (same_is h (Number i) same) typed.2) typed.3 asks
  where
    none : (ps : M.Patterns) → ArePatterns w [] ps → compare_all ps ks ≡ D.Asks → ⊥
    none M.NoPatterns are e = absurd (cc)
    none (M.MorePatterns p ps) are e = are

    by : (t : ℕ) (ps : M.Patterns) → IsHead w t (Number i) typed.1 → ArePatterns w typed.1 ps → compare_all ps ks ≡ D.Asks → ⊥
    by zero ps h are e = none ps (subst (λ ts. ArePatterns w ts ps) h.1 are) e
    by (suc t) ps h are e = h

mutual
  -- both where it holds and where it fails
  pub side_seen : (b : Bool) (w : Table) (t : ℕ) (p : M.Pattern) (k : Known) (s : Spot) (x : Reading) → IsPattern w t p → compare p k ≡ D.Asks → Differ s → Seen w t k s x.read → Seen w t (side b p k) s (reading p k s x).read
  side_seen b w t M.Any k s x typed asks differ h = absurd (cc)
  side_seen b w t (M.Test u hd ps) (Open out) (At r fs) x typed asks differ h = settled_seen w t u b hd ps out r fs x.read typed h
  side_seen b w t (M.Test u hd ps) (Is (Number j) ks) (At r fs) x typed asks differ h =
      let a = asks_is (compare_all ps ks) (same_head hd (Number j)) asks in
      absurd (no_fields w t u hd j ps ks typed a.0 a.1)
  side_seen b w t (M.Test u hd ps) (Is (Tag n) ks) (At r fs) x typed asks differ h =
      let a = asks_is (compare_all ps ks) (same_head hd (Tag n)) asks in
      all_side_seen b w (fields w t n) ps ks fs r 0 x (inner w t u n hd ps typed a.0) a.1 differ h

  all_side_seen : (b : Bool) (w : Table) (ts : List ℕ) (ps : M.Patterns) (ks : Knowns) (ss : Spots) (r i : ℕ) (x : Reading) → ArePatterns w ts ps → compare_all ps ks ≡ D.Asks → AllDiffer ss → AllSeen w ts ks ss x.read → AllSeen w ts (side_all b ps ks) ss (reading_first ps ks ss r i x).read
  all_side_seen b w ts M.NoPatterns ks ss r i x are asks differ h = absurd (cc)
  all_side_seen b w ts (M.MorePatterns p ps) NoKnowns ss r i x are asks differ h = absurd (cc)
  all_side_seen b w ts (M.MorePatterns p ps) (MoreKnowns k ks) NoSpots r i x are asks differ h = tt
  all_side_seen b w [] (M.MorePatterns p ps) (MoreKnowns k ks) (MoreSpots s ss) r i x are asks differ h = absurd are
  all_side_seen b w (t ∷ ts) (M.MorePatterns p ps) (MoreKnowns k ks) (MoreSpots s ss) r i x are asks differ h =
      let one = read_one x r i (register s) in
      let y = reading p k s one in
      let z = reading_first ps ks ss r (suc i) x in
      elim (or_not (is_asks (compare p k))) as (λ v. AllSeen w (t ∷ ts) (side_all b (M.MorePatterns p ps) (MoreKnowns k ks)) (MoreSpots s ss) (reading_first (M.MorePatterns p ps) (MoreKnowns k ks) (MoreSpots s ss) r i x).read) [
        | inl a ↦ subst (λ l. AllSeen w (t ∷ ts) l (MoreSpots s ss) (reading_first (M.MorePatterns p ps) (MoreKnowns k ks) (MoreSpots s ss) r i x).read) (sym (if_true (is_asks (compare p k)) (MoreKnowns (side b p k) ks) (MoreKnowns k (side_all b ps ks)) a))
            (subst (λ (u : Reading). AllSeen w (t ∷ ts) (MoreKnowns (side b p k) ks) (MoreSpots s ss) u.read) (sym (if_true (is_asks (compare p k)) y z a)) (
              inl (
                reading_other p k s one (register s) differ.0 ∙ one_there x r i (register s),
                side_seen b w t p k s one are.0 (is_asking (compare p k) a) differ.3 (part_read w t k s x r i differ.0 h.0),
              ),
              all_seen_on w ts ks ss x.read y.read (λ q m. reading_other p k s one q (λ n. differ.2 q n m) ∙ one_other x r i (register s) q (λ e. differ.1 (subst (λ v. Among v (all_in ss)) e m))) h.1,
            ))
        | inr a ↦ subst (λ l. AllSeen w (t ∷ ts) l (MoreSpots s ss) (reading_first (M.MorePatterns p ps) (MoreKnowns k ks) (MoreSpots s ss) r i x).read) (sym (if_false (is_asks (compare p k)) (MoreKnowns (side b p k) ks) (MoreKnowns k (side_all b ps ks)) a))
            (subst (λ (u : Reading). AllSeen w (t ∷ ts) (MoreKnowns k (side_all b ps ks)) (MoreSpots s ss) u.read) (sym (if_false (is_asks (compare p k)) y z a)) (
              part_seen_on w t k s x.read z.read (first_other ps ks ss r (suc i) x (register s) differ.1) (λ q m. first_other ps ks ss r (suc i) x q (λ n. differ.2 q m n))
                  (λ d. seen_on w t k s x.read z.read (λ q m. first_other ps ks ss r (suc i) x q (λ n. differ.2 q m n)) d) h.0,
              all_side_seen b w ts ps ks ss r (suc i) x are.1 (both_asks (compare p k) (compare_all ps ks) asks a) differ.4 h.1,
            ))
      ]
