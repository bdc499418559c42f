-- A cell is taken apart: this is as required, and these are the kinds after it.
use Rattle.std.proofs.Common.{◌≡◌, inl, inr, ℕ, suc, ◌<◌, ◌≤◌, true, false, not, ◌&&◌, is_some, List, [], ◌∷◌, length, Option, Some, None, refl, sym, ap, ◌∙◌, subst, true≢false, arith, if◌then◌else◌, ◌==◌}
use Rattle.separation.specs.fip_language.Table.{Table}
use Rattle.separation.specs.fip_language.Every.{Among}
use Rattle.separation.specs.cell_code.declared.code.Instr.TheVariants as I
use Rattle.separation.specs.cell_code.declared.kind.Kind.{Kind}
use Rattle.separation.specs.cell_code.declared.kind.Kind.TheVariants as K
use Rattle.lowering_relation.specs.fip_trees.Tree.{Patterns, NoPatterns, MorePatterns}
use Rattle.separation.specs.cell_code.Plain.{PlainFunction, PlainCode}
use Rattle.separation.specs.code_rules.Types.{fields, is_scalar_type}
use Rattle.separation.specs.code_rules.Kinds.{has, at, is_free, from_of}
use Rattle.separation.specs.code_rules.Changes.{forget}
use Rattle.separation.specs.code_rules.Asked.{known_fields, can_take, are_places}
use Rattle.separation.specs.code_rules.Taking.{Part, part, part_from, is_field, is_heir, is_heir_by, IsReached, IsTaken, part_kind as taken_part, with_root, fate, ends, part_or, credit}
use Rattle.separation.proofs.separation_kinds.Basics.{chosen, refused, or_not, equal, equal_is, itself, unequal, unequal_is, becomes, at_past, length_become}
use Rattle.separation.proofs.separation_kinds.KindLemmas.{not_gone_within}
use Rattle.separation.proofs.separation_kinds.Takes.{no_part}
use Rattle.lowering_relation.specs.match_knowledge.Known.{Known, Knowns, NoKnowns, MoreKnowns}
use Rattle.lowering_relation.specs.Spots.{Spot, Spots, NoSpots, MoreSpots, register, below, all_in, AllDiffer}
use Rattle.lowering_relation.specs.Opening.{as_many}
use Rattle.lowering_relation.proofs.MatchLists.{among_either, in_head, in_tail}
use Rattle.lowering_soundness.specs.Covering.{Covered}
use Rattle.lowering_soundness.specs.Rows.{IsRow}
use Rattle.lowering_relation.specs.Sights.{left, part_kind, AllBelow}
use Rattle.lowering_soundness.proofs.Giving.{and_to}
use Rattle.lowering_soundness.proofs.Looking.{whole}
use Rattle.lowering_soundness.proofs.Positions.{OnePart}
use Rattle.lowering_soundness.proofs.Heirs.{has_among, not_among, from_at, Fated, below_fated, scalar_gone, owned_kind, Outside, lost, field_owned, gets, gets_gone, gets_below, gets_same}

-- ---- what is reported after it

abbrev pub settled_at : Table → ℕ → List ℕ → Knowns → Spots → ℕ → Kind → Kind
settled_at w r [] ks ss q own = lost r own
settled_at w r (t ∷ ts) NoKnowns ss q own = lost r own
settled_at w r (t ∷ ts) (MoreKnowns k ks) NoSpots q own = lost r own
settled_at w r (t ∷ ts) (MoreKnowns k ks) (MoreSpots s ss) q own =
    if register s == q then owned_kind w t k
    else (if has (below s) q then with_root (register s) own else settled_at w r ts ks ss q own)

abbrev pub taken_at : Table → ℕ → ℕ → List ℕ → Knowns → Spots → (ℕ → Kind) → ℕ → Kind
taken_at w r size ts ks fs m q = if q == r then credit size else settled_at w r ts ks fs q (m q)

part_nil : (i : ℕ) (xs : List ℕ) (q : ℕ) → part_from i xs [] q ≡ None
part_nil i [] q = refl
part_nil i (x ∷ xs) q = refl

as_many_none : (ps : Patterns) (n : ℕ) → length (as_many ps NoSpots) ≡ suc n → ⊥
as_many_none NoPatterns n e = absurd (omega (arith, e))
as_many_none (MorePatterns p ps) n e = absurd (omega (arith, e))

pub as_many_within : (ps : Patterns) (ss : Spots) (q : ℕ) → Among q (as_many ps ss) → Among q (all_in ss)
as_many_within NoPatterns ss q a = absurd a
as_many_within (MorePatterns p ps) NoSpots q a = absurd a
as_many_within (MorePatterns p ps) (MoreSpots s ss) q (inl e) = inl e
as_many_within (MorePatterns p ps) (MoreSpots s ss) q (inr a) = in_tail q s ss (as_many_within ps ss q a)

pub not_has : (xs : List ℕ) (q : ℕ) → (Among q xs → ⊥) → has xs q ≡ false
not_has xs q ne = elim (or_not (has xs q)) as (λ v. has xs q ≡ false) [
  | inl e ↦ absurd (ne (has_among xs q e))
  | inr e ↦ e
]

none_of : (i : ℕ) (ps : Patterns) (ts : List ℕ) (ss : Spots) (q : ℕ) → (Among q (all_in ss) → ⊥) → part_from i (as_many ps ss) ts q ≡ None
none_of i ps ts ss q ne = no_part i (as_many ps ss) ts q (not_has (as_many ps ss) q (λ a. ne (as_many_within ps ss q a)))

-- ---- which register gets which field

abbrev pub AllDests : (ℕ → Option Part) → List ℕ → Spots → ℕ → Type 0
AllDests parts [] ss i = Unit {0}
AllDests parts (t ∷ ts) NoSpots i = Unit {0}
AllDests parts (t ∷ ts) (MoreSpots s ss) i =
    (parts (register s) ≡ Some (record { field = i; ty = t })) × ((z : ℕ) → Among z (below s) → parts z ≡ None)
    × AllDests parts ts ss (suc i)

dests_on : (parts pieces : ℕ → Option Part) (ts : List ℕ) (ss : Spots) (i : ℕ) → ((q : ℕ) → Among q (all_in ss) → pieces q ≡ parts q) → AllDests parts ts ss i → AllDests pieces ts ss i
dests_on parts pieces [] ss i same h = tt
dests_on parts pieces (t ∷ ts) NoSpots i same h = tt
dests_on parts pieces (t ∷ ts) (MoreSpots s ss) i same h = (
  same (register s) (inl refl) ∙ h.0,
  (λ z a. same z (in_head z s ss a) ∙ h.1 z a),
  dests_on parts pieces ts ss (suc i) (λ q a. same q (in_tail q s ss a)) h.2,
)

pub all_dests : (ps : Patterns) (ts : List ℕ) (ss : Spots) (i : ℕ) → AllDiffer ss → length (as_many ps ss) ≡ length ts → AllDests (λ q. part_from i (as_many ps ss) ts q) ts ss i
all_dests ps [] ss i differ e = tt
all_dests ps (t ∷ ts) NoSpots i differ e = tt
all_dests NoPatterns (t ∷ ts) (MoreSpots s ss) i differ e = absurd (omega (arith, e))
all_dests (MorePatterns p ps) (t ∷ ts) (MoreSpots s ss) i differ e = (
  chosen (register s == register s) (Some (record { field = i; ty = t })) (part_from (suc i) (as_many ps ss) ts (register s)) (itself (register s)),
  (λ z a. refused (register s == z) (Some (record { field = i; ty = t })) (part_from (suc i) (as_many ps ss) ts z) (unequal_is (register s) z (λ y. differ.0 (subst (λ q. Among q (below s)) (sym y) a))) ∙ none_of (suc i) ps ts ss z (λ b. differ.2 z a b)),
  dests_on (λ q. part_from (suc i) (as_many ps ss) ts q) (λ q. part_from i (as_many (MorePatterns p ps) (MoreSpots s ss)) (t ∷ ts) q) ts ss (suc i)
      (λ q a. refused (register s == q) (Some (record { field = i; ty = t })) (part_from (suc i) (as_many ps ss) ts q) (unequal_is (register s) q (λ y. differ.1 (subst (λ z. Among z (all_in ss)) (sym y) a))))
      (all_dests ps ts ss (suc i) differ.4 (omega (arith, e))),
)

-- ---- what becomes of each register

module _ (w : Table) (ks : List Kind) (r : ℕ) (ds ts0 : List ℕ) (reached : ℕ → Option ℕ) (is : (q : ℕ) → IsReached ks (is_heir w ks r (part ds ts0)) q (reached q)) where
  abbrev becomes_of : ℕ → Kind
  becomes_of q = gets w ks r ds ts0 reached is q

  heir_of_read : (t i : ℕ) (k : Known) (d : ℕ) → is_scalar_type w t ≡ false → at ks d ≡ part_kind w (Some r) t k r i → part ds ts0 d ≡ Some (record { field = i; ty = t }) → is_heir w ks r (part ds ts0) d ≡ true
  heir_of_read t i k d tree own e =
      ap (is_heir_by w r (at ks d)) e
      ∙ (ap (λ own. not (is_scalar_type w t) && is_field r i (from_of own)) (own ∙ refused (is_scalar_type w t) (K.Scalar t) (K.Lent t (left w t k) (Some r) (Some (from_at r i))) tree)
      ∙ and_to (not (is_scalar_type w t)) ((r == r) && (i == i)) (ap not tree) (and_to (r == r) (i == i) (itself r) (itself i)))

  no_heir : (z : ℕ) → part ds ts0 z ≡ None → is_heir w ks r (part ds ts0) z ≡ false
  no_heir z e = ap (is_heir_by w r (at ks z)) e

  -- below one field
  one_below : (t : ℕ) (k : Known) (s : Spot) (i : ℕ) (read : List ℕ) (q : ℕ) → OnePart w (Some r) t k s r i read (at ks) → part ds ts0 (register s) ≡ Some (record { field = i; ty = t }) → ((z : ℕ) → Among z (below s) → (part ds ts0 z ≡ None) × (z ≡ r → ⊥)) → Among q (below s) → becomes_of q ≡ with_root (register s) (at ks q)
  one_below t k s i read q (inr h) dest none a =
      let gone = (h.2 q a).1 in
      gets_gone w ks r ds ts0 reached is q (none q a).1 gone ∙ sym (ap (with_root (register s)) gone)
  one_below t k s i read q (inl h) dest none a = elim (or_not (is_scalar_type w t)) as (λ v. becomes_of q ≡ with_root (register s) (at ks q)) [
    | inl y ↦
        (let gone = scalar_gone w t k s read (at ks) (Some r) q y h.2 a in
        gets_gone w ks r ds ts0 reached is q (none q a).1 gone ∙ sym (ap (with_root (register s)) gone))
    | inr y ↦
        (let heir = heir_of_read t i k (register s) y h.1 dest in
        let fated : (z : ℕ) → Among z (below s) → Fated ks (is_heir w ks r (part ds ts0)) r (register s) (below s) (at ks z) = λ z b.
        below_fated ks (is_heir w ks r (part ds ts0)) r (register s) (below s) w t k s read z h.2 (record { steps = 0; leads = λ j. (heir, refl) }) (inl refl) (λ z c. (no_heir z (none z c).0, c)) b in
        gets_below w ks r ds ts0 reached is (register s) q (below s) (none q a).1 heir (ap is_some dest) (λ z b. ((none z b).0, (none z b).1, fated z b)) (fated q a))
  ]

  pub all_settled : (ps : Patterns) (ts : List ℕ) (ls : Knowns) (ss : Spots) (i : ℕ) (read : List ℕ) (q : ℕ) → length (as_many ps ss) ≡ length ts → AllDiffer ss → (Among r (all_in ss) → ⊥) → AllDests (part ds ts0) ts ss i → AllBelow w (Some r) ts ls ss r i read (at ks) → (q ≡ r → ⊥) → ((Among q (all_in ss) → ⊥) → becomes_of q ≡ lost r (at ks q)) → part_or w r (at ks q) (part_from i (as_many ps ss) ts q) (becomes_of q) ≡ settled_at w r ts ls ss q (at ks q)
  all_settled ps [] ls ss i read q many differ off dests parts ne base = ap (λ o. part_or w r (at ks q) o (becomes_of q)) (part_nil i (as_many ps ss) q) ∙ by ss parts base
    where
      by : (ss : Spots) → AllBelow w (Some r) [] ls ss r i read (at ks) → ((Among q (all_in ss) → ⊥) → becomes_of q ≡ lost r (at ks q)) → becomes_of q ≡ lost r (at ks q)
      by NoSpots parts base = base (λ a. a)
      by (MoreSpots s ss) parts base = elim (or_not (has (all_in (MoreSpots s ss)) q)) as (λ v. becomes_of q ≡ lost r (at ks q)) [
        | inl y ↦ (let gone = (parts q (has_among (all_in (MoreSpots s ss)) q y)).1 in gets_gone w ks r ds ts0 reached is q ne gone ∙ sym (ap (lost r) gone))
        | inr y ↦ base (not_among (all_in (MoreSpots s ss)) q y)
      ]
  all_settled ps (t ∷ ts) ls NoSpots i read q many differ off dests parts ne base = absurd (as_many_none ps (length ts) many)
  all_settled ps (t ∷ ts) NoKnowns (MoreSpots s ss) i read q many differ off dests parts ne base = absurd parts
  all_settled NoPatterns (t ∷ ts) (MoreKnowns k ls) (MoreSpots s ss) i read q many differ off dests parts ne base = absurd (omega (arith, many))
  all_settled (MorePatterns p ps) (t ∷ ts) (MoreKnowns k ls) (MoreSpots s ss) i read q many differ off dests parts ne base =
      let here : Part = record { field = i; ty = t } in
      elim (or_not (register s == q)) as (λ v. part_or w r (at ks q) (part_from i (as_many (MorePatterns p ps) (MoreSpots s ss)) (t ∷ ts) q) (becomes_of q) ≡ settled_at w r (t ∷ ts) (MoreKnowns k ls) (MoreSpots s ss) q (at ks q)) [
        | inl y ↦
            ap (λ o. part_or w r (at ks q) o (becomes_of q)) (chosen (register s == q) (Some here) (part_from (suc i) (as_many ps ss) ts q) y)
            ∙ (ap (λ z. taken_part w r (at ks z) here) (sym (equal (register s) q y))
            ∙ (field_owned w r i t k s read (at ks) parts.0
            ∙ sym (chosen (register s == q) (owned_kind w t k) (if has (below s) q then with_root (register s) (at ks q) else settled_at w r ts ls ss q (at ks q)) y)))
        | inr y ↦
            ap (λ o. part_or w r (at ks q) o (becomes_of q)) (refused (register s == q) (Some here) (part_from (suc i) (as_many ps ss) ts q) y)
            ∙ (elim (or_not (has (below s) q)) as (λ v. part_or w r (at ks q) (part_from (suc i) (as_many ps ss) ts q) (becomes_of q) ≡ (if has (below s) q then with_root (register s) (at ks q) else settled_at w r ts ls ss q (at ks q))) [
              | inl z ↦
                  (let a = has_among (below s) q z in
                  ap (λ o. part_or w r (at ks q) o (becomes_of q)) (none_of (suc i) ps ts ss q (λ b. differ.2 q a b))
                  ∙ (one_below t k s i read q parts.0 dests.0 (λ x b. (dests.1 x b, (λ e. off (in_head r s ss (subst (λ v. Among v (below s)) e b))))) a
                  ∙ sym (chosen (has (below s) q) (with_root (register s) (at ks q)) (settled_at w r ts ls ss q (at ks q)) z)))
              | inr z ↦
                  all_settled ps ts ls ss (suc i) read q (omega (arith, many)) differ.4 (λ a. off (in_tail r s ss a)) dests.2 parts.1 ne
                  (λ none. base (λ a. outside s ss q (unequal (register s) q y) (not_among (below s) q z) none a))
                  ∙ sym (refused (has (below s) q) (with_root (register s) (at ks q)) (settled_at w r ts ls ss q (at ks q)) z)
            ]
            ∙ sym (refused (register s == q) (owned_kind w t k) (if has (below s) q then with_root (register s) (at ks q) else settled_at w r ts ls ss q (at ks q)) y))
      ]
    where
      outside : (s : Spot) (ss : Spots) (q : ℕ) → (register s ≡ q → ⊥) → (Among q (below s) → ⊥) → (Among q (all_in ss) → ⊥) → Among q (all_in (MoreSpots s ss)) → ⊥
      outside s ss q a b d (inl e) = a (sym e)
      outside s ss q a b d (inr m) = elim (among_either q (below s) (all_in ss) m) as (λ v. ⊥) [
        | inl x ↦ b x
        | inr x ↦ d x
      ]

-- ---- the row

settled_gone : (w : Table) (r : ℕ) (ts : List ℕ) (ks : Knowns) (ss : Spots) (q : ℕ) → (Among q (all_in ss) → ⊥) → settled_at w r ts ks ss q K.Gone ≡ K.Gone
settled_gone w r [] ks ss q ne = refl
settled_gone w r (t ∷ ts) NoKnowns ss q ne = refl
settled_gone w r (t ∷ ts) (MoreKnowns k ks) NoSpots q ne = refl
settled_gone w r (t ∷ ts) (MoreKnowns k ks) (MoreSpots s ss) q ne =
    refused (register s == q) (owned_kind w t k) (if has (below s) q then K.Gone else settled_at w r ts ks ss q K.Gone) (unequal_is (register s) q (λ e. ne (inl (sym e))))
    ∙ (refused (has (below s) q) K.Gone (settled_at w r ts ks ss q K.Gone) (not_has (below s) q (λ a. ne (in_head q s ss a)))
    ∙ settled_gone w r ts ks ss q (λ a. ne (in_tail q s ss a)))

module _ (c : PlainCode) (f : PlainFunction) where
  places : (m : ℕ → Kind) (ks : List Kind) (ps : Patterns) (ss : Spots) → AllDiffer ss → ((z : ℕ) → Among z (all_in ss) → is_free (m z) ≡ true) → at ks ≡ m → are_places ks (as_many ps ss) ≡ true
  places m ks NoPatterns ss differ free e = refl
  places m ks (MorePatterns p ps) NoSpots differ free e = refl
  places m ks (MorePatterns p ps) (MoreSpots s ss) differ free e =
      and_to (is_free (at ks (register s))) (not (has (as_many ps ss) (register s)) && are_places ks (as_many ps ss)) (ap (λ h. is_free (h (register s))) e ∙ free (register s) (inl refl))
      (and_to (not (has (as_many ps ss) (register s))) (are_places ks (as_many ps ss)) (ap not (not_has (as_many ps ss) (register s) (λ a. differ.1 (as_many_within ps ss (register s) a))))
      (places m ks ps ss differ.4 (λ z a. free z (in_tail z s ss a)) e))

  -- what is required of it
  pub record MayTake (m : ℕ → Kind) (r t n : ℕ) (ps : Patterns) (ls : Knowns) (fs : Spots) (read : List ℕ) : Type 0 where
    pub own : m r ≡ K.Owned t (n ∷ [])
    pub many : length (as_many ps fs) ≡ length (fields c.types t n)
    pub differ : AllDiffer fs
    pub off : Among r (all_in fs) → ⊥
    pub parts : AllBelow c.types (Some r) (fields c.types t n) ls fs r 0 read m
    pub outside : Outside r (all_in fs) m
    pub within : (z : ℕ) → Among z (all_in fs) → z < f.registers
    pub free : (z : ℕ) → Among z (all_in fs) → is_free (m z) ≡ true

  pub take_row : (m : ℕ → Kind) (r t n : ℕ) (ps : Patterns) (ls : Knowns) (fs : Spots) (read : List ℕ) → MayTake m r t n ps ls fs read → IsRow c f m (I.Take r (as_many ps fs)) (taken_at c.types r (length (as_many ps fs)) (fields c.types t n) ls fs m)
  take_row m r t n ps ls fs read may = record {
    sources = λ ks cov. ap (can_take c.types (length (as_many ps fs))) (cov.each r ∙ may.own) ∙ equal_is (length (fields c.types t n)) (length (as_many ps fs)) (sym may.many);
    destinations = λ ks cov. and_to (are_places ks (as_many ps fs)) (not (has (as_many ps fs) r)) (places m ks ps fs may.differ may.free (whole c f m ks cov)) (ap not (not_has (as_many ps fs) r (λ a. may.off (as_many_within ps fs r a))));
    leaves = λ ks l cov e. following ks l cov (subst (λ ts. IsTaken c.types ks r (as_many ps fs) ts l) (ap (known_fields c.types) (cov.each r ∙ may.own)) e);
  }
    where
      following : (ks l : List Kind) → Covered f.registers m ks → IsTaken c.types ks r (as_many ps fs) (fields c.types t n) l → Covered f.registers (taken_at c.types r (length (as_many ps fs)) (fields c.types t n) ls fs m) l
      following ks l cov e = record {
        wide = ap length e.2 ∙ (length_become ks new ∙ cov.wide);
        each = λ q. ap (λ l. at l q) e.2 ∙ (becomes ks new past q ∙ same q);
      }
        where
          new : ℕ → Kind
          new q = part_or c.types r (at ks q) (part (as_many ps fs) (fields c.types t n) q) (gets c.types ks r (as_many ps fs) (fields c.types t n) e.0 e.1 q)

          reported : at ks ≡ m
          reported = whole c f m ks cov

          parts : AllBelow c.types (Some r) (fields c.types t n) ls fs r 0 read (at ks)
          parts = subst (AllBelow c.types (Some r) (fields c.types t n) ls fs r 0 read) (sym (whole c f m ks cov)) may.parts

          outside : Outside r (all_in fs) (at ks)
          outside = subst (Outside r (all_in fs)) (sym (whole c f m ks cov)) may.outside

          dest_within : (z : ℕ) (o : Option Part) → part (as_many ps fs) (fields c.types t n) z ≡ o → is_some o ≡ true → Among z (all_in fs)
          dest_within z None e h = absurd (true≢false (sym h))
          dest_within z (Some p) e h = as_many_within ps fs z (has_among (as_many ps fs) z (Rattle.separation.proofs.separation_kinds.Takes.part_dest 0 (as_many ps fs) (fields c.types t n) z p e))

          heir_within : (z : ℕ) (o : Option Part) → part (as_many ps fs) (fields c.types t n) z ≡ o → is_heir_by c.types r (at ks z) o ≡ true → Among z (all_in fs)
          heir_within z None e h = absurd (true≢false (sym h))
          heir_within z (Some p) e h = dest_within z (Some p) e refl

          base : (q : ℕ) → (q ≡ r → ⊥) → (Among q (all_in fs) → ⊥) → gets c.types ks r (as_many ps fs) (fields c.types t n) e.0 e.1 q ≡ lost r (at ks q)
          base q ne none =
              gets_same c.types ks r (as_many ps fs) (fields c.types t n) e.0 e.1 (all_in fs)
              (λ z h. heir_within z (part (as_many ps fs) (fields c.types t n) z) refl h)
              (λ z h. dest_within z (part (as_many ps fs) (fields c.types t n) z) refl h)
              outside q (λ a. elim a as (λ v. ⊥) [
                | inl y ↦ ne y
                | inr y ↦ none y
              ])

          same_of : (q : ℕ) → new q ≡ taken_at c.types r (length (as_many ps fs)) (fields c.types t n) ls fs (at ks) q
          same_of q = elim (or_not (q == r)) as (λ v. new q ≡ taken_at c.types r (length (as_many ps fs)) (fields c.types t n) ls fs (at ks) q) [
            | inl y ↦
                ap (λ o. part_or c.types r (at ks q) o (gets c.types ks r (as_many ps fs) (fields c.types t n) e.0 e.1 q)) (none_of 0 ps (fields c.types t n) fs q (λ a. may.off (subst (λ z. Among z (all_in fs)) (equal q r y) a)))
                ∙ (chosen (q == r) (credit (length (as_many ps fs))) (forget (ends c.types ks r (part (as_many ps fs) (fields c.types t n)) (length (as_many ps fs)) e.0) (fate (e.0 q) r (at ks q))) y
                ∙ sym (chosen (q == r) (credit (length (as_many ps fs))) (settled_at c.types r (fields c.types t n) ls fs q (at ks q)) y))
            | inr y ↦
                all_settled c.types ks r (as_many ps fs) (fields c.types t n) e.0 e.1 ps (fields c.types t n) ls fs 0 read q may.many may.differ may.off (all_dests ps (fields c.types t n) fs 0 may.differ may.many) parts (unequal q r y) (base q (unequal q r y))
                ∙ sym (refused (q == r) (credit (length (as_many ps fs))) (settled_at c.types r (fields c.types t n) ls fs q (at ks q)) y)
          ]

          same : (q : ℕ) → new q ≡ taken_at c.types r (length (as_many ps fs)) (fields c.types t n) ls fs m q
          same q = same_of q ∙ ap (λ h. taken_at c.types r (length (as_many ps fs)) (fields c.types t n) ls fs h q) reported

          past : (q : ℕ) → length ks ≤ q → new q ≡ K.Gone
          past q far =
              let wide = cov.wide in
              let there = not_gone_within ks r (λ gone. other (sym may.own ∙ (sym (cov.each r) ∙ gone))) in
              same_of q
              ∙ (refused (q == r) (credit (length (as_many ps fs))) (settled_at c.types r (fields c.types t n) ls fs q (at ks q)) (unequal_is q r (λ z. absurd (let y : ⊥ = omega (arith, z, far, there) in y)))
              ∙ (ap (settled_at c.types r (fields c.types t n) ls fs q) (at_past ks q far)
              ∙ settled_gone c.types r (fields c.types t n) ls fs q (λ a. absurd (let z = may.within q a in let y : ⊥ = omega (arith, z, far, wide) in y))))
            where
              other : K.Owned t (n ∷ []) ≡ K.Gone → ⊥
              other z = absurd (cc)
