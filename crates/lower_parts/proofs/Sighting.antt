-- What is reported where a test failed is what is known there of each register, and takes each such knowledge.
use Rattle.std.proofs.Common.{◌≡◌, ◌⊎◌, inl, inr, refl, sym, ap, ◌∙◌, subst, true≢false, arith, ℕ, zero, suc, ◌+◌, ◌<◌, ◌≤◌, Bool, true, false, ◌||◌, ◌&&◌, List, [], ◌∷◌, length, Option, Some, None, slice_set, get_or}
use Rattle.std.specs.Prelude.{if◌then◌else◌, ◌==◌}
use Rattle.std.proofs.lemmas.Bool.{eqb-true, eqb-false, eq-eqb}
use Rattle.fip_language.specs.Every.{Among}
use Rattle.fip_language.specs.Table.{Table}
use Rattle.cell_code.specs.declared.kind.From.{From}
use Rattle.cell_code.specs.declared.kind.Kind.{Kind}
use Rattle.cell_code.specs.declared.kind.Kind.TheVariants as K
use Rattle.cell_code.specs.Plain.{PlainFunction, PlainCode}
use Rattle.lower_frame.specs.code_rules.Fitting.{fits, is_subset, takes_from}
use Rattle.lower_frame.specs.code_rules.Kinds.{at, has, same_root}
use Rattle.lower_frame.specs.code_rules.Types.{all, count, fields, is_scalar_type, numbers}
use Rattle.match_knowledge.specs.declared.heads.Head.TheVariants.{Number, Tag}
use Rattle.match_knowledge.specs.Known.{Known, Open, Is, Knowns, NoKnowns, MoreKnowns}
use Rattle.lower_frame.specs.lowering_relation.Spots.{Spot, At, Spots, NoSpots, MoreSpots, register, below, all_in, fields as spots_of, Differ, AllDiffer}
use Rattle.lower_frame.specs.lowering_relation.Reading.{contains}
use Rattle.lower_frame.specs.lowering_relation.Entering.{root_of}
use Rattle.lower_frame.specs.lowering_relation.Landing.{Scene, IsScene}
use Rattle.lower_frame.proofs.lowering_relation.MatchLists.{among_either, contains_among, in_head, in_tail}
use Rattle.lower_frame.specs.lowering_relation.declared.held.Held.{Held}
use Rattle.lower_frame.specs.lowering_relation.declared.held.Held.TheVariants as H
use Rattle.lower_frame.specs.lowering_relation.Values.{Setting, is_scalar}
use Rattle.lower_frame.specs.lowering_relation.Describing.{Holding, held_at, kind_of}
use Rattle.lower_frame.specs.lowering_relation.Matches.{BuiltRight, wide_at, widened}
use Rattle.lower_frame.specs.lowering_relation.Sights.{left, part_kind, Unread, Fresh, Below, AllBelow, seen_kind, Sight}
use Rattle.lower_frame.specs.Frames.{kinds_reported}
use Rattle.lower_parts.specs.Chosen.{Sighted}
use Rattle.lower_parts.specs.Overlays.{with_root, part_reported, overlaid, overlaid_all, failed_reported}
use Rattle.lower_parts.specs.Seen.{NoneRead, Seen, AllSeen}
use Rattle.lower_parts.specs.Testing.{Alike}
use Rattle.lower_parts.proofs.Folding.{if_true, if_false}
use Rattle.fip_language.proofs.Facts.{both_true, or_last as or_true, true_or_false as or_not}
use Rattle.lower_parts.proofs.Leaving.{among_contains}

-- lists of kinds

same_kind : (r : ℕ) (k : Kind) (ks : List Kind) → r < length ks → at (slice_set ks r k) r ≡ k
same_kind r k [] h = absurd (omega (arith, h))
same_kind zero k (x ∷ ks) h = refl
same_kind (suc r) k (x ∷ ks) h = same_kind r k ks (omega (arith, h))

other_kind : (r q : ℕ) (k : Kind) (ks : List Kind) → (q ≡ r → ⊥) → at (slice_set ks r k) q ≡ at ks q
other_kind r q k [] ne = refl
other_kind zero zero k (x ∷ ks) ne = absurd (ne refl)
other_kind zero (suc q) k (x ∷ ks) ne = refl
other_kind (suc r) zero k (x ∷ ks) ne = refl
other_kind (suc r) (suc q) k (x ∷ ks) ne = other_kind r q k ks (λ e. ne (ap suc e))

as_long : (r : ℕ) (k : Kind) (ks : List Kind) → length (slice_set ks r k) ≡ length ks
as_long r k [] = refl
as_long zero k (x ∷ ks) = refl
as_long (suc r) k (x ∷ ks) = ap suc (as_long r k ks)

pub reported_kind : (w : Table) (hs : List Held) (r : ℕ) → at (kinds_reported w hs) r ≡ kind_of w (widened (held_at hs r))
reported_kind w [] r = refl
reported_kind w (h ∷ hs) zero = refl
reported_kind w (h ∷ hs) (suc r) = reported_kind w hs r

pub reported_long : (w : Table) (hs : List Held) → length (kinds_reported w hs) ≡ length hs
reported_long w [] = refl
reported_long w (h ∷ hs) = ap suc (reported_long w hs)

pub get_held : (hs : List Held) (r : ℕ) → get_or hs r H.Nothing ≡ held_at hs r
get_held [] r = refl
get_held (h ∷ hs) zero = refl
get_held (h ∷ hs) (suc r) = get_held hs r

-- the positions below one

-- the same is reported of these registers
abbrev SameKinds : List ℕ → (ℕ → Kind) → (ℕ → Kind) → Type 0
SameKinds zs m l = (z : ℕ) → Among z zs → l z ≡ m z

unread_on : (zs read : List ℕ) (m l : ℕ → Kind) → SameKinds zs m l → Unread zs read m → Unread zs read l
unread_on zs read m l same u z a = ((u z a).0, same z a ∙ (u z a).1)

abbrev OnePart : Table → Option ℕ → ℕ → Known → Spot → ℕ → ℕ → List ℕ → (ℕ → Kind) → Type 0
OnePart w root t k s r i read m =
    ((contains (register s) read ≡ true) × (m (register s) ≡ part_kind w root t k r i) × Below w root t k s read m)
    ⊎ ((contains (register s) read ≡ false) × (m (register s) ≡ K.Gone) × Unread (below s) read m × Fresh w t k)

part_on : (w : Table) (root : Option ℕ) (t : ℕ) (k : Known) (s : Spot) (r i : ℕ) (read : List ℕ) (m l : ℕ → Kind) → l (register s) ≡ m (register s) → SameKinds (below s) m l → (Below w root t k s read m → Below w root t k s read l) → OnePart w root t k s r i read m → OnePart w root t k s r i read l
part_on w root t k s r i read m l here same deep (inl h) = inl (h.0, here ∙ h.1, deep h.2)
part_on w root t k s r i read m l here same deep (inr h) = inr (h.0, here ∙ h.1, unread_on (below s) read m l same h.2, h.3)

mutual
  below_on : (w : Table) (root : Option ℕ) (t : ℕ) (k : Known) (s : Spot) (read : List ℕ) (m l : ℕ → Kind) → SameKinds (below s) m l → Below w root t k s read m → Below w root t k s read l
  below_on w root t (Open out) (At r fs) read m l same b = unread_on (all_in fs) read m l same b
  below_on w root t (Is (Number i) ks) (At r fs) read m l same b = unread_on (all_in fs) read m l same b
  below_on w root t (Is (Tag n) ks) (At r fs) read m l same b = all_below_on w root (fields w t n) ks fs r 0 read m l same b

  all_below_on : (w : Table) (root : Option ℕ) (ts : List ℕ) (ks : Knowns) (ss : Spots) (r i : ℕ) (read : List ℕ) (m l : ℕ → Kind) → SameKinds (all_in ss) m l → AllBelow w root ts ks ss r i read m → AllBelow w root ts ks ss r i read l
  all_below_on w root ts ks NoSpots r i read m l same b = tt
  all_below_on w root [] ks (MoreSpots s ss) r i read m l same b = unread_on (all_in (MoreSpots s ss)) read m l same b
  all_below_on w root (t ∷ ts) NoKnowns (MoreSpots s ss) r i read m l same b = absurd b
  all_below_on w root (t ∷ ts) (MoreKnowns k ks) (MoreSpots s ss) r i read m l same b = (
    part_on w root t k s r i read m l (same (register s) (inl refl)) (λ z a. same z (in_head z s ss a)) (λ d. below_on w root t k s read m l (λ z a. same z (in_head z s ss a)) d) b.0,
    all_below_on w root ts ks ss r (suc i) read m l (λ z a. same z (in_tail z s ss a)) b.1,
  )

-- what is reported is just so

same_either : (zs read : List ℕ) (m l : ℕ → Kind) → Unread zs read m → Unread zs read l → SameKinds zs m l
same_either zs read m l u v z a = (v z a).1 ∙ sym (u z a).1

one_same : (w : Table) (root : Option ℕ) (t : ℕ) (k : Known) (s : Spot) (r i : ℕ) (read : List ℕ) (m l : ℕ → Kind) → (Below w root t k s read m → Below w root t k s read l → SameKinds (below s) m l) → OnePart w root t k s r i read m → OnePart w root t k s r i read l → (l (register s) ≡ m (register s)) × SameKinds (below s) m l
one_same w root t k s r i read m l deep (inl h) (inl g) = (g.1 ∙ sym h.1, deep h.2 g.2)
one_same w root t k s r i read m l deep (inl h) (inr g) = absurd (true≢false (sym h.0 ∙ g.0))
one_same w root t k s r i read m l deep (inr h) (inl g) = absurd (true≢false (sym g.0 ∙ h.0))
one_same w root t k s r i read m l deep (inr h) (inr g) = (g.1 ∙ sym h.1, same_either (below s) read m l h.2 g.2)

parts_same : (s : Spot) (ss : Spots) (m l : ℕ → Kind) → (l (register s) ≡ m (register s)) × SameKinds (below s) m l → SameKinds (all_in ss) m l → SameKinds (all_in (MoreSpots s ss)) m l
parts_same s ss m l one others z (inl e) = ap l e ∙ one.0 ∙ sym (ap m e)
parts_same s ss m l one others z (inr a) = elim (among_either z (below s) (all_in ss) a) [
  | inl b ↦ one.1 z b
  | inr b ↦ others z b
]

mutual
  below_same : (w : Table) (root : Option ℕ) (t : ℕ) (k : Known) (s : Spot) (read : List ℕ) (m l : ℕ → Kind) → Below w root t k s read m → Below w root t k s read l → SameKinds (below s) m l
  below_same w root t (Open out) (At r fs) read m l x y = same_either (all_in fs) read m l x y
  below_same w root t (Is (Number i) ks) (At r fs) read m l x y = same_either (all_in fs) read m l x y
  below_same w root t (Is (Tag n) ks) (At r fs) read m l x y = all_below_same w root (fields w t n) ks fs r 0 read m l x y

  all_below_same : (w : Table) (root : Option ℕ) (ts : List ℕ) (ks : Knowns) (ss : Spots) (r i : ℕ) (read : List ℕ) (m l : ℕ → Kind) → AllBelow w root ts ks ss r i read m → AllBelow w root ts ks ss r i read l → SameKinds (all_in ss) m l
  all_below_same w root ts ks NoSpots r i read m l x y = λ z a. absurd a
  all_below_same w root [] ks (MoreSpots s ss) r i read m l x y = same_either (all_in (MoreSpots s ss)) read m l x y
  all_below_same w root (t ∷ ts) NoKnowns (MoreSpots s ss) r i read m l x y = absurd x
  all_below_same w root (t ∷ ts) (MoreKnowns k ks) (MoreSpots s ss) r i read m l x y =
      parts_same s ss m l (one_same w root t k s r i read m l (λ a b. below_same w root t k s read m l a b) x.0 y.0) (all_below_same w root ts ks ss r (suc i) read m l x.1 y.1)

-- what is reported below the scrutinee

module _ (st : Setting) (root : Option ℕ) (read : List ℕ) where
  abbrev w : Table
  w = st.types

  if_long : (b : Bool) (xs ys : List Kind) (n : ℕ) → length xs ≡ n → length ys ≡ n → length (if b then xs else ys) ≡ n
  if_long true xs ys n e f = e
  if_long false xs ys n e f = f

  mutual
    overlaid_long : (t : ℕ) (k : Known) (p : Spot) (kinds : List Kind) → length (overlaid st root read t k p kinds) ≡ length kinds
    overlaid_long t (Open out) p kinds = refl
    overlaid_long t (Is (Number i) ks) p kinds = refl
    overlaid_long t (Is (Tag c) ks) p kinds = all_long (fields w t c) ks (spots_of p) (register p) 0 kinds

    all_long : (ts : List ℕ) (ks : Knowns) (ps : Spots) (r i : ℕ) (kinds : List Kind) → length (overlaid_all st root read ts ks ps r i kinds) ≡ length kinds
    all_long ts NoKnowns ps r i kinds = refl
    all_long [] (MoreKnowns k ks) ps r i kinds = refl
    all_long (t ∷ ts) (MoreKnowns k ks) NoSpots r i kinds = refl
    all_long (t ∷ ts) (MoreKnowns k ks) (MoreSpots p ps) r i kinds =
        let deep = overlaid st root read t k p (slice_set kinds (register p) (part_reported st root t k r i)) in
        all_long ts ks ps r (suc i) (if contains (register p) read then deep else kinds)
        ∙ if_long (contains (register p) read) deep kinds (length kinds)
        (overlaid_long t k p (slice_set kinds (register p) (part_reported st root t k r i)) ∙ as_long (register p) (part_reported st root t k r i) kinds) refl

  if_other : (b : Bool) (xs ys : List Kind) (z : ℕ) (v : Kind) → at xs z ≡ v → at ys z ≡ v → at (if b then xs else ys) z ≡ v
  if_other true xs ys z v e f = e
  if_other false xs ys z v e f = f

  mutual
    overlaid_other : (t : ℕ) (k : Known) (p : Spot) (kinds : List Kind) (z : ℕ) → (Among z (below p) → ⊥) → at (overlaid st root read t k p kinds) z ≡ at kinds z
    overlaid_other t (Open out) p kinds z ne = refl
    overlaid_other t (Is (Number i) ks) p kinds z ne = refl
    overlaid_other t (Is (Tag c) ks) (At r fs) kinds z ne = all_other (fields w t c) ks fs r 0 kinds z ne

    all_other : (ts : List ℕ) (ks : Knowns) (ps : Spots) (r i : ℕ) (kinds : List Kind) (z : ℕ) → (Among z (all_in ps) → ⊥) → at (overlaid_all st root read ts ks ps r i kinds) z ≡ at kinds z
    all_other ts NoKnowns ps r i kinds z ne = refl
    all_other [] (MoreKnowns k ks) ps r i kinds z ne = refl
    all_other (t ∷ ts) (MoreKnowns k ks) NoSpots r i kinds z ne = refl
    all_other (t ∷ ts) (MoreKnowns k ks) (MoreSpots p ps) r i kinds z ne =
        let set = slice_set kinds (register p) (part_reported st root t k r i) in
        all_other ts ks ps r (suc i) (if contains (register p) read then overlaid st root read t k p set else kinds) z (λ a. ne (in_tail z p ps a))
        ∙ if_other (contains (register p) read) (overlaid st root read t k p set) kinds z (at kinds z)
        (overlaid_other t k p set z (λ a. ne (in_head z p ps a)) ∙ other_kind (register p) z (part_reported st root t k r i) kinds (λ e. ne (inl e))) refl

  part_is : (t : ℕ) (k : Known) (r i : ℕ) → is_scalar st t ≡ is_scalar_type w t → part_reported st root t k r i ≡ part_kind w root t k r i
  part_is t k r i e = ap (λ (b : Bool). if b then K.Scalar t else K.Lent t (left w t k) root (Some (record { register = r; field = i }))) e

  -- the scalars among the fields of the types are those of the setting
  module _ (plain : (t c u : ℕ) → Among u (fields w t c) → is_scalar st u ≡ is_scalar_type w u) where
    unread_in : (zs : List ℕ) (kinds : List Kind) → NoneRead zs read → ((z : ℕ) → Among z zs → at kinds z ≡ K.Gone) → Unread zs read (at kinds)
    unread_in zs kinds none gone z a = (none z a, gone z a)

    part_below : (t : ℕ) (ts : List ℕ) (k : Known) (ks : Knowns) (p : Spot) (ps : Spots) (r i : ℕ) (kinds : List Kind) → ((u : ℕ) → Among u (t ∷ ts) → is_scalar st u ≡ is_scalar_type w u) → AllDiffer (MoreSpots p ps) →
        (((contains (register p) read ≡ true) × Seen w t k p read) ⊎ ((contains (register p) read ≡ false) × NoneRead (below p) read × Fresh w t k)) → AllSeen w ts ks ps read → ((z : ℕ) → Among z (all_in (MoreSpots p ps)) → (z < length kinds) × (at kinds z ≡ K.Gone)) →
        (Seen w t k p read → Below w root t k p read (at (overlaid st root read t k p (slice_set kinds (register p) (part_reported st root t k r i))))) →
        ((more : List Kind) → length more ≡ length kinds → ((z : ℕ) → Among z (all_in ps) → at more z ≡ at kinds z) → AllBelow w root ts ks ps r (suc i) read (at (overlaid_all st root read ts ks ps r (suc i) more))) →
        AllBelow w root (t ∷ ts) (MoreKnowns k ks) (MoreSpots p ps) r i read (at (overlaid_all st root read (t ∷ ts) (MoreKnowns k ks) (MoreSpots p ps) r i kinds))
    part_below t ts k ks p ps r i kinds sc d (inl h) seen in' below rest =
        subst (λ more. AllBelow w root (t ∷ ts) (MoreKnowns k ks) (MoreSpots p ps) r i read (at (overlaid_all st root read ts ks ps r (suc i) more))) (sym (if_true (contains (register p) read) deep kinds h.0)) (
          inl (
            h.0,
            all_other ts ks ps r (suc i) deep (register p) d.1 ∙ overlaid_other t k p set (register p) d.0 ∙ same_kind (register p) (part_reported st root t k r i) kinds (in' (register p) (inl refl)).0 ∙ part_is t k r i (sc t (inl refl)),
            below_on w root t k p read (at deep) (at (overlaid_all st root read ts ks ps r (suc i) deep)) (λ z a. all_other ts ks ps r (suc i) deep z (λ b. d.2 z a b)) (below h.1),
          ),
          rest deep (overlaid_long t k p set ∙ as_long (register p) (part_reported st root t k r i) kinds)
              (λ z a. overlaid_other t k p set z (λ b. d.2 z b a) ∙ other_kind (register p) z (part_reported st root t k r i) kinds (λ e. d.1 (subst (λ q. Among q (all_in ps)) e a))),
        )
      where
        set : List Kind
        set = slice_set kinds (register p) (part_reported st root t k r i)

        deep : List Kind
        deep = overlaid st root read t k p set
    part_below t ts k ks p ps r i kinds sc d (inr h) seen in' below rest =
        subst (λ more. AllBelow w root (t ∷ ts) (MoreKnowns k ks) (MoreSpots p ps) r i read (at (overlaid_all st root read ts ks ps r (suc i) more)))
        (sym (if_false (contains (register p) read) (overlaid st root read t k p (slice_set kinds (register p) (part_reported st root t k r i))) kinds h.0)) (
          inr (
            h.0,
            all_other ts ks ps r (suc i) kinds (register p) d.1 ∙ (in' (register p) (inl refl)).1,
            (λ z a. (h.1 z a, all_other ts ks ps r (suc i) kinds z (λ b. d.2 z a b) ∙ (in' z (in_head z p ps a)).1)),
            h.2,
          ),
          rest kinds refl (λ z a. refl),
        )

    mutual
      overlaid_below : (t : ℕ) (k : Known) (p : Spot) (kinds : List Kind) → Differ p → Seen w t k p read → ((z : ℕ) → Among z (below p) → (z < length kinds) × (at kinds z ≡ K.Gone)) → Below w root t k p read (at (overlaid st root read t k p kinds))
      overlaid_below t (Open out) (At r fs) kinds d seen in' = unread_in (all_in fs) kinds seen (λ z a. (in' z a).1)
      overlaid_below t (Is (Number i) ks) (At r fs) kinds d seen in' = unread_in (all_in fs) kinds seen (λ z a. (in' z a).1)
      overlaid_below t (Is (Tag c) ks) (At r fs) kinds d seen in' = all_overlaid_below (fields w t c) ks fs r 0 kinds (λ u a. plain t c u a) d seen in'

      all_overlaid_below : (ts : List ℕ) (ks : Knowns) (ps : Spots) (r i : ℕ) (kinds : List Kind) → ((u : ℕ) → Among u ts → is_scalar st u ≡ is_scalar_type w u) → AllDiffer ps → AllSeen w ts ks ps read → ((z : ℕ) → Among z (all_in ps) → (z < length kinds) × (at kinds z ≡ K.Gone)) → AllBelow w root ts ks ps r i read (at (overlaid_all st root read ts ks ps r i kinds))
      all_overlaid_below ts ks NoSpots r i kinds sc d seen in' = tt
      all_overlaid_below [] NoKnowns (MoreSpots p ps) r i kinds sc d seen in' = unread_in (all_in (MoreSpots p ps)) kinds seen (λ z a. (in' z a).1)
      all_overlaid_below [] (MoreKnowns k ks) (MoreSpots p ps) r i kinds sc d seen in' = unread_in (all_in (MoreSpots p ps)) kinds seen (λ z a. (in' z a).1)
      all_overlaid_below (t ∷ ts) NoKnowns (MoreSpots p ps) r i kinds sc d seen in' = absurd seen
      all_overlaid_below (t ∷ ts) (MoreKnowns k ks) (MoreSpots p ps) r i kinds sc d seen in' =
          let set = slice_set kinds (register p) (part_reported st root t k r i) in
          let deep = overlaid st root read t k p set in
          part_below t ts k ks p ps r i kinds sc d seen.0 seen.1 in'
          (λ s. overlaid_below t k p set d.3 s (λ z a. (
            let x = (in' z (in_head z p ps a)).0 in omega (arith, x, as_long (register p) (part_reported st root t k r i) kinds),
            other_kind (register p) z (part_reported st root t k r i) kinds (λ e. d.0 (subst (λ q. Among q (below p)) e a)) ∙ (in' z (in_head z p ps a)).1,
          )))
          (λ more long same. all_overlaid_below ts ks ps r (suc i) more (λ u a. sc u (inr a)) d.4 seen.1 (λ z a.
          (let x = (in' z (in_tail z p ps a)).0 in omega (arith, x, long), same z a ∙ (in' z (in_tail z p ps a)).1)))

-- the scrutinee

with_long : (w : Table) (t : ℕ) (h : Held) (k : Known) (r : ℕ) (kinds : List Kind) → length (with_root w t h k r kinds) ≡ length kinds
with_long w t H.Nothing k r kinds = refl
with_long w t (H.Scalar u) k r kinds = refl
with_long w t (H.Owned u b) k r kinds = as_long r (K.Owned t (left w t k)) kinds
with_long w t (H.Lent u root) k r kinds = as_long r (K.Lent t (left w t k) root None) kinds
with_long w t (H.Credit n) k r kinds = refl
with_long w t (H.Bare u c) k r kinds = refl

with_other : (w : Table) (t : ℕ) (h : Held) (k : Known) (r q : ℕ) (kinds : List Kind) → (q ≡ r → ⊥) → at (with_root w t h k r kinds) q ≡ at kinds q
with_other w t H.Nothing k r q kinds ne = refl
with_other w t (H.Scalar u) k r q kinds ne = refl
with_other w t (H.Owned u b) k r q kinds ne = other_kind r q (K.Owned t (left w t k)) kinds ne
with_other w t (H.Lent u root) k r q kinds ne = other_kind r q (K.Lent t (left w t k) root None) kinds ne
with_other w t (H.Credit n) k r q kinds ne = refl
with_other w t (H.Bare u c) k r q kinds ne = refl

with_here : (w : Table) (t : ℕ) (h : Held) (k : Known) (r : ℕ) (kinds : List Kind) → r < length kinds → at kinds r ≡ kind_of w (widened h) → at (with_root w t h k r kinds) r ≡ seen_kind w t (widened h) k
with_here w t H.Nothing k r kinds lt e = e
with_here w t (H.Scalar u) k r kinds lt e = e
with_here w t (H.Owned u b) k r kinds lt e = same_kind r (K.Owned t (left w t k)) kinds lt
with_here w t (H.Lent u root) k r kinds lt e = same_kind r (K.Lent t (left w t k) root None) kinds lt
with_here w t (H.Credit n) k r kinds lt e = e
with_here w t (H.Bare u c) k r kinds lt e = e

wide_root : (r : ℕ) (h : Held) → root_of r (widened h) ≡ root_of r h
wide_root r H.Nothing = refl
wide_root r (H.Scalar t) = refl
wide_root r (H.Owned t b) = refl
wide_root r (H.Lent t root) = refl
wide_root r (H.Credit n) = refl
wide_root r (H.Bare t c) = refl

-- kinds that take others

has_more : (y : ℕ) (ys : List ℕ) (x : ℕ) → has ys x ≡ true → has (y ∷ ys) x ≡ true
has_more y ys x h = or_true (y == x) (has ys x) h

is_has : (xs : List ℕ) (x : ℕ) → Among x xs → has xs x ≡ true
is_has [] x a = absurd a
is_has (y ∷ ys) x (inl e) = ap (λ b. b || has ys x) (eq-eqb y x (sym e))
is_has (y ∷ ys) x (inr a) = has_more y ys x (is_has ys x a)

subset_by : (xs ys : List ℕ) → ((x : ℕ) → Among x xs → has ys x ≡ true) → is_subset xs ys ≡ true
subset_by [] ys h = refl
subset_by (x ∷ xs) ys h = both_true (has ys x) (is_subset xs ys) (h x (inl refl)) (subset_by xs ys (λ y a. h y (inr a)))

root_self : (o : Option ℕ) → same_root o o ≡ true
root_self None = refl
root_self (Some a) = eq-eqb a a refl

from_self : (o : Option From) → takes_from o o ≡ true
from_self None = refl
from_self (Some g) = both_true (g.register == g.register) (g.field == g.field) (eq-eqb g.register g.register refl) (eq-eqb g.field g.field refl)

pub fits_self : (k : Kind) → fits k k ≡ true
fits_self K.Gone = refl
fits_self (K.Scalar t) = eq-eqb t t refl
fits_self (K.Owned t s) = both_true (t == t) (is_subset s s) (eq-eqb t t refl) (subset_by s s (λ x a. is_has s x a))
fits_self (K.Lent t s root from) =
    both_true (t == t) (is_subset s s && (same_root root root && takes_from from from)) (eq-eqb t t refl)
    (both_true (is_subset s s) (same_root root root && takes_from from from) (subset_by s s (λ x a. is_has s x a)) (both_true (same_root root root) (takes_from from from) (root_self root) (from_self from)))
fits_self (K.Credit n) = eq-eqb n n refl

pub fits_same : (k l : Kind) → l ≡ k → fits k l ≡ true
fits_same k l e = ap (fits k) e ∙ fits_self k

pub numbers_has : (i n x : ℕ) → i ≤ x → x < i + n → has (numbers i n) x ≡ true
numbers_has i zero x low high = absurd (omega (arith, low, high))
numbers_has i (suc n) x low high = elim (or_not (i == x)) [
  | inl e ↦ ap (λ b. b || has (numbers (suc i) n) x) e
  | inr e ↦ has_more i (numbers (suc i) n) x (numbers_has (suc i) n x (let z = eqb-false i x e in omega (arith, z, low)) (omega (arith, high)))
]

wide_fits : (w : Table) (h : Held) → BuiltRight w h → fits (kind_of w (widened h)) (kind_of w h) ≡ true
wide_fits w H.Nothing b = refl
wide_fits w (H.Scalar t) b = fits_self (K.Scalar t)
wide_fits w (H.Owned t None) b = fits_self (K.Owned t (all w t))
wide_fits w (H.Owned t (Some d)) b =
    let low = b.there t d refl in
    both_true (t == t) (is_subset (d ∷ []) (all w t)) (eq-eqb t t refl) (both_true (has (all w t) d) true (numbers_has 0 (count w t) d (omega arith) (omega (arith, low))) refl)
wide_fits w (H.Lent t root) b = fits_self (K.Lent t (all w t) root None)
wide_fits w (H.Credit n) b = fits_self (K.Credit n)
wide_fits w (H.Bare t c) b = fits_self (K.Owned t (c ∷ []))

seen_fits : (w : Table) (t : ℕ) (h : Held) (k : Known) → fits (seen_kind w t (widened h) k) (seen_kind w t h k) ≡ true
seen_fits w t H.Nothing k = refl
seen_fits w t (H.Scalar u) k = fits_self (K.Scalar u)
seen_fits w t (H.Owned u b) k = fits_self (K.Owned t (left w t k))
seen_fits w t (H.Lent u root) k = fits_self (K.Lent t (left w t k) root None)
seen_fits w t (H.Credit n) k = fits_self (K.Credit n)
seen_fits w t (H.Bare u c) k = fits_self (K.Owned u (c ∷ []))

-- all registers

module _ (st : Setting) (hs : List Held) (t : ℕ) (p : Spot) (k : Known) (read : List ℕ) (plain : (t c u : ℕ) → Among u (fields st.types t c) → is_scalar st u ≡ is_scalar_type st.types u) (differ : Differ p) (apart : Among (register p) (below p) → ⊥) (inside : register p < length hs) (fresh : (z : ℕ) → Among z (below p) → (z < length hs) × (held_at hs z ≡ H.Nothing)) (seen : Seen st.types t k p read) where
  abbrev held : Held
  held = get_or hs (register p) H.Nothing

  abbrev kinds : List Kind
  kinds = with_root st.types t held k (register p) (kinds_reported st.types hs)

  abbrev reported : List Kind
  reported = failed_reported st hs t p k read

  kinds_long : length kinds ≡ length hs
  kinds_long = with_long st.types t held k (register p) (kinds_reported st.types hs) ∙ reported_long st.types hs

  failed_long : length reported ≡ length hs
  failed_long = overlaid_long st (root_of (register p) held) read t k p kinds ∙ kinds_long

  at_other : (q : ℕ) → (q ≡ register p → ⊥) → at kinds q ≡ kind_of st.types (widened (held_at hs q))
  at_other q ne = with_other st.types t held k (register p) q (kinds_reported st.types hs) ne ∙ reported_kind st.types hs q

  not_root : (z : ℕ) → Among z (below p) → z ≡ register p → ⊥
  not_root z a e = apart (subst (λ q. Among q (below p)) e a)

  failed_sight : Sight st.types (wide_at (held_at hs)) t p k read (at reported)
  failed_sight = record {
    root = overlaid_other st (root_of (register p) held) read t k p kinds (register p) apart
        ∙ with_here st.types t held k (register p) (kinds_reported st.types hs) (let n = reported_long st.types hs in omega (arith, n, inside)) (reported_kind st.types hs (register p) ∙ ap (λ h. kind_of st.types (widened h)) (sym (get_held hs (register p))))
        ∙ ap (λ h. seen_kind st.types t (widened h) k) (get_held hs (register p));
    parts = subst (λ o. Below st.types o t k p read (at reported)) (sym (wide_root (register p) (held_at hs (register p)) ∙ ap (root_of (register p)) (sym (get_held hs (register p)))))
        (overlaid_below st (root_of (register p) held) read plain t k p kinds differ seen (λ z a.
        (let f = (fresh z a).0 in omega (arith, f, kinds_long), at_other z (not_root z a) ∙ ap (λ h. kind_of st.types (widened h)) (fresh z a).1)));
    others = λ q ne out. overlaid_other st (root_of (register p) held) read t k p kinds q out ∙ at_other q ne;
  }

  failed_takes : (g : Holding) → Alike st.types hs g → (m : ℕ → Kind) → Sight st.types g t p k read m → (q : ℕ) → fits (at reported q) (m q) ≡ true
  failed_takes g alike m sight q = by (or_not (q == register p))
    where
      same_root_of : root_of (register p) (wide_at (held_at hs) (register p)) ≡ root_of (register p) (g (register p))
      same_root_of = ap (root_of (register p)) (sym (alike.held (register p))) ∙ wide_root (register p) (g (register p))

      outside : (q ≡ register p → ⊥) → (b : Bool) → contains q (below p) ≡ b → fits (at reported q) (m q) ≡ true
      outside ne true e = fits_same (at reported q) (m q)
          (below_same st.types (root_of (register p) (g (register p))) t k p read (at reported) m (subst (λ o. Below st.types o t k p read (at reported)) same_root_of failed_sight.parts) sight.parts q (contains_among q (below p) e))
      outside ne false e =
          let out : Among q (below p) → ⊥ = λ a. true≢false (sym (among_contains q (below p) a) ∙ e) in
          ap (λ x. fits x (m q)) (failed_sight.others q ne out ∙ ap (kind_of st.types) (sym (alike.held q)))
          ∙ ap (fits (kind_of st.types (widened (g q)))) (sight.others q ne out) ∙ wide_fits st.types (g q) (alike.built q)

      by : ((q == register p) ≡ true) ⊎ ((q == register p) ≡ false) → fits (at reported q) (m q) ≡ true
      by (inl e) =
          let same : q ≡ register p = eqb-true q (register p) e in
          subst (λ z. fits (at reported z) (m z) ≡ true) (sym same)
          (ap (λ x. fits x (m (register p))) (failed_sight.root ∙ ap (λ h. seen_kind st.types t h k) (sym (alike.held (register p))))
          ∙ ap (fits (seen_kind st.types t (widened (g (register p))) k)) sight.root ∙ seen_fits st.types t (g (register p)) k)
      by (inr e) = outside (eqb-false q (register p) e) (contains q (below p)) refl

-- what a label reports where a test failed
pub sighted : (c : PlainCode) (f : PlainFunction) (st : Setting) (hs : List Held) (s : Scene) → c.types ≡ st.types → ((t c u : ℕ) → Among u (fields st.types t c) → is_scalar st u ≡ is_scalar_type st.types u) → IsScene s → length hs ≡ f.registers → register s.root < length hs →
    ((z : ℕ) → Among z (below s.root) → (z < length hs) × (held_at hs z ≡ H.Nothing)) → (k : Known) (read : List ℕ) → Seen st.types s.type k s.root read → Sighted c f hs s k read (failed_reported st hs s.type s.root k read)
sighted c f st hs s types plain is long inside fresh k read seen = record {
  wide = failed_long st hs s.type s.root k read plain is.differ apart inside fresh seen ∙ long;
  sight = subst (λ w. Sight w (wide_at (held_at hs)) s.type s.root k read (at (failed_reported st hs s.type s.root k read))) (sym types) (failed_sight st hs s.type s.root k read plain is.differ apart inside fresh seen);
  takes = λ g alike m sight r. failed_takes st hs s.type s.root k read plain is.differ apart inside fresh seen g (subst (λ w. Alike w hs g) types alike) m (subst (λ w. Sight w g s.type s.root k read m) types sight) r;
}
  where
    apart : Among (register s.root) (below s.root) → ⊥
    apart a = let low = is.fresh (register s.root) a in let used = is.used in absurd (omega (arith, low, used))
