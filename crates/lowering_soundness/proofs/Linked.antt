-- The roots and froms of the kinds that labels report: a root is owned, and a from names a field of another register
-- with the same root.
use Rattle.std.proofs.Common.{◌≡◌, ◌⊎◌, inl, inr, ℕ, zero, suc, ◌+◌, ◌<◌, ◌≤◌, true, false, List, [], ◌∷◌, length, Option, Some, None, slice_get, refl, sym, ap, ◌∙◌, subst, true≢false, arith, ◌==◌, nat_lt}
use Rattle.separation.specs.fip_language.Table.{Table, constructors}
use Rattle.separation.specs.fip_language.Every.{Among}
use Rattle.separation.specs.cell_code.declared.kind.From.{From}
use Rattle.separation.specs.cell_code.declared.kind.Kind.{Kind}
use Rattle.separation.specs.cell_code.declared.kind.Kind.TheVariants as K
use Rattle.separation.specs.cell_code.Plain.{PlainFunction, PlainCode}
use Rattle.separation.specs.code_rules.Types.{count, fields, fields_of, is_scalar_type}
use Rattle.separation.specs.code_rules.Kinds.{is_owned, has, same_root, root_of}
use Rattle.separation.specs.code_rules.Asked.{only_fields, known_fields}
use Rattle.separation.proofs.separation_kinds.Basics.{pick, or_not, equal, itself, unequal, unequal_is, below_is, less_or_not}
use Rattle.lowering_relation.specs.match_knowledge.declared.heads.Head.TheVariants.{Number, Tag}
use Rattle.lowering_relation.specs.match_knowledge.Known as M
use Rattle.lowering_relation.specs.match_knowledge.Known.{Open, Is, Knowns, NoKnowns, MoreKnowns}
use Rattle.lowering_relation.specs.Spots.{Spot, At, Spots, NoSpots, MoreSpots, register, below, all_in, Differ, AllDiffer}
use Rattle.lowering_relation.specs.Entering as E
use Rattle.lowering_relation.proofs.MatchLists.{among_either, in_tail}
use Rattle.lowering_relation.specs.declared.held.Held.{Held}
use Rattle.lowering_relation.specs.declared.held.Held.TheVariants as H
use Rattle.lowering_relation.specs.Known.{Known}
use Rattle.lowering_relation.specs.Describing.{Holding, held_at, kind_of, is_tree}
use Rattle.lowering_relation.specs.Labels.{reported}
use Rattle.lowering_relation.specs.Sights.{left, part_kind, Below, AllBelow, seen_kind, Sight}
use Rattle.lowering_relation.specs.Tests.{Choice}
use Rattle.lowering_soundness.specs.Ties.{Rooted}
use Rattle.lowering_soundness.proofs.Choosing.{Right, right_off, seen_own}
use Rattle.lowering_soundness.proofs.Heirs.{has_among, not_among, scalar_gone}
use Rattle.lowering_soundness.proofs.Lefts.{left_tag}
use Rattle.lowering_soundness.proofs.Peeking.{OwnKind, own_part}
use Rattle.lowering_soundness.proofs.Positions.{OnePart}
use Rattle.tail_groups.proofs.fip_language.Facts.{get_none as get_past}
use Rattle.lowering_soundness.proofs.Fitting.{root_self as same_self}

abbrev pub RootIs : (ℕ → Kind) → Option ℕ → Type 0
RootIs m None = Unit {0}
RootIs m (Some q) = is_owned (m q) ≡ true

-- the from of register j, which is borrowed with this root
abbrev pub FromIs : Table → (ℕ → Kind) → ℕ → Option ℕ → Option From → Type 0
FromIs w m j root None = Unit {0}
FromIs w m j root (Some g) =
    ((g.register == j) ≡ false) × (same_root (root_of g.register (m g.register)) root ≡ true)
    × (nat_lt g.field (length (known_fields w (m g.register))) ≡ true)

abbrev pub LinkIs : Table → (ℕ → Kind) → ℕ → Kind → Type 0
LinkIs w m j K.Gone = Unit {0}
LinkIs w m j (K.Scalar t) = Unit {0}
LinkIs w m j (K.Owned t s) = Unit {0}
LinkIs w m j (K.Lent t s root from) = RootIs m root × FromIs w m j root from
LinkIs w m j (K.Credit n) = Unit {0}

pub record Linked (w : Table) (m : ℕ → Kind) : Type 0 where
  pub each : (j : ℕ) → LinkIs w m j (m j)

-- ---- what is known of registers

pub tree_owned : (w : Table) (h : Held) → is_tree h ≡ true → is_owned (kind_of w h) ≡ true
tree_owned w H.Nothing e = absurd (true≢false (sym e))
tree_owned w (H.Scalar t) e = absurd (true≢false (sym e))
tree_owned w (H.Owned t b) e = refl
tree_owned w (H.Lent t root) e = absurd (true≢false (sym e))
tree_owned w (H.Credit n) e = absurd (true≢false (sym e))
tree_owned w (H.Bare t x) e = refl

held_linked : (w : Table) (m : ℕ → Kind) (j : ℕ) (h : Held) → ((t q : ℕ) → h ≡ H.Lent t (Some q) → is_owned (m q) ≡ true) → LinkIs w m j (kind_of w h)
held_linked w m j H.Nothing roots = tt
held_linked w m j (H.Scalar t) roots = tt
held_linked w m j (H.Owned t b) roots = tt
held_linked w m j (H.Lent t None) roots = (tt, tt)
held_linked w m j (H.Lent t (Some q)) roots = (roots t q refl, tt)
held_linked w m j (H.Credit n) roots = tt
held_linked w m j (H.Bare t x) roots = tt

pub reported_linked : (c : PlainCode) (k : Known) → Rooted (held_at k.held) → Linked c.types (reported c k)
reported_linked c k rooted = record { each = λ j. held_linked c.types (reported c k) j (held_at k.held j) (λ t q e. tree_owned c.types (held_at k.held q) (rooted j t q e)) }

-- ---- what is reported while a clause is chosen

fields_past : (w : Table) (t n : ℕ) → count w t ≤ n → fields w t n ≡ []
fields_past w t n low = ap fields_of (get_past (constructors w t) n low)

seen_tree : (w : Table) (t : ℕ) (h : Held) (κ : M.Known) → is_tree h ≡ true → is_owned (seen_kind w t h κ) ≡ true
seen_tree w t H.Nothing κ e = absurd (true≢false (sym e))
seen_tree w t (H.Scalar u) κ e = absurd (true≢false (sym e))
seen_tree w t (H.Owned u b) κ e = refl
seen_tree w t (H.Lent u root) κ e = absurd (true≢false (sym e))
seen_tree w t (H.Credit n) κ e = absurd (true≢false (sym e))
seen_tree w t (H.Bare u x) κ e = refl

seen_linked : (w : Table) (m : ℕ → Kind) (j t : ℕ) (h : Held) (κ : M.Known) → ((u q : ℕ) → h ≡ H.Lent u (Some q) → is_owned (m q) ≡ true) → LinkIs w m j (seen_kind w t h κ)
seen_linked w m j t H.Nothing κ roots = tt
seen_linked w m j t (H.Scalar u) κ roots = tt
seen_linked w m j t (H.Owned u b) κ roots = tt
seen_linked w m j t (H.Lent u None) κ roots = (tt, tt)
seen_linked w m j t (H.Lent u (Some q)) κ roots = (roots u q refl, tt)
seen_linked w m j t (H.Credit n) κ roots = tt
seen_linked w m j t (H.Bare u x) κ roots = tt

root_is : (m : ℕ → Kind) (r : ℕ) (h : Held) → ((t q : ℕ) → h ≡ H.Lent t (Some q) → is_owned (m q) ≡ true) → (is_tree h ≡ true → is_owned (m r) ≡ true) → RootIs m (E.root_of r h)
root_is m r H.Nothing lent own = tt
root_is m r (H.Scalar t) lent own = tt
root_is m r (H.Owned t b) lent own = own refl
root_is m r (H.Lent t None) lent own = tt
root_is m r (H.Lent t (Some q)) lent own = lent t q refl
root_is m r (H.Credit n) lent own = tt
root_is m r (H.Bare t x) lent own = tt

module _ (w : Table) (m : ℕ → Kind) (root : Option ℕ) (read : List ℕ) where
  -- register z is a position that was read as a field of another register
  pub record IsRead (z : ℕ) : Type 0 where
    pub type : ℕ
    pub known : M.Known
    pub cell : ℕ
    pub place : ℕ
    pub is : m z ≡ part_kind w root type known cell place
    pub other : cell ≡ z → ⊥
    pub same : root_of cell (m cell) ≡ root
    pub low : place < length (known_fields w (m cell))

  -- or nothing is reported of it
  abbrev pub Seat : ℕ → Type 0
  Seat z = (m z ≡ K.Gone) ⊎ IsRead z

  one_seat : (t : ℕ) (k : M.Known) (s : Spot) (r i : ℕ) → OnePart w root t k s r i read m → (r ≡ register s → ⊥) → root_of r (m r) ≡ root → i < length (known_fields w (m r)) → Seat (register s)
  one_seat t k s r i (inl h) other same low = inr (record { type = t; known = k; cell = r; place = i; is = h.1; other = other; same = same; low = low })
  one_seat t k s r i (inr h) other same low = inl h.1

  deep_seat : (t : ℕ) (k : M.Known) (s : Spot) (r i q : ℕ) → OnePart w root t k s r i read m → Among q (below s) → (Below w root t k s read m → OwnKind w root t k (register s) (m (register s)) → Seat q) → Seat q
  deep_seat t k s r i q (inl h) a deep = deep h.2 (subst (OwnKind w root t k (register s)) (sym h.1) (own_part w root t k (register s) r i))
  deep_seat t k s r i q (inr h) a deep = inl (h.2 q a).1

  room_for : (t n r : ℕ) (ks : Knowns) → known_fields w (m r) ≡ only_fields w t (left w t (Is (Tag n) ks)) → length (fields w t n) ≤ length (known_fields w (m r))
  room_for t n r ks known = elim (less_or_not n (count w t)) as (λ v. length (fields w t n) ≤ length (known_fields w (m r))) [
    | inl low ↦ (let e = ap length (known ∙ ap (only_fields w t) (left_tag w t n ks low)) in omega (arith, e))
    | inr past ↦ (let e = ap length (fields_past w t n past) in omega (arith, e))
  ]

  mutual
    pub below_seat : (t : ℕ) (k : M.Known) (s : Spot) (q : ℕ) → Below w root t k s read m → OwnKind w root t k (register s) (m (register s)) → Differ s → (Among (register s) (below s) → ⊥) → Among q (below s) → Seat q
    below_seat t (Open out) (At r fs) q b own differ off a = inl (b q a).1
    below_seat t (Is (Number i) ks) (At r fs) q b own differ off a = inl (b q a).1
    below_seat t (Is (Tag n) ks) (At r fs) q b own differ off a = elim own as (λ v. Seat q) [
      | inl scalar ↦ inl (scalar_gone w t (Is (Tag n) ks) (At r fs) read m root q scalar b a)
      | inr o ↦ (let room = room_for t n r ks o.0 in all_seats (fields w t n) ks fs r 0 q b differ off o.1 (omega (arith, room)) a)
    ]

    all_seats : (ts : List ℕ) (ks : Knowns) (ss : Spots) (r i q : ℕ) → AllBelow w root ts ks ss r i read m → AllDiffer ss → (Among r (all_in ss) → ⊥) → root_of r (m r) ≡ root → i + length ts ≤ length (known_fields w (m r)) → Among q (all_in ss) → Seat q
    all_seats ts ks NoSpots r i q b differ off same room a = absurd a
    all_seats [] ks (MoreSpots s ss) r i q b differ off same room a = inl (b q a).1
    all_seats (t ∷ ts) NoKnowns (MoreSpots s ss) r i q b differ off same room a = absurd b
    all_seats (t ∷ ts) (MoreKnowns k ks) (MoreSpots s ss) r i q b differ off same room (inl e) =
        subst Seat (sym e) (one_seat t k s r i b.0 (λ z. off (inl z)) same (omega (arith, room)))
    all_seats (t ∷ ts) (MoreKnowns k ks) (MoreSpots s ss) r i q b differ off same room (inr a) =
        elim (among_either q (below s) (all_in ss) a) as (λ v. Seat q) [
          | inl y ↦ deep_seat t k s r i q b.0 y (λ d own. below_seat t k s q d own differ.3 differ.0 y)
          | inr y ↦ all_seats ts ks ss r (suc i) q b.1 differ.4 (λ z. off (in_tail r s ss z)) same (omega (arith, room)) y
        ]

  seat_linked : RootIs m root → (z : ℕ) → Seat z → LinkIs w m z (m z)
  seat_linked rooted z (inl e) = subst (LinkIs w m z) (sym e) tt
  seat_linked rooted z (inr h) =
      subst (LinkIs w m z) (sym h.is) (pick (LinkIs w m z) (is_scalar_type w h.type) (K.Scalar h.type) (K.Lent h.type (left w h.type h.known) root (Some (record { register = h.cell; field = h.place }))) (λ y. tt)
      (λ y. (rooted, (unequal_is h.cell z h.other, ap (λ o. same_root o root) h.same ∙ same_self root, below_is h.place (length (known_fields w (m h.cell))) h.low))))

module _ (c : PlainCode) (f : PlainFunction) (g : Holding) (ch : Choice) (right : Right c f g ch) (κ : M.Known) (read : List ℕ) (m : ℕ → Kind) (sight : Sight c.types g ch.type ch.root κ read m) where
  abbrev pub Reg : ℕ
  Reg = register ch.root

  tree_reported : (p : ℕ) → is_tree (g p) ≡ true → is_owned (m p) ≡ true
  tree_reported p tree = elim (or_not (p == Reg)) as (λ v. is_owned (m p) ≡ true) [
    | inl e ↦ ap (λ r. is_owned (m r)) (equal p Reg e) ∙ (ap is_owned sight.root ∙ seen_tree c.types ch.type (g Reg) κ (ap (λ r. is_tree (g r)) (sym (equal p Reg e)) ∙ tree))
    | inr e ↦ ap is_owned (sight.others p (unequal p Reg e) (λ a. true≢false (sym tree ∙ ap is_tree (right.fresh p a).0))) ∙ tree_owned c.types (g p) tree
  ]

  lent_reported : (r t q : ℕ) → g r ≡ H.Lent t (Some q) → is_owned (m q) ≡ true
  lent_reported r t q e = tree_reported q (right.rooted r t q e)

  -- a position below the scrutinee's
  pub sight_seat : (j : ℕ) → Among j (below ch.root) → Seat c.types m (E.root_of Reg (g Reg)) read j
  sight_seat j a =
      below_seat c.types m (E.root_of Reg (g Reg)) read ch.type κ ch.root j sight.parts
      (subst (OwnKind c.types (E.root_of Reg (g Reg)) ch.type κ Reg) (sym sight.root) (seen_own c.types ch.type Reg (g Reg) κ right.seeing)) right.differ (right_off c f g ch right) a

  pub sight_linked : Linked c.types m
  sight_linked = record { each = each }
    where
      each : (j : ℕ) → LinkIs c.types m j (m j)
      each j = elim (or_not (j == Reg)) as (λ v. LinkIs c.types m j (m j)) [
        | inl e ↦ subst (λ z. LinkIs c.types m z (m z)) (sym (equal j Reg e)) (subst (LinkIs c.types m Reg) (sym sight.root) (seen_linked c.types m Reg ch.type (g Reg) κ (lent_reported Reg)))
        | inr e ↦ elim (or_not (has (below ch.root) j)) as (λ v. LinkIs c.types m j (m j)) [
          | inl a ↦ seat_linked c.types m (E.root_of Reg (g Reg)) read (root_is m Reg (g Reg) (lent_reported Reg) (tree_reported Reg)) j (sight_seat j (has_among (below ch.root) j a))
          | inr a ↦ subst (LinkIs c.types m j) (sym (sight.others j (unequal j Reg e) (not_among (below ch.root) j a))) (held_linked c.types m j (g j) (lent_reported j))
        ]
      ]
