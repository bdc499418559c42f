-- After a cell that was taken apart: what is reported of its fields and of the positions below them.
use Rattle.std.proofs.Common.{◌≡◌, inl, inr, ℕ, suc, Bool, true, false, ◌||◌, List, [], ◌∷◌, Option, Some, None, refl, sym, ap, ◌∙◌, subst, true≢false, if◌then◌else◌, ◌==◌}
use Rattle.std.proofs.lemmas.Option.{same_Some}
use Rattle.separation.specs.fip_language.Table.{Table}
use Rattle.separation.specs.fip_language.Every.{Among}
use Rattle.separation.specs.cell_code.declared.kind.From.{From}
use Rattle.separation.specs.cell_code.declared.kind.Kind.{Kind}
use Rattle.separation.specs.cell_code.declared.kind.Kind.TheVariants as K
use Rattle.separation.specs.code_rules.Types.{fields, is_scalar_type}
use Rattle.separation.specs.code_rules.Kinds.{has, is_free, is_lent_of, from_of}
use Rattle.separation.specs.code_rules.Taking.{with_root}
use Rattle.separation.proofs.separation_kinds.Basics.{pick, chosen, refused, or_not, equal, equal_is, itself, unequal_is}
use Rattle.lowering_relation.specs.match_knowledge.declared.heads.Head.TheVariants.{Number, Tag}
use Rattle.lowering_relation.specs.match_knowledge.Known.{Known, Open, Is, Knowns, NoKnowns, MoreKnowns}
use Rattle.lowering_relation.specs.Spots.{Spot, At, Spots, NoSpots, MoreSpots, register, below, all_in, AllDiffer}
use Rattle.lowering_relation.proofs.MatchLists.{among_either, in_head, in_tail, in_part}
use Rattle.lowering_relation.specs.Sights.{left, part_kind, Unread, Below, AllBelow}
use Rattle.lowering_soundness.proofs.Positions.{OnePart, below_on, fresh_below}
use Rattle.lowering_soundness.proofs.Heirs.{has_among, owned_kind, lost, from_at}
use Rattle.lowering_soundness.proofs.Taking.{settled_at}
use Rattle.lowering_soundness.proofs.Taking.{not_has as hasnt}

-- ---- what was read below a field lies in it

moved_kind : (w : Table) (root : Option ℕ) (d t : ℕ) (k : Known) (x i : ℕ) → with_root d (part_kind w root t k x i) ≡ part_kind w (Some d) t k x i
moved_kind w root d t k x i = by (is_scalar_type w t)
  where
    by : (b : Bool) → with_root d (if b then K.Scalar t else K.Lent t (left w t k) root (Some (from_at x i))) ≡ (if b then K.Scalar t else K.Lent t (left w t k) (Some d) (Some (from_at x i)))
    by true = refl
    by false = refl

abbrev pub MovedOn : ℕ → List ℕ → (ℕ → Kind) → (ℕ → Kind) → Type 0
MovedOn d zs m l = (z : ℕ) → Among z zs → l z ≡ with_root d (m z)

unread_moved : (d : ℕ) (zs read : List ℕ) (m l : ℕ → Kind) → MovedOn d zs m l → Unread zs read m → Unread zs read l
unread_moved d zs read m l same u z a = ((u z a).0, same z a ∙ ap (with_root d) (u z a).1)

part_moved : (w : Table) (root : Option ℕ) (d t : ℕ) (k : Known) (s : Spot) (r i : ℕ) (read : List ℕ) (m l : ℕ → Kind) → OnePart w root t k s r i read m → MovedOn d (register s ∷ below s) m l → (Below w root t k s read m → Below w (Some d) t k s read l) → OnePart w (Some d) t k s r i read l
part_moved w root d t k s r i read m l (inl h) same deep = inl (h.0, same (register s) (inl refl) ∙ (ap (with_root d) h.1 ∙ moved_kind w root d t k r i), deep h.2)
part_moved w root d t k s r i read m l (inr h) same deep = inr (h.0, same (register s) (inl refl) ∙ ap (with_root d) h.1, unread_moved d (below s) read m l (λ z a. same z (inr a)) h.2, h.3)

mutual
  pub below_moved : (w : Table) (root : Option ℕ) (d t : ℕ) (k : Known) (s : Spot) (read : List ℕ) (m l : ℕ → Kind) → Below w root t k s read m → MovedOn d (below s) m l → Below w (Some d) t k s read l
  below_moved w root d t (Open out) (At r fs) read m l b same = unread_moved d (all_in fs) read m l same b
  below_moved w root d t (Is (Number i) ks) (At r fs) read m l b same = unread_moved d (all_in fs) read m l same b
  below_moved w root d t (Is (Tag n) ks) (At r fs) read m l b same = all_moved w root d (fields w t n) ks fs r 0 read m l b same

  pub all_moved : (w : Table) (root : Option ℕ) (d : ℕ) (ts : List ℕ) (ks : Knowns) (ss : Spots) (r i : ℕ) (read : List ℕ) (m l : ℕ → Kind) → AllBelow w root ts ks ss r i read m → MovedOn d (all_in ss) m l → AllBelow w (Some d) ts ks ss r i read l
  all_moved w root d ts ks NoSpots r i read m l b same = tt
  all_moved w root d [] ks (MoreSpots s ss) r i read m l b same = unread_moved d (all_in (MoreSpots s ss)) read m l same b
  all_moved w root d (t ∷ ts) NoKnowns (MoreSpots s ss) r i read m l b same = absurd b
  all_moved w root d (t ∷ ts) (MoreKnowns k ks) (MoreSpots s ss) r i read m l b same = (
    part_moved w root d t k s r i read m l b.0 (λ z a. same z (in_part z s ss a)) (λ e. below_moved w root d t k s read m l e (λ z a. same z (in_head z s ss a))),
    all_moved w root d ts ks ss r (suc i) read m l b.1 (λ z a. same z (in_tail z s ss a)),
  )

-- below a field, whether it was read or not
pub field_moved : (w : Table) (root : Option ℕ) (d t : ℕ) (k : Known) (s : Spot) (r i : ℕ) (read : List ℕ) (m l : ℕ → Kind) → OnePart w root t k s r i read m → MovedOn d (below s) m l → Below w (Some d) t k s read l
field_moved w root d t k s r i read m l (inl h) same = below_moved w root d t k s read m l h.2 same
field_moved w root d t k s r i read m l (inr h) same = fresh_below w (Some d) t k s read l h.3 (unread_moved d (below s) read m l same h.2)

-- ---- fields that are owned

abbrev pub Children : Table → List ℕ → Knowns → Spots → List ℕ → (ℕ → Kind) → Type 0
Children w [] ks ss read m = (z : ℕ) → Among z (all_in ss) → m z ≡ K.Gone
Children w (t ∷ ts) NoKnowns ss read m = ⊥
Children w (t ∷ ts) (MoreKnowns k ks) NoSpots read m = Unit {0}
Children w (t ∷ ts) (MoreKnowns k ks) (MoreSpots s ss) read m =
    (m (register s) ≡ owned_kind w t k) × Below w (Some (register s)) t k s read m × Children w ts ks ss read m

pub children_on : (w : Table) (ts : List ℕ) (ks : Knowns) (ss : Spots) (read : List ℕ) (m l : ℕ → Kind) → ((z : ℕ) → Among z (all_in ss) → l z ≡ m z) → Children w ts ks ss read m → Children w ts ks ss read l
children_on w [] ks ss read m l same h = λ z a. same z a ∙ h z a
children_on w (t ∷ ts) NoKnowns ss read m l same h = absurd h
children_on w (t ∷ ts) (MoreKnowns k ks) NoSpots read m l same h = tt
children_on w (t ∷ ts) (MoreKnowns k ks) (MoreSpots s ss) read m l same h = (
  same (register s) (inl refl) ∙ h.0,
  below_on w (Some (register s)) t k s read read m l h.1 (λ z a. (refl, same z (in_head z s ss a))),
  children_on w ts ks ss read m l (λ z a. same z (in_tail z s ss a)) h.2,
)

pub is_has : (xs : List ℕ) (x : ℕ) → Among x xs → has xs x ≡ true
is_has [] x a = absurd a
is_has (y ∷ ys) x (inl e) = ap (λ b. b || has ys x) (equal_is y x (sym e))
is_has (y ∷ ys) x (inr a) = or_true (y == x) (has ys x) (is_has ys x a)
  where
    or_true : (a b : Bool) → b ≡ true → (a || b) ≡ true
    or_true true b e = refl
    or_true false b e = e

-- as much is known as there are fields
abbrev pub Knows : List ℕ → Knowns → Type 0
Knows [] ks = Unit {0}
Knows (t ∷ ts) NoKnowns = ⊥
Knows (t ∷ ts) (MoreKnowns k ks) = Knows ts ks

extras_gone : (w : Table) (r : ℕ) (ks : Knowns) (ss : Spots) (x i : ℕ) (read : List ℕ) (m l : ℕ → Kind) → AllBelow w (Some r) [] ks ss x i read m → ((q : ℕ) → Among q (all_in ss) → l q ≡ lost r (m q)) → (z : ℕ) → Among z (all_in ss) → l z ≡ K.Gone
extras_gone w r ks NoSpots x i read m l parts is z a = absurd a
extras_gone w r ks (MoreSpots s ss) x i read m l parts is z a = is z a ∙ ap (lost r) (parts z a).1

pub after_take : (w : Table) (r : ℕ) (ts : List ℕ) (ks : Knowns) (ss : Spots) (x i : ℕ) (read : List ℕ) (m l : ℕ → Kind) → AllDiffer ss → AllBelow w (Some r) ts ks ss x i read m → ((q : ℕ) → Among q (all_in ss) → l q ≡ settled_at w r ts ks ss q (m q)) → Knows ts ks → Children w ts ks ss read l
after_take w r [] ks ss x i read m l differ parts is knows = extras_gone w r ks ss x i read m l parts is
after_take w r (t ∷ ts) NoKnowns ss x i read m l differ parts is knows = absurd knows
after_take w r (t ∷ ts) (MoreKnowns k ks) NoSpots x i read m l differ parts is knows = tt
after_take w r (t ∷ ts) (MoreKnowns k ks) (MoreSpots s ss) x i read m l differ parts is knows = (
  is (register s) (inl refl) ∙ chosen (register s == register s) (owned_kind w t k) (if has (below s) (register s) then with_root (register s) (m (register s)) else settled_at w r ts ks ss (register s) (m (register s))) (itself (register s)),
  field_moved w (Some r) (register s) t k s x i read m l parts.0 (λ z a.
      is z (in_head z s ss a)
      ∙ (refused (register s == z) (owned_kind w t k) (if has (below s) z then with_root (register s) (m z) else settled_at w r ts ks ss z (m z)) (unequal_is (register s) z (λ e. differ.0 (subst (λ q. Among q (below s)) (sym e) a)))
      ∙ chosen (has (below s) z) (with_root (register s) (m z)) (settled_at w r ts ks ss z (m z)) (is_has (below s) z a))),
  after_take w r ts ks ss x (suc i) read m l differ.4 parts.1 (λ q a.
      is q (in_tail q s ss a)
      ∙ (refused (register s == q) (owned_kind w t k) (if has (below s) q then with_root (register s) (m q) else settled_at w r ts ks ss q (m q)) (unequal_is (register s) q (λ e. differ.1 (subst (λ z. Among z (all_in ss)) (sym e) a)))
      ∙ refused (has (below s) q) (with_root (register s) (m q)) (settled_at w r ts ks ss q (m q)) (hasnt (below s) q (λ b. differ.2 q b a)))) knows,
)

-- ---- within which registers a kind lies

pub record Inside (zs : List ℕ) (k : Kind) : Type 0 where
  pub roots : (z : ℕ) → is_lent_of z k ≡ true → Among z zs
  pub froms : (g : From) → from_of k ≡ Some g → Among g.register zs

pub inside_more : (xs ys : List ℕ) (k : Kind) → ((z : ℕ) → Among z xs → Among z ys) → Inside xs k → Inside ys k
inside_more xs ys k more h = record { roots = λ z e. more z (h.roots z e); froms = λ g e. more g.register (h.froms g e) }

pub gone_inside : (zs : List ℕ) (k : Kind) → k ≡ K.Gone → Inside zs k
gone_inside zs k e = record { roots = λ z h. absurd (true≢false (sym h ∙ ap (is_lent_of z) e)); froms = λ g h. absurd (none g (sym (ap from_of e) ∙ h)) }
  where
    none : (g : From) → None ≡ Some g → ⊥
    none g e = absurd (cc)

pub own_inside : (w : Table) (t : ℕ) (k : Known) (zs : List ℕ) (own : Kind) → own ≡ owned_kind w t k → Inside zs own
own_inside w t k zs own e = record { roots = λ z h. absurd (true≢false (sym h ∙ (ap (is_lent_of z) e ∙ root z (is_scalar_type w t)))); froms = λ g h. absurd (from (is_scalar_type w t) g (sym (ap from_of e) ∙ h)) }
  where
    root : (z : ℕ) (b : Bool) → is_lent_of z (if b then K.Scalar t else K.Owned t (left w t k)) ≡ false
    root z true = refl
    root z false = refl

    from : (b : Bool) (g : From) → from_of (if b then K.Scalar t else K.Owned t (left w t k)) ≡ Some g → ⊥
    from true g e = absurd (cc)
    from false g e = absurd (cc)

part_inside : (w : Table) (d t : ℕ) (k : Known) (x i : ℕ) (zs : List ℕ) (own : Kind) → own ≡ part_kind w (Some d) t k x i → Among d zs → Among x zs → Inside zs own
part_inside w d t k x i zs own e root from = record { roots = λ z h. by_root (is_scalar_type w t) z (sym (ap (is_lent_of z) e) ∙ h); froms = λ g h. by_from (is_scalar_type w t) g (sym (ap from_of e) ∙ h) }
  where
    by_root : (b : Bool) (z : ℕ) → is_lent_of z (if b then K.Scalar t else K.Lent t (left w t k) (Some d) (Some (from_at x i))) ≡ true → Among z zs
    by_root true z h = absurd (true≢false (sym h))
    by_root false z h = subst (λ q. Among q zs) (equal d z h) root

    by_from : (b : Bool) (g : From) → from_of (if b then K.Scalar t else K.Lent t (left w t k) (Some d) (Some (from_at x i))) ≡ Some g → Among g.register zs
    by_from true g h = absurd (cc)
    by_from false g h = subst (λ (g : From). Among g.register zs) (same_Some (from_at x i) g h) from

one_inside : (w : Table) (d t : ℕ) (k : Known) (s : Spot) (r i : ℕ) (read : List ℕ) (m : ℕ → Kind) (zs : List ℕ) → OnePart w (Some d) t k s r i read m → Among d zs → Among r zs → Inside zs (m (register s))
one_inside w d t k s r i read m zs (inl h) root from = part_inside w d t k r i zs (m (register s)) h.1 root from
one_inside w d t k s r i read m zs (inr h) root from = gone_inside zs (m (register s)) h.1

deep_inside : (w : Table) (d t : ℕ) (k : Known) (s : Spot) (r i : ℕ) (read : List ℕ) (m : ℕ → Kind) (zs : List ℕ) (q : ℕ) → OnePart w (Some d) t k s r i read m → Among q (below s) → (Below w (Some d) t k s read m → Inside zs (m q)) → Inside zs (m q)
deep_inside w d t k s r i read m zs q (inl h) a deep = deep h.2
deep_inside w d t k s r i read m zs q (inr h) a deep = gone_inside zs (m q) (h.2 q a).1

mutual
  pub below_inside : (w : Table) (d t : ℕ) (k : Known) (s : Spot) (read : List ℕ) (m : ℕ → Kind) (zs : List ℕ) (q : ℕ) → Below w (Some d) t k s read m → Among d zs → Among (register s) zs → ((z : ℕ) → Among z (below s) → Among z zs) → Among q (below s) → Inside zs (m q)
  below_inside w d t (Open out) (At r fs) read m zs q b root from more a = gone_inside zs (m q) (b q a).1
  below_inside w d t (Is (Number i) ks) (At r fs) read m zs q b root from more a = gone_inside zs (m q) (b q a).1
  below_inside w d t (Is (Tag n) ks) (At r fs) read m zs q b root from more a = all_inside w d (fields w t n) ks fs r 0 read m zs q b root from more a

  pub all_inside : (w : Table) (d : ℕ) (ts : List ℕ) (ks : Knowns) (ss : Spots) (r i : ℕ) (read : List ℕ) (m : ℕ → Kind) (zs : List ℕ) (q : ℕ) → AllBelow w (Some d) ts ks ss r i read m → Among d zs → Among r zs → ((z : ℕ) → Among z (all_in ss) → Among z zs) → Among q (all_in ss) → Inside zs (m q)
  all_inside w d ts ks NoSpots r i read m zs q b root from more a = absurd a
  all_inside w d [] ks (MoreSpots s ss) r i read m zs q b root from more a = gone_inside zs (m q) (b q a).1
  all_inside w d (t ∷ ts) NoKnowns (MoreSpots s ss) r i read m zs q b root from more a = absurd b
  all_inside w d (t ∷ ts) (MoreKnowns k ks) (MoreSpots s ss) r i read m zs q b root from more (inl e) =
      subst (λ q. Inside zs (m q)) (sym e) (one_inside w d t k s r i read m zs b.0 root from)
  all_inside w d (t ∷ ts) (MoreKnowns k ks) (MoreSpots s ss) r i read m zs q b root from more (inr a) =
      elim (among_either q (below s) (all_in ss) a) as (λ v. Inside zs (m q)) [
        | inl y ↦ deep_inside w d t k s r i read m zs q b.0 y (λ e. below_inside w d t k s read m zs q e root (more (register s) (inl refl)) (λ z c. more z (in_head z s ss c)) y)
        | inr y ↦ all_inside w d ts ks ss r (suc i) read m zs q b.1 root from (λ z c. more z (in_tail z s ss c)) y
      ]

-- all fields, and what is below them
pub children_inside : (w : Table) (ts : List ℕ) (ks : Knowns) (ss : Spots) (read : List ℕ) (m : ℕ → Kind) (q : ℕ) → Children w ts ks ss read m → Among q (all_in ss) → Inside (all_in ss) (m q)
children_inside w [] ks ss read m q h a = gone_inside (all_in ss) (m q) (h q a)
children_inside w (t ∷ ts) NoKnowns ss read m q h a = absurd h
children_inside w (t ∷ ts) (MoreKnowns k ks) NoSpots read m q h a = absurd a
children_inside w (t ∷ ts) (MoreKnowns k ks) (MoreSpots s ss) read m q h (inl e) = own_inside w t k (all_in (MoreSpots s ss)) (m q) (ap m e ∙ h.0)
children_inside w (t ∷ ts) (MoreKnowns k ks) (MoreSpots s ss) read m q h (inr a) =
    elim (among_either q (below s) (all_in ss) a) as (λ v. Inside (all_in (MoreSpots s ss)) (m q)) [
      | inl y ↦ below_inside w (register s) t k s read m (all_in (MoreSpots s ss)) q h.1 (inl refl) (inl refl) (λ z c. in_head z s ss c) y
      | inr y ↦ inside_more (all_in ss) (all_in (MoreSpots s ss)) (m q) (λ z c. in_tail z s ss c) (children_inside w ts ks ss read m q h.2 y)
    ]

-- ---- what may be overwritten

free_part : (w : Table) (root : Option ℕ) (t : ℕ) (k : Known) (x i : ℕ) → is_free (part_kind w root t k x i) ≡ true
free_part w root t k x i = pick (λ own. is_free own ≡ true) (is_scalar_type w t) (K.Scalar t) (K.Lent t (left w t k) root (Some (from_at x i))) (λ e. refl) (λ e. refl)

one_free : (w : Table) (root : Option ℕ) (t : ℕ) (k : Known) (s : Spot) (r i : ℕ) (read : List ℕ) (m : ℕ → Kind) → OnePart w root t k s r i read m → is_free (m (register s)) ≡ true
one_free w root t k s r i read m (inl h) = ap is_free h.1 ∙ free_part w root t k r i
one_free w root t k s r i read m (inr h) = ap is_free h.1

deep_free : (w : Table) (root : Option ℕ) (t : ℕ) (k : Known) (s : Spot) (r i : ℕ) (read : List ℕ) (m : ℕ → Kind) (q : ℕ) → OnePart w root t k s r i read m → Among q (below s) → (Below w root t k s read m → is_free (m q) ≡ true) → is_free (m q) ≡ true
deep_free w root t k s r i read m q (inl h) a deep = deep h.2
deep_free w root t k s r i read m q (inr h) a deep = ap is_free (h.2 q a).1

mutual
  pub below_free : (w : Table) (root : Option ℕ) (t : ℕ) (k : Known) (s : Spot) (read : List ℕ) (m : ℕ → Kind) (q : ℕ) → Below w root t k s read m → Among q (below s) → is_free (m q) ≡ true
  below_free w root t (Open out) (At r fs) read m q b a = ap is_free (b q a).1
  below_free w root t (Is (Number i) ks) (At r fs) read m q b a = ap is_free (b q a).1
  below_free w root t (Is (Tag n) ks) (At r fs) read m q b a = all_free w root (fields w t n) ks fs r 0 read m q b a

  pub all_free : (w : Table) (root : Option ℕ) (ts : List ℕ) (ks : Knowns) (ss : Spots) (r i : ℕ) (read : List ℕ) (m : ℕ → Kind) (q : ℕ) → AllBelow w root ts ks ss r i read m → Among q (all_in ss) → is_free (m q) ≡ true
  all_free w root ts ks NoSpots r i read m q b a = absurd a
  all_free w root [] ks (MoreSpots s ss) r i read m q b a = ap is_free (b q a).1
  all_free w root (t ∷ ts) NoKnowns (MoreSpots s ss) r i read m q b a = absurd b
  all_free w root (t ∷ ts) (MoreKnowns k ks) (MoreSpots s ss) r i read m q b (inl e) = ap (λ q. is_free (m q)) e ∙ one_free w root t k s r i read m b.0
  all_free w root (t ∷ ts) (MoreKnowns k ks) (MoreSpots s ss) r i read m q b (inr a) =
      elim (among_either q (below s) (all_in ss) a) as (λ v. is_free (m q) ≡ true) [
        | inl y ↦ deep_free w root t k s r i read m q b.0 y (λ e. below_free w root t k s read m q e y)
        | inr y ↦ all_free w root ts ks ss r (suc i) read m q b.1 y
      ]
