-- Take: what is reported of the positions below a cell that is taken apart. The fields that were read are owned with what is
-- known of them, and what was read below them lies in them from now on.
use Rattle.std.proofs.Common.{◌≡◌, ◌⊎◌, inl, inr, ℕ, zero, suc, Bool, true, false, not, ◌&&◌, ◌||◌, is_some, List, [], ◌∷◌, length, Option, Some, None, refl, sym, ap, ◌∙◌, subst, true≢false, if◌then◌else◌, ◌==◌}
use Rattle.std.proofs.lemmas.Option.{same_Some}
use Rattle.separation.specs.fip_language.Table.{Table}
use Rattle.separation.specs.fip_language.Every.{Among}
use Rattle.separation.specs.cell_code.declared.kind.From.{From}
use Rattle.separation.specs.cell_code.declared.kind.Kind.{Kind}
use Rattle.separation.specs.cell_code.declared.kind.Kind.TheVariants as K
use Rattle.separation.specs.code_rules.Types.{all, fields, is_scalar_type, field_kind}
use Rattle.separation.specs.code_rules.Kinds.{has, at, is_lent_of, from_of}
use Rattle.separation.specs.code_rules.Changes.{forget}
use Rattle.separation.specs.code_rules.Taking.{Part, part, part_from, is_field, is_heir, is_heir_by, Chain, IsReached, inherited, part_kind as taken_part, with_root, fate, ends, part_or}
use Rattle.separation.proofs.separation_kinds.Basics.{chosen, refused, or_not, equal, equal_is, itself, unequal_is, one_of}
use Rattle.lowering_relation.specs.match_knowledge.declared.heads.Head.TheVariants.{Number, Tag}
use Rattle.lowering_relation.specs.match_knowledge.Known.{Known, Open, Is, Knowns, NoKnowns, MoreKnowns}
use Rattle.lowering_relation.specs.Spots.{Spot, At, Spots, NoSpots, MoreSpots, register, below, all_in}
use Rattle.lowering_relation.proofs.MatchLists.{among_either, in_head, in_tail}
use Rattle.lowering_relation.specs.Sights.{left, part_kind, Unread, Below, AllBelow}
use Rattle.lowering_soundness.proofs.Arguments.{with_field}
use Rattle.lowering_soundness.proofs.Positions.{OnePart, fresh_left, forget_same}

-- ---- lists

pub has_among : (xs : List ℕ) (x : ℕ) → has xs x ≡ true → Among x xs
has_among [] x e = true≢false (sym e)
has_among (y ∷ ys) x e = elim (one_of (y == x) (has ys x) e) as (λ v. Among x (y ∷ ys)) [
  | inl a ↦ inl (sym (equal y x a))
  | inr a ↦ inr (has_among ys x a)
]

pub not_among : (xs : List ℕ) (x : ℕ) → has xs x ≡ false → Among x xs → ⊥
not_among [] x e m = m
not_among (y ∷ ys) x e (inl a) = true≢false (sym (ap (λ b. b || has ys x) (equal_is y x (sym a))) ∙ e)
not_among (y ∷ ys) x e (inr m) = not_among ys x (none (y == x) (has ys x) e) m
  where
    none : (a b : Bool) → (a || b) ≡ false → b ≡ false
    none true b e = absurd (true≢false e)
    none false b e = e

-- ---- a register that is named leads to an heir

abbrev pub from_at : ℕ → ℕ → From
from_at x i = record { register = x; field = i }

pub record Lead (ks : List Kind) (heir : ℕ → Bool) (d x : ℕ) : Type 0 where
  pub steps : ℕ
  pub leads : (i : ℕ) → Chain ks heir steps (Some (from_at x i)) d

pub chain_same : (ks : List Kind) (heir : ℕ → Bool) (n l : ℕ) (o : Option From) (d e : ℕ) → Chain ks heir n o d → Chain ks heir l o e → d ≡ e
chain_same ks heir zero l None d e x y = absurd x
chain_same ks heir (suc n) l None d e x y = absurd x
chain_same ks heir zero zero (Some g) d e x y = sym x.1 ∙ y.1
chain_same ks heir zero (suc l) (Some g) d e x y = absurd (true≢false (sym x.0 ∙ y.0))
chain_same ks heir (suc n) zero (Some g) d e x y = absurd (true≢false (sym y.0 ∙ x.0))
chain_same ks heir (suc n) (suc l) (Some g) d e x y = chain_same ks heir n l (from_of (at ks g.register)) d e x.1 y.1

-- the heir that is reached is this one
pub reached_is : (ks : List Kind) (heir : ℕ → Bool) (q d n : ℕ) (o : Option ℕ) → Chain ks heir n (from_of (at ks q)) d → IsReached ks heir q o → o ≡ Some d
reached_is ks heir q d n None x none = absurd (none d (n, x))
reached_is ks heir q d n (Some e) x r = ap Some (chain_same ks heir r.0 n (from_of (at ks q)) e d r.1 x)

-- ---- positions below a field

-- what is reported of such a position
pub data Fated (ks : List Kind) (heir : ℕ → Bool) (r d : ℕ) (zs : List ℕ) (k : Kind) : Type 0 where
  Leer : (e : k ≡ K.Gone) → Fated ks heir r d zs k
  Plain : (t : ℕ) (e : k ≡ K.Scalar t) → Fated ks heir r d zs k
  Rooted : (t : ℕ) (cs : List ℕ) (x i : ℕ) (e : k ≡ K.Lent t cs (Some r) (Some (from_at x i))) (lead : Lead ks heir d x) (within : (x ≡ d) ⊎ Among x zs) → Fated ks heir r d zs k

-- a scalar's constructors have no field
pub scalar_fields : (w : Table) (t n : ℕ) → is_scalar_type w t ≡ true → fields w t n ≡ []
scalar_fields w t n e = by (fields w t n) refl
  where
    by : (ts : List ℕ) → fields w t n ≡ ts → ts ≡ []
    by [] same = refl
    by (u ∷ us) same = absurd (true≢false (sym e ∙ with_field w t n (length us) (ap length same)))

-- below a scalar nothing was read
none_gone : (w : Table) (ts : List ℕ) (ls : Knowns) (ss : Spots) (x : ℕ) (read : List ℕ) (m : ℕ → Kind) (root : Option ℕ) (q : ℕ) → ts ≡ [] → AllBelow w root ts ls ss x 0 read m → Among q (all_in ss) → m q ≡ K.Gone
none_gone w ts ls NoSpots x read m root q e b a = absurd a
none_gone w ts ls (MoreSpots s ss) x read m root q e b a = (subst (λ ts. AllBelow w root ts ls (MoreSpots s ss) x 0 read m) e b q a).1

pub scalar_gone : (w : Table) (t : ℕ) (k : Known) (s : Spot) (read : List ℕ) (m : ℕ → Kind) (root : Option ℕ) (q : ℕ) → is_scalar_type w t ≡ true → Below w root t k s read m → Among q (below s) → m q ≡ K.Gone
scalar_gone w t (Open out) (At x fs) read m root q sc b a = (b q a).1
scalar_gone w t (Is (Number i) ls) (At x fs) read m root q sc b a = (b q a).1
scalar_gone w t (Is (Tag n) ls) (At x fs) read m root q sc b a = none_gone w (fields w t n) ls fs x read m root q (scalar_fields w t n sc) b a

module _ (ks : List Kind) (heir : ℕ → Bool) (r d : ℕ) (zs : List ℕ) where
  read_fated : (w : Table) (t : ℕ) (k : Known) (x i : ℕ) (own : Kind) → own ≡ part_kind w (Some r) t k x i → Lead ks heir d x → (x ≡ d) ⊎ Among x zs → Fated ks heir r d zs own
  read_fated w t k x i own e lead within = elim (or_not (is_scalar_type w t)) as (λ v. Fated ks heir r d zs own) [
    | inl y ↦ Plain t (e ∙ chosen (is_scalar_type w t) (K.Scalar t) (K.Lent t (left w t k) (Some r) (Some (from_at x i))) y)
    | inr y ↦ Rooted t (left w t k) x i (e ∙ refused (is_scalar_type w t) (K.Scalar t) (K.Lent t (left w t k) (Some r) (Some (from_at x i))) y) lead within
  ]

  -- a position that was read leads on, as far as others were read below it
  next_lead : (w : Table) (t : ℕ) (k : Known) (z x i : ℕ) → is_scalar_type w t ≡ false → at ks z ≡ part_kind w (Some r) t k x i → heir z ≡ false → Lead ks heir d x → Lead ks heir d z
  next_lead w t k z x i tree e none lead = record {
    steps = suc lead.steps;
    leads = λ j. (none, subst (λ own. Chain ks heir lead.steps (from_of own) d) (sym (e ∙ refused (is_scalar_type w t) (K.Scalar t) (K.Lent t (left w t k) (Some r) (Some (from_at x i))) tree)) (lead.leads i));
  }

  unread_fated : (vs read : List ℕ) (q : ℕ) → Unread vs read (at ks) → Among q vs → Fated ks heir r d zs (at ks q)
  unread_fated vs read q u a = Leer (u q a).1

  first_fated : (w : Table) (t : ℕ) (k : Known) (s : Spot) (x i : ℕ) (read : List ℕ) → OnePart w (Some r) t k s x i read (at ks) → Lead ks heir d x → (x ≡ d) ⊎ Among x zs → Fated ks heir r d zs (at ks (register s))
  first_fated w t k s x i read (inl h) lead here = read_fated w t k x i (at ks (register s)) h.1 lead here
  first_fated w t k s x i read (inr h) lead here = Leer h.1

  -- below one position, by what is reported there
  part_fated : (w : Table) (t : ℕ) (k : Known) (s : Spot) (x i : ℕ) (read : List ℕ) (q : ℕ) → OnePart w (Some r) t k s x i read (at ks) → Lead ks heir d x → heir (register s) ≡ false → Among q (below s) → (Below w (Some r) t k s read (at ks) → Lead ks heir d (register s) → Fated ks heir r d zs (at ks q)) → Fated ks heir r d zs (at ks q)
  part_fated w t k s x i read q (inl h) lead none a deep = elim (or_not (is_scalar_type w t)) as (λ v. Fated ks heir r d zs (at ks q)) [
    | inl y ↦ Leer (scalar_gone w t k s read (at ks) (Some r) q y h.2 a)
    | inr y ↦ deep h.2 (next_lead w t k (register s) x i y h.1 none lead)
  ]
  part_fated w t k s x i read q (inr h) lead none a deep = unread_fated (below s) read q h.2 a

  mutual
    pub below_fated : (w : Table) (t : ℕ) (k : Known) (s : Spot) (read : List ℕ) (q : ℕ) → Below w (Some r) t k s read (at ks) → Lead ks heir d (register s) → (register s ≡ d) ⊎ Among (register s) zs → ((z : ℕ) → Among z (below s) → (heir z ≡ false) × Among z zs) → Among q (below s) → Fated ks heir r d zs (at ks q)
    below_fated w t (Open out) (At x fs) read q b lead here none a = unread_fated (all_in fs) read q b a
    below_fated w t (Is (Number i) ls) (At x fs) read q b lead here none a = unread_fated (all_in fs) read q b a
    below_fated w t (Is (Tag n) ls) (At x fs) read q b lead here none a = all_fated w (fields w t n) ls fs x 0 read q b lead here none a

    pub all_fated : (w : Table) (ts : List ℕ) (ls : Knowns) (ss : Spots) (x i : ℕ) (read : List ℕ) (q : ℕ) → AllBelow w (Some r) ts ls ss x i read (at ks) → Lead ks heir d x → (x ≡ d) ⊎ Among x zs → ((z : ℕ) → Among z (all_in ss) → (heir z ≡ false) × Among z zs) → Among q (all_in ss) → Fated ks heir r d zs (at ks q)
    all_fated w ts ls NoSpots x i read q b lead here none a = absurd a
    all_fated w [] ls (MoreSpots s ss) x i read q b lead here none a = unread_fated (all_in (MoreSpots s ss)) read q b a
    all_fated w (t ∷ ts) NoKnowns (MoreSpots s ss) x i read q b lead here none a = absurd b
    all_fated w (t ∷ ts) (MoreKnowns k ls) (MoreSpots s ss) x i read q b lead here none (inl e) =
        subst (λ q. Fated ks heir r d zs (at ks q)) (sym e) (first_fated w t k s x i read b.0 lead here)
    all_fated w (t ∷ ts) (MoreKnowns k ls) (MoreSpots s ss) x i read q b lead here none (inr a) =
        elim (among_either q (below s) (all_in ss) a) as (λ v. Fated ks heir r d zs (at ks q)) [
          | inl y ↦ part_fated w t k s x i read q b.0 lead (none (register s) (inl refl)).0 y (λ e l. below_fated w t k s read q e l (inr (none (register s) (inl refl)).1) (λ z c. none z (in_head z s ss c)) y)
          | inr y ↦ all_fated w ts ls ss x (suc i) read q b.1 lead here (λ z c. none z (in_tail z s ss c)) y
        ]

-- ---- what becomes of each register

-- the kind of a value that is owned
abbrev pub owned_kind : Table → ℕ → Known → Kind
owned_kind w t k = if is_scalar_type w t then K.Scalar t else K.Owned t (left w t k)

-- It isn't borrowed from these registers, and its from names neither r nor one of them, nor what is borrowed from r.
pub record Clear (r : ℕ) (zs : List ℕ) (m : ℕ → Kind) (k : Kind) : Type 0 where
  pub roots : (z : ℕ) → Among z zs → is_lent_of z k ≡ false
  pub froms : (g : From) → from_of k ≡ Some g → (Among g.register (r ∷ zs) → ⊥) × (is_lent_of r (m g.register) ≡ false)

-- so it is of all other registers
abbrev pub Outside : ℕ → List ℕ → (ℕ → Kind) → Type 0
Outside r zs m = (q : ℕ) → (Among q (r ∷ zs) → ⊥) → Clear r zs m (m q)

-- what was borrowed from r is gone
abbrev pub lost : ℕ → Kind → Kind
lost r k = if is_lent_of r k then K.Gone else k

-- a register that gets a field
pub field_owned : (w : Table) (r i t : ℕ) (k : Known) (s : Spot) (read : List ℕ) (m : ℕ → Kind) → OnePart w (Some r) t k s r i read m → taken_part w r (m (register s)) (record { field = i; ty = t }) ≡ owned_kind w t k
field_owned w r i t k s read m (inl h) = elim (or_not (is_scalar_type w t)) as (λ v. taken_part w r (m (register s)) (record { field = i; ty = t }) ≡ owned_kind w t k) [
  | inl y ↦ chosen (is_scalar_type w t) (K.Scalar t) (if is_field r i (from_of (m (register s))) then inherited (m (register s)) else field_kind w t) y ∙ sym (chosen (is_scalar_type w t) (K.Scalar t) (K.Owned t (left w t k)) y)
  | inr y ↦
      (let own : m (register s) ≡ K.Lent t (left w t k) (Some r) (Some (from_at r i)) = h.1 ∙ refused (is_scalar_type w t) (K.Scalar t) (K.Lent t (left w t k) (Some r) (Some (from_at r i))) y in
      refused (is_scalar_type w t) (K.Scalar t) (if is_field r i (from_of (m (register s))) then inherited (m (register s)) else field_kind w t) y
      ∙ (ap (λ own. if is_field r i (from_of own) then inherited own else field_kind w t) own
      ∙ (chosen ((r == r) && (i == i)) (K.Owned t (left w t k)) (field_kind w t) (ap (λ b. b && (i == i)) (itself r) ∙ itself i)
      ∙ sym (refused (is_scalar_type w t) (K.Scalar t) (K.Owned t (left w t k)) y))))
]
field_owned w r i t k s read m (inr h) =
    ap (λ own. taken_part w r own (record { field = i; ty = t })) h.1
    ∙ (twice (is_scalar_type w t) (K.Scalar t) (K.Owned t (all w t))
    ∙ ap (λ cs. if is_scalar_type w t then K.Scalar t else K.Owned t cs) (sym (fresh_left w t k h.3)))
  where
    twice : (b : Bool) (x y : Kind) → (if b then x else (if b then x else y)) ≡ (if b then x else y)
    twice true x y = refl
    twice false x y = refl

module _ (w : Table) (ks : List Kind) (r : ℕ) (ds ts0 : List ℕ) (reached : ℕ → Option ℕ) (is : (q : ℕ) → IsReached ks (is_heir w ks r (part ds ts0)) q (reached q)) where
  abbrev heir : ℕ → Bool
  heir z = is_heir w ks r (part ds ts0) z

  abbrev ended : ℕ → Bool
  ended z = ends w ks r (part ds ts0) (length ds) reached z

  -- what becomes of a register that gets no field
  abbrev pub gets : ℕ → Kind
  gets q = if q == r then Rattle.separation.specs.code_rules.Taking.credit (length ds) else forget (ends w ks r (part ds ts0) (length ds) reached) (fate (reached q) r (at ks q))

  gone_fate : (o : Option ℕ) → fate o r K.Gone ≡ K.Gone
  gone_fate None = refl
  gone_fate (Some d) = refl

  pub gets_gone : (q : ℕ) → (q ≡ r → ⊥) → at ks q ≡ K.Gone → gets q ≡ K.Gone
  gets_gone q ne e = refused (q == r) (Rattle.separation.specs.code_rules.Taking.credit (length ds)) (forget ended (fate (reached q) r (at ks q))) (unequal_is q r ne) ∙ (ap (λ k. forget ended (fate (reached q) r k)) e ∙ ap (forget ended) (gone_fate (reached q)))

  scalar_fate : (o : Option ℕ) (t : ℕ) → fate o r (K.Scalar t) ≡ K.Scalar t
  scalar_fate None t = refl
  scalar_fate (Some d) t = refl

  some_reached : (q d n : ℕ) → Chain ks heir n (from_of (at ks q)) d → is_some (reached q) ≡ true
  some_reached q d n x = ap is_some (reached_is ks heir q d n (reached q) x (is q))

  -- a from that names an heir, or a position that leads to one, stays
  ended_heir : (d : ℕ) → heir d ≡ true → is_some (part ds ts0 d) ≡ true → ended d ≡ false
  ended_heir d h e = chosen (is_some (part ds ts0 d)) (not (heir d)) (if d == r then length ds == 0 else is_lent_of r (at ks d) && not (is_some (reached d))) e ∙ ap not h

  and_none : (a b : Bool) → (a ≡ true → b ≡ true) → (a && not b) ≡ false
  and_none true b h = ap not (h refl)
  and_none false b h = refl

  ended_below : (x : ℕ) → part ds ts0 x ≡ None → (x ≡ r → ⊥) → (is_lent_of r (at ks x) ≡ true → is_some (reached x) ≡ true) → ended x ≡ false
  ended_below x e ne h =
      refused (is_some (part ds ts0 x)) (not (heir x)) (if x == r then length ds == 0 else is_lent_of r (at ks x) && not (is_some (reached x))) (ap is_some e)
      ∙ (refused (x == r) (length ds == 0) (is_lent_of r (at ks x) && not (is_some (reached x))) (unequal_is x r ne)
      ∙ and_none (is_lent_of r (at ks x)) (is_some (reached x)) h)

  fated_reached : (d x : ℕ) (zs : List ℕ) → Fated ks heir r d zs (at ks x) → is_lent_of r (at ks x) ≡ true → is_some (reached x) ≡ true
  fated_reached d x zs (Leer e) h = absurd (true≢false (sym h ∙ ap (is_lent_of r) e))
  fated_reached d x zs (Plain t e) h = absurd (true≢false (sym h ∙ ap (is_lent_of r) e))
  fated_reached d x zs (Rooted t cs y i e lead within) h = some_reached x d lead.steps (subst (λ own. Chain ks heir lead.steps (from_of own) d) (sym e) (lead.leads i))

  -- a position below a field: it lies in the field's tree
  pub gets_below : (d q : ℕ) (zs : List ℕ) → (q ≡ r → ⊥) → heir d ≡ true → is_some (part ds ts0 d) ≡ true → ((x : ℕ) → Among x zs → (part ds ts0 x ≡ None) × (x ≡ r → ⊥) × Fated ks heir r d zs (at ks x)) → Fated ks heir r d zs (at ks q) → gets q ≡ with_root d (at ks q)
  gets_below d q zs ne h e each (Leer z) = gets_gone q ne z ∙ sym (ap (with_root d) z)
  gets_below d q zs ne h e each (Plain t z) =
      refused (q == r) (Rattle.separation.specs.code_rules.Taking.credit (length ds)) (forget ended (fate (reached q) r (at ks q))) (unequal_is q r ne)
      ∙ (ap (λ k. forget ended (fate (reached q) r k)) z ∙ (ap (forget ended) (scalar_fate (reached q) t) ∙ sym (ap (with_root d) z)))
  gets_below d q zs ne h e each (Rooted t cs x i z lead within) =
      refused (q == r) (Rattle.separation.specs.code_rules.Taking.credit (length ds)) (forget ended (fate (reached q) r (at ks q))) (unequal_is q r ne)
      ∙ (ap (λ o. forget ended (fate o r (at ks q))) (reached_is ks heir q d lead.steps (reached q) (subst (λ own. Chain ks heir lead.steps (from_of own) d) (sym z) (lead.leads i)) (is q))
      ∙ (ap (λ k. forget ended (with_root d k)) z
      ∙ (forget_same ended (K.Lent t cs (Some d) (Some (from_at x i))) named ∙ sym (ap (with_root d) z))))
    where
      stays : (x ≡ d) ⊎ Among x zs → ended x ≡ false
      stays (inl same) = ap ended same ∙ ended_heir d h e
      stays (inr a) = let y = each x a in ended_below x y.0 y.1 (fated_reached d x zs y.2)

      named : (g : From) → Some (from_at x i) ≡ Some g → ended g.register ≡ false
      named g same = ap (λ (g : From). ended g.register) (sym (same_Some (from_at x i) g same)) ∙ stays within

  -- a register outside stays as it was
  outside_chain : (zs : List ℕ) → ((z : ℕ) → heir z ≡ true → Among z zs) → Outside r zs (at ks) → (n q d : ℕ) → (Among q (r ∷ zs) → ⊥) → Chain ks heir n (from_of (at ks q)) d → ⊥
  outside_chain zs heirs out zero q d off x = by (from_of (at ks q)) refl x
    where
      by : (o : Option From) → from_of (at ks q) ≡ o → Chain ks heir zero o d → ⊥
      by None e x = absurd x
      by (Some g) e x = ((out q off).froms g e).0 (inr (heirs g.register x.0))
  outside_chain zs heirs out (suc n) q d off x = by (from_of (at ks q)) refl x (λ z away y. outside_chain zs heirs out n z d away y)
    where
      by : (o : Option From) → from_of (at ks q) ≡ o → Chain ks heir (suc n) o d → ((z : ℕ) → (Among z (r ∷ zs) → ⊥) → Chain ks heir n (from_of (at ks z)) d → ⊥) → ⊥
      by None e x on = absurd x
      by (Some g) e x on = on g.register ((out q off).froms g e).0 x.1

  unreached : (zs : List ℕ) → ((z : ℕ) → heir z ≡ true → Among z zs) → Outside r zs (at ks) → (q : ℕ) → (Among q (r ∷ zs) → ⊥) → reached q ≡ None
  unreached zs heirs out q off = by (reached q) refl (is q)
    where
      by : (o : Option ℕ) → reached q ≡ o → IsReached ks heir q o → reached q ≡ None
      by None e x = e
      by (Some d) e x = absurd (outside_chain zs heirs out x.0 q d off x.1)

  pub gets_same : (zs : List ℕ) → ((z : ℕ) → heir z ≡ true → Among z zs) → ((z : ℕ) → is_some (part ds ts0 z) ≡ true → Among z zs) → Outside r zs (at ks) → (q : ℕ) → (Among q (r ∷ zs) → ⊥) → gets q ≡ lost r (at ks q)
  gets_same zs heirs dests out q off =
      refused (q == r) (Rattle.separation.specs.code_rules.Taking.credit (length ds)) (forget ended (fate (reached q) r (at ks q))) (unequal_is q r (λ e. off (inl e)))
      ∙ (ap (λ o. forget ended (fate o r (at ks q))) (unreached zs heirs out q off)
      ∙ by (is_lent_of r (at ks q)))
    where
      no_dest : (x : ℕ) (o : Option Part) → part ds ts0 x ≡ o → (Among x zs → ⊥) → part ds ts0 x ≡ None
      no_dest x None e away = e
      no_dest x (Some p) e away = absurd (away (dests x (ap is_some e)))

      kept : (x : ℕ) → (Among x (r ∷ zs) → ⊥) → is_lent_of r (at ks x) ≡ false → ended x ≡ false
      kept x away none = ended_below x (no_dest x (part ds ts0 x) refl (λ a. away (inr a))) (λ e. away (inl e)) (λ h. absurd (true≢false (sym h ∙ none)))

      by : (b : Bool) → forget ended (if b then K.Gone else at ks q) ≡ (if b then K.Gone else at ks q)
      by true = refl
      by false = forget_same ended (at ks q) (λ g e. (let h = (out q off).froms g e in kept g.register h.0 h.1))
