-- The cells of a chosen pattern are taken apart, one after another: each is as required.
use Rattle.std.proofs.Common.{◌≡◌, ◌⊎◌, inl, inr, ℕ, zero, suc, ◌+◌, ◌<◌, ◌≤◌, Bool, true, false, List, [], ◌∷◌, ◌++◌, length, Option, Some, None, refl, sym, ap, ◌∙◌, subst, true≢false, arith, if◌then◌else◌, ◌==◌}
use Rattle.separation.specs.fip_language.Table.{Table}
use Rattle.separation.specs.fip_language.Every.{Among}
use Rattle.separation.specs.cell_code.declared.code.Instr.TheVariants as I
use Rattle.separation.specs.cell_code.declared.kind.From.{From}
use Rattle.separation.specs.cell_code.declared.kind.Kind.{Kind}
use Rattle.separation.specs.cell_code.declared.kind.Kind.TheVariants as K
use Rattle.lowering_relation.specs.fip_trees.Tree.{Pattern, BinderPattern, LiteralPattern, ConstructorPattern, Patterns, NoPatterns, MorePatterns, count_patterns}
use Rattle.separation.specs.cell_code.Plain.{PlainFunction, PlainCode}
use Rattle.separation.specs.code_rules.Types.{fields, is_scalar_type}
use Rattle.separation.specs.code_rules.Kinds.{has, is_free, is_lent_of, from_of}
use Rattle.separation.specs.code_rules.Taking.{credit}
use Rattle.separation.proofs.separation_kinds.Basics.{chosen, refused, or_not, equal, unequal, unequal_is, itself}
use Rattle.lowering_relation.specs.match_knowledge.declared.heads.Head.TheVariants.{Number, Tag}
use Rattle.lowering_relation.specs.match_knowledge.declared.verdicts.Verdict.TheVariants.{Fits}
use Rattle.lowering_relation.specs.match_knowledge.ValueHeads.{IsHead, same_head}
use Rattle.lowering_relation.specs.match_knowledge.Patterns.{IsPattern, ArePatterns}
use Rattle.lowering_relation.specs.match_knowledge.Known.{Known, Open, Is, Knowns, NoKnowns, MoreKnowns, compare, compare_all, is_in}
use Rattle.lowering_relation.specs.Spots.{Spot, At, Spots, NoSpots, MoreSpots, register, below, all_in, Differ, AllDiffer}
use Rattle.lowering_relation.specs.Rows.{row_of, rows_of}
use Rattle.lowering_relation.specs.Opening.{as_many, Roomy, AllRoomy}
use Rattle.lowering_relation.proofs.MatchLists.{among_either, in_head, in_tail, in_part}
use Rattle.lowering_relation.specs.Labels.{Quiet}
use Rattle.lowering_relation.specs.Sights.{left, Below, AllBelow}
use Rattle.lowering_relation.specs.Tests.{TakeLaid, TakesLaid, TakeAll}
use Rattle.lowering_relation.proofs.Growing.{take_all_end}
use Rattle.lowering_soundness.proofs.Arguments.{int_scalar, with_field}
use Rattle.lowering_soundness.proofs.Parts.{one_row}
use Rattle.lowering_soundness.proofs.Branches.{Came, came_none, came_one, came_on, came_quiet}
use Rattle.lowering_soundness.proofs.Lefts.{left_tag, head_fields}
use Rattle.lowering_soundness.proofs.NamedReads.{if_fits, open_fits, both_fits}
use Rattle.lowering_soundness.proofs.Heirs.{has_among, not_among, owned_kind, Clear, Outside, lost}
use Rattle.lowering_soundness.proofs.Taking.{settled_at, taken_at, MayTake, take_row}
use Rattle.lowering_soundness.proofs.Parted.{Knows, Children, children_on, after_take, Inside, inside_more, gone_inside, own_inside, below_inside, children_inside, below_free, all_free}

-- ---- what is reported after it

abbrev pub AllFree : List ℕ → (ℕ → Kind) → Type 0
AllFree zs m = (z : ℕ) → Among z zs → is_free (m z) ≡ true

abbrev mutual
  pub After : Table → Pattern → ℕ → Spot → (ℕ → Kind) → Type 0
  After w (BinderPattern b) t s m = ((k : Known) × (m (register s) ≡ owned_kind w t k)) × AllFree (below s) m
  After w (LiteralPattern i p) t s m = AllFree (register s ∷ below s) m
  After w (ConstructorPattern u d n a p NoPatterns) t (At r fs) m =
      (m r ≡ (if is_scalar_type w t then K.Scalar t else K.Owned t (n ∷ []))) × AllFree (all_in fs) m
  After w (ConstructorPattern u d n a p (MorePatterns q qs)) t (At r fs) m =
      (m r ≡ K.Credit (suc (count_patterns qs))) × AllAfter w (MorePatterns q qs) (fields w t n) fs m

  pub AllAfter : Table → Patterns → List ℕ → Spots → (ℕ → Kind) → Type 0
  AllAfter w NoPatterns ts ss m = AllFree (all_in ss) m
  AllAfter w (MorePatterns p ps) ts NoSpots m = ⊥
  AllAfter w (MorePatterns p ps) [] (MoreSpots s ss) m = ⊥
  AllAfter w (MorePatterns p ps) (t ∷ ts) (MoreSpots s ss) m = After w p t s m × AllAfter w ps ts ss m

free_on : (zs : List ℕ) (m l : ℕ → Kind) → ((z : ℕ) → Among z zs → l z ≡ m z) → AllFree zs m → AllFree zs l
free_on zs m l same h z a = ap is_free (same z a) ∙ h z a

mutual
  pub after_on : (w : Table) (q : Pattern) (t : ℕ) (s : Spot) (m l : ℕ → Kind) → ((z : ℕ) → Among z (register s ∷ below s) → l z ≡ m z) → After w q t s m → After w q t s l
  after_on w (BinderPattern b) t s m l same h = ((h.0.0, same (register s) (inl refl) ∙ h.0.1), free_on (below s) m l (λ z a. same z (inr a)) h.1)
  after_on w (LiteralPattern i p) t s m l same h = free_on (register s ∷ below s) m l same h
  after_on w (ConstructorPattern u d n a p NoPatterns) t (At r fs) m l same h = (same r (inl refl) ∙ h.0, free_on (all_in fs) m l (λ z a. same z (inr a)) h.1)
  after_on w (ConstructorPattern u d n a p (MorePatterns q qs)) t (At r fs) m l same h = (same r (inl refl) ∙ h.0, all_after_on w (MorePatterns q qs) (fields w t n) fs m l (λ z a. same z (inr a)) h.1)

  pub all_after_on : (w : Table) (ps : Patterns) (ts : List ℕ) (ss : Spots) (m l : ℕ → Kind) → ((z : ℕ) → Among z (all_in ss) → l z ≡ m z) → AllAfter w ps ts ss m → AllAfter w ps ts ss l
  all_after_on w NoPatterns ts ss m l same h = free_on (all_in ss) m l same h
  all_after_on w (MorePatterns p ps) ts NoSpots m l same h = absurd h
  all_after_on w (MorePatterns p ps) [] (MoreSpots s ss) m l same h = absurd h
  all_after_on w (MorePatterns p ps) (t ∷ ts) (MoreSpots s ss) m l same h = (after_on w p t s m l (λ z a. same z (in_part z s ss a)) h.0, all_after_on w ps ts ss m l (λ z a. same z (in_tail z s ss a)) h.1)

-- ---- positions and patterns

pub roomy_many : (w : Table) (ts : List ℕ) (ps : Patterns) (ss : Spots) → ArePatterns w ts (rows_of ps) → AllRoomy ps ss → length (as_many ps ss) ≡ length ts
roomy_many w [] NoPatterns ss are room = refl
roomy_many w (t ∷ ts) NoPatterns ss are room = absurd are
roomy_many w ts (MorePatterns p ps) NoSpots are room = absurd room
roomy_many w [] (MorePatterns p ps) (MoreSpots s ss) are room = absurd are
roomy_many w (t ∷ ts) (MorePatterns p ps) (MoreSpots s ss) are room = ap suc (roomy_many w ts ps ss are.1 room.1)

pub roomy_count : (ps : Patterns) (ss : Spots) → AllRoomy ps ss → length (as_many ps ss) ≡ count_patterns ps
roomy_count NoPatterns ss room = refl
roomy_count (MorePatterns p ps) NoSpots room = absurd room
roomy_count (MorePatterns p ps) (MoreSpots s ss) room = ap suc (roomy_count ps ss room.1)

knows_of : (w : Table) (root : Option ℕ) (ts : List ℕ) (ks : Knowns) (ps : Patterns) (ss : Spots) (r i : ℕ) (read : List ℕ) (m : ℕ → Kind) → AllBelow w root ts ks ss r i read m → length (as_many ps ss) ≡ length ts → Knows ts ks
knows_of w root [] ks ps ss r i read m parts e = tt
knows_of w root (t ∷ ts) ks NoPatterns ss r i read m parts e = absurd (omega (arith, e))
knows_of w root (t ∷ ts) ks (MorePatterns p ps) NoSpots r i read m parts e = absurd (omega (arith, e))
knows_of w root (t ∷ ts) NoKnowns (MorePatterns p ps) (MoreSpots s ss) r i read m parts e = absurd parts
knows_of w root (t ∷ ts) (MoreKnowns k ks) (MorePatterns p ps) (MoreSpots s ss) r i read m parts e = knows_of w root ts ks ps ss r (suc i) read m parts.1 (omega (arith, e))

-- registers that aren't positions
pub settled_other : (w : Table) (r : ℕ) (ts : List ℕ) (ks : Knowns) (ss : Spots) (q : ℕ) (own : Kind) → (Among q (all_in ss) → ⊥) → settled_at w r ts ks ss q own ≡ lost r own
settled_other w r [] ks ss q own ne = refl
settled_other w r (t ∷ ts) NoKnowns ss q own ne = refl
settled_other w r (t ∷ ts) (MoreKnowns k ks) NoSpots q own ne = refl
settled_other w r (t ∷ ts) (MoreKnowns k ks) (MoreSpots s ss) q own ne =
    refused (register s == q) (owned_kind w t k) (if has (below s) q then Rattle.separation.specs.code_rules.Taking.with_root (register s) own else settled_at w r ts ks ss q own) (unequal_is (register s) q (λ e. ne (inl (sym e))))
    ∙ (refused (has (below s) q) (Rattle.separation.specs.code_rules.Taking.with_root (register s) own) (settled_at w r ts ks ss q own) (no_has (has (below s) q) refl)
    ∙ settled_other w r ts ks ss q own (λ a. ne (in_tail q s ss a)))
  where
    no_has : (b : Bool) → has (below s) q ≡ b → has (below s) q ≡ false
    no_has true e = absurd (ne (in_head q s ss (has_among (below s) q e)))
    no_has false e = e

-- what lies within other registers is clear of these
inside_clear : (r : ℕ) (zs xs : List ℕ) (m : ℕ → Kind) (k : Kind) → Inside xs k → ((z : ℕ) → Among z xs → Among z (r ∷ zs) → ⊥) → ((z : ℕ) → Among z xs → is_lent_of r (m z) ≡ false) → Clear r zs m k
inside_clear r zs xs m k h apart' none = record {
  roots = λ z a. by (is_lent_of z k) (λ e. apart' z (h.roots z e) (inr a));
  froms = λ g e. ((λ a. apart' g.register (h.froms g e) a), none g.register (h.froms g e));
}
  where
    by : (b : Bool) → (b ≡ true → ⊥) → b ≡ false
    by true ne = absurd (ne refl)
    by false ne = refl

inside_none : (r : ℕ) (xs : List ℕ) (k : Kind) → Inside xs k → (Among r xs → ⊥) → is_lent_of r k ≡ false
inside_none r xs k h ne = by (is_lent_of r k) (λ e. ne (h.roots r e))
  where
    by : (b : Bool) → (b ≡ true → ⊥) → b ≡ false
    by true ne = absurd (ne refl)
    by false ne = refl

-- No register outside of these is borrowed from one, or has a from that names one.
abbrev pub Alone : List ℕ → (ℕ → Kind) → Type 0
Alone zs m = (q : ℕ) → (Among q zs → ⊥) → ((z : ℕ) → Among z zs → is_lent_of z (m q) ≡ false) × ((g : From) → from_of (m q) ≡ Some g → Among g.register zs → ⊥)

alone_outside : (r : ℕ) (zs : List ℕ) (m : ℕ → Kind) → Alone (r ∷ zs) m → Outside r zs m
alone_outside r zs m alone q ne =
    let h = alone q ne in record {
      roots = λ z a. h.0 z (inr a);
      froms = λ g e. (h.1 g e, (alone g.register (h.1 g e)).0 r (inl refl));
    }

module _ (c : PlainCode) (f : PlainFunction) where
  -- after some that are taken apart: registers outside stay, but for what is borrowed from r
  pub record Took (zs : List ℕ) (r : ℕ) (P : (ℕ → Kind) → Type 0) (at : ℕ) (m : ℕ → Kind) (end : ℕ) : Type 0 where
    pub following : ℕ → Kind
    pub came : Came c f at m end following
    pub parts : P following
    pub others : (q : ℕ) → (Among q zs → ⊥) → is_lent_of r (m q) ≡ false → following q ≡ m q
    pub freed : (q : ℕ) → (Among q zs → ⊥) → is_lent_of r (m q) ≡ true → is_free (following q) ≡ true
    pub inside : (q : ℕ) → Among q zs → Inside zs (following q)

  lent_free : (r : ℕ) (k : Kind) → is_lent_of r k ≡ true → is_free k ≡ true
  lent_free r K.Gone h = refl
  lent_free r (K.Scalar t) h = refl
  lent_free r (K.Owned t s) h = absurd (true≢false (sym h))
  lent_free r (K.Lent t s root from) h = refl
  lent_free r (K.Credit n) h = absurd (true≢false (sym h))

  took_none : (zs : List ℕ) (r : ℕ) (P : (ℕ → Kind) → Type 0) (at : ℕ) (m : ℕ → Kind) (end : ℕ) → end ≡ at → P m → ((q : ℕ) → Among q zs → Inside zs (m q)) → Took zs r P at m end
  took_none zs r P at m end e p inside = record {
    following = m;
    came = subst (λ b. Came c f at m b m) (sym e) (came_none c f at m);
    parts = p;
    others = λ q ne none. refl;
    freed = λ q ne lent. lent_free r (m q) lent;
    inside = inside;
  }

  own_spot : (t : ℕ) (k : Known) (s : Spot) (read : List ℕ) (m : ℕ → Kind) → m (register s) ≡ owned_kind c.types t k → Below c.types (Some (register s)) t k s read m → (q : ℕ) → Among q (register s ∷ below s) → Inside (register s ∷ below s) (m q)
  own_spot t k s read m own parts q (inl e) = own_inside c.types t k (register s ∷ below s) (m q) (ap m e ∙ own)
  own_spot t k s read m own parts q (inr a) = below_inside c.types (register s) t k s read m (register s ∷ below s) q parts (inl refl) (inl refl) (λ z b. inr b) a

  -- a literal is a scalar
  literal_own : (t i' : ℕ) (i : Rattle.std.proofs.Common.ℤ) (fs : List ℕ) (k : Known) (own : Kind) → IsHead c.types t (Number i) fs → own ≡ owned_kind c.types t k → is_free own ≡ true
  literal_own zero i' i fs k own h e = ap is_free (e ∙ chosen (is_scalar_type c.types 0) (K.Scalar 0) (K.Owned 0 (left c.types 0 k)) (int_scalar c.types))
  literal_own (suc t) i' i fs k own h e = absurd h

  -- ---- one cell

  -- what is reported after the Take itself
  pub record CellTaken (ts : List ℕ) (ks : Knowns) (r : ℕ) (fs : Spots) (size : ℕ) (read : List ℕ) (m l : ℕ → Kind) : Type 0 where
    pub own : l r ≡ credit size
    pub parts : Children c.types ts ks fs read l
    pub others : (q : ℕ) → (q ≡ r → ⊥) → (Among q (all_in fs) → ⊥) → l q ≡ lost r (m q)

  cell_taken : (t n r : ℕ) (ps : Patterns) (ks : Knowns) (fs : Spots) (read : List ℕ) (m : ℕ → Kind) → MayTake c f m r t n ps ks fs read → CellTaken (fields c.types t n) ks r fs (length (as_many ps fs)) read m (taken_at c.types r (length (as_many ps fs)) (fields c.types t n) ks fs m)
  cell_taken t n r ps ks fs read m may = record {
    own = chosen (r == r) (credit (length (as_many ps fs))) (settled_at c.types r (fields c.types t n) ks fs r (m r)) (itself r);
    parts = after_take c.types r (fields c.types t n) ks fs r 0 read m l may.differ may.parts
        (λ q a. refused (q == r) (credit (length (as_many ps fs))) (settled_at c.types r (fields c.types t n) ks fs q (m q)) (unequal_is q r (λ e. may.off (subst (λ z. Among z (all_in fs)) e a))))
        (knows_of c.types (Some r) (fields c.types t n) ks ps fs r 0 read m may.parts may.many);
    others = λ q ne off. refused (q == r) (credit (length (as_many ps fs))) (settled_at c.types r (fields c.types t n) ks fs q (m q)) (unequal_is q r ne) ∙ settled_other c.types r (fields c.types t n) ks fs q (m q) off;
  }
    where
      l : ℕ → Kind
      l = taken_at c.types r (length (as_many ps fs)) (fields c.types t n) ks fs m

  lost_clear : (r z : ℕ) (k : Kind) → is_lent_of z k ≡ false → is_lent_of z (lost r k) ≡ false
  lost_clear r z k h = by (is_lent_of r k)
    where
      by : (b : Bool) → is_lent_of z (if b then K.Gone else k) ≡ false
      by true = refl
      by false = h

  lost_from : (r : ℕ) (k : Kind) (g : From) → from_of (lost r k) ≡ Some g → from_of k ≡ Some g
  lost_from r k g h = by (is_lent_of r k) h
    where
      by : (b : Bool) → from_of (if b then K.Gone else k) ≡ Some g → from_of k ≡ Some g
      by true h = absurd (cc)
      by false h = h

  -- none of its fields, nor what is below them, is named from outside
  fields_alone : (ts : List ℕ) (ks : Knowns) (r : ℕ) (fs : Spots) (n : ℕ) (read : List ℕ) (m l : ℕ → Kind) → Outside r (all_in fs) m → CellTaken ts ks r fs (suc n) read m l → Alone (all_in fs) l
  fields_alone ts ks r fs n read m l out taken q ne = elim (or_not (q == r)) as (λ v. ((z : ℕ) → Among z (all_in fs) → is_lent_of z (l q) ≡ false) × ((g : From) → from_of (l q) ≡ Some g → Among g.register (all_in fs) → ⊥)) [
    | inl e ↦ (
        let own : l q ≡ K.Credit (suc n) = ap l (equal q r e) ∙ taken.own in
        ((λ z a. ap (is_lent_of z) own), (λ g h. absurd (no_from g (sym (ap from_of own) ∙ h)))))
    | inr e ↦ (
        let away : Among q (r ∷ all_in fs) → ⊥ = λ a. elim a as (λ v. ⊥) [
          | inl y ↦ unequal q r e y
          | inr y ↦ ne y
        ] in
        let same = taken.others q (unequal q r e) ne in
        let clear = out q away in
        ((λ z a. ap (is_lent_of z) same ∙ lost_clear r z (m q) (clear.roots z a)), (λ g h a. (clear.froms g (lost_from r (m q) g (sym (ap from_of same) ∙ h))).0 (inr a))))
  ]
    where
      no_from : (g : From) → None ≡ Some g → ⊥
      no_from g e = absurd (cc)

  -- the first field, before those after it
  first_alone : (ts : List ℕ) (ks : Knowns) (s : Spot) (ss : Spots) (read : List ℕ) (m : ℕ → Kind) → AllDiffer (MoreSpots s ss) → Alone (all_in (MoreSpots s ss)) m → Children c.types ts ks ss read m → Alone (register s ∷ below s) m
  first_alone ts ks s ss read m differ alone rest q ne = elim (or_not (has (all_in ss) q)) as (λ v. ((z : ℕ) → Among z (register s ∷ below s) → is_lent_of z (m q) ≡ false) × ((g : From) → from_of (m q) ≡ Some g → Among g.register (register s ∷ below s) → ⊥)) [
    | inl e ↦ (
        let inside = children_inside c.types ts ks ss read m q rest (has_among (all_in ss) q e) in
        ((λ z a. inside_none z (all_in ss) (m q) inside (λ b. apart_of z b a)), (λ g h a. apart_of g.register (inside.froms g h) a)))
    | inr e ↦ (
        let h = alone q (λ a. elim (among_part q a) as (λ v. ⊥) [
          | inl y ↦ ne y
          | inr y ↦ not_among (all_in ss) q e y
        ]) in
        ((λ z a. h.0 z (in_part z s ss a)), (λ g x a. h.1 g x (in_part g.register s ss a))))
  ]
    where
      apart_of : (z : ℕ) → Among z (all_in ss) → Among z (register s ∷ below s) → ⊥
      apart_of z b (inl y) = differ.1 (subst (λ q. Among q (all_in ss)) y b)
      apart_of z b (inr y) = differ.2 z y b

      among_part : (q : ℕ) → Among q (all_in (MoreSpots s ss)) → Among q (register s ∷ below s) ⊎ Among q (all_in ss)
      among_part q (inl y) = inl (inl y)
      among_part q (inr y) = elim (among_either q (below s) (all_in ss) y) as (λ v. Among q (register s ∷ below s) ⊎ Among q (all_in ss)) [
        | inl z ↦ inl (inr z)
        | inr z ↦ inr z
      ]

  -- those after it, after the first
  rest_alone : (s : Spot) (ss : Spots) (m l : ℕ → Kind) → AllDiffer (MoreSpots s ss) → Alone (all_in (MoreSpots s ss)) m → ((q : ℕ) → (Among q (register s ∷ below s) → ⊥) → l q ≡ m q) → ((q : ℕ) → Among q (register s ∷ below s) → Inside (register s ∷ below s) (l q)) → Alone (all_in ss) l
  rest_alone s ss m l differ alone same inside q ne = elim (or_not (has (register s ∷ below s) q)) as (λ v. ((z : ℕ) → Among z (all_in ss) → is_lent_of z (l q) ≡ false) × ((g : From) → from_of (l q) ≡ Some g → Among g.register (all_in ss) → ⊥)) [
    | inl e ↦ (
        let h = inside q (has_among (register s ∷ below s) q e) in
        ((λ z a. inside_none z (register s ∷ below s) (l q) h (λ b. apart_of z a b)), (λ g x a. apart_of g.register a (h.froms g x))))
    | inr e ↦ (
        let off = not_among (register s ∷ below s) q e in
        let h = alone q (λ a. elim (among_part q a) as (λ v. ⊥) [
          | inl y ↦ off y
          | inr y ↦ ne y
        ]) in
        let is = same q off in
        ((λ z a. ap (is_lent_of z) is ∙ h.0 z (in_tail z s ss a)), (λ g x a. h.1 g (sym (ap from_of is) ∙ x) (in_tail g.register s ss a))))
  ]
    where
      apart_of : (z : ℕ) → Among z (all_in ss) → Among z (register s ∷ below s) → ⊥
      apart_of z b (inl y) = differ.1 (subst (λ q. Among q (all_in ss)) y b)
      apart_of z b (inr y) = differ.2 z y b

      among_part : (q : ℕ) → Among q (all_in (MoreSpots s ss)) → Among q (register s ∷ below s) ⊎ Among q (all_in ss)
      among_part q (inl y) = inl (inl y)
      among_part q (inr y) = elim (among_either q (below s) (all_in ss) y) as (λ v. Among q (register s ∷ below s) ⊎ Among q (all_in ss)) [
        | inl z ↦ inl (inr z)
        | inr z ↦ inr z
      ]

  apart_of : (s : Spot) (ss : Spots) (z : ℕ) → AllDiffer (MoreSpots s ss) → Among z (all_in ss) → Among z (register s ∷ below s) → ⊥
  apart_of s ss z differ b (inl y) = differ.1 (subst (λ q. Among q (all_in ss)) y b)
  apart_of s ss z differ b (inr y) = differ.2 z y b

  -- the same of several, of which nothing is borrowed elsewhere
  pub record TookAll (zs : List ℕ) (P : (ℕ → Kind) → Type 0) (at : ℕ) (m : ℕ → Kind) (end : ℕ) : Type 0 where
    pub following : ℕ → Kind
    pub came : Came c f at m end following
    pub parts : P following
    pub others : (q : ℕ) → (Among q zs → ⊥) → following q ≡ m q
    pub inside : (q : ℕ) → Among q zs → Inside zs (following q)

  -- the first field and those after it
  both_took : (p : Pattern) (ps : Patterns) (t : ℕ) (ts : List ℕ) (s : Spot) (ss : Spots) (at mid end : ℕ) (m : ℕ → Kind) → AllDiffer (MoreSpots s ss) → ((q : ℕ) → (Among q (register s ∷ below s) → ⊥) → is_lent_of (register s) (m q) ≡ false) → (a : Took (register s ∷ below s) (register s) (After c.types p t s) at m mid) → TookAll (all_in ss) (AllAfter c.types ps ts ss) mid a.following end → TookAll (all_in (MoreSpots s ss)) (AllAfter c.types (MorePatterns p ps) (t ∷ ts) (MoreSpots s ss)) at m end
  both_took p ps t ts s ss at mid end m differ none a b = record {
    following = b.following;
    came = came_on c f at mid end m a.following b.following a.came b.came;
    parts = (after_on c.types p t s a.following b.following (λ z y. b.others z (λ x. apart_of s ss z differ x y)) a.parts, b.parts);
    others = λ q ne. b.others q (λ x. ne (in_tail q s ss x)) ∙ a.others q (λ x. ne (in_part q s ss x)) (none q (λ x. ne (in_part q s ss x)));
    inside = λ q x. elim (or_not (has (all_in ss) q)) as (λ v. Inside (all_in (MoreSpots s ss)) (b.following q)) [
      | inl e ↦ inside_more (all_in ss) (all_in (MoreSpots s ss)) (b.following q) (λ z y. in_tail z s ss y) (b.inside q (has_among (all_in ss) q e))
      | inr e ↦
          (let off = not_among (all_in ss) q e in
          let here = in_first q off x in
          subst (Inside (all_in (MoreSpots s ss))) (sym (b.others q off)) (inside_more (register s ∷ below s) (all_in (MoreSpots s ss)) (a.following q) (λ z y. in_part z s ss y) (a.inside q here)))
    ];
  }
    where
      in_first : (q : ℕ) → (Among q (all_in ss) → ⊥) → Among q (all_in (MoreSpots s ss)) → Among q (register s ∷ below s)
      in_first q off (inl y) = inl y
      in_first q off (inr y) = elim (among_either q (below s) (all_in ss) y) as (λ v. Among q (register s ∷ below s)) [
        | inl z ↦ inr z
        | inr z ↦ absurd (off z)
      ]

  -- the cell of a constructor and what is below it
  cell_took : (u d : ℕ) (a : Rattle.lowering_relation.specs.fip_trees.Tree.Name) (z : Rattle.separation.specs.fip_language.declared.Place.Place) (t n r : ℕ) (p : Pattern) (ps : Patterns) (ks : Knowns) (fs : Spots) (read : List ℕ) (at mid end : ℕ) (m l : ℕ → Kind) → (Among r (all_in fs) → ⊥) → Came c f at m mid l → CellTaken (fields c.types t n) ks r fs (suc (count_patterns ps)) read m l → TookAll (all_in fs) (AllAfter c.types (MorePatterns p ps) (fields c.types t n) fs) mid l end → Took (r ∷ all_in fs) r (After c.types (ConstructorPattern u d n a z (MorePatterns p ps)) t (At r fs)) at m end
  cell_took u d a z t n r p ps ks fs read at mid end m l off came taken b = record {
    following = b.following;
    came = came_on c f at mid end m l b.following came b.came;
    parts = (own, b.parts);
    others = λ q ne none. b.others q (λ x. ne (inr x)) ∙ (taken.others q (λ x. ne (inl x)) (λ x. ne (inr x)) ∙ refused (is_lent_of r (m q)) K.Gone (m q) none);
    freed = λ q ne lent. ap is_free (b.others q (λ x. ne (inr x)) ∙ (taken.others q (λ x. ne (inl x)) (λ x. ne (inr x)) ∙ chosen (is_lent_of r (m q)) K.Gone (m q) lent));
    inside = within;
  }
    where
      own : b.following r ≡ K.Credit (suc (count_patterns ps))
      own = b.others r off ∙ taken.own

      within : (q : ℕ) → Among q (r ∷ all_in fs) → Inside (r ∷ all_in fs) (b.following q)
      within q (inl e) = record { roots = λ z h. absurd (true≢false (sym h ∙ ap (is_lent_of z) (ap b.following e ∙ own))); froms = λ g h. absurd (no_from g (sym (ap from_of (ap b.following e ∙ own)) ∙ h)) }
        where
          no_from : (g : From) → None ≡ Some g → ⊥
          no_from g e = absurd (cc)
      within q (inr a) = inside_more (all_in fs) (r ∷ all_in fs) (b.following q) (λ z y. inr y) (b.inside q a)

  -- a constructor without fields that was matched
  bare_own : (t n l : ℕ) (ks : Knowns) (own : Kind) → (n == l) ≡ true → n < Rattle.separation.specs.code_rules.Types.count c.types t → own ≡ owned_kind c.types t (Is (Tag l) ks) → own ≡ (if is_scalar_type c.types t then K.Scalar t else K.Owned t (n ∷ []))
  bare_own t n l ks own e low is = is ∙ ap (λ cs. if is_scalar_type c.types t then K.Scalar t else K.Owned t cs) (ap (λ x. left c.types t (Is (Tag x) ks)) (sym (equal n l e)) ∙ left_tag c.types t n ks low)

  may_take : (t n l : ℕ) (q : Pattern) (qs : Patterns) (ks : Knowns) (r : ℕ) (fs : Spots) (read : List ℕ) (m : ℕ → Kind) → (n == l) ≡ true → n < Rattle.separation.specs.code_rules.Types.count c.types t → ArePatterns c.types (fields c.types t n) (rows_of (MorePatterns q qs)) → AllRoomy (MorePatterns q qs) fs → AllDiffer fs → (Among r (all_in fs) → ⊥) → ((z : ℕ) → Among z (all_in fs) → z < f.registers) → m r ≡ owned_kind c.types t (Is (Tag l) ks) → AllBelow c.types (Some r) (fields c.types t n) ks fs r 0 read m → Outside r (all_in fs) m → MayTake c f m r t n (MorePatterns q qs) ks fs read
  may_take t n l q qs ks r fs read m e low are room differ off within own parts out = record {
    own = bare_own t n l ks (m r) e low own ∙ refused (is_scalar_type c.types t) (K.Scalar t) (K.Owned t (n ∷ [])) (some_field (fields c.types t n) refl are);
    many = roomy_many c.types (fields c.types t n) (MorePatterns q qs) fs are room;
    differ = differ;
    off = off;
    parts = parts;
    outside = out;
    within = within;
    free = λ z a. all_free c.types (Some r) (fields c.types t n) ks fs r 0 read m z parts a;
  }
    where
      some_field : (ts : List ℕ) → fields c.types t n ≡ ts → ArePatterns c.types ts (rows_of (MorePatterns q qs)) → is_scalar_type c.types t ≡ false
      some_field [] same h = absurd h
      some_field (u ∷ us) same h = with_field c.types t n (length us) (ap length same)

  -- its cell is taken apart
  record CellBegins (t n r : ℕ) (q : Pattern) (qs : Patterns) (ks : Knowns) (fs : Spots) (read : List ℕ) (at : ℕ) (m : ℕ → Kind) (mid : ℕ) : Type 0 where
    pub next : ℕ → Kind
    pub are : ArePatterns c.types (fields c.types t n) (rows_of (MorePatterns q qs))
    pub fit : compare_all (rows_of (MorePatterns q qs)) ks ≡ Fits
    pub came : Came c f at m mid next
    pub taken : CellTaken (fields c.types t n) ks r fs (suc (count_patterns qs)) read m next
    pub alone : Alone (all_in fs) next

  cell_begins : (t n l : ℕ) (q : Pattern) (qs : Patterns) (ks : Knowns) (r : ℕ) (fs : Spots) (read : List ℕ) (at : ℕ) (m : ℕ → Kind) (mid end : ℕ) → ((n == l) ≡ true) × (compare_all (rows_of (MorePatterns q qs)) ks ≡ Fits) → (ts : List ℕ) × IsHead c.types t (Tag n) ts × ArePatterns c.types ts (rows_of (MorePatterns q qs)) → AllRoomy (MorePatterns q qs) fs → AllDiffer fs → (Among r (all_in fs) → ⊥) → ((z : ℕ) → Among z (all_in fs) → z < f.registers) → m r ≡ owned_kind c.types t (Is (Tag l) ks) → AllBelow c.types (Some r) (fields c.types t l) ks fs r 0 read m → Outside r (all_in fs) m → (h : (cut : ℕ) × TakeLaid f at r (MorePatterns q qs) fs cut × TakeAll f cut (MorePatterns q qs) fs mid) → Quiet f at end m → mid ≤ end → CellBegins t n r q qs ks fs read at m h.0
  cell_begins t n l q qs ks r fs read at m mid end fit typed room differ off within own parts out h quiet le =
      let hf = head_fields c.types t n typed.0 typed.1 in
      let same = equal n l fit.0 in
      let are : ArePatterns c.types (fields c.types t n) (rows_of (MorePatterns q qs)) = subst (λ ts. ArePatterns c.types ts (rows_of (MorePatterns q qs))) (sym hf.1) typed.2 in
      let below' : AllBelow c.types (Some r) (fields c.types t n) ks fs r 0 read m = subst (λ l. AllBelow c.types (Some r) (fields c.types t l) ks fs r 0 read m) (sym same) parts in
      let may' : MayTake c f m r t n (MorePatterns q qs) ks fs read = may_take t n l q qs ks r fs read m fit.0 hf.0 are room differ off within own below' out in
      let next = taken_at c.types r (length (as_many (MorePatterns q qs) fs)) (fields c.types t n) ks fs m in
      let sized : CellTaken (fields c.types t n) ks r fs (suc (count_patterns qs)) read m next = subst (λ x. CellTaken (fields c.types t n) ks r fs x read m next) (roomy_count (MorePatterns q qs) fs room) (cell_taken t n r (MorePatterns q qs) ks fs read m may') in
      let later = take_all_end f h.0 (MorePatterns q qs) fs mid h.2 in
      let one = h.1.1 in
      let first : Came c f at m (suc at) next = came_one c f at m next (one_row c f at m next (I.Take r (as_many (MorePatterns q qs) fs)) h.1.0 refl (take_row c f m r t n (MorePatterns q qs) ks fs read may') (quiet.first (omega (arith, later, le, one)))) in
      record {
        next = next;
        are = are;
        fit = fit.1;
        came = subst (λ b. Came c f at m b next) (sym one) first;
        taken = sized;
        alone = fields_alone (fields c.types t n) ks r fs (count_patterns qs) read m next out sized;
      }

  mutual
    pub takes : (q : Pattern) (t : ℕ) (k : Known) (s : Spot) (read : List ℕ) (at : ℕ) (m : ℕ → Kind) (mid end : ℕ) → IsPattern c.types t (row_of q) → compare (row_of q) k ≡ Fits → Roomy q s → Differ s → (Among (register s) (below s) → ⊥) → ((z : ℕ) → Among z (below s) → z < f.registers) → m (register s) ≡ owned_kind c.types t k → Below c.types (Some (register s)) t k s read m → Outside (register s) (below s) m → TakesLaid f at q s mid → Quiet f at end m → mid ≤ end → Took (register s ∷ below s) (register s) (After c.types q t s) at m mid
    takes (BinderPattern b) t k s read at m mid end typed fit room differ off within own parts out h quiet le =
        took_none (register s ∷ below s) (register s) (After c.types (BinderPattern b) t s) at m mid h ((k, own), (λ z a. below_free c.types (Some (register s)) t k s read m z parts a)) (own_spot t k s read m own parts)
    takes (LiteralPattern i p) t k s read at m mid end typed fit room differ off within own parts out h quiet le =
        took_none (register s ∷ below s) (register s) (After c.types (LiteralPattern i p) t s) at m mid h
        (λ z a. elim a as (λ v. is_free (m z) ≡ true) [
          | inl e ↦ ap (λ z. is_free (m z)) e ∙ literal_own t 0 i typed.1 k (m (register s)) typed.2 own
          | inr b ↦ below_free c.types (Some (register s)) t k s read m z parts b
        ]) (own_spot t k s read m own parts)
    takes (ConstructorPattern u d n a p ps) t (Open out) s read at m mid end typed fit room differ off within own parts out' h quiet le = absurd (open_fits (is_in (Tag n) out) fit)
    takes (ConstructorPattern u d n a p ps) t (Is (Number j) ks) s read at m mid end typed fit room differ off within own parts out h quiet le = absurd (true≢false (sym (if_fits (same_head (Tag n) (Number j)) (compare_all (rows_of ps) ks) fit).0))
    takes (ConstructorPattern u d n a p NoPatterns) t (Is (Tag l) ks) (At r fs) read at m mid end typed fit room differ off within own parts out h quiet le =
        let same = if_fits (n == l) (compare_all (rows_of NoPatterns) ks) fit in
        took_none (r ∷ all_in fs) r (After c.types (ConstructorPattern u d n a p NoPatterns) t (At r fs)) at m mid (let x = h.1 in let y = h.2 in omega (arith, x, y))
        (bare_own t n l ks (m r) same.0 (head_fields c.types t n typed.1 typed.2).0 own, (λ z a. all_free c.types (Some r) (fields c.types t l) ks fs r 0 read m z parts a))
        (own_spot t (Is (Tag l) ks) (At r fs) read m own parts)
    takes (ConstructorPattern u d n a p (MorePatterns q qs)) t (Is (Tag l) ks) (At r fs) read at m mid end typed fit room differ off within own parts out h quiet le =
        let cell = cell_begins t n l q qs ks r fs read at m mid end (if_fits (n == l) (compare_all (rows_of (MorePatterns q qs)) ks) fit) (typed.1, typed.2, typed.3) room differ off within own parts out h quiet le in
        let rest = all_takes (MorePatterns q qs) (fields c.types t n) ks fs read h.0 cell.next mid end cell.are cell.fit room differ within cell.taken.parts cell.alone h.2 (came_quiet c f at h.0 end m cell.next cell.came quiet) le in
        cell_took u d a p t n r q qs ks fs read at h.0 mid m cell.next off cell.came cell.taken rest

    pub all_takes : (ps : Patterns) (ts : List ℕ) (ks : Knowns) (ss : Spots) (read : List ℕ) (at : ℕ) (m : ℕ → Kind) (mid end : ℕ) → ArePatterns c.types ts (rows_of ps) → compare_all (rows_of ps) ks ≡ Fits → AllRoomy ps ss → AllDiffer ss → ((z : ℕ) → Among z (all_in ss) → z < f.registers) → Children c.types ts ks ss read m → Alone (all_in ss) m → TakeAll f at ps ss mid → Quiet f at end m → mid ≤ end → TookAll (all_in ss) (AllAfter c.types ps ts ss) at m mid
    all_takes NoPatterns [] ks ss read at m mid end are fit room differ within parts alone h quiet le = record {
      following = m;
      came = subst (λ b. Came c f at m b m) (sym h) (came_none c f at m);
      parts = λ z a. ap is_free (parts z a);
      others = λ q ne. refl;
      inside = λ q a. gone_inside (all_in ss) (m q) (parts q a);
    }
    all_takes NoPatterns (t ∷ ts) ks ss read at m mid end are fit room differ within parts alone h quiet le = absurd are
    all_takes (MorePatterns p ps) ts ks NoSpots read at m mid end are fit room differ within parts alone h quiet le = absurd room
    all_takes (MorePatterns p ps) [] ks (MoreSpots s ss) read at m mid end are fit room differ within parts alone h quiet le = absurd are
    all_takes (MorePatterns p ps) (t ∷ ts) NoKnowns (MoreSpots s ss) read at m mid end are fit room differ within parts alone h quiet le = absurd parts
    all_takes (MorePatterns p ps) (t ∷ ts) (MoreKnowns k ks) (MoreSpots s ss) read at m mid end are fit room differ within parts alone h quiet le =
        let b = both_fits (compare (row_of p) k) (compare_all (rows_of ps) ks) fit in
        let later = take_all_end f h.0 ps ss mid h.2 in
        let mine = first_alone ts ks s ss read m differ alone parts.2 in
        let a = takes p t k s read at m h.0 end are.0 b.0 room.0 differ.3 differ.0 (λ z x. within z (in_head z s ss x)) parts.0 parts.1 (alone_outside (register s) (below s) m mine) h.1 quiet (omega (arith, later, le)) in
        let none : (q : ℕ) → (Among q (register s ∷ below s) → ⊥) → is_lent_of (register s) (m q) ≡ false = λ q ne. (mine q ne).0 (register s) (inl refl) in
        let rest = all_takes ps ts ks ss read h.0 a.following mid end are.1 b.1 room.1 differ.4 (λ z x. within z (in_tail z s ss x))
        (children_on c.types ts ks ss read m a.following (λ z x. let off : Among z (register s ∷ below s) → ⊥ = λ y. apart_of s ss z differ x y in a.others z off (none z off)) parts.2)
        (rest_alone s ss m a.following differ alone (λ q ne. a.others q ne (none q ne)) a.inside) h.2 (came_quiet c f at h.0 end m a.following a.came quiet) le in
        both_took p ps t ts s ss at h.0 mid m differ none a rest
