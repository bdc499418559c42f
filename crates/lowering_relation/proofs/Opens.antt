-- What is known at the entry of a clause's body is tidy, and registers that are no position's stay unknown.
use Rattle.std.proofs.Common.{◌≡◌, inl, inr, refl, sym, ◌∙◌, subst, ⊎_elim, ℕ, suc, ◌<◌, Bool, true, false, List, [], ◌∷◌, ◌++◌, Option, Some, None, get_or}
use Rattle.std.specs.Prelude.{if◌then◌else◌, ◌||◌}
use Rattle.tree_semantics.specs.fip_language.Every.{Among}
use Rattle.credit_check.specs.fip_trees.Tree.{Pattern, BinderPattern, LiteralPattern, ConstructorPattern, Patterns, NoPatterns, MorePatterns, count_patterns}
use Rattle.lowering_relation.specs.declared.held.Held.{Held}
use Rattle.lowering_relation.specs.declared.held.Held.TheVariants as H
use Rattle.lowering_relation.specs.declared.held.Credit.{Credit}
use Rattle.lowering_relation.specs.Known.{Known, holding, naming, using, used}
use Rattle.lowering_relation.specs.Values.{Setting, is_scalar}
use Rattle.lowering_relation.specs.LoweredFunctions.{with_credit}
use Rattle.lowering_relation.specs.Tidy.{Fixed, Tidy, Unknown, NotIn, Once, Below}
use Rattle.lowering_relation.proofs.LoweredLists.{set_get, barer_set, barer_used, NotBare}
use Rattle.lowering_relation.specs.Spots.{Spot, At, Spots, NoSpots, MoreSpots, register, below, all_in, Differ, AllDiffer}
use Rattle.lowering_relation.specs.Opening.{is_named}
use Rattle.lowering_relation.specs.Entering.{unnaming, variable_held, with_variable, with_cell, entering, entering_all, root_of, spent_if, entering_root}
use Rattle.lowering_relation.proofs.MatchLists.{among_left, among_right}
use Rattle.lowering_relation.proofs.Entries.{name_set, name_lost, variable_not}
use Rattle.match_knowledge.proofs.fip_base.fip_language.Facts.{none_some_implicit as none_is}

-- what is known grows by registers of zs
pub record Enters (k l : Known) (zs : List ℕ) : Type 0 where
  pub next : l.next ≡ k.next
  pub credits : (z : ℕ) → NotIn z k.credits → (Among z zs → ⊥) → NotIn z l.credits
  pub tidy : Tidy k → ((z : ℕ) → Among z zs → (z < k.next) × NotIn z k.credits) → Tidy l
  pub unknown : (d : ℕ) → Unknown k d → (Among d zs → ⊥) → Unknown l d

enters_same : (k : Known) (zs : List ℕ) → Enters k k zs
enters_same k zs = record { next = refl; credits = λ z n m. n; tidy = λ t r. t; unknown = λ d u n. u }

enters_more : (k l : Known) (xs ys : List ℕ) → ((z : ℕ) → Among z xs → Among z ys) → Enters k l xs → Enters k l ys
enters_more k l xs ys f e = record {
  next = e.next;
  credits = λ z n m. e.credits z n (λ a. m (f z a));
  tidy = λ t r. e.tidy t (λ z a. r z (f z a));
  unknown = λ d u n. e.unknown d u (λ a. n (f d a));
}

enters_on : (k l m : Known) (xs ys : List ℕ) → ((z : ℕ) → Among z xs → Among z ys → ⊥) → Enters k l xs → Enters l m ys → Enters k m (xs ++ ys)
enters_on k l m xs ys apart p q = record {
  next = q.next ∙ p.next;
  credits = λ z n a. q.credits z (p.credits z n (λ b. a (among_left z xs ys b))) (λ b. a (among_right z xs ys b));
  tidy = λ t r. q.tidy (p.tidy t (λ z a. r z (among_left z xs ys a)))
      (λ z a. let two = r z (among_right z xs ys a) in
      (subst (λ n. z < n) (sym p.next) two.0, p.credits z two.1 (λ b. apart z b a)));
  unknown = λ d u n. q.unknown d (p.unknown d u (λ a. n (among_left d xs ys a))) (λ a. n (among_right d xs ys a));
}

-- a variable

enters_named : (k : Known) (x r : ℕ) (h : Held) → NotBare h → Enters k (holding (naming k x r) r h) (r ∷ [])
enters_named k x r h n = record {
  next = refl;
  credits = λ z m a. m;
  tidy = λ t ready. record {
    named = λ y q e. ⊎_elim (λ a. subst (Fixed l) (some_is r q a.1) (fixed r (ready r (inl refl)))) (λ b. still q (t.named y q b.1)) (name_set k.names x (Some r) y q e);
    bare = λ q u c e. still q (t.bare q u c (barer_set k.held r h n q u c e));
    once = t.once;
    below = t.below;
  };
  unknown = λ d u m. record {
    fixed = still d u.fixed;
    unnamed = λ y q e f. ⊎_elim (λ a. m (inl (sym f ∙ sym (some_is r q a.1)))) (λ b. u.unnamed y q b.1 f) (name_set k.names x (Some r) y q e);
    no_bare = λ q v c e. u.no_bare q v c (barer_set k.held r h n q v c e);
  };
}
  where
    l : Known
    l = holding (naming k x r) r h

    some_is : (a b : ℕ) → Some a ≡ Some b → a ≡ b
    some_is a b e = cc

    still : (q : ℕ) → Fixed k q → Fixed l q
    still q f = record { used = f.used; kept = f.kept }

    fixed : (q : ℕ) → (q < k.next) × NotIn q k.credits → Fixed l q
    fixed q f = record { used = f.0; kept = f.1 }

enters_unnamed : (k : Known) (x : ℕ) (zs : List ℕ) → Enters k (unnaming k x) zs
enters_unnamed k x zs = record {
  next = refl;
  credits = λ z m a. m;
  tidy = λ t ready. record {
    named = λ y q e. ⊎_elim (λ a. absurd (none_is a.1)) (λ b. still q (t.named y q b.1)) (name_set k.names x None y q e);
    bare = λ q u c e. still q (t.bare q u c e);
    once = t.once;
    below = t.below;
  };
  unknown = λ d u m. record {
    fixed = still d u.fixed;
    unnamed = λ y q e f. ⊎_elim (λ a. absurd (none_is a.1)) (λ b. u.unnamed y q b.1 f) (name_set k.names x None y q e);
    no_bare = u.no_bare;
  };
}
  where
    still : (q : ℕ) → Fixed k q → Fixed (unnaming k x) q
    still q f = record { used = f.used; kept = f.kept }

variable_if : (b : Bool) (k : Known) (x r : ℕ) (h : Held) → NotBare h → Enters k (if b then holding (naming k x r) r h else unnaming k x) (r ∷ [])
variable_if true k x r h n = enters_named k x r h n
variable_if false k x r h n = enters_unnamed k x (r ∷ [])

-- a credit

not_in_more : (z n r : ℕ) (cs : List Credit) → NotIn z cs → (z ≡ r → ⊥) → NotIn z (cs ++ record { size = n; register = r } ∷ [])
not_in_more z n r [] h ne = (ne, tt)
not_in_more z n r (c ∷ cs) h ne = (h.0, not_in_more z n r cs h.1 ne)

once_more : (n r : ℕ) (cs : List Credit) → Once cs → NotIn r cs → Once (cs ++ record { size = n; register = r } ∷ [])
once_more n r [] h m = (tt, tt)
once_more n r (c ∷ cs) h m = (not_in_more c.register n r cs h.0 (λ e. m.0 (sym e)), once_more n r cs h.1 m.1)

below_one : (n r m : ℕ) (cs : List Credit) → Below m cs → r < m → Below m (cs ++ record { size = n; register = r } ∷ [])
below_one n r m [] h lt = (lt, tt)
below_one n r m (c ∷ cs) h lt = (h.0, below_one n r m cs h.1 lt)

enters_credit : (k : Known) (n r : ℕ) → Enters k (with_credit k n r) (r ∷ [])
enters_credit k n r = record {
  next = refl;
  credits = λ z m a. not_in_more z n r k.credits m (λ e. a (inl e));
  tidy = λ t ready. let here = ready r (inl refl) in record {
    named = λ y q e. let two = name_lost k.names r y q e in still q (t.named y q two.0) two.1;
    bare = λ q u c e. elim (set_get k.held r (H.Credit n) q (H.Bare u c) e) [
      | inl a ↦ still q (t.bare q u c a.1) a.0
      | inr b ↦ absurd (no_credit u c b.1)
    ];
    once = once_more n r k.credits t.once here.1;
    below = below_one n r k.next k.credits t.below here.0;
  };
  unknown = λ d u m. record {
    fixed = still d u.fixed (λ e. m (inl e));
    unnamed = λ y q e f. u.unnamed y q (name_lost k.names r y q e).0 f;
    no_bare = λ q v c e. u.no_bare q v c (barer_set k.held r (H.Credit n) (λ a b g. no_credit a b g) q v c e);
  };
}
  where
    no_credit : (u c : ℕ) → H.Credit n ≡ H.Bare u c → ⊥
    no_credit u c e = absurd (cc)

    still : (q : ℕ) → Fixed k q → (q ≡ r → ⊥) → Fixed (with_credit k n r) q
    still q f ne = record { used = f.used; kept = not_in_more q n r k.credits f.kept ne }

enters_bare : (k : Known) (r t c : ℕ) → Enters k (holding k r (H.Bare t c)) (r ∷ [])
enters_bare k r t c = record {
  next = refl;
  credits = λ z m a. m;
  tidy = λ ti ready. let here = ready r (inl refl) in record {
    named = λ y q e. still q (ti.named y q e);
    bare = λ q u d e. elim (set_get k.held r (H.Bare t c) q (H.Bare u d) e) [
      | inl a ↦ still q (ti.bare q u d a.1)
      | inr b ↦ subst (Fixed (holding k r (H.Bare t c))) (sym b.0) (record { used = here.0; kept = here.1 })
    ];
    once = ti.once;
    below = ti.below;
  };
  unknown = λ d u m. record {
    fixed = still d u.fixed;
    unnamed = u.unnamed;
    no_bare = λ q v e' g f. elim (set_get k.held r (H.Bare t c) q (H.Bare v e') g) [
      | inl a ↦ u.no_bare q v e' a.1 f
      | inr b ↦ m (inl (sym f ∙ b.0))
    ];
  };
}
  where
    still : (q : ℕ) → Fixed k q → Fixed (holding k r (H.Bare t c)) q
    still q f = record { used = f.used; kept = f.kept }

bare_if : (b : Bool) (k : Known) (r t c : ℕ) → Enters k (if b then k else holding k r (H.Bare t c)) (r ∷ [])
bare_if true k r t c = enters_same k (r ∷ [])
bare_if false k r t c = enters_bare k r t c

enters_cell : (s : Setting) (takes : Bool) (t c : ℕ) (ps : Patterns) (r : ℕ) (k : Known) → Enters k (with_cell s takes t c ps r k) (r ∷ [])
enters_cell s false t c ps r k = enters_same k (r ∷ [])
enters_cell s true t c NoPatterns r k = bare_if (is_scalar s t) k r t c
enters_cell s true t c (MorePatterns p ps) r k = enters_credit k (suc (count_patterns ps)) r

-- whole patterns

among_first : (z r : ℕ) (zs : List ℕ) → Among z (r ∷ []) → Among z (r ∷ zs)
among_first z r zs (inl e) = inl e
among_first z r zs (inr n) = absurd n

only : (z r : ℕ) (zs : List ℕ) → (Among r zs → ⊥) → Among z (r ∷ []) → Among z zs → ⊥
only z r zs n (inl e) m = n (subst (λ x. Among x zs) e m)
only z r zs n (inr b) m = b

spot_apart : (s : Spot) (ss : Spots) → AllDiffer (MoreSpots s ss) → (z : ℕ) → Among z (register s ∷ below s) → Among z (all_in ss) → ⊥
spot_apart s ss d z (inl e) m = d.1 (subst (λ x. Among x (all_in ss)) e m)
spot_apart s ss d z (inr b) m = d.2 z b m

module _ (s : Setting) (takes : Bool) (root : Option ℕ) where
  mutual
    pub enters_part : (q : Pattern) (p : Spot) (k : Known) → Differ p → (Among (register p) (below p) → ⊥) → Enters k (entering s takes root q p k) (register p ∷ below p)
    enters_part (BinderPattern b) (At r fs) k d n =
        enters_more k (with_variable s takes root b r k) (r ∷ []) (r ∷ all_in fs) (λ z m. among_first z r (all_in fs) m)
        (variable_if (takes || is_named b) k b.number r (variable_held s takes root b.ty) (variable_not (takes || is_scalar s b.ty) (is_scalar s b.ty) b.ty root))
    enters_part (LiteralPattern i pl) (At r fs) k d n = enters_same k (r ∷ all_in fs)
    enters_part (ConstructorPattern t e c m pl ps) (At r fs) k d n =
        enters_on k (with_cell s takes t c ps r k) (entering_all s takes root ps fs (with_cell s takes t c ps r k)) (r ∷ []) (all_in fs) (λ z a b. only z r (all_in fs) n a b)
        (enters_cell s takes t c ps r k) (enters_all ps fs (with_cell s takes t c ps r k) d)

    enters_all : (ps : Patterns) (ss : Spots) (k : Known) → AllDiffer ss → Enters k (entering_all s takes root ps ss k) (all_in ss)
    enters_all NoPatterns ss k d = enters_same k (all_in ss)
    enters_all (MorePatterns p ps) NoSpots k d = enters_same k []
    enters_all (MorePatterns p ps) (MoreSpots q ss) k d =
        enters_on k (entering s takes root p q k) (entering_all s takes root ps ss (entering s takes root p q k)) (register q ∷ below q) (all_in ss) (spot_apart q ss d)
        (enters_part p q k d.3 d.0) (enters_all ps ss (entering s takes root p q k) d.4)

enters_spent : (takes : Bool) (r : ℕ) (k : Known) → Enters k (spent_if takes r k) []
enters_spent false r k = enters_same k []
enters_spent true r k = record {
  next = refl;
  credits = λ z m a. m;
  tidy = λ t ready. record {
    named = λ y q e. still q (t.named y q e);
    bare = λ q u c e. still q (t.bare q u c (barer_used k.held r q u c e));
    once = t.once;
    below = t.below;
  };
  unknown = λ d u m. record {
    fixed = still d u.fixed;
    unnamed = u.unnamed;
    no_bare = λ q v c e. u.no_bare q v c (barer_used k.held r q v c e);
  };
}
  where
    still : (q : ℕ) → Fixed k q → Fixed (using k (used k.held r)) q
    still q f = record { used = f.used; kept = f.kept }

-- a variable that names the scrutinee; its register is fixed
enters_naming : (k : Known) (x r : ℕ) (zs : List ℕ) → Enters k (naming k x r) (r ∷ zs)
enters_naming k x r zs = record {
  next = refl;
  credits = λ z m a. m;
  tidy = λ t ready. record {
    named = λ y q e. ⊎_elim (λ a. subst (Fixed (naming k x r)) (some_is r q a.1) (record { used = (ready r (inl refl)).0; kept = (ready r (inl refl)).1 })) (λ b. still q (t.named y q b.1)) (name_set k.names x (Some r) y q e);
    bare = λ q u c e. still q (t.bare q u c e);
    once = t.once;
    below = t.below;
  };
  unknown = λ d u m. record {
    fixed = still d u.fixed;
    unnamed = λ y q e f. ⊎_elim (λ a. m (inl (sym f ∙ sym (some_is r q a.1)))) (λ b. u.unnamed y q b.1 f) (name_set k.names x (Some r) y q e);
    no_bare = u.no_bare;
  };
}
  where
    some_is : (a b : ℕ) → Some a ≡ Some b → a ≡ b
    some_is a b e = cc

    still : (q : ℕ) → Fixed k q → Fixed (naming k x r) q
    still q f = record { used = f.used; kept = f.kept }

pub enters_root : (s : Setting) (takes : Bool) (q : Pattern) (p : Spot) (k : Known) → Differ p → (Among (register p) (below p) → ⊥) → Enters k (entering_root s takes q p k) (register p ∷ below p)
enters_root s takes (BinderPattern b) (At r fs) k d n = enters_naming k b.number r (all_in fs)
enters_root s takes (LiteralPattern i pl) (At r fs) k d n = enters_same k (r ∷ all_in fs)
enters_root s takes (ConstructorPattern t e c m pl ps) (At r fs) k d n =
    enters_on k (spent_if takes r k) (entering s takes (root_of r (get_or k.held r H.Nothing)) (ConstructorPattern t e c m pl ps) (At r fs) (spent_if takes r k)) [] (r ∷ all_in fs) (λ z a b. a)
    (enters_spent takes r k) (enters_part s takes (root_of r (get_or k.held r H.Nothing)) (ConstructorPattern t e c m pl ps) (At r fs) (spent_if takes r k) d n)
