-- Positions that get more positions below them.
use Rattle.std.proofs.Common.{◌≡◌, ◌⊎◌, inl, inr, refl, ◌∙◌, subst, ⊎_elim, arith, ℕ, suc, ◌<◌, ◌≤◌}
use Rattle.tree_semantics.specs.fip_language.Every.{Among}
use Rattle.credit_check.specs.fip_trees.Tree.{Pattern, BinderPattern, LiteralPattern, ConstructorPattern, Patterns, NoPatterns, MorePatterns}
use Rattle.lowering_relation.specs.Spots.{Spot, At, Spots, NoSpots, MoreSpots, register, below, all_in, AllDiffer}
use Rattle.lowering_relation.specs.Opening.{Roomy, AllRoomy}
use Rattle.lowering_relation.specs.Growing.{Grows, AllGrow}
use Rattle.lowering_relation.proofs.MatchLists.{among_either, in_head, in_tail}

pub grow_none : (ss : Spots) (n : ℕ) → AllGrow ss ss n n
grow_none ss n = record { grows = omega arith; new = λ z m. inl m; roomy = λ ps r. r; differ = λ lt d. d }

pub grow_on : (ss ts us : Spots) (a b c : ℕ) → AllGrow ss ts a b → AllGrow ts us b c → AllGrow ss us a c
grow_on ss ts us a b c p q = record {
  grows = let x = p.grows in let y = q.grows in omega (arith, x, y);
  new = λ z m. ⊎_elim (λ o. ⊎_elim (λ old. inl old) (λ n. let y = q.grows in let lt = n.1 in inr (n.0, omega (arith, lt, y))) (p.new z o)) (λ n. let x = p.grows in let le = n.0 in inr (omega (arith, x, le), n.1)) (q.new z m);
  roomy = λ ps r. q.roomy ps (p.roomy ps r);
  differ = λ lt d. q.differ (λ z m. ⊎_elim (λ old. let l = lt z old in let x = p.grows in omega (arith, l, x)) (λ n. n.1) (p.new z m)) (p.differ lt d);
}

-- a position more
abbrev pub with_spot : Spots → ℕ → Spots
with_spot NoSpots r = MoreSpots (At r NoSpots) NoSpots
with_spot (MoreSpots s ss) r = MoreSpots s (with_spot ss r)

spot_new : (ss : Spots) (r z : ℕ) → Among z (all_in (with_spot ss r)) → Among z (all_in ss) ⊎ (z ≡ r)
spot_new NoSpots r z (inl e) = inr e
spot_new NoSpots r z (inr n) = absurd n
spot_new (MoreSpots s ss) r z (inl e) = inl (inl e)
spot_new (MoreSpots s ss) r z (inr m) =
    ⊎_elim (λ b. inl (in_head z s ss b)) (λ t. ⊎_elim (λ old. inl (in_tail z s ss old)) (λ e. inr e) (spot_new ss r z t)) (among_either z (below s) (all_in (with_spot ss r)) m)

spot_roomy : (ss : Spots) (r : ℕ) (ps : Patterns) → AllRoomy ps ss → AllRoomy ps (with_spot ss r)
spot_roomy ss r NoPatterns h = tt
spot_roomy NoSpots r (MorePatterns p ps) h = absurd h
spot_roomy (MoreSpots s ss) r (MorePatterns p ps) h = (h.0, spot_roomy ss r ps h.1)

spot_differ : (ss : Spots) (r : ℕ) → ((z : ℕ) → Among z (all_in ss) → z < r) → AllDiffer ss → AllDiffer (with_spot ss r)
spot_differ NoSpots r lt d = (λ n. n, λ n. n, λ z a b. a, tt, tt)
spot_differ (MoreSpots s ss) r lt d = (
  d.0,
  λ m. ⊎_elim (λ old. d.1 old) (λ e. let l = lt (register s) (inl refl) in absurd (omega (arith, l, e))) (spot_new ss r (register s) m),
  λ z a b. ⊎_elim (λ old. d.2 z a old) (λ e. let l = lt z (in_head z s ss a) in absurd (omega (arith, l, e))) (spot_new ss r z b),
  d.3,
  spot_differ ss r (λ z m. lt z (in_tail z s ss m)) d.4,
)

pub grow_spot : (ss : Spots) (r : ℕ) → AllGrow ss (with_spot ss r) r (suc r)
grow_spot ss r = record {
  grows = omega arith;
  new = λ z m. ⊎_elim (λ old. inl old) (λ e. inr (omega (arith, e), omega (arith, e))) (spot_new ss r z m);
  roomy = λ ps h. spot_roomy ss r ps h;
  differ = λ lt d. spot_differ ss r lt d;
}

-- a position that grows among others
pub grow_first : (s t : Spot) (ss : Spots) (a b : ℕ) → Grows s t a b → AllGrow (MoreSpots s ss) (MoreSpots t ss) a b
grow_first s t ss a b g = record {
  grows = g.grows;
  new = new;
  roomy = roomy;
  differ = λ lt d. (
    λ m. ⊎_elim (λ old. d.0 (subst (λ x. Among x (below s)) g.register old)) (λ n. let l = lt (register s) (inl refl) in let e = g.register in let le = n.0 in absurd (omega (arith, l, e, le))) (g.new (register t) m),
    λ m. d.1 (subst (λ x. Among x (all_in ss)) g.register m),
    λ z x y. ⊎_elim (λ old. d.2 z old y) (λ n. let l = lt z (in_tail z s ss y) in let le = n.0 in absurd (omega (arith, l, le))) (g.new z x),
    g.differ (λ z m. lt z (in_head z s ss m)) d.3,
    d.4,
  );
}
  where
    new : (z : ℕ) → Among z (all_in (MoreSpots t ss)) → Among z (all_in (MoreSpots s ss)) ⊎ ((a ≤ z) × (z < b))
    new z (inl e) = inl (inl (e ∙ g.register))
    new z (inr m) = ⊎_elim (λ x. ⊎_elim (λ old. inl (in_head z s ss old)) (λ n. inr n) (g.new z x)) (λ y. inl (in_tail z s ss y)) (among_either z (below t) (all_in ss) m)

    roomy : (ps : Patterns) → AllRoomy ps (MoreSpots s ss) → AllRoomy ps (MoreSpots t ss)
    roomy NoPatterns h = tt
    roomy (MorePatterns p ps) h = (g.roomy p h.0, h.1)

pub grow_later : (s : Spot) (ss ts : Spots) (a b : ℕ) → AllGrow ss ts a b → AllGrow (MoreSpots s ss) (MoreSpots s ts) a b
grow_later s ss ts a b g = record {
  grows = g.grows;
  new = new;
  roomy = roomy;
  differ = λ lt d. (
    d.0,
    λ m. ⊎_elim (λ old. d.1 old) (λ n. let l = lt (register s) (inl refl) in let le = n.0 in absurd (omega (arith, l, le))) (g.new (register s) m),
    λ z x y. ⊎_elim (λ old. d.2 z x old) (λ n. let l = lt z (in_head z s ss x) in let le = n.0 in absurd (omega (arith, l, le))) (g.new z y),
    d.3,
    g.differ (λ z m. lt z (in_tail z s ss m)) d.4,
  );
}
  where
    new : (z : ℕ) → Among z (all_in (MoreSpots s ts)) → Among z (all_in (MoreSpots s ss)) ⊎ ((a ≤ z) × (z < b))
    new z (inl e) = inl (inl e)
    new z (inr m) = ⊎_elim (λ x. inl (in_head z s ss x)) (λ y. ⊎_elim (λ old. inl (in_tail z s ss old)) (λ n. inr n) (g.new z y)) (among_either z (below s) (all_in ts) m)

    roomy : (ps : Patterns) → AllRoomy ps (MoreSpots s ss) → AllRoomy ps (MoreSpots s ts)
    roomy NoPatterns h = tt
    roomy (MorePatterns p ps) h = (h.0, g.roomy ps h.1)

-- the fields of a position
pub grow_fields : (r : ℕ) (fs gs : Spots) (a b : ℕ) → AllGrow fs gs a b → Grows (At r fs) (At r gs) a b
grow_fields r fs gs a b g = record { register = refl; grows = g.grows; new = g.new; roomy = roomy; differ = g.differ }
  where
    roomy : (q : Pattern) → Roomy q (At r fs) → Roomy q (At r gs)
    roomy (BinderPattern c) h = tt
    roomy (LiteralPattern i p) h = tt
    roomy (ConstructorPattern t d c n p ps) h = g.roomy ps h
