-- What the registers hold at the entry of a clause.
use Rattle.std.proofs.Common.{◌≡◌, inl, inr, ℕ, zero, suc, ◌<◌, Bool, true, false, ◌||◌, List, [], ◌∷◌, length, map, Option, refl, ap, ◌∙◌, arith, if◌then◌else◌, ◌==◌}
use Rattle.separation.specs.fip_language.Every.{Among}
use Rattle.lowering_relation.specs.fip_trees.Tree.{Pattern, BinderPattern, LiteralPattern, ConstructorPattern, Patterns, NoPatterns, MorePatterns, count_patterns}
use Rattle.separation.proofs.separation_kinds.Basics.{refused, unequal_is}
use Rattle.lowering_relation.specs.Spots.{Spot, At, Spots, NoSpots, MoreSpots, register, below, all_in}
use Rattle.lowering_relation.specs.Opening.{is_named}
use Rattle.lowering_relation.specs.Entering.{unnaming, variable_held, with_variable, with_cell, entering, entering_all, entering_root, root_of, spent_if}
use Rattle.lowering_relation.proofs.MatchLists.{in_tail, in_part}
use Rattle.lowering_relation.specs.declared.held.Held.{Held}
use Rattle.lowering_relation.specs.declared.held.Held.TheVariants as H
use Rattle.lowering_relation.specs.Known.{Known, holding, naming}
use Rattle.lowering_relation.specs.Values.{Setting, is_scalar}
use Rattle.lowering_relation.specs.Describing.{Holding, held_at}
use Rattle.lowering_soundness.specs.Covering.{using}
use Rattle.lowering_relation.specs.Matches.{widened}
use Rattle.lowering_soundness.proofs.Helds.{held_set, length_set, held_used, length_used}

-- ---- as a function of the register

abbrev pub cell_held : Setting → Bool → ℕ → ℕ → Patterns → ℕ → ℕ → Held → Held
cell_held st false t n ps r z h = h
cell_held st true t n NoPatterns r z h = if is_scalar st t then h else (if z == r then H.Bare t n else h)
cell_held st true t n (MorePatterns p ps) r z h = if z == r then H.Credit (suc (count_patterns ps)) else h

abbrev mutual
  pub entry_held : Setting → Bool → Option ℕ → Pattern → Spot → ℕ → Held → Held
  entry_held st takes root (BinderPattern b) (At r fs) z h =
      if takes || is_named b then (if z == r then variable_held st takes root b.ty else h) else h
  entry_held st takes root (LiteralPattern i p) (At r fs) z h = h
  entry_held st takes root (ConstructorPattern t d n a p ps) (At r fs) z h =
      entry_all st takes root ps fs z (cell_held st takes t n ps r z h)

  pub entry_all : Setting → Bool → Option ℕ → Patterns → Spots → ℕ → Held → Held
  entry_all st takes root NoPatterns ss z h = h
  entry_all st takes root (MorePatterns p ps) NoSpots z h = h
  entry_all st takes root (MorePatterns p ps) (MoreSpots s ss) z h = entry_all st takes root ps ss z (entry_held st takes root p s z h)

-- registers that are no positions
pub cell_other : (st : Setting) (takes : Bool) (t n : ℕ) (ps : Patterns) (r z : ℕ) (h : Held) → (z ≡ r → ⊥) → cell_held st takes t n ps r z h ≡ h
cell_other st false t n ps r z h ne = refl
cell_other st true t n NoPatterns r z h ne = by (is_scalar st t)
  where
    by : (b : Bool) → (if b then h else (if z == r then H.Bare t n else h)) ≡ h
    by true = refl
    by false = refused (z == r) (H.Bare t n) h (unequal_is z r ne)
cell_other st true t n (MorePatterns p ps) r z h ne = refused (z == r) (H.Credit (suc (count_patterns ps))) h (unequal_is z r ne)

mutual
  pub entry_other : (st : Setting) (takes : Bool) (root : Option ℕ) (q : Pattern) (s : Spot) (z : ℕ) (h : Held) → (Among z (register s ∷ below s) → ⊥) → entry_held st takes root q s z h ≡ h
  entry_other st takes root (BinderPattern b) (At r fs) z h ne = by (takes || is_named b)
    where
      by : (x : Bool) → (if x then (if z == r then variable_held st takes root b.ty else h) else h) ≡ h
      by true = refused (z == r) (variable_held st takes root b.ty) h (unequal_is z r (λ e. ne (inl e)))
      by false = refl
  entry_other st takes root (LiteralPattern i p) (At r fs) z h ne = refl
  entry_other st takes root (ConstructorPattern t d n a p ps) (At r fs) z h ne =
      entry_all_other st takes root ps fs z (cell_held st takes t n ps r z h) (λ m. ne (inr m)) ∙ cell_other st takes t n ps r z h (λ e. ne (inl e))

  pub entry_all_other : (st : Setting) (takes : Bool) (root : Option ℕ) (ps : Patterns) (ss : Spots) (z : ℕ) (h : Held) → (Among z (all_in ss) → ⊥) → entry_all st takes root ps ss z h ≡ h
  entry_all_other st takes root NoPatterns ss z h ne = refl
  entry_all_other st takes root (MorePatterns p ps) NoSpots z h ne = refl
  entry_all_other st takes root (MorePatterns p ps) (MoreSpots s ss) z h ne =
      entry_all_other st takes root ps ss z (entry_held st takes root p s z h) (λ m. ne (in_tail z s ss m)) ∙ entry_other st takes root p s z h (λ m. ne (in_part z s ss m))

-- ---- it is what lowering knows

abbrev Within : List ℕ → Known → Type 0
Within zs k = (z : ℕ) → Among z zs → z < length k.held

variable_width : (st : Setting) (takes : Bool) (root : Option ℕ) (b : Rattle.lowering_relation.specs.fip_trees.declared.program.Binder.Binder) (r : ℕ) (k : Known) → length (with_variable st takes root b r k).held ≡ length k.held
variable_width st takes root b r k = by (takes || is_named b)
  where
    by : (x : Bool) → length (if x then holding (naming k b.number r) r (variable_held st takes root b.ty) else unnaming k b.number).held ≡ length k.held
    by true = length_set k.held r (variable_held st takes root b.ty)
    by false = refl

variable_at : (st : Setting) (takes : Bool) (root : Option ℕ) (b : Rattle.lowering_relation.specs.fip_trees.declared.program.Binder.Binder) (r : ℕ) (k : Known) (z : ℕ) → r < length k.held → held_at (with_variable st takes root b r k).held z ≡ (if takes || is_named b then (if z == r then variable_held st takes root b.ty else held_at k.held z) else held_at k.held z)
variable_at st takes root b r k z within = by (takes || is_named b)
  where
    by : (x : Bool) → held_at (if x then holding (naming k b.number r) r (variable_held st takes root b.ty) else unnaming k b.number).held z ≡ (if x then (if z == r then variable_held st takes root b.ty else held_at k.held z) else held_at k.held z)
    by true = held_set k.held r (variable_held st takes root b.ty) within z
    by false = refl

pub cell_width : (st : Setting) (takes : Bool) (t n : ℕ) (ps : Patterns) (r : ℕ) (k : Known) → length (with_cell st takes t n ps r k).held ≡ length k.held
cell_width st false t n ps r k = refl
cell_width st true t n NoPatterns r k = by (is_scalar st t)
  where
    by : (x : Bool) → length (if x then k else holding k r (H.Bare t n)).held ≡ length k.held
    by true = refl
    by false = length_set k.held r (H.Bare t n)
cell_width st true t n (MorePatterns p ps) r k = length_set k.held r (H.Credit (suc (count_patterns ps)))

pub cell_at : (st : Setting) (takes : Bool) (t n : ℕ) (ps : Patterns) (r : ℕ) (k : Known) (z : ℕ) → r < length k.held → held_at (with_cell st takes t n ps r k).held z ≡ cell_held st takes t n ps r z (held_at k.held z)
cell_at st false t n ps r k z within = refl
cell_at st true t n NoPatterns r k z within = by (is_scalar st t)
  where
    by : (x : Bool) → held_at (if x then k else holding k r (H.Bare t n)).held z ≡ (if x then held_at k.held z else (if z == r then H.Bare t n else held_at k.held z))
    by true = refl
    by false = held_set k.held r (H.Bare t n) within z
cell_at st true t n (MorePatterns p ps) r k z within = held_set k.held r (H.Credit (suc (count_patterns ps))) within z

mutual
  pub entering_width : (st : Setting) (takes : Bool) (root : Option ℕ) (q : Pattern) (s : Spot) (k : Known) → length (entering st takes root q s k).held ≡ length k.held
  entering_width st takes root (BinderPattern b) (At r fs) k = variable_width st takes root b r k
  entering_width st takes root (LiteralPattern i p) (At r fs) k = refl
  entering_width st takes root (ConstructorPattern t d n a p ps) (At r fs) k = entering_all_width st takes root ps fs (with_cell st takes t n ps r k) ∙ cell_width st takes t n ps r k

  pub entering_all_width : (st : Setting) (takes : Bool) (root : Option ℕ) (ps : Patterns) (ss : Spots) (k : Known) → length (entering_all st takes root ps ss k).held ≡ length k.held
  entering_all_width st takes root NoPatterns ss k = refl
  entering_all_width st takes root (MorePatterns p ps) NoSpots k = refl
  entering_all_width st takes root (MorePatterns p ps) (MoreSpots s ss) k = entering_all_width st takes root ps ss (entering st takes root p s k) ∙ entering_width st takes root p s k

within_on : (zs ys : List ℕ) (k l : Known) → ((z : ℕ) → Among z ys → Among z zs) → length l.held ≡ length k.held → Within zs k → Within ys l
within_on zs ys k l more e w z a = let y = w z (more z a) in omega (arith, y, e)

mutual
  pub entering_at : (st : Setting) (takes : Bool) (root : Option ℕ) (q : Pattern) (s : Spot) (k : Known) (z : ℕ) → Within (register s ∷ below s) k → held_at (entering st takes root q s k).held z ≡ entry_held st takes root q s z (held_at k.held z)
  entering_at st takes root (BinderPattern b) (At r fs) k z within = variable_at st takes root b r k z (within r (inl refl))
  entering_at st takes root (LiteralPattern i p) (At r fs) k z within = refl
  entering_at st takes root (ConstructorPattern t d n a p ps) (At r fs) k z within =
      entering_all_at st takes root ps fs (with_cell st takes t n ps r k) z (within_on (r ∷ all_in fs) (all_in fs) k (with_cell st takes t n ps r k) (λ y m. inr m) (cell_width st takes t n ps r k) within)
      ∙ ap (entry_all st takes root ps fs z) (cell_at st takes t n ps r k z (within r (inl refl)))

  pub entering_all_at : (st : Setting) (takes : Bool) (root : Option ℕ) (ps : Patterns) (ss : Spots) (k : Known) (z : ℕ) → Within (all_in ss) k → held_at (entering_all st takes root ps ss k).held z ≡ entry_all st takes root ps ss z (held_at k.held z)
  entering_all_at st takes root NoPatterns ss k z within = refl
  entering_all_at st takes root (MorePatterns p ps) NoSpots k z within = refl
  entering_all_at st takes root (MorePatterns p ps) (MoreSpots s ss) k z within =
      entering_all_at st takes root ps ss (entering st takes root p s k) z (within_on (all_in (MoreSpots s ss)) (all_in ss) k (entering st takes root p s k) (λ y m. in_tail y s ss m) (entering_width st takes root p s k) within)
      ∙ ap (entry_all st takes root ps ss z) (entering_at st takes root p s k z (within_on (all_in (MoreSpots s ss)) (register s ∷ below s) k k (λ y m. in_part y s ss m) refl within))

-- ---- from the scrutinee on

pub held_wide : (hs : List Held) (r : ℕ) → held_at (map widened hs) r ≡ widened (held_at hs r)
held_wide [] r = refl
held_wide (h ∷ hs) zero = refl
held_wide (h ∷ hs) (suc r) = held_wide hs r

-- what the match leaves of a register
abbrev pub spent_held : Bool → Holding → ℕ → ℕ → Held
spent_held takes g r z = if takes then using g r z else g z

abbrev pub root_held : Setting → Bool → Option ℕ → Pattern → Spot → Holding → ℕ → Held
root_held st takes root (BinderPattern b) s g z = g z
root_held st takes root (LiteralPattern i p) s g z = g z
root_held st takes root (ConstructorPattern t d n a p ps) s g z = entry_held st takes root (ConstructorPattern t d n a p ps) s z (spent_held takes g (register s) z)

spent_at : (takes : Bool) (r : ℕ) (k : Known) (z : ℕ) → held_at (spent_if takes r k).held z ≡ spent_held takes (held_at k.held) r z
spent_at true r k z = held_used k.held r z
spent_at false r k z = refl

spent_width : (takes : Bool) (r : ℕ) (k : Known) → length (spent_if takes r k).held ≡ length k.held
spent_width true r k = length_used k.held r
spent_width false r k = refl

pub entering_root_at : (st : Setting) (takes : Bool) (q : Pattern) (s : Spot) (k : Known) (z : ℕ) → Within (register s ∷ below s) k → held_at (entering_root st takes q s k).held z ≡ root_held st takes (root_of (register s) (held_at k.held (register s))) q s (held_at k.held) z
entering_root_at st takes (BinderPattern b) (At r fs) k z within = refl
entering_root_at st takes (LiteralPattern i p) (At r fs) k z within = refl
entering_root_at st takes (ConstructorPattern t d n a p ps) (At r fs) k z within =
    entering_at st takes (root_of r (Rattle.std.specs.Prelude.get_or k.held r H.Nothing)) (ConstructorPattern t d n a p ps) (At r fs) (spent_if takes r k) z (within_on (r ∷ all_in fs) (r ∷ all_in fs) k (spent_if takes r k) (λ y m. m) (spent_width takes r k) within)
    ∙ (ap (λ h. entry_held st takes (root_of r h) (ConstructorPattern t d n a p ps) (At r fs) z (held_at (spent_if takes r k).held z)) (Rattle.lowering_soundness.proofs.Helds.held_or k.held r)
    ∙ ap (entry_held st takes (root_of r (held_at k.held r)) (ConstructorPattern t d n a p ps) (At r fs) z) (spent_at takes r k z))

pub entering_root_width : (st : Setting) (takes : Bool) (q : Pattern) (s : Spot) (k : Known) → length (entering_root st takes q s k).held ≡ length k.held
entering_root_width st takes (BinderPattern b) (At r fs) k = refl
entering_root_width st takes (LiteralPattern i p) (At r fs) k = refl
entering_root_width st takes (ConstructorPattern t d n a p ps) (At r fs) k =
    entering_width st takes (root_of r (Rattle.std.specs.Prelude.get_or k.held r H.Nothing)) (ConstructorPattern t d n a p ps) (At r fs) (spent_if takes r k) ∙ spent_width takes r k
