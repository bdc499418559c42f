-- At the entry of a clause trees stay that aren't taken apart, and variables of the pattern have registers of positions.
use Rattle.std.proofs.Common.{◌≡◌, ◌⊎◌, inl, inr, ℕ, ◌<◌, Bool, true, false, ◌||◌, List, [], ◌∷◌, length, get_or, Option, Some, None, refl, sym, ap, ◌∙◌, if◌then◌else◌}
use Rattle.std.proofs.lemmas.Option.{same_Some}
use Rattle.separation.specs.fip_language.Every.{Among}
use Rattle.lowering_relation.specs.fip_trees.declared.program.Binder.{Binder}
use Rattle.lowering_relation.specs.fip_trees.Tree.{Pattern, BinderPattern, LiteralPattern, ConstructorPattern, Patterns, NoPatterns, MorePatterns}
use Rattle.lowering_relation.specs.Spots.{Spot, At, Spots, NoSpots, MoreSpots, register, below, all_in}
use Rattle.lowering_relation.specs.Opening.{is_named}
use Rattle.lowering_relation.specs.Entering.{unnaming, variable_held, with_variable, with_cell, entering, entering_all, root_of, spent_if, entering_root}
use Rattle.lowering_relation.proofs.MatchLists.{in_tail, in_part}
use Rattle.lowering_relation.specs.declared.held.Held.TheVariants as H
use Rattle.lowering_relation.specs.Known.{Known, register_of, named, naming, holding}
use Rattle.lowering_relation.specs.Values.{Setting}
use Rattle.lowering_relation.specs.Describing.{held_at, is_tree}
use Rattle.lowering_relation.specs.Tests.{Choice}
use Rattle.lowering_relation.specs.Matches.{widened, entered}
use Rattle.lowering_soundness.proofs.Balance.{using_tree}
use Rattle.lowering_soundness.proofs.EntryHeld.{root_held, entering_root_at, held_wide}
use Rattle.lowering_soundness.proofs.EntryKeeps.{root_read, root_taken}
use Rattle.lowering_soundness.proofs.EntryNames.{cell_old, spent_names}

-- ---- trees

pub entry_tree : (st : Setting) (ch : Choice) (q : Pattern) (l : Known) (m r : ℕ) → ((z : ℕ) → Among z (register ch.root ∷ below ch.root) → z < length l.held) → (Among r (below ch.root) → ⊥) → (ch.takes ≡ true → r ≡ register ch.root → ⊥) → is_tree (held_at l.held r) ≡ true → held_at (entered st ch q l m).held r ≡ widened (held_at l.held r)
entry_tree st ch q l m r within off apart tree =
    held_wide (entering_root st ch.takes q ch.root (record l { next = m })).held r
    ∙ ap widened (entering_root_at st ch.takes q ch.root (record l { next = m }) r within ∙ by ch.takes refl)
  where
    by : (takes : Bool) → ch.takes ≡ takes → root_held st takes (root_of (register ch.root) (held_at l.held (register ch.root))) q ch.root (held_at l.held) r ≡ held_at l.held r
    by false e = root_read st (root_of (register ch.root) (held_at l.held (register ch.root))) q ch.root (held_at l.held) r off
    by true e =
        root_taken st (root_of (register ch.root) (held_at l.held (register ch.root))) q ch.root (held_at l.held) r (λ a. beside a)
        (using_tree (held_at l.held) (register ch.root) r (apart e) tree)
      where
        beside : Among r (register ch.root ∷ below ch.root) → ⊥
        beside (inl same) = apart e same
        beside (inr a) = off a

-- ---- names

named_either : (names : List (Option ℕ)) (y r x p : ℕ) → register_of (named names y r) (Some x) ≡ Some p → (register_of names (Some x) ≡ Some p) ⊎ (p ≡ r)
named_either [] y r x p h = inl h
named_either (o ∷ os) Rattle.std.proofs.Common.zero r Rattle.std.proofs.Common.zero p h = inr (same_Some p r (sym h))
named_either (o ∷ os) Rattle.std.proofs.Common.zero r (Rattle.std.proofs.Common.suc x) p h = inl h
named_either (o ∷ os) (Rattle.std.proofs.Common.suc y) r Rattle.std.proofs.Common.zero p h = inl h
named_either (o ∷ os) (Rattle.std.proofs.Common.suc y) r (Rattle.std.proofs.Common.suc x) p h = named_either os y r x p h

unnamed_either : (names : List (Option ℕ)) (y x p : ℕ) → register_of (Rattle.std.specs.Prelude.slice_set names y None) (Some x) ≡ Some p → register_of names (Some x) ≡ Some p
unnamed_either [] y x p h = h
unnamed_either (o ∷ os) Rattle.std.proofs.Common.zero Rattle.std.proofs.Common.zero p h = absurd (cc)
unnamed_either (o ∷ os) Rattle.std.proofs.Common.zero (Rattle.std.proofs.Common.suc x) p h = h
unnamed_either (o ∷ os) (Rattle.std.proofs.Common.suc y) Rattle.std.proofs.Common.zero p h = h
unnamed_either (o ∷ os) (Rattle.std.proofs.Common.suc y) (Rattle.std.proofs.Common.suc x) p h = unnamed_either os y x p h

module _ (st : Setting) (takes : Bool) (root : Option ℕ) (x p : ℕ) where
  abbrev New : Known → Known → List ℕ → Type 0
  New k l zs = register_of l.names (Some x) ≡ Some p → (register_of k.names (Some x) ≡ Some p) ⊎ Among p zs

  variable_new : (b : Binder) (r : ℕ) (k : Known) → New k (with_variable st takes root b r k) (r ∷ [])
  variable_new b r k = by (takes || is_named b)
    where
      by : (y : Bool) → New k (if y then holding (naming k b.number r) r (variable_held st takes root b.ty) else unnaming k b.number) (r ∷ [])
      by true h = elim (named_either k.names b.number r x p h) as (λ v. (register_of k.names (Some x) ≡ Some p) ⊎ Among p (r ∷ [])) [
        | inl y ↦ inl y
        | inr y ↦ inr (inl y)
      ]
      by false h = inl (unnamed_either k.names b.number x p h)

  mutual
    entering_new : (q : Pattern) (s : Spot) (k : Known) → New k (entering st takes root q s k) (register s ∷ below s)
    entering_new (BinderPattern b) (At r fs) k h = elim (variable_new b r k h) as (λ v. (register_of k.names (Some x) ≡ Some p) ⊎ Among p (r ∷ all_in fs)) [
      | inl y ↦ inl y
      | inr y ↦ inr (first r fs y)
    ]
      where
        first : (r : ℕ) (fs : Spots) → Among p (r ∷ []) → Among p (r ∷ all_in fs)
        first r fs (inl e) = inl e
        first r fs (inr m) = absurd m
    entering_new (LiteralPattern i a) (At r fs) k h = inl h
    entering_new (ConstructorPattern t d c m a ps) (At r fs) k h = elim (all_new ps fs (with_cell st takes t c ps r k) h) as (λ v. (register_of k.names (Some x) ≡ Some p) ⊎ Among p (r ∷ all_in fs)) [
      | inl y ↦ inl (cell_old st takes root x t c ps r k p y)
      | inr y ↦ inr (inr y)
    ]

    all_new : (ps : Patterns) (ss : Spots) (k : Known) → New k (entering_all st takes root ps ss k) (all_in ss)
    all_new NoPatterns ss k h = inl h
    all_new (MorePatterns q ps) NoSpots k h = inl h
    all_new (MorePatterns q ps) (MoreSpots s ss) k h = elim (all_new ps ss (entering st takes root q s k) h) as (λ v. (register_of k.names (Some x) ≡ Some p) ⊎ Among p (all_in (MoreSpots s ss))) [
      | inl y ↦ elim (entering_new q s k y) as (λ v. (register_of k.names (Some x) ≡ Some p) ⊎ Among p (all_in (MoreSpots s ss))) [
        | inl z ↦ inl z
        | inr z ↦ inr (in_part p s ss z)
      ]
      | inr y ↦ inr (in_tail p s ss y)
    ]

-- a variable has the register that it had, or that of a position
pub entered_new : (st : Setting) (ch : Choice) (q : Pattern) (l : Known) (m x p : ℕ) → register_of (entered st ch q l m).names (Some x) ≡ Some p → (register_of l.names (Some x) ≡ Some p) ⊎ Among p (register ch.root ∷ below ch.root)
entered_new st ch q l m x p h = by q ch.root h
  where
    by : (q : Pattern) (s : Spot) → register_of (entering_root st ch.takes q s (record l { next = m })).names (Some x) ≡ Some p → (register_of l.names (Some x) ≡ Some p) ⊎ Among p (register s ∷ below s)
    by (BinderPattern b) (At r fs) h = elim (named_either l.names b.number r x p h) as (λ v. (register_of l.names (Some x) ≡ Some p) ⊎ Among p (r ∷ all_in fs)) [
      | inl y ↦ inl y
      | inr y ↦ inr (inl y)
    ]
    by (LiteralPattern i a) (At r fs) h = inl h
    by (ConstructorPattern t d c k a ps) (At r fs) h = elim (entering_new st ch.takes (root_of r (get_or l.held r H.Nothing)) x p (ConstructorPattern t d c k a ps) (At r fs) (spent_if ch.takes r (record l { next = m })) h) as (λ v. (register_of l.names (Some x) ≡ Some p) ⊎ Among p (r ∷ all_in fs)) [
      | inl y ↦ inl (ap (λ ns. register_of ns (Some x)) (sym (spent_names ch.takes r (record l { next = m }))) ∙ y)
      | inr y ↦ inr y
    ]

-- the same of variables of a let
pub let_either : (names : List (Option ℕ)) (bs : List Binder) (rs : List ℕ) (x p : ℕ) → register_of (Rattle.lowering_relation.specs.LoweredBodies.all_named names bs rs) (Some x) ≡ Some p → (register_of names (Some x) ≡ Some p) ⊎ Among p rs
let_either names [] rs x p h = inl h
let_either names (b ∷ bs) [] x p h = inl h
let_either names (b ∷ bs) (r ∷ rs) x p h = elim (let_either (named names b.number r) bs rs x p h) as (λ v. (register_of names (Some x) ≡ Some p) ⊎ Among p (r ∷ rs)) [
  | inl y ↦ elim (named_either names b.number r x p y) as (λ v. (register_of names (Some x) ≡ Some p) ⊎ Among p (r ∷ rs)) [
    | inl z ↦ inl z
    | inr z ↦ inr (inl z)
  ]
  | inr y ↦ inr (inr y)
]
