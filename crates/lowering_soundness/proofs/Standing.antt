-- A match whose tests may be written: its scrutinee is in a register, and wasn't just built; each position below it has
-- a register of its own that holds nothing; and the patterns of its clauses are of its type.
use Rattle.std.specs.Prelude.{◌≡◌, ℕ, ◌<◌, true, false, List, [], ◌∷◌, Option, Some, None, length, slice_get}
use Rattle.separation.specs.fip_language.Table.{Table}
use Rattle.separation.specs.fip_language.Every.{Among}
use Rattle.lowering_relation.specs.fip_trees.Tree.{Pattern, BinderPattern, LiteralPattern, ConstructorPattern, Patterns, NoPatterns}
use Rattle.lowering_relation.specs.fip_trees.Tree.{MorePatterns}
use Rattle.separation.specs.cell_code.Plain.{PlainFunction, PlainCode}
use Rattle.separation.specs.code_rules.Types.{fields, is_scalar_type}
use Rattle.lowering_relation.specs.match_knowledge.Patterns.{IsPattern}
use Rattle.lowering_relation.specs.Spots.{register, below, Differ}
use Rattle.lowering_relation.specs.Rows.{row_of}
use Rattle.lowering_relation.specs.Opening.{Roomy}
use Rattle.lowering_relation.specs.declared.held.Held.{Held}
use Rattle.lowering_relation.specs.declared.held.Held.TheVariants as H
use Rattle.lowering_relation.specs.Known.{Known}
use Rattle.lowering_relation.specs.Values.{Setting, is_scalar}
use Rattle.lowering_relation.specs.Describing.{held_at, is_tree}
use Rattle.lowering_soundness.specs.Ties.{Rooted}
use Rattle.lowering_relation.specs.Tests.{Choice}
use Rattle.lowering_relation.specs.Matches.{BuiltRight, EntryLaid}

-- what the scrutinee's register holds: a scalar, a tree that is read, or one that is owned
pub data Seeing (w : Table) (t : ℕ) (h : Held) : Type 0 where
  SeesScalar : (e : h ≡ H.Scalar t) (scalar : is_scalar_type w t ≡ true) → Seeing w t h
  SeesLent : (root : Option ℕ) (e : h ≡ H.Lent t root) (tree : is_scalar_type w t ≡ false) → Seeing w t h
  SeesOwned : (e : h ≡ H.Owned t None) (tree : is_scalar_type w t ≡ false) → Seeing w t h

-- the variables of a pattern of type t have the types of their positions, and the same types are scalar to both
abbrev mutual
  pub Slotted : Setting → Table → ℕ → Pattern → Type 0
  Slotted st w t (BinderPattern b) = (b.ty ≡ t) × (is_scalar st t ≡ is_scalar_type w t)
  Slotted st w t (LiteralPattern i p) = t ≡ 0
  Slotted st w t (ConstructorPattern u d n a p ps) =
      (u ≡ t) × (is_scalar st t ≡ is_scalar_type w t) × AllSlotted st w (fields w t n) ps

  pub AllSlotted : Setting → Table → List ℕ → Patterns → Type 0
  AllSlotted st w [] NoPatterns = Unit {0}
  AllSlotted st w (t ∷ ts) NoPatterns = ⊥
  AllSlotted st w [] (MorePatterns p ps) = ⊥
  AllSlotted st w (t ∷ ts) (MorePatterns p ps) = Slotted st w t p × AllSlotted st w ts ps

-- a match where k is known
pub record MatchStands (c : PlainCode) (st : Setting) (f : PlainFunction) (ch : Choice) (k : Known) : Type 0 where
  pub sees : Seeing c.types ch.type (held_at k.held (register ch.root))
  pub unused : (z : ℕ) → Among z (below ch.root) →
      (held_at k.held z ≡ H.Nothing) × (z < f.registers) × (z ≡ register ch.root → ⊥)
  pub within : (z : ℕ) → Among z (register ch.root ∷ below ch.root) → z < length k.held
  pub differ : Differ ch.root
  pub rooted : Rooted (held_at k.held)
  pub built : (r : ℕ) → BuiltRight c.types (held_at k.held r)
  pub takes : ch.takes ≡ true → is_tree (held_at k.held (register ch.root)) ≡ true
  pub typed : (i : ℕ) (q : Pattern) → slice_get ch.patterns i ≡ Some q → IsPattern c.types ch.type (row_of q)
  pub roomy : (i : ℕ) (q : Pattern) → slice_get ch.patterns i ≡ Some q → Roomy q ch.root
  pub slots : (i : ℕ) (q : Pattern) → slice_get ch.patterns i ≡ Some q → Slotted st c.types ch.type q

-- the entry of each clause
abbrev pub EntriesLaid : PlainCode → Setting → PlainFunction → Choice → Known → Type 0
EntriesLaid c st f ch k =
    (i : ℕ) (q : Pattern) (e : ℕ) → slice_get ch.patterns i ≡ Some q → slice_get ch.entries i ≡ Some e →
    (n : ℕ) × EntryLaid c st f ch k i q e n
