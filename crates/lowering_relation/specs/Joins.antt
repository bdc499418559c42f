-- It serves the proof that lowered code is sound: how the clauses of a match that is bound by a let meet. Where the
-- body of a clause ends, constructors that were matched are used up, and in fbip what it leaves over is given up. All
-- clauses but the last one jump to the place where they meet, which is after the last one's. What is known there
-- is what is known at the ends of all.
-- In  let y = match! xs { Nil -> a; Cons(x, t) -> b };  the code of the first clause ends in a move to the register of
-- y, which is Move 3 1, and a Jump after that of the second one. Where register 1 owns a list at the end of the first
-- and not at that of the second, nothing is known of it where they meet.
use Rattle.std.specs.Prelude.{◌≡◌, ◌⊎◌, ◌<◌, ◌≤◌, ℕ, suc, Bool, true, false, List, [], ◌∷◌, Some, None, length}
use Rattle.std.specs.Prelude.{slice_get, if◌then◌else◌}
use Rattle.code_rules.specs.cell_code.declared.code.Instr.TheVariants as I
use Rattle.code_rules.specs.cell_code.declared.kind.Kind.{Kind}
use Rattle.credit_check.specs.fip_trees.Tree.{Expression, Clauses, NoClauses, MoreClauses}
use Rattle.code_rules.specs.cell_code.Plain.{PlainFunction, PlainCode}
use Rattle.code_rules.specs.Codes.{label_at}
use Rattle.lowering_relation.specs.declared.held.Credit.{Credit}
use Rattle.lowering_relation.specs.declared.held.Held.{Held}
use Rattle.lowering_relation.specs.declared.held.Held.TheVariants as H
use Rattle.lowering_relation.specs.Known.{Known, register_of}
use Rattle.lowering_relation.specs.Values.{Setting}
use Rattle.lowering_relation.specs.Describing.{held_at}
use Rattle.lowering_relation.specs.Labels.{reported, Quiet}
use Rattle.lowering_relation.specs.GivenUp.{GivesUp}
use Rattle.lowering_relation.specs.Leftover.{LeavesOver}
use Rattle.lowering_relation.specs.Matches.{BuiltRight, wide}

-- all constructors that were matched are used up
pub record BaresEnd (c : PlainCode) (f : PlainFunction) (at : ℕ) (k : Known) (end : ℕ) (l : Known) : Type 0 where
  pub steps : ℕ
  pub gives : GivesUp true f steps at k end l
  pub none : (r t d : ℕ) → held_at l.held r ≡ H.Bare t d → ⊥

-- where the code goes after a clause: after the last one it goes on
abbrev pub GoesOn : PlainFunction → Clauses → ℕ → ℕ → ℕ → Type 0
GoesOn f NoClauses stop target next = (target ≡ stop) × (next ≡ stop)
GoesOn f (MoreClauses q b cs) stop target next =
    (slice_get f.instrs stop ≡ Some (I.Jump target)) × (stop < target) × (next ≡ suc stop)

-- The body of a clause of match e, at which o was known, ended where k was known, and gave its values to registers rs;
-- these clauses follow, the first one at `next`. The clauses meet at the target, and l is known of this clause there.
-- Constructors that were built are of their types.
pub record ClauseEnds (c : PlainCode) (st : Setting) (fip : Bool) (f : PlainFunction) (o : Known) (e : Expression)
    (rs : List ℕ) (cs : Clauses) (at : ℕ) (k : Known) (target next : ℕ) (l : Known) : Type 0 where
  pub mid : ℕ
  pub bare : Known
  pub bares : BaresEnd c f at k mid bare
  pub stop : ℕ
  pub left : Known
  pub over : LeavesOver fip st f o e rs mid bare stop left
  pub built : (r : ℕ) → BuiltRight c.types (held_at left.held r)
  pub known : l ≡ wide left
  pub goes : GoesOn f cs stop target next
  pub quiet : Quiet f at next (reported c k)

abbrev pub holds_credit : Held → Bool
holds_credit H.Nothing = false
holds_credit (H.Scalar t) = false
holds_credit (H.Owned t b) = false
holds_credit (H.Lent t root) = false
holds_credit (H.Credit n) = true
holds_credit (H.Bare t c) = false

-- the credits whose registers hold one
abbrev pub still_held : List Held → List Credit → List Credit
still_held hs [] = []
still_held hs (c ∷ cs) =
    if holds_credit (held_at hs c.register) then c ∷ still_held hs cs else still_held hs cs

-- m is what is known both where k and where l is known; a credit of k may be left. The credits are those of k whose
-- registers hold one still.
pub record Met (k l m : Known) : Type 0 where
  pub held : (r : ℕ) →
      ((held_at k.held r ≡ held_at l.held r) × (held_at m.held r ≡ held_at k.held r))
      ⊎ ((held_at k.held r ≡ held_at l.held r → ⊥) × (held_at m.held r ≡ H.Nothing))
      ⊎ ((n : ℕ) × (held_at k.held r ≡ H.Credit n) × (held_at m.held r ≡ held_at k.held r))
  pub names : (x : ℕ) →
      ((register_of k.names (Some x) ≡ register_of l.names (Some x))
      × (register_of m.names (Some x) ≡ register_of k.names (Some x)))
      ⊎ ((register_of k.names (Some x) ≡ register_of l.names (Some x) → ⊥)
      × (register_of m.names (Some x) ≡ None))
  pub width : length m.held ≡ length k.held
  pub many : length m.names ≡ length k.names
  pub credits : m.credits ≡ still_held m.held k.credits
  pub next : m.next ≡ k.next

-- Where the clauses meet there is a label, and more registers may be used already. The label takes what is reported
-- where other code is there; where other clauses meet at the same place, it takes what is reported of these.
pub record Meets (f : PlainFunction) (met : Known) (end : ℕ) (after : Known) : Type 0 where
  pub next : ℕ
  pub more : met.next ≤ next
  pub known : after ≡ record met { next = next }
  pub map : List Kind
  pub label : label_at f.labels end ≡ Some map
