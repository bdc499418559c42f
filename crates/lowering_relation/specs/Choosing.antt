-- It serves the proofs on lowered code: which instructions choose the clause of a match. They test the scrutinee and
-- read its parts, and lead to the entry of the first clause that matches, with the values of its variables in their
-- registers. It is said what these instructions end in, not which they are.
-- In match! xs { Nil -> a; Cons(x, t) -> b } with xs in register 0, from Test 0 0 7 a list Cons(1, Nil) reaches the
-- entry of b, where the registers of x and t hold 1 and Nil.
use Rattle.std.specs.Prelude.{◌≡◌, ◌⊎◌, ◌≤◌, ℕ, zero, suc, List, [], ◌∷◌, Option, Some, None, option_map}
use Rattle.std.specs.Prelude.{option_and_then, slice_get, if◌then◌else◌}
use Rattle.tree_semantics.specs.fip_language.Values.{Value, Node, End}
use Rattle.tree_semantics.specs.fip_language.Table.{Table, HasType}
use Rattle.tree_semantics.specs.fip_language.Matching.{Binding}
use Rattle.tree_semantics.specs.fip_language.Meaning.{nothing_bound, bind_matched}
use Rattle.tree_semantics.specs.fip_language.Every.{Among}
use Rattle.credit_check.specs.fip_trees.Tree.{Pattern, Clauses, NoClauses, MoreClauses}
use Rattle.instance_semantics.specs.Matching.{matching}
use Rattle.code_rules.specs.cell_code.declared.code.Instr.{Instr}
use Rattle.code_rules.specs.cell_code.declared.code.Instr.TheVariants as I
use Rattle.tree_semantics.specs.Contents.{Contents, put, put_all, children, value_at}
use Rattle.tree_semantics.specs.Steps.{is_node, is_int}
use Rattle.lowering_relation.specs.declared.held.Held.TheVariants as H
use Rattle.lowering_relation.specs.declared.held.Credit.{Credit}
use Rattle.lowering_relation.specs.Known.{Known, register_of}
use Rattle.lowering_relation.specs.Tidy.{Fixed, Tidy, Unknown, NotIn, Once, Below}

-- a place of a function's code, and what its registers hold there
pub record Place : Type 0 where
  pub at : ℕ
  pub contents : Contents

abbrev pub place : ℕ → Contents → Place
place p cs = record { at = p; contents = cs }

-- after an instruction that tests, reads or jumps; none after another
abbrev pub followed : Place → Option Instr → Option Place
followed p None = None
followed p (Some (I.Const d v)) = None
followed p (Some (I.Atom d t c)) = None
followed p (Some (I.Move d r)) = None
followed p (Some (I.Arith d o x y line col)) = None
followed p (Some (I.Test r c target)) =
    Some (place (if is_node c (p.contents r) then suc p.at else target) p.contents)
followed p (Some (I.TestInt r v target)) =
    Some (place (if is_int v (p.contents r) then suc p.at else target) p.contents)
followed p (Some (I.Peek d r i)) =
    option_map (λ v. place (suc p.at) (put p.contents d v)) (value_at (children (p.contents r)) i)
followed p (Some (I.Take r ds)) = Some (place (suc p.at) (put_all p.contents ds (children (p.contents r))))
followed p (Some (I.Put r t c ss)) = None
followed p (Some (I.Drop r)) = None
followed p (Some (I.Free r)) = None
followed p (Some (I.Call f ss ds)) = None
followed p (Some (I.Tail f ss)) = None
followed p (Some (I.Ret ss)) = None
followed p (Some (I.Jump target)) = Some (place target p.contents)

-- after so many
abbrev pub after : List Instr → ℕ → Place → Option Place
after code zero p = Some p
after code (suc n) p = option_and_then (λ q. after code n q) (followed p (slice_get code p.at))

pub record Reaches (code : List Instr) (p q : Place) : Type 0 where
  pub steps : ℕ
  pub is : after code steps p ≡ Some q

-- where a clause's body begins, and what is known there
pub record Entry : Type 0 where
  pub at : ℕ
  pub known : Known

abbrev pub binders_of : List Binding → List ℕ
binders_of [] = []
binders_of (b ∷ bs) = b.binder ∷ binders_of bs

-- from p the entry is reached, where what is known is so: k was known at p, and the pattern bound these
pub record Arrives (code : List Instr) (p : Place) (k : Known) (bs : List Binding) (e : Entry) : Type 0 where
  pub contents : Contents
  pub reaches : Reaches code p (place e.at contents)
  pub kept : (r : ℕ) → Fixed k r → contents r ≡ p.contents r
  pub names : (x r : ℕ) → register_of e.known.names (Some x) ≡ Some r →
      Among x (binders_of bs) ⊎ (register_of k.names (Some x) ≡ Some r)
  pub bound : (x r : ℕ) (v : Value) → register_of e.known.names (Some x) ≡ Some r →
      bind_matched nothing_bound bs x ≡ Some v → contents r ≡ v
  pub bares : (r t c : ℕ) → slice_get e.known.held r ≡ Some (H.Bare t c) →
      (slice_get k.held r ≡ Some (H.Bare t c)) ⊎ (contents r ≡ Node c End)

abbrev pub ArrivesIf : List Instr → Place → Known → Option (List Binding) → Entry → Type 0 → Type 0
ArrivesIf code p k None e other = other
ArrivesIf code p k (Some bs) e other = Arrives code p k bs e

-- the entry of the first clause that matches is reached
abbrev pub Chooses : List Instr → Place → Known → Value → Clauses → List Entry → Type 0
Chooses code p k v NoClauses es = Unit {0}
Chooses code p k v (MoreClauses q b cs) [] = ⊥
Chooses code p k v (MoreClauses q b cs) (e ∷ es) =
    ArrivesIf code p k (matching q v) e (Chooses code p k v cs es)

-- for each value of the type in register r
pub record IsChoice (code : List Instr) (at : ℕ) (k : Known) (tb : Table) (t r : ℕ) (q : Pattern) (cs : Clauses)
    (first : Entry) (others : List Entry) : Type 0 where
  pub chooses : (contents : Contents) → HasType tb t (contents r) →
      ArrivesIf code (place at contents) k (matching q (contents r)) first
      (Chooses code (place at contents) k (contents r) cs others)

-- what is known at the entry of a clause, after k was known; the cell of r may be taken apart
pub record Opens (k : Known) (r : ℕ) (l : Known) : Type 0 where
  pub tidy : Fixed k r → Tidy k → Tidy l
  pub unknown : (d : ℕ) → Unknown k d → (r ≡ d → ⊥) → Unknown l d

-- where clauses meet no more is known than at the end of each
pub record Meets (k l : Known) : Type 0 where
  pub names : (x r : ℕ) → register_of l.names (Some x) ≡ Some r → register_of k.names (Some x) ≡ Some r
  pub barer : (r t c : ℕ) → slice_get l.held r ≡ Some (H.Bare t c) → slice_get k.held r ≡ Some (H.Bare t c)

-- no credit is new
pub record FewerCredits (cs ds : List Credit) : Type 0 where
  pub keeps : (r : ℕ) → NotIn r cs → NotIn r ds
  pub once : Once cs → Once ds
  pub below : (n : ℕ) → Below n cs → Below n ds

-- and the credits are those of the first, but for some that it gives up
pub record MeetsFirst (k l : Known) : Type 0 where
  pub credits : FewerCredits k.credits l.credits
  pub grows : k.next ≤ l.next
