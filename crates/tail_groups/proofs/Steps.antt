-- The arms of the walk, over plain variables.
use Rattle.std.proofs.Common.{◌≡◌, ℕ, zero, suc, ◌<◌, ◌≤◌, ◌+◌, refl, sym, ap, ◌∙◌, List, [], ◌∷◌, ◌++◌, length, get_or, drop, map, Option, Bool, false, Vec, Global, arith, Result, Ok, Err, OnOk}
use Rattle.std.specs.declared.boxed.Box.{Box}
use Rattle.fip_language.specs.declared.Place.{Place}
use Rattle.fip_base.specs.declared.core_form.MatchKind.{MatchKind}
use Rattle.fip_trees.specs.declared.least.Violation.{Violation}
use Rattle.fip_trees.specs.Least.{after}
use Rattle.fip_trees.specs.Tree as T
use Rattle.fip_trees.specs.TreeView.{BoundPart, Case, expression, binding, block, block_of, clause, clauses}
use Rattle.fip_trees.specs.declared.program.Argument.{Argument}
use Rattle.fip_trees.specs.declared.program.Expression.{Expression}
use Rattle.fip_trees.specs.declared.program.Expression.TheVariants as EV
use Rattle.fip_trees.specs.declared.program.Block.{Block, out-Block}
use Rattle.fip_trees.specs.declared.program.Binding.{Binding, out-Binding}
use Rattle.fip_trees.specs.declared.program.Clause.{Clause, out-Clause}
use Rattle.fip_trees.proofs.Leasts.{after-append}
use Rattle.fip_trees.proofs.TreeViews.{expression_match, clause_is, binding_is, block_is}
use Rattle.call_groups.specs.declared.search.Partition.{Partition}
use Rattle.tail_groups.specs.Notes.{expression_notes, block_notes, clauses_notes, instance_notes, all_notes}
use Rattle.fip_language.proofs.Facts.{drop_end, drop_suc}
pub use Rattle.fip_language.proofs.Facts.{drop_item}

pub on_ok : {A E : Type 0} {P Q : Type 0} (r : Result A E) → (P → Q) → OnOk r P → OnOk r Q
on_ok (Ok a) f h = f h
on_ok (Err e) f h = h

step : (o o' g : Option Violation) (xs ys : List Violation) → o' ≡ after o xs → after o (xs ++ ys) ≡ g → after o' ys ≡ g
step o o' g xs ys h e = ap (λ z. after z ys) h ∙ sym (after-append o xs ys) ∙ e

module _ (p : Partition) (i : ℕ) (t : Bool) where
  pub next_clause : (o o' g : Option Violation) (d : Clause) (cs : T.Clauses) → o' ≡ after o (block_notes p i t (block (out-Clause d).body)) → after o (clauses_notes p i t (T.MoreClauses (clause d).pattern (clause d).body cs)) ≡ g → after o' (clauses_notes p i t cs) ≡ g
  next_clause o o' g d cs h e = step o o' g (block_notes p i t (clause d).body) (clauses_notes p i t cs) (h ∙ ap (λ (z : Case). after o (block_notes p i t z.body)) (sym (clause_is d))) e

  pub next_binding : (o o' g : Option Violation) (d : Binding) (bs : List BoundPart) (last : T.Expression) → o' ≡ after o (expression_notes p i false (expression (out-Binding d).bound)) → after o (block_notes p i t (block_of (binding d ∷ bs) last)) ≡ g → after o' (block_notes p i t (block_of bs last)) ≡ g
  next_binding o o' g d bs last h e = step o o' g (expression_notes p i false (binding d).bound) (block_notes p i t (block_of bs last)) (h ∙ ap (λ (z : BoundPart). after o (expression_notes p i false z.bound)) (sym (binding_is d))) e

  whole_is : (d : Block) (items : List Binding) → items ≡ (out-Block d).bindings.items → block_of (map binding items) (expression (out-Block d).last) ≡ block d
  whole_is d items v = ap (λ xs. block_of (map binding xs) (expression (out-Block d).last)) v ∙ sym (block_is d)

  last_is : (d : Block) (items : List Binding) (k : ℕ) → length items ≤ k → T.Last (expression (out-Block d).last) ≡ block_of (map binding (drop k items)) (expression (out-Block d).last)
  last_is d items k l = ap (λ xs. block_of (map binding xs) (expression (out-Block d).last)) (sym (drop_end items k l))

  pub end_noted : (d : Block) (items : List Binding) (k : ℕ) (l0 l1 l2 : Option Violation) → length items ≤ k → items ≡ (out-Block d).bindings.items → after l1 (block_notes p i t (block_of (map binding (drop k items)) (expression (out-Block d).last))) ≡ after l0 (block_notes p i t (block_of (map binding items) (expression (out-Block d).last))) → l2 ≡ after l1 (expression_notes p i t (expression (out-Block d).last)) → l2 ≡ after l0 (block_notes p i t (block d))
  end_noted d items k l0 l1 l2 l v inv e = e ∙ ap (λ z. after l1 (block_notes p i t z)) (last_is d items k l) ∙ inv ∙ ap (λ z. after l0 (block_notes p i t z)) (whole_is d items v)

  pub match_noted : (e : Expression) (k : MatchKind) (u : ℕ) (q : Place) (a : Argument) (d : Box Clause Global) (cs : Vec Clause Global) → e ≡ EV.Match k u q a d cs → (l0 l1 l2 : Option Violation) → l1 ≡ after l0 (block_notes p i t (block (out-Clause d.value).body)) → l2 ≡ after l1 (clauses_notes p i t (clauses cs.items)) → l2 ≡ after l0 (expression_notes p i t (expression e))
  match_noted e k u q a d cs is l0 l1 l2 h g =
      let C = clauses_notes p i t (clauses cs.items) in
      g ∙ ap (λ z. after z C) (h ∙ ap (λ (z : Case). after l0 (block_notes p i t z.body)) (sym (clause_is d.value)))
      ∙ sym (after-append l0 (block_notes p i t (clause d.value).body) C)
      ∙ ap (λ z. after l0 (expression_notes p i t z)) (sym (ap expression is ∙ expression_match k u q a d cs))

pub next_noted : (p : Partition) (n : ℕ) (l0 l1 g : Option Violation) (d : T.Instance) (ds : List T.Instance) → l1 ≡ after l0 (instance_notes p n d) → after l0 (all_notes p n (d ∷ ds)) ≡ g → after l1 (all_notes p (n + 1) ds) ≡ g
next_noted p n l0 l1 g d ds h inv =
    let A = instance_notes p n d in
    let s : n + 1 ≡ suc n = omega arith in
    ap (λ z. after z (all_notes p (n + 1) ds)) h ∙ ap (λ k. after (after l0 A) (all_notes p k ds)) s ∙ sym (after-append l0 A (all_notes p (suc n) ds)) ∙ inv
