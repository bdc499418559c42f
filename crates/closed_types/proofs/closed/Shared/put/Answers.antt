use Rattle.std.proofs.Common.{◌≡◌, ◌+◌, ◌<◌, length, slice_get, Some, subst, sym, ap, ◌∙◌, arith}
use Rattle.closed_types.specs.Closed.{Applied}
use Rattle.closed_types.specs.SharedTrees.{Grows, Kept, trees_at, trees}
use Rattle.fip_base.specs.fip_language.Every.{Every}
use Rattle.closed_types.specs.BranchView.{branch, branches}
use Rattle.closed_types.specs.declared.closed.Closed as D
use Rattle.closed_types.proofs.SharedTrees.{Added, added_place}
use Rattle.closed_types.proofs.Rows.{added_row, row_at, row_eq}
use Rattle.closed_types.proofs.Growing.{shared_grows, shared_at}
use Rattle.closed_types.proofs.closed.Shared.put.Goals as goal

within : (c : goal.In_ok-at) → Every (λ i. i < length (branches c.self.inside.trees.keys) + 1) c.args.arguments.items
within c = subst (λ (k : Kept). Every (λ i. i < length k.branches + 1) c.args.arguments.items) (sym c.self.view_is) c.requires.within

added : (c : goal.In_ok-at) → Added (branches c.self.inside.trees.keys) (branch (record { head = c.args.head; arguments = c.args.arguments })) (branches c.insert_full.new.self.keys)
added c =
    let small = c.len-before.ensures.small in
    let len = c.len-before.ensures.len in
    added_row (record { head = c.args.head; arguments = c.args.arguments }) c.self.inside.trees.keys c.insert_full.new.self.keys c.in_ok-at.ensures.keys c.self.invariant (within c) (omega (arith, small, len))

placed : (c : goal.In_ok-at) → slice_get (trees (branches c.insert_full.new.self.keys)) (c.in_ok-at.at + 1) ≡ Some (Applied c.args.head (trees_at (trees (branches c.self.inside.trees.keys)) c.args.arguments.items))
placed c =
    let k = c.in_ok-at.ensures.stored in
    let r : D.Closed = record { head = c.args.head; arguments = c.args.arguments } in
    added_place (branches c.self.inside.trees.keys) (branches c.insert_full.new.self.keys) (branch r) (branch k.0) c.in_ok-at.at (added c) (within c) (row_at c.insert_full.new.self.keys c.in_ok-at.at k.0 k.1) (sym (row_eq r k.0) ∙ k.2)

pub invariant_of-self-2 : goal.invariant_of-self-2
invariant_of-self-2 c = (added c).shared

pub returns-clause-grows : goal.returns-clause-grows
returns-clause-grows c =
    subst (λ (k : Kept). Grows k.branches (branches c.insert_full.new.self.keys)) c.self.view_is
    (shared_grows (branches c.self.inside.trees.keys) (branches c.insert_full.new.self.keys) (Applied c.args.head (trees_at (trees (branches c.self.inside.trees.keys)) c.args.arguments.items)) (added c).trees)

pub returns-clause-within : goal.returns-clause-within
returns-clause-within c = (shared_at (branches c.insert_full.new.self.keys) (c.in_ok-at.at + 1) _ (placed c)).1

pub returns-clause-place : goal.returns-clause-place
returns-clause-place c =
    (shared_at (branches c.insert_full.new.self.keys) (c.in_ok-at.at + 1) _ (placed c)).0
    ∙ ap (λ (k : Kept). Applied c.args.head (trees_at (trees k.branches) c.args.arguments.items)) c.self.view_is
