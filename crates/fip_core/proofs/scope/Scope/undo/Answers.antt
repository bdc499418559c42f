use Rattle.std.proofs.Common.{◌∙◌, ◌∷◌, [], ◌++◌, sym, Some, None}
use Rattle.fip_core.specs.ScopeView.{IsKept}
use Rattle.fip_core.proofs.ScopeFacts.{changed_at, IsKept-undo, IsKept-last, at_ok, none_is_some}
use Rattle.fip_core.proofs.scope.Scope.undo.Goals as goal

pub invariant_of-self : goal.invariant_of-self
invariant_of-self c =
    let before : IsKept (c.pop.new.self.items ++ c.in-Some.entry ∷ []) _ = rw c.in-Some.ensures.items at c.self.invariant in
    IsKept-undo c.pop.new.self.items c.in-Some.entry _ _ before
    (λ x. rw c.in-None.is (changed_at c.in-Some.entry.name.items c.self.inside.numbers c.remove.new.self None c.remove.ensures.updates x))

pub invariant_of-self-in-Some-hidden : goal.invariant_of-self-in-Some-hidden
invariant_of-self-in-Some-hidden c =
    let before : IsKept (c.pop.new.self.items ++ c.in-Some.entry ∷ []) _ = rw c.in-Some.ensures.items at c.self.invariant in
    IsKept-undo c.pop.new.self.items c.in-Some.entry _ _ before
    (λ x. rw c.in-Some-hidden.is
    (changed_at c.in-Some.entry.name.items c.self.inside.numbers c.insert.new.self (Some c.in-Some-hidden.number)
    (at_ok c.insert.result c.insert.ensures.updates c.insert.ensures.absent
    (λ h. none_is_some (sym h ∙ IsKept-last c.pop.new.self.items c.in-Some.entry _ before)))
    x))

-- the same where the name that the insertion gave back is let go
pub invariant_of-self-in-Some-hidden-2 : goal.invariant_of-self-in-Some-hidden-2
invariant_of-self-in-Some-hidden-2 c =
    let before : IsKept (c.pop.new.self.items ++ c.in-Some.entry ∷ []) _ = rw c.in-Some.ensures.items at c.self.invariant in
    IsKept-undo c.pop.new.self.items c.in-Some.entry _ _ before
    (λ x. rw c.in-Some-hidden.is
    (changed_at c.in-Some.entry.name.items c.self.inside.numbers c.insert.new.self (Some c.in-Some-hidden.number)
    (at_ok c.insert.result c.insert.ensures.updates c.insert.ensures.absent
    (λ h. none_is_some (sym h ∙ IsKept-last c.pop.new.self.items c.in-Some.entry _ before)))
    x))
