use Rattle.std.proofs.Common.{sym, ap, ◌∙◌, length, take, arith}
use Rattle.std.proofs.lemmas.List.{length-take-le}
use Rattle.code_rules.specs.Kinds.{has}
use Rattle.kind_domain.specs.Leading.{kept_at}
use Rattle.kind_domain.proofs.LentLists.{trues_few, lents_cleared, none_kept}
use Rattle.kind_domain.proofs.lents.Lents.clear.Goals as goal

pub slice_bounds-clear_each-end : goal.slice_bounds-clear_each-end
slice_bounds-clear_each-end c =
    let few = trues_few c.self.inside.listed in
    let many = c.self.invariant.many in
    let long = c.self.invariant.long in
    let same = ap length c.deref.ensures.value in
    sym (length-take-le c.self.inside.top c.deref.result.now (omega arith))

pub invariant_of-self : goal.invariant_of-self
invariant_of-self c =
    lents_cleared c.self.inside.items.items c.self.inside.top c.self.inside.listed c.clear_each.new.listed
    c.self.inside.reached.items c.clear_each.new.reached.items c.self.invariant c.clear_each.ensures.marks
    (λ q e h. c.clear_each.ensures.unmarked q e
    (ap (λ xs. has (take c.self.inside.top xs) q) c.deref.ensures.value ∙ h))
    c.clear_each.ensures.heirs
    (λ q d e h. c.clear_each.ensures.unreached q d e
    (ap (λ xs. has (take c.self.inside.top xs) q) c.deref.ensures.value ∙ h))
    c.clear_each.ensures.marks_long c.clear_each.ensures.heirs_long

pub returns-clause-unreached : goal.returns-clause-unreached
returns-clause-unreached c =
    λ q. none_kept (kept_at c.clear_each.new.reached.items q)
    (λ d e. c.clear_each.ensures.unreached q d e
    (ap (λ xs. has (take c.self.inside.top xs) q) c.deref.ensures.value
    ∙ c.self.invariant.only q d (c.clear_each.ensures.heirs q d e)))
