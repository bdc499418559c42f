use Rattle.std.proofs.Common.{sym, ap, arith, subst, ◌≡◌, ◌⊎◌, ℕ, ◌∙◌, ◌+◌, set, take, refl}
use Rattle.std.specs.Prelude.{true}
use Rattle.code_rules.specs.Kinds.{has}
use Rattle.kind_domain.specs.Leading.{AreLents, Grows}
use Rattle.kind_domain.proofs.LentLists.{all_true, lents_added, held_new, held_only, grows_one, grows_same}
use Rattle.kind_domain.proofs.lents.Lents.add.Goals as goal

pub invariant_of-self : goal.invariant_of-self
invariant_of-self c =
    subst (λ bs. AreLents (set c.self.inside.items.items c.self.inside.top c.args.register) (c.self.inside.top + 1) bs c.self.inside.reached.items)
    (sym c.mark.ensures.is)
    (lents_added c.self.inside.items.items c.self.inside.top c.self.inside.listed c.self.inside.reached.items c.args.register c.self.invariant
    (c.is_marked.ensures.unmarked c.if-not-is_marked.true))

pub returns-then-not-is_marked-clause-added : goal.returns-then-not-is_marked-clause-added
returns-then-not-is_marked-clause-added c =
    λ h. held_new c.self.inside.items.items c.self.inside.top c.args.register
    (let a = c.if-self-len.true in let b = c.len.ensures in omega arith)

pub returns-then-not-is_marked-clause-more : goal.returns-then-not-is_marked-clause-more
returns-then-not-is_marked-clause-more c =
    subst (λ v. Grows v.held (take (c.self.inside.top + 1) (set c.self.inside.items.items c.self.inside.top
    c.args.register))) c.self.view_is
    (grows_one c.self.inside.items.items c.self.inside.top c.args.register
    (let a = c.if-self-len.true in let b = c.len.ensures in omega arith))

pub returns-then-not-is_marked-clause-only : goal.returns-then-not-is_marked-clause-only
returns-then-not-is_marked-clause-only c =
    subst (λ v. (q : ℕ) → has (take (c.self.inside.top + 1) (set c.self.inside.items.items c.self.inside.top
    c.args.register)) q ≡ true → (has v.held q ≡ true) ⊎ (c.args.register ≡ q)) c.self.view_is
    (held_only c.self.inside.items.items c.self.inside.top c.args.register
    (let a = c.if-self-len.true in let b = c.len.ensures in omega arith))

pub returns-else-not-is_marked-clause-more : goal.returns-else-not-is_marked-clause-more
returns-else-not-is_marked-clause-more c = grows_same _ _ refl

pub returns-else-self-len-clause-more : goal.returns-else-self-len-clause-more
returns-else-self-len-clause-more c = grows_same _ _ refl

pub returns-else-self-len-clause-added : goal.returns-else-self-len-clause-added
returns-else-self-len-clause-added c =
    λ h. let many = c.self.invariant.many in
    let long = c.self.invariant.long in
    let room = ap (λ v. v.room) c.self.view_is in
    let full = c.if-self-len.false in
    let len = c.len.ensures in
    ap (λ v. has v.held c.args.register) (sym c.self.view_is)
    ∙ c.self.invariant.lists c.args.register
    (all_true c.self.inside.listed c.args.register (omega arith) (omega arith))
