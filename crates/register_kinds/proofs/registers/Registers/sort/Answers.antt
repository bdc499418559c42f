use Rattle.std.proofs.Common.{◌≡◌, ◌⊎◌, ℕ, sym, ap, ◌∙◌, subst}
use Rattle.std.specs.Prelude.{true, Some}
use Rattle.kind_domain.specs.code_rules.Kinds.{at, from_of, has, is_lent_of}
use Rattle.kind_domain.specs.code_rules.Taking.{is_heir, part}
use Rattle.kind_domain.specs.Leading.{kept_at, names}
use Rattle.register_kinds.specs.Sorted.{AreGood, IsTakable, Rest}
use Rattle.kind_domain.proofs.LentLists.{grows_has}
use Rattle.register_kinds.proofs.Sorted.{down_by, good_none, rest_by, rest_more}
use Rattle.register_kinds.proofs.registers.Registers.sort.Goals as goal

pub list_lost-requires : goal.list_lost-requires
list_lost-requires c = record {
  takable = subst (λ z. IsTakable z c.args.register (part c.args.parts.now c.args.types.now)) (sym c.list_none.ensures.kinds) c.requires.takable;
}

pub list_heirs-requires : goal.list_heirs-requires
list_heirs-requires c = record {
  takable = subst (λ z. IsTakable z c.args.register (part c.args.parts.now c.args.types.now))
      (sym (c.list_lost.ensures.kinds ∙ c.list_none.ensures.kinds)) c.requires.takable;
}

pub list_rest-requires : goal.list_rest-requires
list_rest-requires c = record {
  takable = subst (λ z. IsTakable z c.args.register (part c.args.parts.now c.args.types.now))
      (sym (c.list_heirs.ensures.kinds ∙ c.list_lost.ensures.kinds ∙ c.list_none.ensures.kinds)) c.requires.takable;
}

pub list_ended-requires-clause-takable : goal.list_ended-requires-clause-takable
list_ended-requires-clause-takable c =
    subst (λ z. IsTakable z c.args.register (part c.args.parts.now c.args.types.now))
    (sym (c.list_rest.ensures.kinds ∙ c.list_heirs.ensures.kinds ∙ c.list_lost.ensures.kinds
    ∙ c.list_none.ensures.kinds)) c.requires.takable

pub list_ended-requires-clause-rest : goal.list_ended-requires-clause-rest
list_ended-requires-clause-rest c =
    let k0 = c.list_none.ensures.kinds in
    let k1 = c.list_lost.ensures.kinds in
    let k2 = c.list_heirs.ensures.kinds in
    let k3 = c.list_rest.ensures.kinds in
    rest_by c.args.table.now c.list_rest.new.self.kinds c.args.register (part c.args.parts.now c.args.types.now) c.args.keeper c.list_rest.new.self.lent
    (subst (λ z. IsTakable z c.args.register (part c.args.parts.now c.args.types.now)) (sym (k3 ∙ k2 ∙ k1 ∙ k0)) c.requires.takable)
    (λ q n h. grows_has _ _ c.list_rest.ensures.more q (grows_has _ _ c.list_heirs.ensures.more q
    (c.list_lost.ensures.lost c.if-not-list_lost.false q
    (ap (λ z. names c.args.register (from_of (at z q))) (sym (k3 ∙ k2 ∙ k1)) ∙ n)
    (ap (λ z. is_heir c.args.table.now z c.args.register (part c.args.parts.now c.args.types.now) q) (sym (k3 ∙ k2 ∙ k1)) ∙ h))))
    (λ q l n. grows_has _ _ c.list_rest.ensures.more q (grows_has _ _ c.list_heirs.ensures.more q
    (c.list_lost.ensures.loose c.if-not-list_lost.false q
    (ap (λ z. is_lent_of c.args.register (at z q)) (sym (k3 ∙ k2 ∙ k1)) ∙ l)
    (ap (λ z. from_of (at z q)) (sym (k3 ∙ k2 ∙ k1)) ∙ n))))
    (λ p q e n. c.list_rest.ensures.closed c.if-not-list_rest.false p q e
    (ap (λ z. names p (from_of (at z q))) (sym k3) ∙ n))
    (λ p q h k n. grows_has _ _ c.list_rest.ensures.more q
    (c.list_heirs.ensures.heirs c.if-not-list_heirs.false p q
    (ap (λ z. is_heir c.args.table.now z c.args.register (part c.args.parts.now c.args.types.now) p) (sym (k3 ∙ k2)) ∙ h) k
    (ap (λ z. names p (from_of (at z q))) (sym (k3 ∙ k2)) ∙ n)))

pub returns-clause-sorted : goal.returns-clause-sorted
returns-clause-sorted c = λ e.
    let k0 = c.list_none.ensures.kinds in
    let k1 = c.list_lost.ensures.kinds in
    let k2 = c.list_heirs.ensures.kinds in
    let k3 = c.list_rest.ensures.kinds in
    let k = k3 ∙ k2 ∙ k1 ∙ k0 in
    let good1 = subst (λ z. AreGood c.args.table.now z c.args.register (part c.args.parts.now c.args.types.now) c.list_lost.new.self.lent
    c.list_lost.new.self.reached) k0 (c.list_lost.ensures.good
    (good_none c.args.table.now c.list_none.new.self.kinds c.args.register (part c.args.parts.now c.args.types.now) c.list_none.new.self.lent
    c.list_none.new.self.reached c.list_none.ensures.none)) in
    let good2 = subst (λ z. AreGood c.args.table.now z c.args.register (part c.args.parts.now c.args.types.now) c.list_heirs.new.self.lent
    c.list_heirs.new.self.reached) (k1 ∙ k0) (c.list_heirs.ensures.good
    (subst (λ z. AreGood c.args.table.now z c.args.register (part c.args.parts.now c.args.types.now) c.list_lost.new.self.lent
    c.list_lost.new.self.reached) (sym (k1 ∙ k0)) good1)) in
    let good3 = subst (λ z. AreGood c.args.table.now z c.args.register (part c.args.parts.now c.args.types.now) c.list_rest.new.self.lent
    c.list_rest.new.self.reached) (k2 ∙ k1 ∙ k0) (c.list_rest.ensures.good
    (subst (λ z. AreGood c.args.table.now z c.args.register (part c.args.parts.now c.args.types.now) c.list_heirs.new.self.lent
    c.list_heirs.new.self.reached) (sym (k2 ∙ k1 ∙ k0)) good2)) in
    let rest = subst (λ z. Rest c.args.table.now z c.args.register (part c.args.parts.now c.args.types.now) c.args.keeper c.list_rest.new.self.lent) k
    (rest_by c.args.table.now c.list_rest.new.self.kinds c.args.register (part c.args.parts.now c.args.types.now) c.args.keeper c.list_rest.new.self.lent
    (subst (λ z. IsTakable z c.args.register (part c.args.parts.now c.args.types.now)) (sym (k3 ∙ k2 ∙ k1 ∙ k0)) c.requires.takable)
    (λ q n h. grows_has _ _ c.list_rest.ensures.more q (grows_has _ _ c.list_heirs.ensures.more q
    (c.list_lost.ensures.lost c.if-not-list_lost.false q
    (ap (λ z. names c.args.register (from_of (at z q))) (sym (k3 ∙ k2 ∙ k1)) ∙ n)
    (ap (λ z. is_heir c.args.table.now z c.args.register (part c.args.parts.now c.args.types.now) q) (sym (k3 ∙ k2 ∙ k1)) ∙ h))))
    (λ q l n. grows_has _ _ c.list_rest.ensures.more q (grows_has _ _ c.list_heirs.ensures.more q
    (c.list_lost.ensures.loose c.if-not-list_lost.false q
    (ap (λ z. is_lent_of c.args.register (at z q)) (sym (k3 ∙ k2 ∙ k1)) ∙ l)
    (ap (λ z. from_of (at z q)) (sym (k3 ∙ k2 ∙ k1)) ∙ n))))
    (λ p q e n. c.list_rest.ensures.closed c.if-not-list_rest.false p q e
    (ap (λ z. names p (from_of (at z q))) (sym k3) ∙ n))
    (λ p q h k n. grows_has _ _ c.list_rest.ensures.more q
    (c.list_heirs.ensures.heirs c.if-not-list_heirs.false p q
    (ap (λ z. is_heir c.args.table.now z c.args.register (part c.args.parts.now c.args.types.now) p) (sym (k3 ∙ k2)) ∙ h) k
    (ap (λ z. names p (from_of (at z q))) (sym (k3 ∙ k2)) ∙ n)))) in
    record {
      good = subst (λ z. AreGood c.args.table.now z c.args.register (part c.args.parts.now c.args.types.now) c.list_ended.new.self.lent
          c.list_ended.new.self.reached) k (c.list_ended.ensures.good
          (subst (λ z. AreGood c.args.table.now z c.args.register (part c.args.parts.now c.args.types.now) c.list_rest.new.self.lent
          c.list_rest.new.self.reached) (sym k) good3));
      rest = rest_more c.args.table.now c.args.self.now.kinds c.args.register (part c.args.parts.now c.args.types.now) c.args.keeper
          c.list_rest.new.self.lent c.list_ended.new.self.lent c.list_ended.ensures.more rest;
      kids = λ p q s h n. c.list_ended.ensures.ended e p q s
          (ap (λ z. is_heir c.args.table.now z c.args.register (part c.args.parts.now c.args.types.now) p) k ∙ h)
          (ap (λ z. names p (from_of (at z q))) k ∙ n);
      down = down_by c.args.table.now c.args.self.now.kinds c.args.register (part c.args.parts.now c.args.types.now) c.list_rest.new.self.lent
          c.list_ended.new.self.lent c.list_ended.new.self.reached
          (λ p q a n. c.list_rest.ensures.closed c.if-not-list_rest.false p q a
          (ap (λ z. names p (from_of (at z q))) (k2 ∙ k1 ∙ k0) ∙ n))
          c.list_ended.ensures.more
          (subst (λ z. (q : ℕ) → has c.list_ended.new.self.lent q ≡ true →
          (has c.list_rest.new.self.lent q ≡ true) ⊎ (is_lent_of c.args.register (at z q) ≡ true →
          (h : ℕ) × (kept_at c.list_ended.new.self.reached q ≡ Some h))) k c.list_ended.ensures.only);
    }
