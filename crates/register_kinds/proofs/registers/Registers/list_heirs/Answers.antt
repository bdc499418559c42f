use Rattle.std.proofs.Common.{◌+◌, inl, inr, sym, ap, ◌∙◌, subst, drop, arith}
use Rattle.std.specs.Prelude.{slice_index, Some}
use Rattle.kind_domain.specs.code_rules.Kinds.{at, from_of, has}
use Rattle.kind_domain.specs.code_rules.Taking.{is_heir, part}
use Rattle.kind_domain.specs.Leading.{names}
use Rattle.register_kinds.specs.Sorted.{AreGood}
use Rattle.kind_domain.proofs.LentLists.{grows_has, grows_on}
use Rattle.kind_domain.proofs.Places.{drop_index}
use Rattle.register_kinds.proofs.Reaching.{one_of}
use Rattle.register_kinds.proofs.Climbing.{heir_part}
use Rattle.register_kinds.proofs.Sorted.{none_left, part_listed}
use Rattle.register_kinds.proofs.registers.Registers.list_heirs.Goals as goal

pub loop-heir-preserved : goal.loop-heir-preserved
loop-heir-preserved c =
    let i = c.loop-heir.heir-index in
    let next = drop_index c.args.parts.now i (let h = c.loop-heir-test.true in omega arith) in
    let x = slice_index c.args.parts.now i in
    let ks = c.loop-heir.invariant.kinds in
    record {
      heirs = λ p q a h k n. elim (c.loop-heir.invariant.heirs p q a h k n) [
        | inl g ↦ elim (one_of x p (drop (i + 1) c.args.parts.now) (ap (λ xs. has xs p) (sym next) ∙ g)) [
          | inl e ↦ inr (c.list_heir.ensures.heir c.if-not-list_heir.false q
              (ap (λ z. is_heir c.args.table.now c.loop-heir.self.kinds c.args.register (part c.args.parts.now c.args.types.now) z) e
              ∙ ap (λ z. is_heir c.args.table.now z c.args.register (part c.args.parts.now c.args.types.now) p) ks ∙ h)
              (λ m. k (m ∙ ap Some e))
              (ap (λ z. names z (from_of (at c.loop-heir.self.kinds q))) e
              ∙ ap (λ z. names p (from_of (at z q))) ks ∙ n))
          | inr e ↦ inl e
        ]
        | inr g ↦ inr (grows_has c.loop-heir.self.lent c.list_heir.new.self.lent c.list_heir.ensures.more q g)
      ];
      good = λ a. subst (λ z. AreGood c.args.table.now z c.args.register (part c.args.parts.now c.args.types.now) c.loop-heir.self.lent
          c.loop-heir.self.reached → AreGood c.args.table.now z c.args.register (part c.args.parts.now c.args.types.now)
          c.list_heir.new.self.lent c.list_heir.new.self.reached) ks c.list_heir.ensures.good
          (c.loop-heir.invariant.good a);
      more = grows_on _ _ _ c.loop-heir.invariant.more c.list_heir.ensures.more;
      kinds = c.list_heir.ensures.kinds ∙ ks;
      maps = c.list_heir.ensures.maps ∙ c.loop-heir.invariant.maps;
    }

pub returns-clause-heirs : goal.returns-clause-heirs
returns-clause-heirs c = λ e p q h k n.
    elim (c.loop-heir.invariant.heirs p q (part_listed c.args.parts.now c.args.types.now p
    (heir_part c.args.table.now c.args.register (at c.args.self.now.kinds p)
    (part c.args.parts.now c.args.types.now p) h)) h k n) [
      | inl g ↦ absurd (none_left c.args.parts.now c.loop-heir.heir-index p
          (let z = c.loop-heir-test.false in omega arith) g)
      | inr g ↦ g
    ]
