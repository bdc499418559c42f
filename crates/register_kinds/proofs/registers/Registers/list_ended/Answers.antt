use Rattle.std.proofs.Common.{◌+◌, inl, inr, sym, ap, ◌∙◌, subst, drop, arith}
use Rattle.std.specs.Prelude.{is_some, slice_index}
use Rattle.kind_domain.specs.code_rules.Kinds.{at, from_of, has, is_lent_of}
use Rattle.kind_domain.specs.code_rules.Taking.{is_heir, part}
use Rattle.kind_domain.specs.Leading.{names}
use Rattle.register_kinds.specs.Sorted.{AreGood, Rest}
use Rattle.kind_domain.proofs.LentLists.{grows_has, grows_on}
use Rattle.kind_domain.proofs.Places.{drop_index}
use Rattle.register_kinds.proofs.Reaching.{one_of}
use Rattle.register_kinds.proofs.Sorted.{none_left, part_listed, rest_more}
use Rattle.register_kinds.proofs.registers.Registers.list_ended.Goals as goal

pub list_part-requires-clause-rest : goal.list_part-requires-clause-rest
list_part-requires-clause-rest c =
    subst (λ z. Rest c.args.table.now z c.args.register (part c.args.parts.now c.args.types.now) c.args.keeper c.loop-part.self.lent)
    (sym c.loop-part.invariant.kinds)
    (rest_more c.args.table.now c.args.self.now.kinds c.args.register (part c.args.parts.now c.args.types.now) c.args.keeper c.args.self.now.lent
    c.loop-part.self.lent c.loop-part.invariant.more c.requires.rest)

pub loop-part-preserved : goal.loop-part-preserved
loop-part-preserved c =
    let i = c.loop-part.part-index in
    let next = drop_index c.args.parts.now i (let h = c.loop-part-test.true in omega arith) in
    let x = slice_index c.args.parts.now i in
    let ks = c.loop-part.invariant.kinds in
    record {
      ended = λ p q a s h n. elim (c.loop-part.invariant.ended p q a s h n) [
        | inl g ↦ elim (one_of x p (drop (i + 1) c.args.parts.now) (ap (λ xs. has xs p) (sym next) ∙ g)) [
          | inl e ↦ inr (c.list_part.ensures.ended c.if-not-list_part.false q
              (ap (λ z. is_some (part c.args.parts.now c.args.types.now z)) e ∙ s)
              (ap (λ z. is_heir c.args.table.now c.loop-part.self.kinds c.args.register (part c.args.parts.now c.args.types.now) z) e
              ∙ ap (λ z. is_heir c.args.table.now z c.args.register (part c.args.parts.now c.args.types.now) p) ks ∙ h)
              (ap (λ z. names z (from_of (at c.loop-part.self.kinds q))) e
              ∙ ap (λ z. names p (from_of (at z q))) ks ∙ n))
          | inr e ↦ inl e
        ]
        | inr g ↦ inr (grows_has c.loop-part.self.lent c.list_part.new.self.lent c.list_part.ensures.more q g)
      ];
      only = λ q e. elim (c.list_part.ensures.only q e) [
        | inl h ↦ elim (c.loop-part.invariant.only q h.0) [
          | inl k ↦ inl k
          | inr k ↦ inr (λ l. (let m = k l in (m.0, h.1 ∙ m.1)))
        ]
        | inr h ↦ inr (λ l. h (ap (λ z. is_lent_of c.args.register (at z q)) ks ∙ l))
      ];
      good = λ a. subst (λ z. AreGood c.args.table.now z c.args.register (part c.args.parts.now c.args.types.now) c.loop-part.self.lent
          c.loop-part.self.reached → AreGood c.args.table.now z c.args.register (part c.args.parts.now c.args.types.now)
          c.list_part.new.self.lent c.list_part.new.self.reached) ks c.list_part.ensures.good
          (c.loop-part.invariant.good a);
      more = grows_on _ _ _ c.loop-part.invariant.more c.list_part.ensures.more;
      kinds = c.list_part.ensures.kinds ∙ ks;
      maps = c.list_part.ensures.maps ∙ c.loop-part.invariant.maps;
    }

pub returns-clause-ended : goal.returns-clause-ended
returns-clause-ended c = λ e p q s h n.
    elim (c.loop-part.invariant.ended p q (part_listed c.args.parts.now c.args.types.now p s) s h n) [
      | inl g ↦ absurd (none_left c.args.parts.now c.loop-part.part-index p
          (let z = c.loop-part-test.false in omega arith) g)
      | inr g ↦ g
    ]
