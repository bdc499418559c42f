use Rattle.std.proofs.Common.{◌≡◌, ◌+◌, inl, inr, sym, ap, ◌∙◌, subst, drop, arith}
use Rattle.std.specs.Prelude.{true, slice_index, Some}
use Rattle.kind_domain.specs.code_rules.Kinds.{at, has}
use Rattle.kind_domain.specs.code_rules.Taking.{part}
use Rattle.register_kinds.specs.Sorted.{listing}
use Rattle.register_kinds.proofs.Changed.{not_true}
use Rattle.kind_domain.proofs.LentLists.{grows_has, grows_on}
use Rattle.kind_domain.proofs.Places.{drop_index}
use Rattle.register_kinds.proofs.Reaching.{one_of}
use Rattle.register_kinds.proofs.sorting.list_some.Goals as goal

pub loop-other-preserved : goal.loop-other-preserved
loop-other-preserved c =
    let i = c.loop-other.other-index in
    let next = drop_index c.args.others.now i (let h = c.loop-other-test.true in omega arith) in
    let x = slice_index c.args.others.now i in
    let here = c.listing-heir.ensures.is ∙ ap (listing c.args.table.now c.args.register
    (part c.args.parts.now c.args.types.now) c.args.wanted x) c.get.ensures.is in
    record {
      listed = λ q o a l b. elim (c.loop-other.invariant.listed q o a l b) [
        | inl h ↦ elim (one_of x q (drop (i + 1) c.args.others.now) (ap (λ xs. has xs q) (sym next) ∙ h)) [
          | inl g ↦ inr (subst (λ z. has c.list_one.new.lents.held z ≡ true) g
              (c.list_one.ensures.listed o (here ∙ ap (λ z. listing c.args.table.now c.args.register
              (part c.args.parts.now c.args.types.now) c.args.wanted z (at c.args.known.now z)) g ∙ l)
              (let r = c.loop-other.invariant.room in let z = g in omega arith)))
          | inr g ↦ inl g
        ]
        | inr h ↦ inr (grows_has c.loop-other.lents.held c.list_one.new.lents.held c.list_one.ensures.more q h)
      ];
      only = λ q e. elim (c.list_one.ensures.only q e) [
        | inl h ↦ elim (c.loop-other.invariant.only q h.0) [
          | inl k ↦ inl (k.0, h.1 ∙ k.1)
          | inr k ↦ inr (k.0, k.1 ∙ ap Some (sym h.1))
        ]
        | inr h ↦ inr (
          not_true (has c.args.lents.now.held q) (has c.loop-other.lents.held q)
              (grows_has c.args.lents.now.held c.loop-other.lents.held c.loop-other.invariant.more q) h.1,
          sym (here ∙ ap (λ z. listing c.args.table.now c.args.register
              (part c.args.parts.now c.args.types.now) c.args.wanted z (at c.args.known.now z)) h.0) ∙ h.2,
        )
      ];
      more = grows_on _ _ _ c.loop-other.invariant.more c.list_one.ensures.more;
      room = c.list_one.ensures.room ∙ c.loop-other.invariant.room;
    }
