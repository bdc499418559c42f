use Rattle.std.proofs.Common.{◌≡◌, ◌+◌, inl, inr, sym, ap, ◌∙◌, subst, drop, arith}
use Rattle.std.specs.Prelude.{true, slice_index}
use Rattle.kind_domain.specs.code_rules.Kinds.{at, has}
use Rattle.kind_domain.specs.Leading.{leads}
use Rattle.kind_domain.proofs.LentLists.{grows_has, grows_on}
use Rattle.kind_domain.proofs.Places.{drop_index}
use Rattle.register_kinds.proofs.Reaching.{one_of}
use Rattle.register_kinds.proofs.listing.list_those.Goals as goal

pub loop-other-preserved : goal.loop-other-preserved
loop-other-preserved c =
    let i = c.loop-other.other-index in
    let next = drop_index c.args.others.now i (let h = c.loop-other-test.true in omega arith) in
    let x = slice_index c.args.others.now i in
    record {
      listed = λ q a l b. elim (c.loop-other.invariant.listed q a l b) [
        | inl h ↦ elim (one_of x q (drop (i + 1) c.args.others.now) (ap (λ xs. has xs q) (sym next) ∙ h)) [
          | inl g ↦ inr (subst (λ z. has c.list_one.new.lents.held z ≡ true) g
              (c.list_one.ensures.listed (ap (leads c.args.register) (c.get.ensures.is
              ∙ ap (at c.args.known.now) g) ∙ l)
              (let r = c.loop-other.invariant.room in let z = g in omega arith)))
          | inr g ↦ inl g
        ]
        | inr h ↦ inr (grows_has c.loop-other.lents.held c.list_one.new.lents.held c.list_one.ensures.more q h)
      ];
      more = grows_on _ _ _ c.loop-other.invariant.more c.list_one.ensures.more;
      room = c.list_one.ensures.room ∙ c.loop-other.invariant.room;
      reached = c.list_one.ensures.reached ∙ c.loop-other.invariant.reached;
    }
