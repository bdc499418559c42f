use Rattle.std.proofs.Common.{ap, ◌∙◌, sym, inl, inr}
use Rattle.kind_domain.specs.code_rules.Kinds.{at, from_of}
use Rattle.kind_domain.specs.Leading.{is_lent_in}
use Rattle.kind_domain.specs.Leading.{names}
use Rattle.kind_domain.proofs.LentLists.{grows_on}
use Rattle.register_kinds.proofs.held.list_alike.Goals as goal

pub loop-other-preserved : goal.loop-other-preserved
loop-other-preserved c = record {
  only = λ q e. elim (c.list_one_alike.ensures.only q e) [
    | inl h ↦ c.loop-other.invariant.only q h
    | inr h ↦ inr (
      ap (λ z. names c.args.register (from_of z)) (ap (at c.args.known.now) (sym h.0) ∙ sym c.get.ensures.is)
          ∙ h.1,
      ap (is_lent_in c.args.root) (ap (at c.args.known.now) (sym h.0) ∙ sym c.get.ensures.is) ∙ h.2,
    )
  ];
  more = grows_on _ _ _ c.loop-other.invariant.more c.list_one_alike.ensures.more;
  room = c.list_one_alike.ensures.room ∙ c.loop-other.invariant.room;
}
