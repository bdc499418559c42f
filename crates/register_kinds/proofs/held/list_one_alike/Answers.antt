use Rattle.std.proofs.Common.{◌∙◌, sym, inl, inr, refl}
use Rattle.kind_domain.proofs.LentLists.{grows_same}
use Rattle.register_kinds.proofs.held.list_one_alike.Goals as goal

pub returns-then-is_lent_in-clause-only : goal.returns-then-is_lent_in-clause-only
returns-then-is_lent_in-clause-only c =
    λ q e. elim (c.add.ensures.only q e) [
      | inl h ↦ inl h
      | inr h ↦ inr (
        h,
        sym c.came_from.ensures.is ∙ c.if-came_from.true,
        sym c.is_lent_in.ensures.is ∙ c.if-is_lent_in.true,
      )
    ]

pub returns-else-is_lent_in-clause-more : goal.returns-else-is_lent_in-clause-more
returns-else-is_lent_in-clause-more c = grows_same _ _ refl

pub returns-else-came_from-clause-more : goal.returns-else-came_from-clause-more
returns-else-came_from-clause-more c = grows_same _ _ refl
