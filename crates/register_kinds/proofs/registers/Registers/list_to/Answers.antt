use Rattle.std.proofs.Common.{ap, ◌∙◌, inl, inr}
use Rattle.kind_domain.specs.code_rules.Kinds.{at, from_of, is_lent_of}
use Rattle.kind_domain.specs.Leading.{names}
use Rattle.register_kinds.proofs.Keeps.{or_cases}
use Rattle.kind_domain.proofs.LentLists.{grows_has, grows_on}
use Rattle.register_kinds.proofs.registers.Registers.list_to.Goals as goal

pub returns-clause-listed : goal.returns-clause-listed
returns-clause-listed c =
    λ q e. elim (or_cases (names c.args.register (from_of (at c.args.self.now.kinds q)))
    (is_lent_of c.args.register (at c.args.self.now.kinds q)) e) [
      | inl h ↦ grows_has _ _ c.list_tree.ensures.more q (c.list_below.ensures.listed q h)
      | inr h ↦ c.list_tree.ensures.listed q (ap (λ ks. is_lent_of c.args.register (at ks q)) c.list_below.ensures.kinds ∙ h)
    ]

pub returns-clause-more : goal.returns-clause-more
returns-clause-more c = grows_on _ _ _ c.list_below.ensures.more c.list_tree.ensures.more
