use Rattle.std.proofs.Common.{sym, ◌∙◌, ap, get_or}
use Rattle.kind_domain.proofs.Sets.{has_at}
use Rattle.register_kinds.proofs.registers.Registers.lent_at.Goals as goal

pub returns-clause-listed : goal.returns-clause-listed
returns-clause-listed c =
    has_at c.args.self.now.lent c.args.place (get_or c.as_slice.result.now c.args.place 0) c.requires.within
    (sym (ap (λ xs. get_or xs c.args.place 0) (c.as_slice.ensures.same ∙ ap (λ s. s.lent) c.self.view_is)))
