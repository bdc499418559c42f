use Rattle.std.proofs.Common.{sym, subst}
use Rattle.fip_base.specs.TableView.{IsNamed}
use Rattle.fip_base.proofs.table.TypeTable.find.Goals as goal

pub returns-in-Some-clause-first : goal.returns-in-Some-clause-first
returns-in-Some-clause-first c d h is =
    c.in-Some.ensures.first d h (subst (λ ss. IsNamed ss c.args.name.now d) (sym c.constructors_of.ensures.same) is)

pub returns-in-None-clause-none : goal.returns-in-None-clause-none
returns-in-None-clause-none c n d is =
    c.in-None.ensures.none d (subst (λ ss. IsNamed ss c.args.name.now d) (sym c.constructors_of.ensures.same) is)
