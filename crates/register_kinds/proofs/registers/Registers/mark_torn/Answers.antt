use Rattle.std.proofs.Common.{ap, sym, ◌∙◌}
use Rattle.kind_domain.specs.code_rules.Kinds.{has}
use Rattle.kind_domain.specs.Views.{constructors_in, kind_of}
use Rattle.register_kinds.proofs.Torn.{marked_closed, marked_listed}
use Rattle.register_kinds.proofs.registers.Registers.mark_torn.Goals as goal

pub returns-in-Lent-clause-listed : goal.returns-in-Lent-clause-listed
returns-in-Lent-clause-listed c = λ r m l.
    marked_listed c.args.self.now.kinds c.args.register r c.in-Lent.ty (constructors_in c.in-Lent.set) c.in-Lent.root
    c.in-Lent.from c.is_listed.result c.args.self.now.lent (ap kind_of (sym c.in-Lent.is) ∙ c.known.ensures.is)
    (λ e. ap (λ s. has s.lent c.args.register) (sym c.self.view_is) ∙ c.is_listed.ensures.listed e)
    (λ e i. c.mark_unless.ensures.marked e r (c.mark_unless-in-Lent.ensures.more r m) i) l

pub returns-in-Lent-clause-closed : goal.returns-in-Lent-clause-closed
returns-in-Lent-clause-closed c = λ r m e.
    marked_closed c.args.self.now.kinds c.args.register r c.in-Lent.ty (constructors_in c.in-Lent.set) c.in-Lent.root
    c.in-Lent.from c.tree_of-tree.result (ap kind_of (sym c.in-Lent.is) ∙ c.known.ensures.is) c.tree_of-tree.ensures.is
    (λ f i. c.mark_unless-in-Lent.ensures.marked (c.same_root.ensures.is ∙ f) r m i) e
