use Rattle.std.proofs.Common.{refl, sym, ◌∙◌}
use Rattle.derivation_check.proofs.Given.{nodes_taken, nodes_rest, nodes_root}
use Rattle.derivation_check.proofs.counts.Counts.+pattern.Goals as goal

pub take_given-returns-then-take_paid-clause-taken : goal.take_given-returns-then-take_paid-clause-taken
take_given-returns-then-take_paid-clause-taken t c h = nodes_taken c.args.self.now.counts c.take_paid.new.self.counts c.take_given_all.new.self.counts c.args.pattern.now c.in-Constructor.ty c.in-Constructor.data c.in-Constructor.number c.in-Constructor.name c.in-Constructor.place c.in-Constructor.patterns c.deref.result.now c.len.result c.in-Constructor.is (c.len.ensures ∙ sym c.deref.ensures.len) c.deref.ensures.value (c.if-take_paid.ensures.taken refl) (c.take_given_all.ensures.taken h)

pub take_given-returns-then-take_paid-clause-out_of_memory : goal.take_given-returns-then-take_paid-clause-out_of_memory
take_given-returns-then-take_paid-clause-out_of_memory t c h = c.take_given_all.ensures.out_of_memory (nodes_rest c.args.self.now.counts c.take_paid.new.self.counts c.args.pattern.now c.in-Constructor.ty c.in-Constructor.data c.in-Constructor.number c.in-Constructor.name c.in-Constructor.place c.in-Constructor.patterns c.deref.result.now c.len.result c.in-Constructor.is (c.len.ensures ∙ sym c.deref.ensures.len) c.deref.ensures.value (c.if-take_paid.ensures.taken refl) h)

pub take_given-returns-else-take_paid-clause-out_of_memory : goal.take_given-returns-else-take_paid-clause-out_of_memory
take_given-returns-else-take_paid-clause-out_of_memory t c h = c.take_paid.ensures.out_of_memory (nodes_root c.args.self.now.counts c.args.pattern.now c.in-Constructor.ty c.in-Constructor.data c.in-Constructor.number c.in-Constructor.name c.in-Constructor.place c.in-Constructor.patterns c.len.result c.in-Constructor.is (c.len.ensures ∙ c.in-Constructor.patterns.ok.0) h)
