use Rattle.std.proofs.Common.{◌∙◌, ap, arith}
use Rattle.kind_domain.specs.code_rules.Kinds.{at}
use Rattle.kind_domain.specs.code_rules.Taking.{part}
use Rattle.register_kinds.specs.Sorted.{listing}
use Rattle.register_kinds.proofs.Sorted.{wanted_linked, wanted_there}
use Rattle.register_kinds.proofs.registers.Registers.list_wanted.Goals as goal

pub returns-in-Some-clause-listed : goal.returns-in-Some-clause-listed
returns-in-Some-clause-listed c = λ e q o l.
    let parts = part c.args.parts.now c.args.types.now in
    let here = ap (λ s. listing c.args.table.now c.args.register parts c.args.wanted q (at s.kinds q)) c.self.view_is ∙ l in
    c.list_some.ensures.listed q o
    (c.in-Some.ensures.all q (wanted_linked c.args.table.now c.self.inside.known c.self.inside.below c.self.inside.loose
    c.args.register parts c.args.wanted q o c.self.invariant.sources c.self.invariant.loosened here))
    here
    (let t = wanted_there c.args.table.now c.self.inside.known c.args.register parts c.args.wanted q o here in
    let r = c.self.invariant.room in omega arith)
