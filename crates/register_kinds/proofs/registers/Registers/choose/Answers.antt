use Rattle.std.proofs.Common.{◌∙◌, sym, ap}
use Rattle.kind_domain.specs.code_rules.Kinds.{at, is_owned}
use Rattle.register_kinds.proofs.Climbing.{free_apart}
use Rattle.register_kinds.proofs.registers.Registers.choose.Goals as goal

pub returns-in-Some-clause-apart : goal.returns-in-Some-clause-apart
returns-in-Some-clause-apart c = λ h e q.
    free_apart c.args.self.now.kinds h q (c.checked.ensures.whole c.args.self.now.kinds h e c.requires.known)
    (ap (λ ks. is_owned (at ks h)) (sym c.largest.ensures.kinds) ∙ c.checked.ensures.free h e)
