use Rattle.std.proofs.Common.{subst, sym}
use Rattle.kind_domain.specs.code_rules.Kinds.{set_of}
use Rattle.kind_domain.specs.Rising.{Rise}
use Rattle.register_kinds.proofs.registers.Registers.known.Goals as goal

pub returns-clause-rises : goal.returns-clause-rises
returns-clause-rises c = subst (λ k. Rise (set_of k)) (sym c.get.ensures.is) (c.self.invariant.rise c.args.register)
