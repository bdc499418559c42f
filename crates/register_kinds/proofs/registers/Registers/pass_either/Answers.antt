use Rattle.std.proofs.Common.{subst}
use Rattle.register_kinds.specs.Takes.{IsPassed}
use Rattle.register_kinds.proofs.registers.Registers.pass_either.Goals as goal

pub returns-then-not-pass_sorted-clause-passed : goal.returns-then-not-pass_sorted-clause-passed
returns-then-not-pass_sorted-clause-passed c =
    subst (λ ks. IsPassed c.args.table.now ks c.args.register c.args.parts.now c.args.types.now
    c.pass_all_on-then-not-pass_sorted.new.self.kinds) (c.pass_sorted.ensures.same c.if-not-pass_sorted.true) c.pass_all_on-then-not-pass_sorted.ensures.passed
