use Rattle.std.proofs.Common.{◌∙◌, arith}
use Rattle.register_kinds.specs.Steps.{forgets}
use Rattle.register_kinds.proofs.EachPlace.{each_done}
use Rattle.register_kinds.proofs.Gathered.{forget_listed}
use Rattle.register_kinds.proofs.registers.Registers.forget_listed.Goals as goal

pub returns-clause-kinds : goal.returns-clause-kinds
returns-clause-kinds c =
    each_done (forgets c.args.register) c.loop-place.self.kinds c.args.self.now.lent c.loop-place.place
    (let h = c.loop-place-test.false in let g = c.lent_len-place-end.ensures.is in omega arith)
    ∙ c.loop-place.invariant.kinds
    ∙ forget_listed c.args.register c.args.self.now.kinds c.args.self.now.lent c.requires.listed
