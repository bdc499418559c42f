use Rattle.std.proofs.Common.{ap, sym, ◌∙◌}
use Rattle.kind_domain.specs.code_rules.Kinds.{is_owned}
use Rattle.kind_domain.specs.Views.{kind_of}
use Rattle.register_kinds.proofs.Torn.{known_written}
use Rattle.register_kinds.proofs.registers.Registers.stays_whole.Goals as goal

pub returns-then-not-is_owned : goal.returns-then-not-is_owned
returns-then-not-is_owned c = record {
  whole = λ e.
      known_written c.args.self.now.kinds c.args.register (kind_of c.args.known) c.args.torn.now
      (ap is_owned (sym c.known.ensures.is) ∙ sym c.is_owned.ensures.is ∙ c.if-not-is_owned.true)
      (c.follows.ensures.held e) (c.follows.ensures.closed e);
}
