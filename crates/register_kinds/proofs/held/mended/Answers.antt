use Rattle.register_kinds.proofs.Torn.{known_over}
use Rattle.register_kinds.proofs.held.mended.Goals as goal

pub returns-in-Some : goal.returns-in-Some
returns-in-Some c = record {
  is = λ ks a other i.
      known_over ks c.args.register c.args.held c.in-Some.torn c.clear.new.self other a c.in-Some.is c.clear.ensures.is i;
}
