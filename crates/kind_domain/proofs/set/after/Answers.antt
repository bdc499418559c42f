use Rattle.std.proofs.Common.{sym, ◌∙◌, subst, arith}
use Rattle.kind_domain.specs.Rising.{Rise, beyond}
use Rattle.kind_domain.proofs.Subsets.{one_more, rise_less, rise_beyond}
use Rattle.kind_domain.proofs.set.after.Goals as goal

pub returns-in-Some : goal.returns-in-Some
returns-in-Some c = record {
  rise = subst Rise (sym c.in-Some.ensures.found.1) (rise_less 0 _ (beyond c.args.number c.args.others.now) (omega arith)
      (rise_beyond 0 c.args.number c.args.others.now c.requires.rise));
  found = λ own g. one_more c.args.lacked c.args.number c.args.others.now c.in-Some.rest.now own
      (sym c.is_lacked.ensures.is ∙ c.if-is_lacked.false) c.in-Some.ensures.found g;
  none = λ e. absurd (cc);
}
