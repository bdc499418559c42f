use Rattle.std.proofs.Common.{sym, subst, ◌∙◌, ◌+◌}
use Rattle.kind_domain.specs.Rising.{RiseFrom}
use Rattle.kind_domain.proofs.Subsets.{all_between, one_between, rise_at_beyond}
use Rattle.kind_domain.proofs.set.has_all.Goals as goal

pub begin-requires : goal.begin-requires
begin-requires c = record {
  rise = subst (RiseFrom (c.args.low + 1)) (sym c.above.ensures.is)
      (rise_at_beyond c.args.low c.args.numbers.now c.requires.rise);
}

pub returns-then-high-low : goal.returns-then-high-low
returns-then-high-low c = record {
  yes = λ e. one_between c.args.low c.args.high c.args.numbers.now
      (sym (c.is_listed.ensures.is c.requires.rise) ∙ c.if-not-is_listed.false) c.if-high-low.true;
}

pub returns : goal.returns
returns c = record {
  yes = all_between c.args.low c.args.high c.args.numbers.now c.above.result.now c.begin.result
      (sym (c.is_listed.ensures.is c.requires.rise) ∙ c.if-not-is_listed.false) c.above.ensures.is c.begin.ensures.is;
}
