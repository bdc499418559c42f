use Rattle.std.proofs.Common.{sym, ◌∙◌, ◌+◌, ◌-◌, ap, subst, arith}
use Rattle.std.specs.Prelude.{false}
use Rattle.code_rules.specs.Fitting.{is_subset}
use Rattle.code_rules.specs.Types.{numbers}
use Rattle.kind_domain.specs.Rising.{RiseFrom}
use Rattle.kind_domain.proofs.Subsets.{without_more, but_one_with, rise_at_beyond, numbers_beyond}
use Rattle.kind_domain.proofs.set.all_but_one_among.Goals as goal

pub returns-then-count-below : goal.returns-then-count-below
returns-then-count-below c = record {
  is = c.begin.ensures.is ∙ ap (λ z. is_subset z c.args.others.now)
      (sym (without_more c.args.lacked 0 c.args.count (let h = c.if-count-below.true in omega arith)));
}

pub returns-then-not-begin : goal.returns-then-not-begin
returns-then-not-begin c = record {
  is = but_one_with false c.args.lacked c.args.count c.args.others.now
      (let h = c.if-count-below.false in omega arith) (sym c.if-not-begin.true ∙ c.begin-2.ensures.is);
}

pub begin-requires-3 : goal.begin-requires-3
begin-requires-3 c = record {
  rise = subst (RiseFrom (c.args.lacked + 1)) (sym c.above.ensures.is)
      (rise_at_beyond c.args.lacked c.args.others.now c.requires.rise);
}

pub returns : goal.returns
returns c = record {
  is = c.begin-3.ensures.is
      ∙ ap (is_subset (numbers (c.args.lacked + 1) (c.args.count - c.args.lacked - 1))) c.above.ensures.is
      ∙ numbers_beyond c.args.lacked (c.args.lacked + 1) (c.args.count - c.args.lacked - 1) c.args.others.now (omega arith)
      ∙ but_one_with _ c.args.lacked c.args.count c.args.others.now
      (let h = c.if-count-below.false in omega arith) (sym c.if-not-begin.false ∙ c.begin-2.ensures.is);
}
