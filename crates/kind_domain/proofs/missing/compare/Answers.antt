use Rattle.std.proofs.Common.{sym, ◌∙◌}
use Rattle.kind_domain.proofs.SetsCompared.{missing_more, missing_none, missing_one}
use Rattle.kind_domain.proofs.missing.compare.Goals as goal

pub returns-then-is_listed_within : goal.returns-then-is_listed_within
returns-then-is_listed_within c = record {
  is = missing_none c.args.own.now c.args.others.now (sym c.is_listed_within.ensures.is ∙ c.if-is_listed_within.true);
}

pub returns-in-None : goal.returns-in-None
returns-in-None c = record {
  is = missing_none c.args.own.now c.args.others.now (c.first_missing.ensures.none c.in-None.is);
}

pub returns-then-is_listed_within-2 : goal.returns-then-is_listed_within-2
returns-then-is_listed_within-2 c = record {
  is = missing_one c.args.own.now c.args.others.now c.in-Some.number c.in-Some.ensures.missing.0
      c.in-Some.ensures.missing.1 (sym c.is_listed_within-in-Some.ensures.is ∙ c.if-is_listed_within-2.true);
}

pub returns-else-is_listed_within-2 : goal.returns-else-is_listed_within-2
returns-else-is_listed_within-2 c = record {
  is = missing_more c.args.own.now c.args.others.now c.in-Some.number c.in-Some.ensures.missing.0
      c.in-Some.ensures.missing.1 (sym c.is_listed_within-in-Some.ensures.is ∙ c.if-is_listed_within-2.false);
}
