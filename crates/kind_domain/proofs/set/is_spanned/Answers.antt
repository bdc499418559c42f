use Rattle.kind_domain.proofs.Subsets.{first_least, last_most, none_subset, subset_by}
use Rattle.kind_domain.proofs.set.is_spanned.Goals as goal

pub returns-then-count-eq0 : goal.returns-then-count-eq0
returns-then-count-eq0 c = record {
  yes = λ e. none_subset c.args.lacked c.args.own.now c.args.others.now c.if-count-eq0.true;
}

pub returns : goal.returns
returns c = record {
  yes = λ e. subset_by c.args.lacked c.args.own.now c.args.others.now
      (λ x h n. c.has_all_but.ensures.yes e x (first_least 0 c.args.own.now x c.requires.own_rise h)
      (last_most 0 c.args.own.now x c.requires.own_rise h) n);
}
