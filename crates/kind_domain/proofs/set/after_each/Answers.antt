use Rattle.std.proofs.Common.{sym, ◌∙◌, ◌+◌, ap, subst, drop, arith}
use Rattle.code_rules.specs.Fitting.{is_subset}
use Rattle.kind_domain.specs.Rising.{Rise, less}
use Rattle.kind_domain.proofs.Subsets.{drop_one, rise_less}
use Rattle.kind_domain.proofs.set.after_each.Goals as goal

pub loop-place-preserved : goal.loop-place-preserved
loop-place-preserved c =
    let next = drop_one c.args.own.now c.loop-place.place
    (let a = c.loop-place-test.true in let b = c.requires.there in omega arith) in
    let rises = subst Rise next c.loop-place.invariant.own in
    record {
      within = (let a = c.loop-place-test.true in omega arith);
      own = rise_less 0 _ (drop (c.loop-place.place + 1) c.args.own.now) (omega arith) rises.1;
      rest = c.in-Some.ensures.rise;
      same = c.in-Some.ensures.found (drop (c.loop-place.place + 1) c.args.own.now) rises.1
          ∙ ap (λ z. is_subset (less c.args.lacked z) c.loop-place.rest.now) (sym next)
          ∙ c.loop-place.invariant.same;
    }
