use Rattle.std.proofs.Common.{sym, ◌∙◌, ◌+◌, ap, subst, drop, refl, slice_index_or, arith}
use Rattle.std.specs.Prelude.{None}
use Rattle.code_rules.specs.Fitting.{is_subset}
use Rattle.code_rules.specs.Kinds.{has}
use Rattle.kind_domain.specs.Rising.{Rise, beyond}
use Rattle.kind_domain.proofs.Sets.{has_at}
use Rattle.kind_domain.proofs.Subsets.{drop_one, has_beyond, least_is, one_more, or_more, own_first, rise_less, rise_beyond}
use Rattle.kind_domain.proofs.missing.first_missing.Goals as goal

pub returns-in-None-clause-missing : goal.returns-in-None-clause-missing
returns-in-None-clause-missing c =
    let n = slice_index_or c.args.own.now c.loop-number.number-index 0 in
    let tail = drop (c.loop-number.number-index + 1) c.args.own.now in
    let next = drop_one c.args.own.now c.loop-number.number-index c.loop-number-test.true in (
      has_at c.args.own.now c.loop-number.number-index n c.loop-number-test.true refl,
      sym (c.loop-number.invariant.same n (ap (λ z. has z n) next ∙ own_first n tail)) ∙ c.following.ensures.none c.in-None.is,
    )

pub loop-number-preserved : goal.loop-number-preserved
loop-number-preserved c =
    let n = slice_index_or c.args.own.now c.loop-number.number-index 0 in
    let rest = c.loop-number.rest.now in
    let tail = drop (c.loop-number.number-index + 1) c.args.own.now in
    let next = drop_one c.args.own.now c.loop-number.number-index c.loop-number-test.true in
    let rises = subst Rise next c.loop-number.invariant.own in
    record {
      rest = subst Rise (sym c.in-Some.ensures.found.1) (rise_less 0 _ (beyond n rest) (omega arith)
          (rise_beyond 0 n rest c.loop-number.invariant.rest));
      own = rise_less 0 _ tail (omega arith) rises.1;
      same = λ x e. ap (λ z. has z x) c.in-Some.ensures.found.1
          ∙ has_beyond n x rest (least_is _ tail x rises.1 e)
          ∙ c.loop-number.invariant.same x (ap (λ z. has z x) next ∙ or_more _ (has tail x) e);
      subset = one_more None n rest c.in-Some.next.now tail refl c.in-Some.ensures.found rises.1
          ∙ ap (λ z. is_subset z rest) (sym next) ∙ c.loop-number.invariant.subset;
    }
