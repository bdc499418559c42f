use Rattle.std.proofs.Common.{◌≡◌, ◌∙◌, ◌+◌, ◌<◌, length, drop, get_or, sym, ap, ap₂, subst, arith}
use Rattle.store_trees.specs.GivenUp.{all_given_up}
use Rattle.fip_session.proofs.Forgetting.{none_left}
use Rattle.fip_session.proofs.Noting.{credit_at, words_long}
use Rattle.fip_session.proofs.call.release_credits.Goals as goal

pub loop-word-preserved : goal.loop-word-preserved
loop-word-preserved c = record {
  cells = c.release_credit.ensures.cells ∙ c.loop-word.invariant.cells;
  released = λ ps is few.
      let i = c.loop-word.word-index in
      let p = credit_at ps i (subst (λ ws. i < length ws) is c.loop-word-test.true) few in
      ap₂ (λ cs rs. all_given_up cs (drop (i + 1) ps) rs) c.release_credit.ensures.cells (c.release_credit.ensures.released p.0 (ap (λ ws. get_or ws i 0) is ∙ p.1) p.3)
      ∙ sym (ap (λ qs. all_given_up c.loop-word.cells.cells qs c.loop-word.cells.released) p.2)
      ∙ c.loop-word.invariant.released ps is few;
}

pub returns-clause-released : goal.returns-clause-released
returns-clause-released c = λ ps is few.
    let i = c.loop-word.word-index in
    let ge = c.loop-word-test.false in
    let e = ap length is in
    let l = words_long ps in
    sym (ap (λ qs. all_given_up c.loop-word.cells.cells qs c.loop-word.cells.released) (none_left ps i (omega (arith, ge, e, l)))) ∙ c.loop-word.invariant.released ps is few
