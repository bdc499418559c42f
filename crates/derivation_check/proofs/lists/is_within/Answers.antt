use Rattle.std.proofs.lemmas.Bool.Decides.{nat_tests}
use Rattle.std.proofs.Common.{ap, arith, subst, sym, refl, get_or, ◌+◌, ◌≡◌, length}
use Rattle.derivation_check.proofs.Numbers.{WithinAt, within_step, within_skip, within_complete}
use Rattle.derivation_check.proofs.lists.is_within.Goals.{then-stands_at, else-stands_at}
use Rattle.derivation_check.proofs.lists.is_within.Goals as goal

pub loop-number-preserved : goal.loop-number-preserved
loop-number-preserved c = elim c.if-stands_at.branch [
  | then-stands_at w ↦
      let h = c.stands_at.ensures.here w.if-stands_at.true in
      subst (λ p. WithinAt c.args.few.now c.args.many.now p (c.loop-number.number-index + 1)) (sym w.place-is) (within_step c.args.few.now c.args.many.now c.loop-number.place c.loop-number.number-index (get_or c.args.many.now c.loop-number.number-index 0) c.loop-number.invariant c.loop-number-test.true refl h.0 h.1)
  | else-stands_at w ↦
      subst (λ p. WithinAt c.args.few.now c.args.many.now p (c.loop-number.number-index + 1)) (sym w.place-is) (within_skip c.args.few.now c.args.many.now c.loop-number.place c.loop-number.number-index (get_or c.args.many.now c.loop-number.number-index 0) c.loop-number.invariant c.loop-number-test.true refl (λ q. let g = c.stands_at.ensures.other q in let f = w.if-stands_at.false in cc))
]

pub returns-clause-complete : goal.returns-clause-complete
returns-clause-complete c m d f g h = let e = within_complete m d c.args.few.now c.args.many.now c.loop-number.place c.loop-number.number-index c.loop-number.invariant c.loop-number-test.false f g h in grind (arith, nat_tests)
