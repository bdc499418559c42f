use Rattle.std.proofs.lemmas.Bool.Decides.{nat_tests}
use Rattle.std.proofs.Common.{ap, arith, subst, sym, refl, get_or, ◌+◌, ◌≡◌, length}
use Rattle.derivation_check.proofs.Numbers.{SplitAt, split_one, split_other, split_refused, split_complete}
use Rattle.derivation_check.proofs.lists.is_split.Goals.{then-stands_at, else-stands_at+then-stands_at-2}
use Rattle.derivation_check.proofs.lists.is_split.Goals as goal

pub loop-number-preserved : goal.loop-number-preserved
loop-number-preserved c = elim c.if-stands_at.branch [
  | then-stands_at w ↦
      let h = c.stands_at.ensures.here w.if-stands_at.true in
      subst (λ p. SplitAt c.args.whole.now c.args.one.now c.args.other.now (c.loop-number.number-index + 1) p c.if-stands_at.left) (sym w.taken-is) (subst (λ p. SplitAt c.args.whole.now c.args.one.now c.args.other.now (c.loop-number.number-index + 1) (c.loop-number.taken + 1) p) (sym w.left-is) (split_one c.args.whole.now c.args.one.now c.args.other.now c.loop-number.number-index c.loop-number.taken c.loop-number.left (get_or c.args.whole.now c.loop-number.number-index 0) c.loop-number.invariant c.loop-number-test.true refl h.0 h.1))
  | else-stands_at+then-stands_at-2 w ↦
      let h = w.stands_at-else-stands_at.ensures.here w.if-stands_at-2.true in
      subst (λ p. SplitAt c.args.whole.now c.args.one.now c.args.other.now (c.loop-number.number-index + 1) p c.if-stands_at.left) (sym w.taken-is) (subst (λ p. SplitAt c.args.whole.now c.args.one.now c.args.other.now (c.loop-number.number-index + 1) c.loop-number.taken p) (sym w.left-is) (split_other c.args.whole.now c.args.one.now c.args.other.now c.loop-number.number-index c.loop-number.taken c.loop-number.left (get_or c.args.whole.now c.loop-number.number-index 0) c.loop-number.invariant c.loop-number-test.true refl h.0 h.1))
]

pub returns-else-stands_at-2-clause-complete : goal.returns-else-stands_at-2-clause-complete
returns-else-stands_at-2-clause-complete c a d e f g h s = absurd (split_refused a d e c.args.whole.now c.args.one.now c.args.other.now c.loop-number.number-index c.loop-number.taken c.loop-number.left (get_or c.args.whole.now c.loop-number.number-index 0) c.loop-number.invariant c.loop-number-test.true refl (λ q. let t = c.stands_at.ensures.other q in let u = c.if-stands_at.false in cc) (λ q. let t = c.stands_at-else-stands_at.ensures.other q in let u = c.if-stands_at-2.false in cc) f g h s)

pub returns-then-taken-one-clause-complete : goal.returns-then-taken-one-clause-complete
returns-then-taken-one-clause-complete c a d e f g h s = let t = (split_complete a d e c.args.whole.now c.args.one.now c.args.other.now c.loop-number.number-index c.loop-number.taken c.loop-number.left c.loop-number.invariant c.loop-number-test.false f g h s).1 in grind (arith, nat_tests)

pub returns-else-taken-one-clause-complete : goal.returns-else-taken-one-clause-complete
returns-else-taken-one-clause-complete c a d e f g h s = let t = (split_complete a d e c.args.whole.now c.args.one.now c.args.other.now c.loop-number.number-index c.loop-number.taken c.loop-number.left c.loop-number.invariant c.loop-number-test.false f g h s).0 in grind (arith, nat_tests)
