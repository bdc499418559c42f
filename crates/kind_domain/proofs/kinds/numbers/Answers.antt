use Rattle.std.proofs.Common.{ap, ◌∙◌, length, subst, sym, ◌≡◌, ℕ}
use Rattle.kind_domain.specs.Owners.{number_at}
use Rattle.kind_domain.proofs.Naming.{next_length, numbers_next}
use Rattle.kind_domain.proofs.kinds.numbers.Goals as goal

pub loop-number-preserved : goal.loop-number-preserved
loop-number-preserved c = record {
  long = ap length c.in_ok-push.ensures.items
      ∙ next_length c.loop-number.items.items c.loop-number.number c.loop-number.number c.loop-number.invariant.long;
  same = subst (λ xs. (n : ℕ) → number_at xs n ≡ n) (sym c.in_ok-push.ensures.items)
      (numbers_next c.loop-number.items.items c.loop-number.number c.loop-number.invariant.long
      c.loop-number.invariant.same);
}
