use Rattle.std.proofs.Common.{sym, ◌∙◌}
use Rattle.kind_domain.proofs.LentLists.{none_true, kept_got}
use Rattle.kind_domain.proofs.lents.Lents.new.Goals as goal

pub invariant_of-result : goal.invariant_of-result
invariant_of-result c = record {
  reached_long = c.in_ok-nones.ensures.long ∙ sym c.in_ok-zeros.ensures.long;
  long = c.in_ok-new.ensures.long ∙ sym c.in_ok-zeros.ensures.long;
  many = sym (none_true c.in_ok-new.field-0 c.in_ok-new.ensures.unmarked);
  lists = λ q e. absurd (c.in_ok-new.ensures.unmarked q e);
  marks = λ q e. absurd (cc);
  only = λ q d e. absurd (c.in_ok-nones.ensures.none q d (kept_got _ q d e));
}
