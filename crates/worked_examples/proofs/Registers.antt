-- The kinds of the reversal before each instruction, as they are found from the entry on.
use Rattle.std.proofs.Common.{zero, suc, [], ◌∷◌, refl}
use Rattle.source_report.specs.cell_code.declared.kind.Kind.TheVariants.{Gone, Scalar, Credit}
use Rattle.source_report.specs.code_rules.Flow.{KnownAt}
use Rattle.source_report.specs.code_rules.Example.{reversal}
use Rattle.source_report.proofs.code_rules.Known.{is_known, Sure}
use Rattle.worked_examples.specs.Codes.{rev, four_known, a_list, any_list}

rev_sure : Sure reversal rev
rev_sure zero = refl
rev_sure (suc zero) = refl
rev_sure (suc (suc zero)) = refl
rev_sure (suc (suc (suc zero))) = refl
rev_sure (suc (suc (suc (suc zero)))) = refl
rev_sure (suc (suc (suc (suc (suc zero))))) = refl
rev_sure (suc (suc (suc (suc (suc (suc i)))))) = refl

pub before_test : KnownAt reversal rev 0 (four_known any_list any_list Gone Gone)
before_test = is_known reversal rev rev_sure 0 _ refl

pub before_nil_taken : KnownAt reversal rev 1 (four_known (a_list (0 ∷ [])) any_list Gone Gone)
before_nil_taken = is_known reversal rev rev_sure 1 _ refl

pub before_acc_given : KnownAt reversal rev 2 (four_known Gone any_list Gone Gone)
before_acc_given = is_known reversal rev rev_sure 2 _ refl

pub before_cons_taken : KnownAt reversal rev 3 (four_known (a_list (1 ∷ [])) any_list Gone Gone)
before_cons_taken = is_known reversal rev rev_sure 3 _ refl

pub before_cons_put : KnownAt reversal rev 4 (four_known (Credit 2) any_list (Scalar 0) any_list)
before_cons_put = is_known reversal rev rev_sure 4 _ refl

pub before_again : KnownAt reversal rev 5 (four_known (a_list (1 ∷ [])) Gone (Scalar 0) any_list)
before_again = is_known reversal rev rev_sure 5 _ refl

pub ruleset computed = (
  before_test,
  before_nil_taken,
  before_acc_given,
  before_cons_taken,
  before_cons_put,
  before_again,
)
