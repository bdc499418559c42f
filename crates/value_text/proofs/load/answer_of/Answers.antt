use Rattle.std.proofs.Common.{sym, subst}
use Rattle.std.specs.Prelude.{Err}
use Rattle.value_text.specs.Answered.{AllBuilt, IsAnswer}
use Rattle.value_text.proofs.Results.{never_value, never_full}
use Rattle.value_text.proofs.load.answer_of.Goals as goal

pub returns-in-Ok : goal.returns-in-Ok
returns-in-Ok c = λ tb types credits bytes first vs can b. (vs, can, subst (AllBuilt credits first c.args.loader vs) c.in-Ok.is b)

pub returns-in-Err : goal.returns-in-Err
returns-in-Err c = λ tb types credits bytes first vs can b.
    let n = subst (AllBuilt credits first c.args.loader vs) c.in-Err.is b in
    subst (λ e. IsAnswer tb types credits bytes first (Err e)) (sym (c.error_of.ensures (λ k e. never_value credits first c.args.loader vs c.in-Err.e k n e) (λ e. never_full credits first c.args.loader vs c.in-Err.e n e))) tt
