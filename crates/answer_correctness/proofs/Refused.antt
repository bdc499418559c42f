-- A refused source ends in its refusal alone: a source has one refusal at most, and one that is ready has none.
use Rattle.std.proofs.Common.{◌≡◌, ℕ, List, ap}
use Rattle.std.specs.Prelude.{Err}
use Rattle.command_answers.specs.command_library.fip_base.declared.refusal.Refusal.{Refusal}
use Rattle.command_answers.specs.command_library.command_words.Words.{Command}
use Rattle.command_answers.specs.command_library.command_outcome.declared.failure.Failure.TheVariants as F
use Rattle.command_answers.specs.command_library.command_source.Wanted.{Wanted, Refuses}
use Rattle.command_answers.proofs.command_library.command_source.Once.{refused_once, refused_not_ready}
use Rattle.command_answers.specs.Ends as A
use Rattle.command_answers.specs.Ends.{OnSource}
use Rattle.command_answers.specs.Exec.{End}

pub refused_is_reported : (source input : List ℕ) (c : Command) (w : Wanted) (r : Refusal)
    (e : End) → Refuses source w r → OnSource source input c w e → e ≡ Err (F.Refused r)
refused_is_reported source input c w r _ h (A.Refused q k) =
    ap (λ x. Err (F.Refused x)) (refused_once source w q r k h)
refused_is_reported source input c w r _ h (A.LongInput ready reads long) =
    absurd (refused_not_ready source w r h ready)
refused_is_reported source input c w r _ h (A.Ready e ready taken does) = absurd (refused_not_ready source w r h ready)
