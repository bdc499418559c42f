use Rattle.std.proofs.Common.{ap, ◌∙◌}
use Rattle.std.specs.Prelude.{Err}
use Rattle.fip_language.specs.Values.{End}
use Rattle.value_text.specs.Loaded.{wanted}
use Rattle.value_text.proofs.CreditsMade.{nothing_built, credits_made, only_memory}
use Rattle.value_text.proofs.single.make_credits.Goals as goal

pub returns-in-Ok-clause-makes : goal.returns-in-Ok-clause-makes
returns-in-Ok-clause-makes c = λ given.
    let ks = c.args.credits.now in
    let first = c.args.loader in
    let none = nothing_built (wanted ks End) first c.new-words.result.items c.left-left.ensures.flags c.new-words.ensures.items in
    credits_made ks first c.add_credits.new.loader c.add_credits.new.words.items (c.in-Ok.ensures.made given first End none)

pub returns-in-Err-clause-complete : goal.returns-in-Err-clause-complete
returns-in-Err-clause-complete c = λ given fits.
    let ks = c.args.credits.now in
    let first = c.args.loader in
    let none = nothing_built (wanted ks End) first c.new-words.result.items c.left-left.ensures.flags c.new-words.ensures.items in
    c.error_of.ensures ∙ only_memory c.in-Err.e (λ k e. c.in-Err.ensures.value k (ap Err e)) (λ e. c.in-Err.ensures.full given (ap Err e) first End fits none)
