use Rattle.std.proofs.Common.{ℕ, List, ap, sym, subst}
use Rattle.std.specs.Prelude.{Err}
use Rattle.value_text.specs.Loaded.{wanted}
use Rattle.value_text.specs.Building.{IsBuilt}
use Rattle.value_text.proofs.Whole.{not_credited}
use Rattle.value_text.proofs.load.with_credits.Goals as goal

pub returns-in-Ok : goal.returns-in-Ok
returns-in-Ok c = λ a first vs b. c.in-Ok.ensures.made a first vs (subst (λ (ws : List ℕ). IsBuilt (wanted c.args.credits.now vs) first c.args.loader.now vs ws) (sym c.shrink_to_fit.ensures.items) b)

pub returns-in-Err : goal.returns-in-Err
returns-in-Err c = λ a first vs b.
    let same = subst (λ (ws : List ℕ). IsBuilt (wanted c.args.credits.now vs) first c.args.loader.now vs ws) (sym c.shrink_to_fit.ensures.items) b in
    not_credited c.args.credits.now first c.add_credits.new.loader vs c.in-Err.e (λ k e. c.in-Err.ensures.value k (ap Err e)) (λ e f. c.in-Err.ensures.full a (ap Err e) first vs f same)
