use Rattle.std.proofs.Common.{ap, ◌∙◌, ◌++◌, ◌∷◌, [], true}
use Rattle.data_types.proofs.Rooting.{trues_more}
use Rattle.data_types.proofs.valued.trues.Goals as goal

pub loop-preserved : goal.loop-preserved
loop-preserved c = c.in_ok-push.ensures.items ∙ ap (λ bs. bs ++ true ∷ []) c.loop.invariant ∙ trues_more c.loop.counter
