use Rattle.std.proofs.Common.{ℕ, List, [], ◌∷◌, ◌++◌, ◌+◌, ◌≡◌, ◌∙◌, ap, suc, arith}
use Rattle.derivation_walk.specs.Tables.{zeros}
use Rattle.derivation_walk.proofs.UsesRows.{zeros_more}
use Rattle.derivation_walk.proofs.uses.zeros.Goals as goal

pub loop-i-preserved : goal.loop-i-preserved
loop-i-preserved c =
    let s : suc c.loop-i.i ≡ c.loop-i.i + 1 = omega arith in
    c.in_ok-push.ensures.items ∙ ap (λ (xs : List ℕ). xs ++ 0 ∷ []) c.loop-i.invariant ∙ zeros_more c.loop-i.i ∙ ap zeros s
