use Rattle.std.proofs.Common.{◌≤◌, ◌<◌, ◌∷◌, ◌++◌, [], List, length, sym, ap₂, ◌∙◌, arith}
use Rattle.std.proofs.lemmas.List.{take_all, take_more}
use Rattle.cell_code.specs.declared.kind.Kind.{Kind}
use Rattle.code_rows.proofs.alike.are_all_alike.Goals as goal

pub loop-i-preserved : goal.loop-i-preserved
loop-i-preserved c =
    let lt : c.loop-i.i < length c.args.kinds.now = let h = c.loop-i-test.true in omega (arith, h) in
    let other : c.loop-i.i < length c.args.others.now = let h = c.requires in omega (arith, h, lt) in
    let same = sym c.index-kinds-i.is ∙ c.is_alike.ensures c.if-not-is_alike.false ∙ c.index-others-i.is in
    take_more c.args.kinds.now c.loop-i.i c.index-kinds-i.result lt ∙ ap₂ (λ (xs : List Kind) (x : Kind). xs ++ x ∷ []) c.loop-i.invariant same ∙ sym (take_more c.args.others.now c.loop-i.i c.index-others-i.result other)

pub returns : goal.returns
returns c =
    let le : length c.args.kinds.now ≤ c.loop-i.i = let h = c.loop-i-test.false in omega (arith, h) in
    let other : length c.args.others.now ≤ c.loop-i.i = let h = c.requires in omega (arith, h, le) in
    λ t. sym (take_all c.loop-i.i c.args.kinds.now le) ∙ c.loop-i.invariant ∙ take_all c.loop-i.i c.args.others.now other
