use Rattle.std.proofs.Common.{◌∷◌, ◌++◌, [], ◌<◌, ◌≤◌, List, ℕ, length, sym, ap₂, ◌∙◌, arith}
use Rattle.std.proofs.lemmas.List.{take_more}
use Rattle.value_text.proofs.Credits.{take_whole}
use Rattle.value_text.proofs.scan.all_alike.Goals as goal

pub loop-i-preserved : goal.loop-i-preserved
loop-i-preserved c =
    let lt : c.loop-i.i < length c.args.text.now = let h = c.loop-i-test.true in omega (arith, h) in
    let other : c.loop-i.i < length c.args.other.now = let h = c.requires in omega (arith, h, lt) in
    take_more c.args.text.now c.loop-i.i 0 lt ∙ ap₂ (λ (xs : List ℕ) (x : ℕ). xs ++ x ∷ []) c.loop-i.invariant c.if-text-i.false ∙ sym (take_more c.args.other.now c.loop-i.i 0 other)

pub returns : goal.returns
returns c =
    let le : length c.args.text.now ≤ c.loop-i.i = let h = c.loop-i-test.false in omega (arith, h) in
    let other : length c.args.other.now ≤ c.loop-i.i = let h = c.requires in omega (arith, h, le) in
    λ t. sym (take_whole c.loop-i.i c.args.text.now le) ∙ c.loop-i.invariant ∙ take_whole c.loop-i.i c.args.other.now other
