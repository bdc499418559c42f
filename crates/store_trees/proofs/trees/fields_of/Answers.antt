use Rattle.std.proofs.Common.{◌∙◌, ap, arith}
use Rattle.std.specs.Prelude.{slice_get}
use Rattle.store_trees.proofs.Walking.{no_fields_past, no_fields_after, fields_there}
use Rattle.store_trees.proofs.trees.fields_of.Goals as goal

pub returns-then-ty-len : goal.returns-then-ty-len
returns-then-ty-len c = λ s e. absurd (no_fields_past c.args.table.now c.args.ty c.args.constructor s (let h = c.if-ty-len.true in let k = c.len.ensures.count in omega (arith, h, k)) e)

pub returns-then-constructor-constructors : goal.returns-then-constructor-constructors
returns-then-constructor-constructors c = λ s e. c.fields.ensures.same
    ∙ fields_there c.constructors_of-constructors.result.now c.args.constructor c.index-constructors-constructor.result s (let h = c.if-constructor-constructors.true in omega (arith, h)) c.index-constructors-constructor.is (ap (λ ss. slice_get ss c.args.constructor) c.constructors_of-constructors.ensures.same ∙ e)

pub returns-else-constructor-constructors : goal.returns-else-constructor-constructors
returns-else-constructor-constructors c = λ s e. absurd (no_fields_after c.constructors_of-constructors.result.now c.args.constructor s (let h = c.if-constructor-constructors.false in omega (arith, h)) (ap (λ ss. slice_get ss c.args.constructor) c.constructors_of-constructors.ensures.same ∙ e))
