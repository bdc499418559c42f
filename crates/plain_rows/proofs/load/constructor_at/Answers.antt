use Rattle.std.proofs.Common.{arith, ap, sym, ◌∙◌}
use Rattle.std.specs.Prelude.{slice_get}
use Rattle.value_text.proofs.Printing.{index_is, past_is, past_types}
use Rattle.plain_rows.proofs.load.constructor_at.Goals as goal

pub returns-then-ty-len-clause-none : goal.returns-then-ty-len-clause-none
returns-then-ty-len-clause-none c = past_types c.args.table.now c.args.ty c.args.tag (let h = c.if-ty-len.true in let k = c.len.ensures in omega (arith, h, k))

pub returns-then-tag-constructors-clause-some : goal.returns-then-tag-constructors-clause-some
returns-then-tag-constructors-clause-some c = ap (λ ss. slice_get ss c.args.tag) (sym c.constructors_of-constructors.ensures.same) ∙ index_is c.constructors_of-constructors.result.now c.args.tag c.index-constructors-tag.result (let h = c.if-tag-constructors.true in omega (arith, h)) c.index-constructors-tag.is

pub returns-else-tag-constructors-clause-none : goal.returns-else-tag-constructors-clause-none
returns-else-tag-constructors-clause-none c = ap (λ ss. slice_get ss c.args.tag) (sym c.constructors_of-constructors.ensures.same) ∙ past_is c.constructors_of-constructors.result.now c.args.tag (let h = c.if-tag-constructors.false in omega (arith, h))
