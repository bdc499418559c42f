use Rattle.std.proofs.Common.{◌∙◌, sym, ap, arith}
use Rattle.std.specs.Prelude.{slice_get}
use Rattle.std.proofs.lemmas.Option.{none-some, same_Some}
use Rattle.fip_language.specs.Table.{Shape}
use Rattle.command_tasks.proofs.command_run.value_text.Printing.{index_is, past_is, past_types}
use Rattle.command_library.proofs.keys.fields_of.Goals as goal

pub returns-then-ty-len : goal.returns-then-ty-len
returns-then-ty-len c = record {
  fields = λ s e. absurd (none-some s (sym (past_types c.args.table.now c.args.ty c.args.tag (let h = c.if-ty-len.true in let k = c.len.ensures in omega (arith, h, k))) ∙ e));
}

pub returns-then-tag-constructors : goal.returns-then-tag-constructors
returns-then-tag-constructors c = record {
  fields = λ s e.
      let at = ap (λ ss. slice_get ss c.args.tag) (sym c.constructors_of-constructors.ensures.same) ∙ index_is c.constructors_of-constructors.result.now c.args.tag c.index-constructors-tag.result (let h = c.if-tag-constructors.true in omega (arith, h)) c.index-constructors-tag.is in
      c.fields.ensures.same ∙ ap (λ (s : Shape). s.fields) (same_Some c.index-constructors-tag.result s (sym at ∙ e));
}

pub returns-else-tag-constructors : goal.returns-else-tag-constructors
returns-else-tag-constructors c = record {
  fields = λ s e.
      let none = ap (λ ss. slice_get ss c.args.tag) (sym c.constructors_of-constructors.ensures.same) ∙ past_is c.constructors_of-constructors.result.now c.args.tag (let h = c.if-tag-constructors.false in omega (arith, h)) in
      absurd (none-some s (sym none ∙ e));
}
