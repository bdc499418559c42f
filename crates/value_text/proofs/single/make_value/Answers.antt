use Rattle.std.proofs.Common.{◌≡◌, ◌⊎◌, sym, ap, ◌∙◌, subst}
use Rattle.std.specs.Prelude.{slice_get}
use Rattle.value_text.specs.declared.single.MakeError.{MakeError}
use Rattle.value_text.specs.declared.single.MakeError.TheVariants as M
use Rattle.value_text.proofs.OneValue.{value_made, some_word, made_fits, error_complete, error_too_small, error_place}
use Rattle.value_text.proofs.single.make_value.Goals as goal

pub returns-in-Some-clause-makes : goal.returns-in-Some-clause-makes
returns-in-Some-clause-makes c = λ given.
    value_made c.args.table.now c.args.ty c.args.bytes.now c.args.at given c.args.loader c.build_value.new.loader c.in-Some.word.now c.in-Ok.words (ap (λ ws. slice_get ws 0) (sym c.deref.ensures.value) ∙ sym c.in-Some.ensures.value) (c.in-Ok.ensures given c.left-left.ensures.flags)

pub returns-in-Some-clause-too_small : goal.returns-in-Some-clause-too_small
returns-in-Some-clause-too_small c = λ given v b lt.
    made_fits c.args.table.now c.args.ty c.args.bytes.now c.args.at given c.args.loader c.build_value.new.loader c.in-Ok.words v (c.in-Ok.ensures given c.left-left.ensures.flags) b lt

pub returns-in-Some-clause-outside : goal.returns-in-Some-clause-outside
returns-in-Some-clause-outside c = λ given none.
    let h = c.in-Ok.ensures given c.left-left.ensures.flags in
    none h.0 h.1

pub returns-in-None-clause-complete : goal.returns-in-None-clause-complete
returns-in-None-clause-complete c = λ given v b le.
    absurd (some_word c.args.table.now c.args.ty c.args.bytes.now c.args.at given c.args.loader c.build_value.new.loader c.in-Ok.words (ap (λ ws. slice_get ws 0) (sym c.deref.ensures.value) ∙ sym c.in-None.ensures.value) (c.in-Ok.ensures given c.left-left.ensures.flags))

pub returns-in-None-clause-too_small : goal.returns-in-None-clause-too_small
returns-in-None-clause-too_small c = λ given v b lt.
    absurd (some_word c.args.table.now c.args.ty c.args.bytes.now c.args.at given c.args.loader c.build_value.new.loader c.in-Ok.words (ap (λ ws. slice_get ws 0) (sym c.deref.ensures.value) ∙ sym c.in-None.ensures.value) (c.in-Ok.ensures given c.left-left.ensures.flags))

pub returns-in-None-clause-place : goal.returns-in-None-clause-place
returns-in-None-clause-place c = λ given k e.
    absurd (some_word c.args.table.now c.args.ty c.args.bytes.now c.args.at given c.args.loader c.build_value.new.loader c.in-Ok.words (ap (λ ws. slice_get ws 0) (sym c.deref.ensures.value) ∙ sym c.in-None.ensures.value) (c.in-Ok.ensures given c.left-left.ensures.flags))

pub returns-in-Err-clause-complete : goal.returns-in-Err-clause-complete
returns-in-Err-clause-complete c = λ given v b le. c.error_of.ensures ∙ error_complete c.args.table.now c.args.ty c.args.bytes.now c.args.at given c.args.loader c.build_value.new.loader v c.in-Err.e (c.in-Err.ensures given c.left-left.ensures.flags) b le

pub returns-in-Err-clause-too_small : goal.returns-in-Err-clause-too_small
returns-in-Err-clause-too_small c = λ given v b lt.
    subst (λ (e : MakeError). (e ≡ M.Full) ⊎ (e ≡ M.NoMemory)) (sym c.error_of.ensures) (error_too_small c.args.table.now c.args.ty c.args.bytes.now c.args.at given c.args.loader c.build_value.new.loader v c.in-Err.e (c.in-Err.ensures given c.left-left.ensures.flags) b)

pub returns-in-Err-clause-place : goal.returns-in-Err-clause-place
returns-in-Err-clause-place c = λ given k e.
    let is : c.error_of.result ≡ M.BadValue k = cc in
    error_place c.args.table.now c.args.ty c.args.bytes.now c.args.at given c.args.loader c.build_value.new.loader c.in-Err.e k (c.in-Err.ensures given c.left-left.ensures.flags) (sym c.error_of.ensures ∙ is)
