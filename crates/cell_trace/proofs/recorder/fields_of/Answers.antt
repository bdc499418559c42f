use Rattle.std.proofs.Common.{◌≡◌, ◌∙◌, [], ◌∷◌, ◌++◌, Some, length, take, sym, ap, subst, arith}
use Rattle.std.specs.Prelude.{slice_get, option_map, option_and_then}
use Rattle.std.proofs.lemmas.List.{take_all, take_more}
use Rattle.std.proofs.lemmas.Option.{same_Some, slice_get_within, get_or_from_slice_get}
use Rattle.fip_base.specs.fip_language.Store.{Cell}
use Rattle.cell_store.specs.Cells.{size_of}
use Rattle.cell_trace.proofs.recorder.fields_of.Goals as goal

pub loop-i-preserved : goal.loop-i-preserved
loop-i-preserved c d at =
    let i = c.loop-i.i in
    let word = c.field.result in
    let read = subst (λ o. option_and_then (λ (x : Cell). slice_get x.fields i) o ≡ Some word) at c.field.ensures in
    let lt = slice_get_within d.fields i word read in
    c.in_ok-push.ensures.items ∙ ap (λ ws. ws ++ word ∷ []) (c.loop-i.invariant d at) ∙ ap (λ w. take i d.fields ++ w ∷ []) (sym (get_or_from_slice_get d.fields i word 0 read)) ∙ sym (take_more d.fields i 0 lt)

pub returns-clause-fields : goal.returns-clause-fields
returns-clause-fields c d at =
    let size : length d.fields ≡ c.cell_size-size.result = same_Some (length d.fields) c.cell_size-size.result (sym (ap (option_map size_of) at) ∙ c.cell_size-size.ensures.size) in
    let past = c.loop-i-test.false in
    c.loop-i.invariant d at ∙ take_all c.loop-i.i d.fields (omega (arith, size, past))
