use Rattle.std.proofs.Common.{◌≡◌, ◌∙◌, ◌+◌, sym, ap, subst, refl, OnOk, List, [], ◌∷◌, length, map, drop, arith, drop_of_length-le, le_of_eq}
use Rattle.std.proofs.lemmas.List.{map-append}
use Rattle.fip_base.specs.CoreView.{written, writtens}
use Rattle.fip_base.specs.declared.core_form.Written.{Written}
use Rattle.data_types.specs.Types.{MoreTys}
use Rattle.fip_language.specs.Core.{WrittenName}
use Rattle.data_types.specs.Declarations.{all_looked_up, count_tys}
use Rattle.data_types.specs.Faults.{written_faults, writtens_faults}
use Rattle.data_types.specs.Numbered.{is_numbered}
use Rattle.data_types.specs.View.{ty}
use Rattle.data_types.proofs.CoreForms.{onto, onto_push, onto_none, written_named, named_noted}
use Rattle.data_types.proofs.Numbers.{all_true_then}
use Rattle.data_types.proofs.Shared.{count_looked_up}
use Rattle.data_types.proofs.Repeats.{walk_step, drop_item}
use Rattle.data_types.proofs.written.Scope.+written.Goals as goal

pub look_up_all-loop-written-preserved : goal.look_up_all-loop-written-preserved
look_up_all-loop-written-preserved t c =
    let rest = all_looked_up c.args.self.now (writtens (drop (c.loop-written.written-index + 1) c.args.list.now)) in
    let old = map ty c.loop-written.found.items in
    record {
      found =
          ap (λ l. onto (map ty l) rest) c.in_ok-push.ensures.items
          ∙ ap (λ l. onto l rest) (map-append ty c.loop-written.found.items (c.in_ok-look_up.field-0 ∷ []))
          ∙ onto_push old (ty c.in_ok-look_up.field-0) rest
          ∙ ap (λ y. onto old (MoreTys y rest)) c.in_ok-look_up.ensures.found
          ∙ ap (λ (xs : List Written). onto old (all_looked_up c.args.self.now (writtens xs))) (sym (drop_item c.args.list.now c.loop-written.written-index c.written-item.result c.loop-written-test.true c.written-item.is))
          ∙ c.loop-written.invariant.found;
      numbered = λ n. all_true_then is_numbered c.loop-written.found.items _ c.in_ok-look_up.field-0 c.in_ok-push.ensures.items (c.loop-written.invariant.numbered n) (c.in_ok-look_up.ensures.numbered n);
      faults =
          walk_step (λ w. written_faults c.args.self.now (written w)) (λ ws. writtens_faults c.args.self.now (writtens ws)) (λ (x : Written) (xs : List Written). refl) c.args.list.now c.loop-written.written-index c.written-item.result c.loop-written.least c.look_up.new.least c.loop-written-test.true c.written-item.is c.in_ok-look_up.ensures.faults
          ∙ c.loop-written.invariant.faults;
    }

pub look_up_all-returns-clause-found : goal.look_up_all-returns-clause-found
look_up_all-returns-clause-found t c =
    let here : c.loop-written.written-index ≡ length c.args.list.now = omega arith in
    sym (onto_none (map ty c.loop-written.found.items))
    ∙ ap (λ (xs : List Written). onto (map ty c.loop-written.found.items) (all_looked_up c.args.self.now (writtens xs))) (sym (drop_of_length-le c.args.list.now (le_of_eq (sym here))))
    ∙ c.loop-written.invariant.found

pub look_up-returns-in_ok-found-in-Named-clause-faults : goal.look_up-returns-in_ok-found-in-Named-clause-faults
look_up-returns-in_ok-found-in-Named-clause-faults t c =
    let s = c.args.self.now in
    let view = ap written c.in-Named.is ∙ written_named c.in-Named.name c.in-Named.place c.in-Named.arguments ∙ ap (λ (ws : List Written). WrittenName c.in-Named.name c.in-Named.place (writtens ws)) (sym c.deref.ensures.value) in
    let count = ap count_tys c.in_ok-found-in-Named.ensures.found ∙ count_looked_up s (writtens c.deref.result.now) in
    subst (λ z. OnOk c.meant.result (c.meant.new.least ≡ z)) (named_noted s (written c.args.written.now) c.as_slice.result.now c.in-Named.name c.in-Named.place (writtens c.deref.result.now) _ c.args.least.now c.look_up_all.new.least view c.as_slice.ensures.same count c.in_ok-found-in-Named.ensures.faults) c.meant.ensures.faults
