use Rattle.std.proofs.Common.{◌∙◌, sym, ap, subst, map, arith}
use Rattle.std.specs.Prelude.{Some}
use Rattle.kind_domain.specs.cell_code.Plain.{plain_label, plain_function}
use Rattle.kind_domain.specs.Busy.{busy_in}
use Rattle.kind_domain.specs.Busy.{AreAsked}
use Rattle.register_kinds.specs.Kept.{IsKept}
use Rattle.kind_domain.specs.Views.{kinds_of}
use Rattle.register_kinds.proofs.Entered.{entered, entered_long}
use Rattle.kind_domain.proofs.Places.{kinds_long}
use Rattle.register_kinds.proofs.registers.Registers.enter.Goals as goal

pub new-requires : goal.new-requires
new-requires c = record {
  many = let l = entered_long c.args.table.now (plain_function c.args.function.now) (kinds_of c.in_ok-known.known.items)
      c.requires.formed c.in_ok-known.ensures.is in
      let k = kinds_long c.in_ok-known.known.items in
      omega arith;
}

pub invariant_of-result : goal.invariant_of-result
invariant_of-result c =
    subst (λ ls. IsKept c.in_ok-new.field-0 (map plain_label ls) c.in_ok-new-2.field-0
    c.in_ok-new-3.field-0 c.in_ok-new-4.field-0 c.in_ok-new-5.field-0 (Some c.in_ok-new-6.field-0) c.in_ok-new-7.field-0 c.count_known-busy.result
    c.in_ok-asked_by.field-0.items c.in_ok-new-8.field-0)
    (sym c.deref-2.ensures.value)
    (entered c.args.table.now (plain_function c.args.function.now) c.in_ok-new.field-0
    c.in_ok-new-2.field-0 c.in_ok-new-3.field-0 c.in_ok-new-4.field-0 c.in_ok-new-5.field-0 (Some c.in_ok-new-6.field-0) c.in_ok-new-7.field-0
    c.count_known-busy.result c.in_ok-asked_by.field-0.items c.in_ok-new-8.field-0 c.requires.formed
    (c.in_ok-new.ensures.is ∙ c.in_ok-known.ensures.is) (omega arith) c.in_ok-new-2.ensures.room
    c.in_ok-new-7.ensures.none
    (c.count_known-busy.ensures.is ∙ ap (λ ks. busy_in (kinds_of ks)) c.deref.ensures.value
    ∙ ap busy_in (sym c.in_ok-new.ensures.is))
    (subst (λ ls. AreAsked (map plain_label ls) c.in_ok-asked_by.field-0.items) c.deref-3.ensures.value
    c.in_ok-asked_by.ensures.asks)
    (c.in_ok-new-8.ensures.maps ∙ ap (map plain_label) c.deref-4.ensures.value) c.in_ok-new-8.ensures.none)
