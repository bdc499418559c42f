use Rattle.std.proofs.Common.{◌+◌, sym, ap, ◌∙◌, length, map, subst}
use Rattle.std.specs.Prelude.{slice_get}
use Rattle.cell_code.specs.Plain.{plain_label}
use Rattle.kind_domain.specs.Busy.{AreAsked}
use Rattle.kind_domain.proofs.AskedMaps.{label_get}
use Rattle.kind_domain.proofs.AskedMaps.{asked_more, long_one}
use Rattle.kind_domain.proofs.asked.asked_by.Goals as goal

pub loop-label-preserved : goal.loop-label-preserved
loop-label-preserved c =
    let xs = c.loop-label.asked.items in
    let x = c.in_ok-asked_of.field-0 in
    record {
      long = ap length c.in_ok-push.ensures.items ∙ long_one xs x ∙ ap (λ n. n + 1) c.loop-label.invariant.long;
      asks = subst (AreAsked (map plain_label c.args.labels.now)) (sym c.in_ok-push.ensures.items)
          (asked_more (map plain_label c.args.labels.now) xs x (plain_label c.label-item.result)
          c.loop-label.invariant.asks
          (ap (slice_get (map plain_label c.args.labels.now)) c.loop-label.invariant.long
          ∙ label_get c.args.labels.now c.loop-label.label-index c.label-item.result _ c.loop-label-test.true
          c.label-item.is) c.in_ok-asked_of.ensures.is);
    }
