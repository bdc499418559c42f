use Rattle.std.proofs.Common.{◌≡◌, rules, subst, sym, ap, ◌∙◌, ◌+◌, arith, drop, slice_get, slice_set}
use Rattle.std.specs.declared.vec.Vec.{Vec}
use Rattle.std.specs.declared.alloc.Global.{Global}
use Rattle.cell_code.specs.declared.kind.Kind.{Kind}
use Rattle.match_knowledge.specs.View.{known, knowns}
use Rattle.lower_parts.specs.lowering_relation.Spots as S
use Rattle.lower_parts.specs.lowering_relation.Reading.{contains}
use Rattle.lower_parts.specs.lower_frame.Positions.{spot_of, spot_at, past}
use Rattle.lower_parts.specs.Overlays.{overlaid_all, field_overlaid, part_reported}
use Rattle.lower_parts.specs.Writing.{setting}
use Rattle.lower_parts.proofs.Folding.{item, field_there, register_is}
use Rattle.lower_parts.proofs.Overlaying.{missing, overlay_skips, overlay_next, field_missing, field_none, field_skipped, field_reported}
use Rattle.cell_lower.proofs.lowerer.Lowerer.+overlay.Goals as goal
use Rattle.cell_lower.proofs.lowerer.Lowerer.+overlay.Goals.{overlay_all-in-None, overlay_all-in-Some+in_ok-overlay_field-in-Some}

pub overlay_all-loop-part-preserved : goal.overlay_all-loop-part-preserved
overlay_all-loop-part-preserved t c = record {
  place = ap (λ n. n + 1) c.loop-part.invariant.place;
  kinds = elim c.match-get.branch [
    | overlay_all-in-None w ↦
        ap (λ (v : Vec Kind Global). overlaid_all (setting c.args.self.now.context.now) c.args.overlay.root c.args.overlay.read.now (drop (c.loop-part.part-index + 1) c.args.types.now) (knowns (drop (c.loop-part.part-index + 1) c.args.parts.now)) (past (c.loop-part.part-index + 1) (S.fields (spot_of c.args.spot.now))) (S.register (spot_of c.args.spot.now)) (c.loop-part.part-index + 1) v.items) w.kinds-is
        ∙ overlay_skips (setting c.args.self.now.context.now) c.args.overlay.root c.args.overlay.read.now (S.register (spot_of c.args.spot.now)) c.args.types.now c.args.parts.now (S.fields (spot_of c.args.spot.now)) c.loop-part.part-index (c.loop-part.part-index + 1) c.loop-part.kinds.items (omega arith)
        (ap (slice_get c.args.types.now) (sym c.loop-part.invariant.place) ∙ missing c.args.types.now c.loop-part.field w.in-None.ensures.lookup.3) ∙ c.loop-part.invariant.kinds
    | overlay_all-in-Some+in_ok-overlay_field-in-Some w ↦
        ap (λ (v : Vec Kind Global). overlaid_all (setting c.args.self.now.context.now) c.args.overlay.root c.args.overlay.read.now (drop (c.loop-part.part-index + 1) c.args.types.now) (knowns (drop (c.loop-part.part-index + 1) c.args.parts.now)) (past (c.loop-part.part-index + 1) (S.fields (spot_of c.args.spot.now))) (S.register (spot_of c.args.spot.now)) (c.loop-part.part-index + 1) v.items) w.kinds-is
        ∙ overlay_next (setting c.args.self.now.context.now) c.args.overlay.root c.args.overlay.read.now (S.register (spot_of c.args.spot.now)) c.args.types.now c.args.parts.now (S.fields (spot_of c.args.spot.now)) c.loop-part.part-index (c.loop-part.part-index + 1) w.in-Some.ty.now c.part-item.result c.loop-part.kinds.items w.overlay_field.new.kinds.items (omega arith)
        (ap (slice_get c.args.types.now) (sym c.loop-part.invariant.place) ∙ item c.args.types.now c.loop-part.field w.in-Some.ty.now w.in-Some.ensures.lookup.3.0 w.in-Some.ensures.lookup.1)
        (item c.args.parts.now c.loop-part.part-index c.part-item.result c.loop-part-test.true c.part-item.is)
        (subst (λ n. w.overlay_field.new.kinds.items ≡ field_overlaid (setting c.args.self.now.context.now) c.args.overlay.root c.args.overlay.read.now w.in-Some.ty.now (known c.part-item.result) (spot_at (S.fields (spot_of c.args.spot.now)) n) (S.register (spot_of c.args.spot.now)) n c.loop-part.kinds.items) c.loop-part.invariant.place w.in_ok-overlay_field-in-Some.ensures.kinds)
        ∙ c.loop-part.invariant.kinds
  ];
}

pub overlay_field-returns-in-None : goal.overlay_field-returns-in-None
overlay_field-returns-in-None t c = record {
  kinds = field_none (setting c.args.self.now.context.now) c.args.overlay.root c.args.overlay.read.now c.args.ty (known c.args.part.now) (S.register (spot_of c.args.spot.now)) c.args.field (spot_at (S.fields (spot_of c.args.spot.now)) c.args.field) c.args.kinds.now.items
      (field_missing c.args.spot.now c.args.field (ap (λ z. slice_get z c.args.field) (sym c.deref.ensures.value) ∙ missing c.deref.result.now c.args.field c.in-None.ensures.lookup.3));
}

pub overlay_field-returns-in_ok-overlay_fields-in-Some : goal.overlay_field-returns-in_ok-overlay_fields-in-Some
overlay_field-returns-in_ok-overlay_fields-in-Some t c = record {
  kinds = field_reported (setting c.args.self.now.context.now) c.args.overlay.root c.args.overlay.read.now c.args.ty (known c.args.part.now) (S.register (spot_of c.args.spot.now)) c.args.field (spot_at (S.fields (spot_of c.args.spot.now)) c.args.field) (spot_of c.in-Some.child.now) c.args.kinds.now.items c.set_kind.new.kinds.items c.overlay_fields.new.kinds.items
      (field_there c.args.spot.now c.args.field c.in-Some.child.now (ap (λ z. slice_get z c.args.field) (sym c.deref.ensures.value) ∙ item c.deref.result.now c.args.field c.in-Some.child.now c.in-Some.ensures.lookup.3.0 c.in-Some.ensures.lookup.1))
      (ap (λ z. contains z c.args.overlay.read.now) (sym (register_is c.in-Some.child.now)) ∙ sym c.contains.ensures ∙ c.if-contains.true)
      (c.set_kind.ensures.set ∙ ap (λ z. slice_set c.args.kinds.now.items z c.in_ok-kind-in-Some.kind) (register_is c.in-Some.child.now)
      ∙ ap (slice_set c.args.kinds.now.items (S.register (spot_of c.in-Some.child.now))) (c.in_ok-kind-in-Some.ensures.kind
      ∙ ap (λ z. part_reported (setting c.args.self.now.context.now) c.args.overlay.root c.args.ty (known c.args.part.now) z c.in_ok-map_err-in-Some.field-0) (register_is c.args.spot.now)
      ∙ ap (part_reported (setting c.args.self.now.context.now) c.args.overlay.root c.args.ty (known c.args.part.now) (S.register (spot_of c.args.spot.now))) (search rules)))
      c.in_ok-overlay_fields-in-Some.ensures.kinds;
}

pub overlay_field-returns-else-contains : goal.overlay_field-returns-else-contains
overlay_field-returns-else-contains t c = record {
  kinds = field_skipped (setting c.args.self.now.context.now) c.args.overlay.root c.args.overlay.read.now c.args.ty (known c.args.part.now) (S.register (spot_of c.args.spot.now)) c.args.field (spot_at (S.fields (spot_of c.args.spot.now)) c.args.field) (spot_of c.in-Some.child.now) c.args.kinds.now.items
      (field_there c.args.spot.now c.args.field c.in-Some.child.now (ap (λ z. slice_get z c.args.field) (sym c.deref.ensures.value) ∙ item c.deref.result.now c.args.field c.in-Some.child.now c.in-Some.ensures.lookup.3.0 c.in-Some.ensures.lookup.1))
      (ap (λ z. contains z c.args.overlay.read.now) (sym (register_is c.in-Some.child.now)) ∙ sym c.contains.ensures ∙ c.if-contains.false);
}
