use Rattle.std.proofs.Common.{rules, subst, sym, ap, ◌∙◌, ◌+◌, arith}
use Rattle.fip_trees.specs.TreeView.{pattern}
use Rattle.lower_parts.specs.lowering_relation.Spots as S
use Rattle.lower_parts.specs.lowering_relation.Opening.{names_any, naming}
use Rattle.lower_parts.specs.lowering_relation.Reading.{read_one}
use Rattle.lower_parts.specs.lower_frame.Positions.{spot_of}
use Rattle.lower_parts.specs.Scenes.{AtSpot, naming_part, reading_of}
use Rattle.lower_parts.proofs.Folding.{read_next, item, if_true, if_false, field_there, read_is}
use Rattle.cell_lower.proofs.lowerer.Lowerer.+naming.Goals as goal

pub read_field-returns-then-not-names_any-clause-reads : goal.read_field-returns-then-not-names_any-clause-reads
read_field-returns-then-not-names_any-clause-reads t c = record {
  spot = spot_of c.in_ok-field.field.now;
  there = field_there c.args.spot.now c.args.place c.in_ok-field.field.now c.in_ok-field.ensures.there;
  is = sym (if_false (names_any (pattern c.args.part.now)) (naming (pattern c.args.part.now) (spot_of c.in_ok-field.field.now) (read_one (reading_of c.args.self.now.buffer c.args.read.now.items) (S.register (spot_of c.args.spot.now)) c.args.place (S.register (spot_of c.in_ok-field.field.now)))) (reading_of c.args.self.now.buffer c.args.read.now.items) (sym c.names_any.ensures ∙ c.if-not-names_any.true));
}

pub read_field-returns-clause-reads : goal.read_field-returns-clause-reads
read_field-returns-clause-reads t c = record {
  spot = spot_of c.in_ok-field.field.now;
  there = field_there c.args.spot.now c.args.place c.in_ok-field.field.now c.in_ok-field.ensures.there;
  is = c.in_ok-read_named.ensures.reads ∙ ap (naming (pattern c.args.part.now) (spot_of c.in_ok-field.field.now)) (read_is (reading_of c.args.self.now.buffer c.args.read.now.items) (reading_of c.read.new.self.buffer c.read.new.read.items) c.args.spot.now c.in_ok-field.field.now c.args.place c.in_ok-read.ensures.reads)
      ∙ sym (if_true (names_any (pattern c.args.part.now)) (naming (pattern c.args.part.now) (spot_of c.in_ok-field.field.now) (read_one (reading_of c.args.self.now.buffer c.args.read.now.items) (S.register (spot_of c.args.spot.now)) c.args.place (S.register (spot_of c.in_ok-field.field.now)))) (reading_of c.args.self.now.buffer c.args.read.now.items) (sym c.names_any.ensures ∙ c.if-not-names_any.false));
}

pub read_fields-loop-part-preserved : goal.read_fields-loop-part-preserved
read_fields-loop-part-preserved t c = record {
  place = search rules;
  reads = read_next (S.register (spot_of c.args.spot.now)) c.args.patterns.now (S.fields (spot_of c.args.spot.now)) c.loop-part.part-index c.loop-part.place (c.loop-part.part-index + 1) c.part-item.result (reading_of c.loop-part.self.buffer c.loop-part.read.items) (reading_of c.read_field.new.self.buffer c.read_field.new.read.items) c.loop-part.invariant.place (omega arith) (item c.args.patterns.now c.loop-part.part-index c.part-item.result c.loop-part-test.true c.part-item.is)
      (subst (λ z. AtSpot (naming_part (S.register (spot_of c.args.spot.now)) z (pattern c.part-item.result)) (S.fields (spot_of c.args.spot.now)) c.loop-part.place (reading_of c.loop-part.self.buffer c.loop-part.read.items) (reading_of c.read_field.new.self.buffer c.read_field.new.read.items)) c.loop-part.invariant.place c.in_ok-read_field.ensures.reads) ∙ c.loop-part.invariant.reads;
  frame = c.in_ok-read_field.ensures.frame ∙ c.loop-part.invariant.frame;
  context = c.in_ok-read_field.ensures.context ∙ c.loop-part.invariant.context;
  gives_up = c.in_ok-read_field.ensures.gives_up ∙ c.loop-part.invariant.gives_up;
  walk = c.in_ok-read_field.ensures.walk ∙ c.loop-part.invariant.walk;
}
