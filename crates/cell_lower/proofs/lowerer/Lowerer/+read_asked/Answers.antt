use Rattle.std.proofs.Common.{◌≡◌, subst, sym, ap, ◌∙◌, Some, slice_get}
use Rattle.match_knowledge.specs.View.{row, known, parts, knowns}
use Rattle.match_knowledge.specs.Patterns as M
use Rattle.lower_parts.specs.lowering_relation.Reading.{asked, reading}
use Rattle.lower_parts.specs.lower_frame.Positions.{spot_of}
use Rattle.lower_parts.specs.Scenes.{asked_of, asking, reading_of}
use Rattle.lower_parts.proofs.Folding.{asked_in, reading_in, field_there, read_is, row_test, known_is}
use Rattle.cell_lower.proofs.lowerer.Lowerer.+read_asked.Goals as goal

pub returns-in_ok-asked-in-Is-clause-asks : goal.returns-in_ok-asked-in-Is-clause-asks
returns-in_ok-asked-in-Is-clause-asks t c =
    ap (λ x. asked x (known c.args.known.now) (spot_of c.args.spot.now)) (ap row c.in-Test.is ∙ row_test c.in-Test.ty c.in-Test.head c.in-Test.parts) ∙ ap (λ x. asked (M.Test c.in-Test.ty c.in-Test.head (parts c.in-Test.parts.items)) x (spot_of c.args.spot.now)) (ap known c.in-Is.is ∙ known_is c.in-Is.field-0 c.in-Is.knowns)
    ∙ asked_in c.in-Test.ty c.in-Test.head c.in-Is.field-0 c.in-Test.parts.items c.in-Is.knowns.items (spot_of c.args.spot.now) c.asking_at-field.result c.row_at-part.result.now c.known_at-part_known.result.now (spot_of c.in_ok-part_spot-in-Is.part_spot.now) (Some (asked_of c.in_ok-asked-in-Is.asked))
    (subst (λ x. asking (parts x) (knowns c.in-Is.knowns.items) 0 ≡ Some c.asking_at-field.result) c.as_slice.ensures.value (subst (λ x. asking (parts c.as_slice.result.now) (knowns x) 0 ≡ Some c.asking_at-field.result) c.as_slice-in-Is.ensures.value c.asking_at-field.ensures.first))
    (subst (λ x. slice_get x c.asking_at-field.result ≡ Some c.row_at-part.result.now) c.as_slice-in-Is-2.ensures.value c.row_at-part.ensures.row)
    (subst (λ x. slice_get x c.asking_at-field.result ≡ Some c.known_at-part_known.result.now) c.as_slice-in-Is-3.ensures.value c.known_at-part_known.ensures.known)
    (field_there c.args.spot.now c.asking_at-field.result c.in_ok-part_spot-in-Is.part_spot.now c.in_ok-part_spot-in-Is.ensures.there)
    c.in_ok-asked-in-Is.ensures.asks

pub returns-in_ok-asked-in-Is-clause-reads : goal.returns-in_ok-asked-in-Is-clause-reads
returns-in_ok-asked-in-Is-clause-reads t c =
    reading_in c.in-Test.ty c.in-Test.head c.in-Is.field-0 c.in-Test.parts.items c.in-Is.knowns.items (spot_of c.args.spot.now) c.asking_at-field.result c.row_at-part.result.now c.known_at-part_known.result.now (spot_of c.in_ok-part_spot-in-Is.part_spot.now) (reading_of c.args.self.now.buffer c.args.read.now.items) (reading_of c.read.new.self.buffer c.read.new.read.items) (reading_of c.read_asked.new.self.buffer c.read_asked.new.read.items)
    (subst (λ x. asking (parts x) (knowns c.in-Is.knowns.items) 0 ≡ Some c.asking_at-field.result) c.as_slice.ensures.value (subst (λ x. asking (parts c.as_slice.result.now) (knowns x) 0 ≡ Some c.asking_at-field.result) c.as_slice-in-Is.ensures.value c.asking_at-field.ensures.first))
    (subst (λ x. slice_get x c.asking_at-field.result ≡ Some c.row_at-part.result.now) c.as_slice-in-Is-2.ensures.value c.row_at-part.ensures.row)
    (subst (λ x. slice_get x c.asking_at-field.result ≡ Some c.known_at-part_known.result.now) c.as_slice-in-Is-3.ensures.value c.known_at-part_known.ensures.known)
    (field_there c.args.spot.now c.asking_at-field.result c.in_ok-part_spot-in-Is.part_spot.now c.in_ok-part_spot-in-Is.ensures.there)
    (read_is (reading_of c.args.self.now.buffer c.args.read.now.items) (reading_of c.read.new.self.buffer c.read.new.read.items) c.args.spot.now c.in_ok-part_spot-in-Is.part_spot.now c.asking_at-field.result c.in_ok-read-in-Is.ensures.reads) c.in_ok-asked-in-Is.ensures.reads
    ∙ sym (ap (λ x. reading x (known c.args.known.now) (spot_of c.args.spot.now) (reading_of c.args.self.now.buffer c.args.read.now.items)) (ap row c.in-Test.is ∙ row_test c.in-Test.ty c.in-Test.head c.in-Test.parts) ∙ ap (λ x. reading (M.Test c.in-Test.ty c.in-Test.head (parts c.in-Test.parts.items)) x (spot_of c.args.spot.now) (reading_of c.args.self.now.buffer c.args.read.now.items)) (ap known c.in-Is.is ∙ known_is c.in-Is.field-0 c.in-Is.knowns))
