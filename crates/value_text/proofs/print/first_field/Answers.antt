use Rattle.std.proofs.Common.{◌∷◌, refl}
use Rattle.value_text.specs.Printing.{Whole, fields_of}
use Rattle.value_text.proofs.Printing.{tail_prints, no_field}
use Rattle.value_text.proofs.print.first_field.Goals as goal

pub returns-in-None-field_from_end : goal.returns-in-None-field_from_end
returns-in-None-field_from_end g c = λ tb x xs l h rest ts pr.
    absurd (no_field tb (g.C.Cells.cells c.args.cells.now) c.args.types.now c.in-Some.ty c.in-Some.rest.now c.args.place x xs c.in-Some.ensures h c.in-None-field_from_end.ensures)

pub returns-in-Some-field_from_end : goal.returns-in-Some-field_from_end
returns-in-Some-field_from_end g c = λ tb x xs l h rest ts pr.
    tail_prints tb (g.C.Cells.cells c.args.cells.now) c.args.types.now c.in-Some.ty c.in-Some.rest.now c.args.place x xs c.in-Some-field_from_end.word ts (Whole c.in-Some.ty c.in-Some-field_from_end.word ∷ fields_of c.in-Some.rest.now c.args.place ∷ ts) rest c.in-Some.ensures h c.in-Some-field_from_end.ensures refl pr
