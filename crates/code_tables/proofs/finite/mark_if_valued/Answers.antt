use Rattle.std.proofs.Common.{◌≡◌, ◌∙◌, sym, ap, ap₂, subst, arith, ◌<◌, true, false}
use Rattle.fip_language.specs.Table.{constructors}
use Rattle.code_tables.specs.Marks.{AreMarks, has_marked, is_marked, unmarked}
use Rattle.code_tables.proofs.Marked.{marked, value_of_row, fewer}
use Rattle.code_tables.proofs.finite.mark_if_valued.Goals as goal

pub returns-clause-marks : goal.returns-clause-marks
returns-clause-marks c =
    let w = c.args.types.now in
    let marks = c.args.marks.now.items in
    let has : has_marked marks (constructors w c.args.ty) ≡ true =
    ap₂ has_marked (sym c.deref-else-is_marked.ensures.value) (sym c.constructors_of.ensures.same)
    ∙ (sym c.has_marked.ensures ∙ c.if-not-has_marked.false) in
    subst (AreMarks w) (sym c.mark.ensures)
    (marked w marks c.args.ty c.requires.marks (value_of_row w marks c.args.ty c.requires.marks has))

pub returns-clause-fewer : goal.returns-clause-fewer
returns-clause-fewer c =
    let marks = c.args.marks.now.items in
    let none : is_marked marks c.args.ty ≡ false =
    ap (λ m. is_marked m c.args.ty) (sym c.deref.ensures.value) ∙ (sym c.is_marked.ensures ∙ c.if-is_marked.false) in
    let size = c.requires.marks.size in
    let high = c.requires.there.1 in
    λ e. subst (λ m. unmarked m < unmarked marks) (sym c.mark.ensures) (fewer marks c.args.ty none (omega (arith, size, high)))
