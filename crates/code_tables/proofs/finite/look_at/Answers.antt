use Rattle.std.proofs.Common.{◌≡◌, ◌∙◌, sym, ap, subst, true}
use Rattle.code_tables.specs.Marks.{AreMarks, all_marked}
use Rattle.code_tables.proofs.Marked.{marked, value_by}
use Rattle.code_tables.proofs.finite.look_at.Goals as goal

pub returns-in_ok-push-in-None : goal.returns-in_ok-push-in-None
returns-in_ok-push-in-None c =
    let w = c.args.types.now in
    let marks = c.args.marks.now.items in
    let fields = c.in-Some.fields.now in
    let all : all_marked marks fields ≡ true = ap (λ m. all_marked m fields) (sym c.deref-2.ensures.value) ∙ c.in-None.ensures.none in
    record {
      marks =
          subst (AreMarks w) (sym c.mark.ensures)
          (marked w marks c.args.place.ty c.requires.marks
          (value_by w marks c.requires.marks c.args.place.ty c.args.place.constructor fields c.in-Some.ensures all));
    }
