use Rattle.std.proofs.Common.{◌∙◌, sym, subst}
use Rattle.match_cover.specs.Gathered.{NotesBodies}
use Rattle.match_cover.proofs.CoverSteps.{covered, not_covered}
use Rattle.match_cover.proofs.coverage.check_coverage.Goals as goal

pub returns-in-None : goal.returns-in-None
returns-in-None c =
    let tb = c.args.typed.now.program.types in
    let noted = subst (λ z. NotesBodies tb 0 z c.new-out.result c.note_all_coverage.new.out) c.deref.ensures.value c.in-Ok.ensures in
    covered tb c.args.typed.now.program.instances.items c.new-out.result c.note_all_coverage.new.out noted c.new-out.ensures.none (sym c.into_refusal.ensures.least ∙ c.in-None.is)

pub returns-in-Some : goal.returns-in-Some
returns-in-Some c =
    let tb = c.args.typed.now.program.types in
    let noted = subst (λ z. NotesBodies tb 0 z c.new-out.result c.note_all_coverage.new.out) c.deref.ensures.value c.in-Ok.ensures in
    not_covered tb c.args.typed.now.program.instances.items c.new-out.result c.note_all_coverage.new.out c.in-Some.refusal noted c.new-out.ensures.none (sym c.into_refusal.ensures.least ∙ c.in-Some.is)
