use Rattle.std.specs.Prelude.{◌≡◌, OnOk}
use Rattle.std.proofs.Common.{subst}
use Rattle.fip_language.specs.declared.rule.Rule.TheVariants.{E40}
use Rattle.fip_trees.specs.Least.{better, violation}
use Rattle.match_knowledge.specs.View.{rows}
use Rattle.match_cover.proofs.CoverSteps.{none_missed, some_missed}
use Rattle.match_cover.proofs.coverage.Site.note_missed.Goals as goal

pub returns-then-not-branch : goal.returns-then-not-branch
returns-then-not-branch c = none_missed c.args.self.now.types.now c.args.self.now.instance c.args.place c.args.ty (rows c.args.patterns.now) c.in_ok-missed.field-0 c.args.out.now c.in_ok-missed.ensures c.if-not-branch.true

pub returns : goal.returns
returns c = some_missed c.note.result c.args.self.now.types.now c.args.self.now.instance c.args.place c.args.ty (rows c.args.patterns.now) c.in_ok-missed.field-0 c.in_ok-text.text.items c.args.out.now c.note.new.self c.in_ok-missed.ensures c.if-not-branch.false c.in_ok-text.ensures
    (subst (λ z. OnOk c.note.result (c.note.new.self ≡ better c.args.out.now (violation E40 c.args.place c.args.self.now.instance 0 z))) c.deref.ensures.value c.note.ensures.noted)
