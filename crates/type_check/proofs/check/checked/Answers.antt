use Rattle.std.proofs.Common.{◌∙◌, sym, ap, subst}
use Rattle.fip_trees.specs.Least.{after}
use Rattle.fip_trees.specs.TreeView.{program}
use Rattle.fip_trees.specs.SoundProgram.{IsSoundProgram}
use Rattle.type_check.specs.Typing.{IsFilled}
use Rattle.type_check.specs.Faults.{type_faults}
use Rattle.type_check.proofs.Filling.{stays_sound}
use Rattle.type_check.proofs.Exact.{typed_exactly, filled_right, refused, accepted}
use Rattle.type_check.proofs.check.checked.Goals as goal

pub returns-in-Some-clause-least : goal.returns-in-Some-clause-least
returns-in-Some-clause-least c = refused (program c.args.program) c.check_program.new.least c.in-Some.refusal (c.in-Ok.ensures.faults ∙ ap (λ o. after o (type_faults (program c.args.program))) c.new-least.ensures.none) (sym c.into_refusal.ensures.least ∙ c.in-Some.is)

pub returns-in-None-clause-typed : goal.returns-in-None-clause-typed
returns-in-None-clause-typed c = (typed_exactly (program c.args.program)).1 (accepted (program c.args.program) c.check_program.new.least (c.in-Ok.ensures.faults ∙ ap (λ o. after o (type_faults (program c.args.program))) c.new-least.ensures.none) (sym c.into_refusal.ensures.least ∙ c.in-None.is))

pub returns-in-None-clause-slots : goal.returns-in-None-clause-slots
returns-in-None-clause-slots c = subst (λ p. IsFilled p) (sym (ap program c.typed_of.ensures.same ∙ c.in-Ok.ensures.tree)) (filled_right (program c.args.program) (accepted (program c.args.program) c.check_program.new.least (c.in-Ok.ensures.faults ∙ ap (λ o. after o (type_faults (program c.args.program))) c.new-least.ensures.none) (sym c.into_refusal.ensures.least ∙ c.in-None.is)))

pub typed_of-requires : goal.typed_of-requires
typed_of-requires c = record { sound = subst (λ p. IsSoundProgram p) (sym c.in-Ok.ensures.tree) (stays_sound (program c.args.program) c.requires.sound) }

pub returns-in-None-clause-tree : goal.returns-in-None-clause-tree
returns-in-None-clause-tree c = ap program c.typed_of.ensures.same ∙ c.in-Ok.ensures.tree

pub returns-in-None-clause-sound : goal.returns-in-None-clause-sound
returns-in-None-clause-sound c = subst (λ p. IsSoundProgram p) (sym (ap program c.typed_of.ensures.same ∙ c.in-Ok.ensures.tree)) (stays_sound (program c.args.program) c.requires.sound)
