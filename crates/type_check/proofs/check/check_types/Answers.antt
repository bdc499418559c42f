use Rattle.std.proofs.Common.{◌≡◌, IfOk, IfErr, sym, subst}
use Rattle.fip_trees.specs.SoundProgram.{IsSoundProgram}
use Rattle.fip_trees.specs.TreeView.{program}
use Rattle.fip_trees.specs.declared.program.Program.{Program}
use Rattle.fip_trees.specs.declared.program.Typed.{Typed}
use Rattle.type_check.specs.Answers.{Says}
use Rattle.type_check.specs.Faults.{filled}
use Rattle.type_check.specs.Typing.{IsTyped}
use Rattle.type_check.proofs.check.check_types.Goals as goal

pub checked-requires : goal.checked-requires
checked-requires c = record { sound = subst (λ (p : Program). IsSoundProgram (program p)) (sym c.into_program.ensures.same) c.into_program.ensures.sound }

pub returns-clause-typed : goal.returns-clause-typed
returns-clause-typed c = subst (λ (p : Program). IfOk c.checked.result (λ (t : Typed). IsTyped (program p))) c.into_program.ensures.same c.checked.ensures.typed

pub returns-clause-tree : goal.returns-clause-tree
returns-clause-tree c = subst (λ (p : Program). IfOk c.checked.result (λ (t : Typed). program t.program ≡ filled (program p))) c.into_program.ensures.same c.checked.ensures.tree

pub returns-clause-least : goal.returns-clause-least
returns-clause-least c = subst (λ (p : Program). IfErr c.checked.result (λ e. Says (program p) e)) c.into_program.ensures.same c.checked.ensures.least
