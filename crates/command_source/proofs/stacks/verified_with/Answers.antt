use Rattle.std.proofs.Common.{◌∙◌, ap, subst, sym}
use Rattle.code_verify.specs.Checked.{HaveStacks}
use Rattle.cell_code.specs.Plain.{plain}
use Rattle.fip_trees.specs.TreeView.{instances, program}
use Rattle.command_source.specs.FunctionNumbers.{function_stacks}
use Rattle.command_source.proofs.FunctionNumbers.{have_stacks}
use Rattle.command_source.proofs.stacks.verified_with.Goals as goal

pub verify_sound-requires : goal.verify_sound-requires
verify_sound-requires c =
    let ms = c.args.groups.now in
    let are = c.in_ok-stacks.ensures.stacks ∙ ap (λ ds. function_stacks ms 0 (instances ds)) c.as_slice.ensures.value in
    record {
      sound = c.requires.sound;
      stacks = subst (HaveStacks (plain c.args.code)) (sym are) (have_stacks (program c.args.typed.now.program) c.args.code ms c.requires.groups c.requires.code);
    }
