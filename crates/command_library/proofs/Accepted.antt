-- The text that `gen` runs breaks no rule, and has its entry.
use Rattle.std.proofs.Common.{◌≡◌}
use Rattle.fip_language.specs.declared.FunKind.TheVariants.{Fbip, Fun}
use Rattle.command_tasks.specs.command_run.command_source.Wanted.{Compiled, IsReady}
use Rattle.library_texts.specs.library_programs.RedBlackProgram.{rbtree_program}
use Rattle.library_texts.proofs.RedBlackText.{rbtree_accepted}
use Rattle.command_library.specs.GenRoom.{tree_source, build}

never_plain : Fbip ≡ Fun → ⊥
never_plain e = absurd (cc)

pub text_is_ready : IsReady tree_source (Compiled build)
text_is_ready = record { program = rbtree_program; accepted = rbtree_accepted; has = never_plain }
