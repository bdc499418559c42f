use Rattle.std.proofs.Common.{sym, subst}
use Rattle.std.specs.Prelude.{Ok, Err}
use Rattle.command_answers.specs.command_library.fip_language.Values.{End, More}
use Rattle.command_answers.specs.command_library.GenAnswer.{tree_source, gen_room}
use Rattle.command_answers.specs.command_library.library_sources.Texts as L
use Rattle.command_answers.specs.Exec as X
use Rattle.command_answers.specs.Generating as G
use Rattle.command_answers.proofs.Generated.{lines_drawn, never_fails}
use Rattle.command_answers.proofs.command_library.library_texts.RedBlackText.{rbtree_accepted}
use Rattle.answer_correctness.proofs.members.texts_and_trees_are_printed.Goals as goal

pub returns : goal.returns
returns c = record {
  library = λ files input. L.OfList;
  made = λ files input seed count s vs tree left short h k a.
      subst (λ t. G.Generates seed count (Ok t)) (sym (lines_drawn tree_source seed count short rbtree_accepted s.entry vs (More tree End) left (X.frames_for s gen_room) h a)) (G.Drawn short);
  never = λ seed count s vs f short h k t. never_fails tree_source seed count short rbtree_accepted f (X.Ran s vs (Err f) h k t);
}
