-- What `gen` reports: its text is accepted, with the program that is written out, whose `build` collects the keys, with the
-- calls, frames and words of its room.
use Rattle.std.proofs.Common.{◌≡◌, ◌≢◌, ◌↔◌, ◌∙◌, ◌≤◌, ℕ, ℤ, false, List, length, refl, sym, ap, ap₂, subst, arith}
use Rattle.std.specs.Prelude.{Ok, Err}
use Rattle.command_library.specs.fip_language.declared.limits.TheConstants.{MOST_FILE_BYTES}
use Rattle.command_library.specs.fip_language.Every.{Among}
use Rattle.command_library.specs.fip_language.Meaning.{Gives, Deep}
use Rattle.command_library.specs.fip_language.PrintedText.{printed_lines}
use Rattle.command_library.specs.fip_language.Values.{Values}
use Rattle.command_library.specs.fip_language.ValueText.{SpellsValues}
use Rattle.command_library.specs.command_tasks.source_report.Report.{IsAccepted}
use Rattle.command_library.specs.command_outcome.declared.failure.Failure.{Failure}
use Rattle.command_library.specs.command_outcome.Successes.{tree_text}
use Rattle.command_library.specs.command_eval.EvalAnswer.{Entry, Spells}
use Rattle.command_library.specs.command_run.ExecAnswer as R
use Rattle.command_library.specs.GenAnswer as M
use Rattle.command_library.specs.GenAnswer.{tree_source, build, gen_room}
use Rattle.command_library.specs.MadeTree.{gen_input, keys_of, lines_of_results}
use Rattle.command_library.proofs.command_eval.Meant.{typed_of}
use Rattle.command_library.proofs.command_eval.Once.{one_text}
use Rattle.command_library.proofs.command_eval.SoundTypes.{typed_sound}
use Rattle.command_library.proofs.command_run.ExecOnce.{answers_alike, same_answer}
use Rattle.command_library.proofs.library_texts.RedBlackText.{rbtree_accepted}
use Rattle.command_library.proofs.value_text.Exact.{printed_reads}
use Rattle.command_library.proofs.value_text.Tables.{is_table}
use Rattle.library_correctness.specs.evaluation_steps.Gives.{GivesLeaving, one}
use Rattle.library_correctness.specs.library_programs.RedBlackProgram.{rbtree_program, rbtree_types, build as build_instance}
use Rattle.library_correctness.specs.KeySets.{GivesKeys}
use Rattle.library_correctness.specs.RedBlack.{tree_value}
use Rattle.library_correctness.proofs.KeySets.{build_collects}
use Rattle.command_answers.specs.Asked.{Asked, answer_of, GivesWith, Suffices}
use Rattle.command_answers.specs.Drawn.{drawn_keys, drawn_text}
use Rattle.command_answers.specs.Exec.{End, Execs}
use Rattle.command_answers.specs.Generating.{Generates, LongInput, Drawn}
use Rattle.command_answers.proofs.AskedEntry.{entry, means}
use Rattle.command_answers.proofs.AskedRuns.{exec_prints}
use Rattle.command_answers.proofs.ByTrees.{exec_by_trees}
use Rattle.command_answers.proofs.GenInput.{arguments, types, spares, spares_are, spares_length, drawn_length, input_printed, arguments_typed, few, words_few}
use Rattle.command_answers.proofs.KeyEnds.{ends_same, length_same, keys_same}

-- the lines of a tree with these keys
lines_are : (seed count : ℕ) (a : _) (g : GivesKeys (drawn_keys seed count) a) → lines_of_results count (one (tree_value g.tree)) ≡ drawn_text seed count
lines_are seed count a g =
    let same : (j : ℤ) → Among j (keys_of (tree_value g.tree)) ↔ Among j (drawn_keys seed count) =
    λ j. (λ m. (g.same j).0 ((keys_same g.tree j).0 m), λ m. (keys_same g.tree j).1 ((g.same j).1 m)) in
    ap₂ (tree_text count) (length_same g.tree ∙ g.nodes) (ends_same (keys_of (tree_value g.tree)) (drawn_keys seed count) same)

same_values : (vs ws : Values) (left other : ℕ) → Gives vs left ≡ Gives ws other → vs ≡ ws
same_values vs ws left other e = cc

gives_not_deep : (vs : Values) (left : ℕ) → Gives vs left ≢ Deep
gives_not_deep vs left e = cc

no_text : (text : List ℕ) (failure : Failure) → ◌≡◌ {A = End} (Err failure) (Ok text) → ⊥
no_text text failure e = absurd cc

module _ (source : List ℕ) (seed count : ℕ) (short : length (gen_input seed count) ≤ MOST_FILE_BYTES) (accepted : IsAccepted source rbtree_program) where
  spelt : SpellsValues rbtree_types types (gen_input seed count) (arguments seed count)
  spelt =
      let table = is_table rbtree_types (typed_sound source rbtree_program (typed_of source rbtree_program accepted)) in
      subst (λ text. SpellsValues rbtree_types types text (arguments seed count)) (sym (input_printed seed count)) (printed_reads rbtree_types table types (arguments seed count) (arguments_typed seed count))

  abbrev asked : Asked
  asked = record {
    source = source;
    name = build;
    input = gen_input seed count;
    program = rbtree_program;
    number = 5;
    arguments = arguments seed count;
    rooted = record { accepted = accepted; root = build_instance; there = refl; named = refl };
    spelt = spelt;
  }

  collected : (frames : ℕ) → 100 ≤ frames → GivesKeys (drawn_keys seed count) (answer_of asked gen_room.calls frames)
  collected frames enough =
      let l = drawn_length count seed in
      let m = few seed count short in
      build_collects (drawn_keys seed count) (spares count) gen_room.calls frames (spares_are count) (omega (arith, l, spares_length count))
      (record { few = omega (arith, l, m); enough_calls = omega (arith, l, m); enough_frames = enough })

  abbrev grown : GivesKeys (drawn_keys seed count) (answer_of asked gen_room.calls 100)
  grown = collected 100 (omega arith)

  -- the values of a run are the tree, whatever its frames
  results_are : (y : Entry source build) (us results : Values) (left frames : ℕ) → Spells y (gen_input seed count) us → R.answer_of y us gen_room.calls frames ≡ Gives results left → results ≡ one (tree_value (grown.tree))
  results_are y us results left frames spells gives =
      let x : Entry source build = entry asked in
      let vs : Values = arguments seed count in
      let g = grown.gives in
      let text : us ≡ vs = one_text source build x y (gen_input seed count) vs us spelt spells in
      let there : R.answer_of x vs gen_room.calls frames ≡ Gives results left =
      ap (λ ws. R.answer_of x ws gen_room.calls frames) (sym text) ∙ sym (answers_alike source build x y us gen_room.calls frames) ∙ gives in
      let here : R.answer_of x vs gen_room.calls 100 ≡ Gives (one (tree_value (grown.tree))) g.left = sym (means asked gen_room.calls 100) ∙ g.is in
      let same : R.answer_of x vs gen_room.calls frames ≡ R.answer_of x vs gen_room.calls 100 =
      same_answer x.core build vs gen_room.calls frames 100 (λ d. gives_not_deep results left (sym there ∙ d)) (λ d. gives_not_deep (one (tree_value (grown.tree))) g.left (sym here ∙ d)) in
      same_values results (one (tree_value (grown.tree))) left g.left (sym there ∙ (same ∙ here))

  pub lines_drawn : (y : Entry source build) (us results : Values) (left frames : ℕ) → Spells y (gen_input seed count) us → R.answer_of y us gen_room.calls frames ≡ Gives results left → lines_of_results count results ≡ drawn_text seed count
  lines_drawn y us results left frames spells gives = ap (lines_of_results count) (results_are y us results left frames spells gives) ∙ lines_are seed count (answer_of asked gen_room.calls 100) grown

  -- with 100 frames or more it gives one tree
  gives_with : GivesWith asked gen_room.calls 100 (one (tree_value (grown.tree)))
  gives_with frames enough =
      let g = collected frames enough in
      let same : one (tree_value (g.tree)) ≡ one (tree_value (grown.tree)) = results_are (entry asked) (arguments seed count) (one (tree_value (g.tree))) (g.gives).left frames spelt (sym (means asked gen_room.calls frames) ∙ (g.gives).is) in
      subst (λ vs. GivesLeaving 0 vs (answer_of asked gen_room.calls frames)) same g.gives

  enough_room : Suffices asked 100 gen_room
  enough_room = record { words = omega (arith, words_few seed count short); frames = omega arith }

  pub never_fails : (failure : Failure) → Execs source build (gen_input seed count) gen_room false (Err failure) → ⊥
  never_fails failure h =
      no_text (printed_lines rbtree_types (build_instance).results (one (tree_value (grown.tree)))) failure
      (exec_prints asked gen_room 100 (one (tree_value (grown.tree))) (Err failure) gives_with enough_room h)

pub gen_by_trees : (seed count : ℕ) (e : End) → M.Generates seed count e → Generates seed count e
gen_by_trees seed count _ (M.LongInput more) = LongInput more
gen_by_trees seed count _ (M.NoTree failure short h) =
    absurd (never_fails tree_source seed count short rbtree_accepted failure (exec_by_trees tree_source build (gen_input seed count) gen_room false (Err failure) h))
gen_by_trees seed count _ (M.Made y us results left text short spells fits runs gives) =
    subst (λ t. Generates seed count (Ok t)) (sym (lines_drawn tree_source seed count short rbtree_accepted y us results left (R.frames_for runs.code gen_room) spells gives)) (Drawn short)
