-- A source that has what a command requires: its roots are listed, its derivation is made or too long, and its entry is
-- evaluated and run, whatever the input is.
-- The idea: a text is one of the entry's arguments or goes wrong at a place; an accepted source is never stuck; and a
-- root is one instance, whose stack number is the least.
use Rattle.std.proofs.Common.{◌≡◌, ◌∙◌, ◌≤◌, ◌<◌, ◌++◌, inl, inr, ℕ, Bool, List, Option, Some, None, length, refl, sym, ap, subst}
use Rattle.std.specs.Prelude.{◌⊎◌, Ok, Err, codes, option_and_then}
use Rattle.command_answers.proofs.command_library.fip_language.Search.{le_or_less}
use Rattle.command_answers.specs.command_library.fip_language.declared.limits.TheConstants.{MOST_FILE_BYTES}
use Rattle.command_answers.specs.command_library.fip_language.Meaning.{Answer, Gives, Trap, Out, Deep, Stuck, Peak, Run, meaning}
use Rattle.command_answers.specs.command_library.fip_language.Prefix as P
use Rattle.command_answers.specs.command_library.fip_language.Prefix.{IsPlace}
use Rattle.command_answers.specs.command_library.fip_language.PrintedText.{printed_lines}
use Rattle.command_answers.specs.command_library.fip_language.SoundTable.{AreTypes, IsSoundTable}
use Rattle.command_answers.specs.command_library.fip_language.Statics.{NoClosed}
use Rattle.command_answers.specs.command_library.fip_language.Table.{Table}
use Rattle.command_answers.specs.command_library.fip_language.Values.{Values}
use Rattle.worked_examples.specs.fip_trees.declared.groups.Member.{Member}
use Rattle.worked_examples.specs.fip_trees.Tree.{Instance, Program}
use Rattle.worked_examples.specs.instance_semantics.Meaning.{flat_meaning}
use Rattle.worked_examples.specs.source_report.Report.{IsTyped, IsAccepted}
use Rattle.worked_examples.specs.type_safety.Soundness.{IsSoundAnswer, parameter_types}
use Rattle.command_answers.specs.command_library.command_words.Words.{Room, IsTextName}
use Rattle.command_answers.specs.command_library.command_outcome.declared.failure.Failure.TheVariants as F
use Rattle.command_answers.specs.command_library.library_sources.declared.list.TheConstants as List'
use Rattle.command_answers.specs.command_library.library_sources.declared.tree.TheConstants as Tree'
use Rattle.command_answers.specs.command_library.library_sources.declared.rbtree.TheConstants as RedBlackTree'
use Rattle.command_answers.specs.command_library.library_sources.declared.finger.TheConstants as FingerTree'
use Rattle.command_answers.specs.command_library.library_sources.Texts.{IsText, OfList, OfTree, OfRedBlackTree, OfFingerTree}
use Rattle.command_answers.specs.command_library.derivation_text.ProofText.{lines_text}
use Rattle.command_answers.specs.command_library.value_text.Machine.{step, final, start}
use Rattle.command_answers.proofs.command_library.value_text.Exact.{accepted_text, stopped_text}
use Rattle.command_answers.proofs.command_library.value_text.Tables.{is_table, types_alive}
use Rattle.command_answers.specs.command_library.command_source.Derived.{made, IsDerivedFile, IsUnderived}
use Rattle.command_answers.specs.command_library.command_source.Entries.{IsRootedIn}
use Rattle.command_answers.specs.command_library.command_source.Roots.{root_named, root_lines, held, IsListing}
use Rattle.command_answers.specs.command_library.command_source.Wanted.{Lawful, Root, Compiled, IsRoot, IsCompiled, IsReady}
use Rattle.command_answers.proofs.command_library.command_source.Once.{held_same}
use Rattle.command_answers.specs.command_library.command_eval.EvalAnswer as E
use Rattle.command_answers.specs.command_library.command_eval.EvalAnswer.{Entry, Spells, Reports, Evaluates}
use Rattle.command_answers.proofs.command_library.command_eval.Meant.{typed_of, entry, table_sound, parameters_known, answers_soundly}
use Rattle.command_answers.specs.command_library.command_run.ExecAnswer.{IsBoundOf}
use Rattle.command_answers.proofs.command_library.command_run.Entry.{IsRootAt, root_at}
use Rattle.command_answers.proofs.command_library.command_run.compiler_correctness.SoundTypes.{typed_sound}
use Rattle.command_answers.proofs.command_library.command_run.compiler_correctness.derivation_correctness.Whole.{derived, lean, is_read}
use Rattle.command_answers.proofs.command_library.command_source.specialisation_correctness.Meant.{root_meant}
use Rattle.command_answers.proofs.command_tasks.source_report.FipCalls.{fip_calls}
use Rattle.command_answers.specs.command_library.MadeTree.{gen_input}
use Rattle.command_answers.specs.Drawn.{drawn_text}
use Rattle.command_answers.specs.Exec as X
use Rattle.command_answers.specs.Exec.{End, Start, Running, Execs, ReportsRun, gauge_by_trees}
use Rattle.command_answers.specs.Generating as G
use Rattle.command_answers.specs.Generating.{Generates}
use Rattle.command_answers.specs.GaugeText.{if_asked}

-- ---- what is reported of an answer that isn't stuck

evaluation_reported : (tb : Table) (rs : List ℕ) (calls frames : ℕ) (a : Answer) → IsSoundAnswer tb rs a → (e : End) × Reports tb rs calls frames a e
evaluation_reported tb rs calls frames (Gives us left) h = (Ok (printed_lines tb rs us), refl)
evaluation_reported tb rs calls frames (Trap kind line col) h = (Err (F.Trap kind line col), refl)
evaluation_reported tb rs calls frames Out h = (Err (F.OutOfCalls calls), refl)
evaluation_reported tb rs calls frames Deep h = (Err (F.OutOfFrames frames), refl)
evaluation_reported tb rs calls frames Stuck h = absurd h

run_reported : (r : Running) (vs : Values) (calls frames : ℕ) (gauge : Bool) (peak : Peak) (a : Answer) → IsSoundAnswer r.types (r.instance).results a → (e : End) × ReportsRun r vs calls frames gauge peak a e
run_reported r vs calls frames gauge peak (Gives us left) h =
    (Ok (printed_lines r.types (r.instance).results us ++ if_asked gauge (gauge_by_trees r vs us peak)), refl)
run_reported r vs calls frames gauge peak (Trap kind line col) h = (Err (F.Trap kind line col), refl)
run_reported r vs calls frames gauge peak Out h = (Err (F.OutOfCalls calls), refl)
run_reported r vs calls frames gauge peak Deep h = (Err (F.OutOfFrames frames), refl)
run_reported r vs calls frames gauge peak Stuck h = absurd h

-- ---- a root of an accepted source

module _ (source name : List ℕ) (p : Program) (accepted : IsAccepted source p) (d : Instance) (named : root_named name p.instances ≡ Some d) where
  abbrev root : IsRootAt name p.instances d
  root = root_at name p.instances d named

  abbrev rooted : IsRootedIn source name p root.place
  rooted = record { accepted = accepted; root = d; there = root.there; named = named }

  abbrev types : IsTyped source p
  types = typed_of source p accepted

  abbrev y : Entry source name
  y = entry source name p root.place rooted

  -- the input is a text of its arguments, or goes wrong at a place
  pub text_or_place : (input : List ℕ) → ((vs : Values) × Spells y input vs) ⊎ ((at : ℕ) × IsPlace (Spells y) input at)
  text_or_place input = by (P.run (step p.types) (final p.types) (start (parameter_types d)) input 0) refl
    where
      table : IsSoundTable p.types
      table = table_sound source name p root.place rooted

      known : AreTypes p.types (parameter_types d)
      known = parameters_known source name p root.place rooted

      by : (x : P.Outcome Values) → P.run (step p.types) (final p.types) (start (parameter_types d)) input 0 ≡ x → ((vs : Values) × Spells y input vs) ⊎ ((at : ℕ) × IsPlace (Spells y) input at)
      by (P.Stopped at) e = inr (at, stopped_text p.types (is_table p.types table) (parameter_types d) (types_alive p.types table (parameter_types d) known) input at e)
      by (P.Accepted vs) e = inl (vs, accepted_text p.types (is_table p.types table) (parameter_types d) (types_alive p.types table (parameter_types d) known) input vs e)

  pub means : (vs : Values) (calls frames : ℕ) → flat_meaning p root.place vs calls frames ≡ meaning y.core name NoClosed vs calls frames
  means vs calls frames =
      root_meant source p types y.core y.parsed root.place d vs calls frames root.there root.root
      ∙ ap (λ n. meaning y.core n NoClosed vs calls frames) root.named

  pub sound : (input : List ℕ) (vs : Values) (calls frames : ℕ) → Spells y input vs → IsSoundAnswer p.types d.results (meaning y.core name NoClosed vs calls frames).answer
  sound input vs calls frames spelt =
      subst (λ (x : Run). IsSoundAnswer p.types d.results x.answer) (means vs calls frames)
      (answers_soundly source name p root.place rooted input vs calls frames spelt)

  pub some_evaluation : (input : List ℕ) (calls frames : ℕ) → (e : End) × Evaluates source name input calls frames e
  some_evaluation input calls frames = by (text_or_place input)
    where
      by : ((vs : Values) × Spells y input vs) ⊎ ((at : ℕ) × IsPlace (Spells y) input at) → (e : End) × Evaluates source name input calls frames e
      by (inl (vs, spelt)) =
          let reported = evaluation_reported p.types d.results calls frames (meaning y.core name NoClosed vs calls frames).answer (sound input vs calls frames spelt) in
          (reported.0, E.Answered y vs reported.0 spelt reported.1)
      by (inr (at, place)) = (Err (F.BadInput at), E.Misspelt y at place)

  -- its stack number is one
  pub bound_reported : IsBoundOf y (held accepted.members root.place)
  bound_reported ms found i m at is =
      let same : root.place ≡ i = (typed_sound source p types).roots root.place i d d root.there at root.root root.root refl in
      held_same p.instances accepted.members ms (fip_calls source p accepted.tailed.credited.owned) accepted.groups found root.place
      ∙ ap (held ms) same
      ∙ ap (option_and_then (λ (n : Member). n.stack)) is

  abbrev pub started : Start source name
  started = record { entry = y; members = accepted.members; found = accepted.groups; bound = held accepted.members root.place; reported = bound_reported }

  reported_of : (input : List ℕ) (vs : Values) (room : Room) (gauge : Bool) → Spells y input vs → (e : End) × X.ReportsAll (X.running started) vs room.calls (X.frames_for started room) gauge (X.run_of started vs room) e
  reported_of input vs room gauge spelt =
      run_reported (X.running started) vs room.calls (X.frames_for started room) gauge (X.run_of started vs room).peak (X.run_of started vs room).answer
      (sound input vs room.calls (X.frames_for started room) spelt)

  -- a store is great enough, or too small
  module _ (input : List ℕ) (room : Room) (gauge : Bool) where
    fitting : (vs : Values) → Spells y input vs → (e : End) × Execs source name input room gauge e
    fitting vs spelt = by (le_or_less (X.words_of y vs) room.words)
      where
        by : (X.words_of y vs ≤ room.words) ⊎ (room.words < X.words_of y vs) → (e : End) × Execs source name input room gauge e
        by (inl fits) = let reported = reported_of input vs room gauge spelt in (reported.0, X.Ran started vs reported.0 spelt fits reported.1)
        by (inr less) = (Err (F.TooSmall (X.words_of y vs) room.words), X.Small y vs spelt less)

    pub some_run : (e : End) × Execs source name input room gauge e
    some_run = by (text_or_place input)
      where
        by : ((vs : Values) × Spells y input vs) ⊎ ((at : ℕ) × IsPlace (Spells y) input at) → (e : End) × Execs source name input room gauge e
        by (inl (vs, spelt)) = fitting vs spelt
        by (inr (at, place)) = (Err (F.BadInput at), X.Misspelt y at place)

-- ---- what is required

root_in : (o : Option Instance) → IsRoot o → (d : Instance) × (o ≡ Some d)
root_in None h = absurd h
root_in (Some d) h = (d, refl)

compiled_in : (o : Option Instance) → IsCompiled o → (d : Instance) × (o ≡ Some d)
compiled_in None h = absurd h
compiled_in (Some d) h = (d, refl)

pub evaluated : (source name input : List ℕ) (calls frames : ℕ) → IsReady source (Root name) → (e : End) × Evaluates source name input calls frames e
evaluated source name input calls frames h =
    let r = root_in (root_named name (h.program).instances) h.has in
    some_evaluation source name h.program h.accepted r.0 r.1 input calls frames

pub executed : (source name input : List ℕ) (room : Room) (gauge : Bool) → IsReady source (Compiled name) → (e : End) × Execs source name input room gauge e
executed source name input room gauge h =
    let r = compiled_in (root_named name (h.program).instances) h.has in
    some_run source name h.program h.accepted r.0 r.1 input room gauge

pub listed : (source : List ℕ) → IsReady source Lawful → (text : List ℕ) × IsListing source text
listed source h =
    let a = h.accepted in
    (root_lines a.members 0 (h.program).instances, record { program = h.program; accepted = a; members = a.members; found = a.groups; is = refl })

pub derivable : (source : List ℕ) → IsReady source Lawful → ((file : List ℕ) × IsDerivedFile source file) ⊎ IsUnderived source
derivable source h = by (le_or_less (length (lines_text (made h.program))) MOST_FILE_BYTES)
  where
    by : (length (lines_text (made h.program)) ≤ MOST_FILE_BYTES) ⊎ (MOST_FILE_BYTES < length (lines_text (made h.program))) → ((file : List ℕ) × IsDerivedFile source file) ⊎ IsUnderived source
    by (inl short) =
        inl (lines_text (made h.program), record { program = h.program; accepted = h.accepted; text = is_read source h.program h.accepted; derives = derived source h.program h.accepted; lean = lean source h.program h.accepted; short = short })
    by (inr long) = inr (record { program = h.program; accepted = h.accepted; long = long })

text_of : (known name text : List ℕ) → name ≡ known → IsText known text → (t : List ℕ) × IsText name t
text_of known name text e is = (text, subst (λ n. IsText n text) (sym e) is)

pub named_text : (name : List ℕ) → IsTextName name → (text : List ℕ) × IsText name text
named_text name (inl e) = text_of (codes "list") name List'.TEXT.now e OfList
named_text name (inr (inl e)) = text_of (codes "tree") name Tree'.TEXT.now e OfTree
named_text name (inr (inr (inl e))) = text_of (codes "rbtree") name RedBlackTree'.TEXT.now e OfRedBlackTree
named_text name (inr (inr (inr e))) = text_of (codes "finger") name FingerTree'.TEXT.now e OfFingerTree

-- ---- the tree of `gen`

pub generated : (seed count : ℕ) → (e : End) × Generates seed count e
generated seed count = by (le_or_less (length (gen_input seed count)) MOST_FILE_BYTES)
  where
    by : (length (gen_input seed count) ≤ MOST_FILE_BYTES) ⊎ (MOST_FILE_BYTES < length (gen_input seed count)) → (e : End) × Generates seed count e
    by (inl short) = (Ok (drawn_text seed count), G.Drawn short)
    by (inr long) = (Err (F.BadInput MOST_FILE_BYTES), G.LongInput long)
