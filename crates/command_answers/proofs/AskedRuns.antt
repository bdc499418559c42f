-- `exec` reports what the evaluation gives. A fip entry never lacks frames; another one has those of the room, since
-- the groups report no stack number of it.
use Rattle.std.proofs.Common.{◌≡◌, ◌≢◌, ◌∙◌, ◌<◌, ◌≤◌, ℕ, true, false, List, map, Option, Some, None, slice_get, sym, ap, subst, refl, arith}
use Rattle.std.specs.Prelude.{Ok, Err}
use Rattle.std.proofs.lemmas.Option.{same_Some}
use Rattle.command_library.specs.fip_language.declared.FunKind.{FunKind}
use Rattle.command_library.specs.fip_language.declared.FunKind.TheVariants.{Fip, Fbip, Fun}
use Rattle.command_library.specs.fip_language.declared.TrapKind.{TrapKind}
use Rattle.command_library.specs.fip_language.Character.{characters}
use Rattle.command_library.specs.fip_language.Meaning.{Answer, Peak, Gives, Trap, Deep, Run, meaning}
use Rattle.command_library.specs.fip_language.Prefix.{IsPlace}
use Rattle.command_library.specs.fip_language.PrintedText.{printed_lines}
use Rattle.command_library.specs.fip_language.Statics.{NoClosed}
use Rattle.command_library.specs.fip_language.Table.{Table, HaveTypes}
use Rattle.command_library.specs.fip_language.Values.{Values}
use Rattle.command_library.specs.fip_language.ValueText.{SpellsValues}
use Rattle.command_library.proofs.fip_language.Facts.{append_none, if_some_true}
use Rattle.command_library.proofs.fip_language.OnePlace.{IsPlace-not_spelt}
use Rattle.command_library.proofs.fip_language.Words.{slice_get-map}
use Rattle.command_library.specs.fip_base.declared.plain.Stack.{Stack}
use Rattle.command_library.specs.command_run.fip_trees.declared.groups.Member.{Member}
use Rattle.command_library.specs.command_run.fip_trees.Tree.{Instance, Program}
use Rattle.command_library.specs.command_run.tail_groups.Members.{frame, stack}
use Rattle.command_library.specs.command_run.tail_groups.Rules.{is_fip}
use Rattle.command_library.specs.command_words.Words.{Room}
use Rattle.command_library.specs.command_outcome.declared.failure.Failure.TheVariants as F
use Rattle.command_library.specs.command_tasks.source_report.instance_semantics.Meaning.{flat_meaning}
use Rattle.command_library.specs.command_tasks.source_report.type_safety.Soundness.{parameter_types}
use Rattle.command_library.specs.command_tasks.source_report.Report.{IsTyped}
use Rattle.command_library.specs.machine_correctness.in_place_safety.InPlace.{EndsInPlace}
use Rattle.command_library.proofs.command_run.source_report.FipCalls.{fip_calls}
use Rattle.command_library.proofs.command_source.source_safety.Accepted.{accepted_in_place}
use Rattle.command_library.proofs.command_source.specialisation_correctness.Meant.{root_meant}
use Rattle.command_library.proofs.value_text.Typed.{input_typed}
use Rattle.command_library.specs.session_semantics.Talk.{frames_of}
use Rattle.command_library.specs.command_eval.EvalAnswer.{Entry, Spells}
use Rattle.command_library.proofs.command_eval.Meant.{typed_of}
use Rattle.command_library.proofs.command_eval.Once.{one_program, one_root, typed_alike, one_text}
use Rattle.command_library.specs.command_run.CodeRun.{words_for}
use Rattle.command_library.specs.command_run.ExecAnswer as R
use Rattle.command_library.proofs.command_run.Entry.{IsRootAt, root_at}
use Rattle.command_library.proofs.command_run.ExecOnce.{answers_alike, member_at, same_answer}
use Rattle.command_answers.specs.Asked.{Asked, answer_of, GivesWith, TrapsWith, Prints, ReportsTrap, Suffices}
use Rattle.command_answers.specs.Exec.{End, Start, Running, ReportsRun, running, frames_for, run_of, words_of, Execs, Misspelt, Small, Ran}
use Rattle.command_answers.proofs.AskedEntry.{entry, means}

-- ---- frames

is_fip_kind : (k : FunKind) → is_fip k ≡ true → k ≡ Fip
is_fip_kind Fip e = refl
is_fip_kind Fbip e = let f : false ≡ true = e in cc
is_fip_kind Fun e = let f : false ≡ true = e in cc

no_want : (tb : Table) (f : Instance) (vs : Values) (a : Answer) → EndsInPlace tb f vs a → a ≢ Deep
no_want tb f vs a h e = subst (EndsInPlace tb f vs) e h

-- the entry of a start, whose groups report a stack number, or none
module _ (source name : List ℕ) (s : Start source name) where
  abbrev y : Entry source name
  y = s.entry

  abbrev p : Program
  p = y.program

  abbrev root : IsRootAt name p.instances y.root
  root = root_at name p.instances y.root y.named

  abbrev own : (m : Member) × (slice_get s.members root.place ≡ Some m)
  own = member_at p.instances s.members root.place y.root (s.found).size root.there

  -- its member reports the same
  reported_own : (b : Stack) → s.bound ≡ Some b → (own.0).stack ≡ Some b
  reported_own b is = sym (s.reported s.members s.found root.place own.0 root.there own.1) ∙ is

  -- only of a fip entry it is reported
  reported_of_fip : (b : Stack) → s.bound ≡ Some b → (y.root).kind ≡ Fip
  reported_of_fip b is =
      let there : slice_get (map stack s.members) root.place ≡ Some (Some b) = slice_get-map stack s.members root.place own.0 own.1 ∙ ap Some (reported_own b is) in
      let stacks = (s.found).stacks (fip_calls source p y.accepted.tailed.credited.owned) in
      let f = stacks.none root.place b there in
      let framed : frame y.root ≡ Some f.0 = same_Some (frame y.root) (Some f.0) (sym (slice_get-map frame p.instances root.place y.root root.there) ∙ f.1) in
      is_fip_kind (y.root).kind (if_some_true (is_fip (y.root).kind) _ f.0 framed)

  module _ (input : List ℕ) (vs : Values) (spelt : Spells y input vs) (calls : ℕ) where
    abbrev typed : IsTyped source p
    typed = typed_of source p y.accepted

    -- what the source means by the entry is what its instance means
    meant : (frames : ℕ) → (flat_meaning p root.place vs calls frames).answer ≡ R.answer_of y vs calls frames
    meant frames =
        ap (λ (r : Run). r.answer)
        (root_meant source p typed y.core y.parsed root.place y.root vs calls frames root.there root.root
        ∙ ap (λ n. meaning y.core n NoClosed vs calls frames) root.named)

    shallow : (b : Stack) → s.bound ≡ Some b → R.answer_of y vs calls b.frames ≢ Deep
    shallow b is =
        let types : HaveTypes p.types (parameter_types y.root) vs = input_typed p.types (parameter_types y.root) (characters input) vs spelt in
        let place = accepted_in_place source p s.members root.place y.root own.0 b vs calls b.frames y.accepted s.found root.there (reported_of_fip b is) own.1 (reported_own b is) types (omega arith) in
        let never : (flat_meaning p root.place vs calls b.frames).answer ≢ Deep = no_want p.types y.root vs (flat_meaning p root.place vs calls b.frames).answer place.ends in
        λ deep. never (meant b.frames ∙ deep)

    -- with the frames of its run it isn't out of frames, if it isn't with those of the room
    pub not_deep : (room : ℕ) → R.answer_of y vs calls room ≢ Deep → R.answer_of y vs calls (frames_of room s.bound) ≢ Deep
    not_deep room ne = by s.bound refl
      where
        by : (o : Option Stack) → s.bound ≡ o → R.answer_of y vs calls (frames_of room s.bound) ≢ Deep
        by None is = subst (λ o. R.answer_of y vs calls (frames_of room o) ≢ Deep) (sym is) ne
        by (Some b) is = subst (λ o. R.answer_of y vs calls (frames_of room o) ≢ Deep) (sym is) (shallow b is)

-- ---- what is reported

given_reported : (r : Running) (us vs : Values) (calls frames left : ℕ) (peak : Peak) (x : Answer) (e : End) → x ≡ Gives vs left → ReportsRun r us calls frames false peak x e → e ≡ Ok (printed_lines r.types (r.instance).results vs)
given_reported r us vs calls frames left peak x e is h =
    let reported : ReportsRun r us calls frames false peak (Gives vs left) e = subst (λ z. ReportsRun r us calls frames false peak z e) is h in
    reported ∙ ap Ok (append_none (printed_lines r.types (r.instance).results vs))

trap_reported : (r : Running) (us : Values) (calls frames line col : ℕ) (kind : TrapKind) (peak : Peak) (x : Answer) (e : End) → x ≡ Trap kind line col → ReportsRun r us calls frames false peak x e → e ≡ Err (F.Trap kind line col)
trap_reported r us calls frames line col kind peak x e is h = subst (λ z. ReportsRun r us calls frames false peak z e) is h

-- ---- the run

module _ (a : Asked) (room : Room) where
  abbrev asked : Entry a.source a.name
  asked = entry a

  module _ (s : Start a.source a.name) (us : Values) (spelt : Spells s.entry a.input us) where
    abbrev other : Entry a.source a.name
    other = s.entry

    abbrev free : ℕ
    free = frames_for s room

    text : us ≡ a.arguments
    text = one_text a.source a.name asked other a.input a.arguments us a.spelt spelt

    alike : (frames : ℕ) → R.answer_of other us room.calls frames ≡ answer_of a room.calls frames
    alike frames =
        answers_alike a.source a.name asked other us room.calls frames
        ∙ ap (λ ws. R.answer_of asked ws room.calls frames) text
        ∙ sym (means a room.calls frames)

    -- what the run means is the answer with the frames of the room
    run_means : (x : Answer) → answer_of a room.calls room.frames ≡ x → x ≢ Deep → (run_of s us room).answer ≡ x
    run_means x is ne =
        let there : R.answer_of other us room.calls room.frames ≡ x = alike room.frames ∙ is in
        let deep : R.answer_of other us room.calls room.frames ≢ Deep = λ d. ne (sym there ∙ d) in
        same_answer other.core a.name us room.calls free room.frames (not_deep a.source a.name s a.input us spelt room.calls room.frames deep) deep ∙ there

    lines_alike : (vs : Values) → printed_lines (other.program).types (other.root).results vs ≡ printed_lines a.program.types (a.rooted).root.results vs
    lines_alike vs =
        ap (λ (q : Program). printed_lines q.types (other.root).results vs) (one_program a.source a.name asked other)
        ∙ ap (λ (d : Instance). printed_lines a.program.types d.results vs) (one_root a.source a.name asked other)

  misspelt : (other : Entry a.source a.name) (at : ℕ) → IsPlace (Spells other) a.input at → ⊥
  misspelt other at place =
      IsPlace-not_spelt (Spells asked) a.input at a.arguments (typed_alike a.source a.name asked other (λ tb ks. IsPlace (SpellsValues tb ks) a.input at) place) a.spelt

  -- the run has its words
  not_small : (other : Entry a.source a.name) (us : Values) → Spells other a.input us → room.words < words_of other us → words_for a.arguments (a.rooted).root.credits ≤ room.words → ⊥
  not_small other us spelt less fits =
      let text : us ≡ a.arguments = one_text a.source a.name asked other a.input a.arguments us a.spelt spelt in
      let root : other.root ≡ (a.rooted).root = one_root a.source a.name asked other in
      let needed : words_of other us ≡ words_for a.arguments (a.rooted).root.credits =
      ap (λ ws. words_for ws (other.root).credits) text ∙ ap (λ (d : Instance). words_for a.arguments d.credits) root in
      omega (arith, needed, less, fits)

gives_not_deep : (vs : Values) (left : ℕ) → Gives vs left ≢ Deep
gives_not_deep vs left e = cc

trap_not_deep : (kind : TrapKind) (line col : ℕ) → Trap kind line col ≢ Deep
trap_not_deep kind line col e = cc

pub exec_prints : (a : Asked) (room : Room) (least : ℕ) (vs : Values) (e : End) → GivesWith a room.calls least vs → Suffices a least room → Execs a.source a.name a.input room false e → Prints a vs e
exec_prints a room least vs _ gives enough (Misspelt other at place) = absurd (misspelt a room other at place)
exec_prints a room least vs _ gives enough (Small other us spelt less) = absurd (not_small a room other us spelt less enough.words)
exec_prints a room least vs e gives enough (Ran s us _ spelt fits reported) =
    let g = gives room.frames enough.frames in
    let is : (run_of s us room).answer ≡ Gives vs g.left = run_means a room s us spelt (Gives vs g.left) g.is (gives_not_deep vs g.left) in
    given_reported (running s) us vs room.calls (frames_for s room) g.left (run_of s us room).peak (run_of s us room).answer e is reported ∙ ap Ok (lines_alike a room s us spelt vs)

pub exec_traps : (a : Asked) (room : Room) (least : ℕ) (kind : TrapKind) (line col : ℕ) (e : End) → TrapsWith a room.calls least kind line col → Suffices a least room → Execs a.source a.name a.input room false e → ReportsTrap kind line col e
exec_traps a room least kind line col _ traps enough (Misspelt other at place) = absurd (misspelt a room other at place)
exec_traps a room least kind line col _ traps enough (Small other us spelt less) = absurd (not_small a room other us spelt less enough.words)
exec_traps a room least kind line col e traps enough (Ran s us _ spelt fits reported) =
    let is : (run_of s us room).answer ≡ Trap kind line col = run_means a room s us spelt (Trap kind line col) (traps room.frames enough.frames) (trap_not_deep kind line col) in
    trap_reported (running s) us room.calls (frames_for s room) line col kind (run_of s us room).peak (run_of s us room).answer e is reported
