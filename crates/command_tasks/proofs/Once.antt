-- A list of tasks of a source ends in one thing at most.
-- Idea: a line is one task at most, since its text has one form, two roots have two names, and so have two constructors
-- of a type; and a task has one answer, since only a function that isn't fip is ever out of the frames that are given.
use Rattle.std.proofs.Common.{◌≡◌, ◌≢◌, ◌∙◌, inl, inr, ◌<◌, ◌≤◌, ◌+◌, ℕ, zero, suc, List, [], ◌∷◌, ◌++◌, length, map, Some, slice_get, refl, sym, ap, ap₂, subst, arith}
use Rattle.std.specs.Prelude.{Result, Ok, Err, codes}
use Rattle.std.specs.Fmt.{decimal}
use Rattle.std.proofs.lemmas.Option.{same_Some}
use Rattle.command_session.proofs.command_run.compiler_correctness.SoundTypes.{typed_sound}
use Rattle.command_words.specs.Words.{Room}
use Rattle.command_outcome.specs.Texts.{line_end, out_of_calls_text, out_of_frames_text}
use Rattle.command_outcome.specs.declared.failure.Failure.{Failure}
use Rattle.command_outcome.specs.declared.failure.Failure.TheVariants as F
use Rattle.command_session.proofs.command_run.command_eval.Meant.{typed_of}
use Rattle.fip_language.specs.Meaning.{Answer, Gives, Trap, Out, Deep, Stuck}
use Rattle.fip_language.specs.Table.{Shape, Table, shapes}
use Rattle.fip_language.specs.Values.{Value, Int, Node, Values, End, More}
use Rattle.fip_language.specs.declared.FunKind.{FunKind}
use Rattle.fip_language.specs.declared.FunKind.TheVariants.{Fip, Fbip, Fun}
use Rattle.command_session.specs.command_run.fip_trees.SoundProgram.{IsSoundProgram}
use Rattle.command_session.specs.command_run.fip_trees.declared.groups.Member.{Member}
use Rattle.command_session.specs.command_run.fip_trees.Tree.{Instance, Program}
use Rattle.task_lines.specs.instance_semantics.Meaning.{flat_meaning}
use Rattle.task_lines.proofs.instance_semantics.Frames.{more_frames}
use Rattle.command_session.specs.command_run.session_semantics.Lines.{Written, Number, Named, Parts, NoParts, MoreParts, lines_of}
use Rattle.command_session.specs.command_run.session_semantics.Talk.{Setting, answer_of, free_frames}
use Rattle.command_session.specs.command_run.session_semantics.Turns.{Answered, AreTasks, Bad, Comes, IsBadFrom, IsTask, Small, Task, TaskLines, TaskText, joined, most_tasks, type_of, words_of_tasks}
use Rattle.command_session.specs.command_run.session_semantics.Typed.{AreValues, IsValue}
use Rattle.command_session.proofs.command_run.session_semantics.OneForm.{task_entry_once, task_values_once}
use Rattle.command_session.specs.command_run.command_source.Wanted.{Lawful, IsReady}
use Rattle.command_session.specs.command_run.source_report.Report.{IsAccepted}
use Rattle.command_session.proofs.command_run.source_report.Once.{accepted_once}
use Rattle.command_session.specs.command_run.tail_groups.Members.{AreMembers}
use Rattle.command_tasks.specs.TasksAnswer.{IsSetting, TakesTurns}
use Rattle.command_tasks.proofs.Frames.{free_given, never_deep}
use Rattle.command_tasks.proofs.Weighing.{all_typed}

-- ---- what is written is one value of a type

-- no two constructors of a type have one name
abbrev pub Unlike : Table → Type 0
Unlike tb = (t c d : ℕ) (s r : Shape) → slice_get (shapes tb t) c ≡ Some s → slice_get (shapes tb t) d ≡ Some r → s.name ≡ r.name → c ≡ d

module _ (tb : Table) (unlike : Unlike tb) where
  mutual
    pub value_once : (k : ℕ) (w : Written) (u v : Value) → IsValue tb k w u → IsValue tb k w v → u ≡ v
    value_once zero (Number i) (Int a) (Int b) h j = ap Int (sym h.0 ∙ j.0)
    value_once zero (Number i) (Int a) (Node d vs) h j = absurd j
    value_once zero (Number i) (Node c us) v h j = absurd h
    value_once zero (Named name ws) u v h j = absurd h
    value_once (suc t) (Number i) u v h j = absurd h
    value_once (suc t) (Named name ws) (Int a) v h j = absurd h
    value_once (suc t) (Named name ws) (Node c us) (Int b) h j = absurd j
    value_once (suc t) (Named name ws) (Node c us) (Node d vs) h j =
        let one : c ≡ d = unlike t c d h.0 j.0 h.1 j.1 (h.2 ∙ sym j.2) in
        let same : h.0 ≡ j.0 = same_Some h.0 j.0 (sym h.1 ∙ ap (λ n. slice_get (shapes tb t) n) one ∙ j.1) in
        let parts : us ≡ vs = values_once h.0.fields ws us vs h.3 (subst (λ (x : Shape). AreValues tb x.fields ws vs) (sym same) j.3) in
        λ i. Node (one i) (parts i)

    values_once : (ks : List ℕ) (ws : Parts) (us vs : Values) → AreValues tb ks ws us → AreValues tb ks ws vs → us ≡ vs
    values_once [] NoParts End End h j = refl
    values_once [] NoParts End (More v vs) h j = absurd j
    values_once [] NoParts (More u us) vs h j = absurd h
    values_once [] (MoreParts w ws) us vs h j = absurd h
    values_once (k ∷ ks) NoParts us vs h j = absurd h
    values_once (k ∷ ks) (MoreParts w ws) End vs h j = absurd h
    values_once (k ∷ ks) (MoreParts w ws) (More u us) End h j = absurd j
    values_once (k ∷ ks) (MoreParts w ws) (More u us) (More v vs) h j =
        let first = value_once k w u v h.0 j.0 in
        let rest = values_once ks ws us vs h.1 j.1 in
        λ i. More (first i) (rest i)

-- ---- a line is one task

module _ (p : Program) (sound : IsSoundProgram p) where
  task_once : (line : List ℕ) (s t : Task) → IsTask p line s → IsTask p line t → s ≡ t
  task_once line s t h k =
      let name : h.name ≡ k.name = task_entry_once line h.name k.name h.parts k.parts h.spelt k.spelt in
      let parts : h.parts ≡ k.parts = task_values_once line h.name k.name h.parts k.parts h.spelt k.spelt in
      let entry : s.entry ≡ t.entry = sound.roots s.entry t.entry s.header t.header h.called.there k.called.there h.called.root k.called.root (h.called.named ∙ name ∙ sym k.called.named) in
      let header : s.header ≡ t.header = same_Some s.header t.header (sym h.called.there ∙ ap (λ n. slice_get p.instances n) entry ∙ k.called.there) in
      let typed : AreValues p.types (map type_of s.header.params) h.parts t.values =
      subst (λ (ws : Parts). AreValues p.types (map type_of s.header.params) ws t.values) (sym parts)
      (subst (λ (d : Instance). AreValues p.types (map type_of d.params) k.parts t.values) (sym header) k.typed) in
      let values : s.values ≡ t.values = values_once p.types sound.unlike (map type_of s.header.params) h.parts s.values t.values h.typed typed in
      λ i. record { entry = entry i; header = header i; values = values i }

  tasks_once : (lines : List (List ℕ)) (ss ts : List Task) → AreTasks p lines ss → AreTasks p lines ts → ss ≡ ts
  tasks_once [] [] [] h k = refl
  tasks_once [] [] (t ∷ ts) h k = absurd k
  tasks_once [] (s ∷ ss) ts h k = absurd h
  tasks_once (line ∷ lines) [] ts h k = absurd h
  tasks_once (line ∷ lines) (s ∷ ss) [] h k = absurd k
  tasks_once (line ∷ lines) (s ∷ ss) (t ∷ ts) h k = ap₂ (λ x xs. x ∷ xs) (task_once line s t h.0 k.0) (tasks_once lines ss ts h.1 k.1)

  -- of tasks that are few enough no line is bad
  bad_or_tasks : (n : ℕ) (lines : List (List ℕ)) (k : ℕ) (ts : List Task) → IsBadFrom p n lines k → AreTasks p lines ts → n + length lines ≤ most_tasks → ⊥
  bad_or_tasks n [] k ts h are few = h
  bad_or_tasks n (line ∷ lines) k [] h are few = are
  bad_or_tasks n (line ∷ lines) k (t ∷ ts) (inl (e, inl most)) are few = omega (arith, most, few)
  bad_or_tasks n (line ∷ lines) k (t ∷ ts) (inl (e, inr none)) are few = none t are.0
  bad_or_tasks n (line ∷ lines) k (t ∷ ts) (inr (less, some, rest)) are few = bad_or_tasks (suc n) lines k ts rest are.1 (omega (arith, few))

  bad_once : (n : ℕ) (lines : List (List ℕ)) (j k : ℕ) → IsBadFrom p n lines j → IsBadFrom p n lines k → j ≡ k
  bad_once n [] j k h i = absurd h
  bad_once n (line ∷ lines) j k (inl (e, x)) (inl (f, y)) = e ∙ sym f
  bad_once n (line ∷ lines) j k (inl (e, inl most)) (inr (less, some, rest)) = absurd (omega (arith, most, less))
  bad_once n (line ∷ lines) j k (inl (e, inr none)) (inr (less, some, rest)) = absurd (none some.0 some.1)
  bad_once n (line ∷ lines) j k (inr (less, some, rest)) (inl (e, inl most)) = absurd (omega (arith, most, less))
  bad_once n (line ∷ lines) j k (inr (less, some, rest)) (inl (e, inr none)) = absurd (none some.0 some.1)
  bad_once n (line ∷ lines) j k (inr (less, some, rest)) (inr (small, other, more)) = bad_once (suc n) lines j k rest more

-- ---- a task has one answer

-- An answer is reported in one text, if so is one of a run that was too deep.
text_once : (o q : Setting) (t : Task) (a : Answer) (x y : List ℕ) → o.program ≡ q.program → o.calls ≡ q.calls → (a ≡ Deep → free_frames o t.entry ≡ free_frames q t.entry) → TaskText o t a x → TaskText q t a y → x ≡ y
text_once o q t (Gives vs left) x y p c deep h k = h ∙ ap (λ (r : Program). joined r.types t.header.results vs line_end) p ∙ sym k
text_once o q t (Trap kind row col) x y p c deep h k = h ∙ sym k
text_once o q t Out x y p c deep h k = h ∙ ap out_of_calls_text c ∙ sym k
text_once o q t Deep x y p c deep h k = h ∙ ap out_of_frames_text (deep refl) ∙ sym k
text_once o q t Stuck x y p c deep h k = absurd h

module _ (source : List ℕ) (p : Program) (accepted : IsAccepted source p) (room : Room) where
  sound : IsSoundProgram p
  sound = typed_sound source p (typed_of source p accepted)

  abbrev setting : List Member → Setting
  setting ms = record { program = p; members = ms; words = room.words; calls = room.calls; frames = room.frames }

  module _ (ms ns : List Member) (found : AreMembers p.instances ms) (other : AreMembers p.instances ns) where
    abbrev Alike : Task → Type 0
    Alike t = (answer_of (setting ms) t.entry t.values ≡ answer_of (setting ns) t.entry t.values) × (answer_of (setting ns) t.entry t.values ≡ Deep → free_frames (setting ms) t.entry ≡ free_frames (setting ns) t.entry)

    alike : (line : List ℕ) (t : Task) (k : FunKind) → IsTask p line t → t.header.kind ≡ k → Alike t
    alike line t Fun is kind = absurd (is.called.runs kind)
    alike line t Fbip is kind =
        let same : free_frames (setting ms) t.entry ≡ free_frames (setting ns) t.entry = free_given source (setting ms) accepted found t.entry t.header is.called.there kind ∙ sym (free_given source (setting ns) accepted other t.entry t.header is.called.there kind) in
        (ap (λ n. (flat_meaning p t.entry t.values room.calls n).answer) same, λ deep. same)
    alike line t Fip is kind =
        let typed = all_typed p.types (map type_of t.header.params) is.parts t.values is.typed in
        let here = never_deep source (setting ms) accepted found t.entry t.header t.values is.called.there kind typed in
        let there = never_deep source (setting ns) accepted other t.entry t.header t.values is.called.there kind typed in
        let m : ℕ = free_frames (setting ms) t.entry in
        let n : ℕ = free_frames (setting ns) t.entry in
        let a = more_frames p t.entry t.values room.calls m n here in
        let b = more_frames p t.entry t.values room.calls n m there in
        let both : m + n ≡ n + m = omega arith in
        (ap (λ r. r.answer) (sym a ∙ ap (flat_meaning p t.entry t.values room.calls) both ∙ b), λ deep. absurd (there deep))

    reported_once : (line : List ℕ) (t : Task) (x y : List ℕ) → IsTask p line t → TaskText (setting ms) t (answer_of (setting ms) t.entry t.values) x → TaskText (setting ns) t (answer_of (setting ns) t.entry t.values) y → x ≡ y
    reported_once line t x y is h k =
        let same = alike line t t.header.kind is refl in
        text_once (setting ms) (setting ns) t (answer_of (setting ns) t.entry t.values) x y refl refl same.1 (subst (λ a. TaskText (setting ms) t a x) same.0 h) k

    lines_once : (n : ℕ) (lines : List (List ℕ)) (ts : List Task) (x y : List ℕ) → AreTasks p lines ts → TaskLines (setting ms) n ts x → TaskLines (setting ns) n ts y → x ≡ y
    lines_once n lines [] x y are h k = h ∙ sym k
    lines_once n [] (t ∷ ts) x y are h k = absurd are
    lines_once n (line ∷ lines) (t ∷ ts) x y are h k =
        let first : h.0 ≡ k.0 = reported_once line t h.0 k.0 are.0 h.2 k.2 in
        let rest : h.1 ≡ k.1 = lines_once (suc n) lines ts h.1 k.1 are.1 h.4 k.4 in
        h.3 ∙ (λ i. decimal n ++ (codes ": " ++ (first i ++ rest i))) ∙ sym k.3

    comes_once : (lines : List (List ℕ)) (d e : Result (List ℕ) Failure) → Comes (setting ms) lines d → Comes (setting ns) lines e → d ≡ e
    comes_once lines d e (Bad j h) (Bad k i) = ap (λ n. Err (F.BadTask n)) (bad_once p sound 0 lines j k h i)
    comes_once lines d e (Bad j h) (Small ts are few less) = absurd (bad_or_tasks p sound 0 lines j ts h are (omega (arith, few)))
    comes_once lines d e (Bad j h) (Answered ts text are few fits reported) = absurd (bad_or_tasks p sound 0 lines j ts h are (omega (arith, few)))
    comes_once lines d e (Small ss are few less) (Bad k i) = absurd (bad_or_tasks p sound 0 lines k ss i are (omega (arith, few)))
    comes_once lines d e (Small ss are few less) (Small ts also small more) = ap (λ xs. Err (F.TooSmall (words_of_tasks xs) room.words)) (tasks_once p sound lines ss ts are also)
    comes_once lines d e (Small ss are few less) (Answered ts text also small fits reported) = let same = ap words_of_tasks (tasks_once p sound lines ss ts are also) in absurd (omega (arith, less, fits, same))
    comes_once lines d e (Answered ss text are few fits reported) (Bad k i) = absurd (bad_or_tasks p sound 0 lines k ss i are (omega (arith, few)))
    comes_once lines d e (Answered ss text are few fits reported) (Small ts also small less) = let same = ap words_of_tasks (tasks_once p sound lines ss ts are also) in absurd (omega (arith, less, fits, same))
    comes_once lines d e (Answered ss x are few fits reported) (Answered ts y also small within others) =
        let same : ts ≡ ss = tasks_once p sound lines ts ss also are in
        ap (λ t. Ok t) (lines_once 0 lines ss x y are reported (subst (λ us. TaskLines (setting ns) 0 us y) same others))

-- ---- what the source ends in

setting_is : (source : List ℕ) (room : Room) (o : Setting) (p : Program) (accepted : IsAccepted source p) → o.program ≡ p → IsSetting source room o → o ≡ setting source p accepted room o.members
setting_is source room o p accepted same h = λ i. record { program = same i; members = o.members; words = h.words i; calls = h.calls i; frames = h.frames i }

pub turns_once : (source input : List ℕ) (room : Room) (d e : Result (List ℕ) Failure) → TakesTurns source input room d → TakesTurns source input room e → d ≡ e
turns_once source input room d e (o, s, h) (q, r, k) =
    let same : q.program ≡ o.program = accepted_once source q.program o.program r.accepted s.accepted in
    let found : AreMembers o.program.instances q.members = subst (λ (x : Program). AreMembers x.instances q.members) same r.found in
    let here : Comes (setting source o.program s.accepted room o.members) (lines_of input) d = subst (λ (x : Setting). Comes x (lines_of input) d) (setting_is source room o o.program s.accepted refl s) h in
    let there : Comes (setting source o.program s.accepted room q.members) (lines_of input) e = subst (λ (x : Setting). Comes x (lines_of input) e) (setting_is source room q o.program s.accepted same r) k in
    comes_once source o.program s.accepted room o.members q.members s.found found (lines_of input) d e here there

-- what comes of tasks comes of a source that breaks no rule
pub turns_ready : (source input : List ℕ) (room : Room) (e : Result (List ℕ) Failure) → TakesTurns source input room e → IsReady source Lawful
turns_ready source input room e h = record { program = h.0.program; accepted = h.1.accepted; has = tt }
