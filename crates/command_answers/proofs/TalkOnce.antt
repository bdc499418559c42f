-- A session of a source replies one thing to its lines.
-- Idea: a line is one line at most, since its text has one form; what is given for a parameter is one value; the causes of a
-- reply exclude each other; and the frames of a function don't depend on how the groups of its program are numbered.
use Rattle.std.proofs.Common.{◌≡◌, ◌≢◌, ◌∙◌, ◌<◌, ◌≤◌, ◌++◌, inl, inr, ℕ, zero, suc, List, [], ◌∷◌, Option, Some, None, length, slice_get, refl, sym, ap, ap₂, subst, arith}
use Rattle.std.specs.Prelude.{◌⊎◌, Ok, Err, codes, option_and_then}
use Rattle.std.specs.Fmt.{decimal}
use Rattle.std.proofs.lemmas.Option.{none-some, same_Some}
use Rattle.command_library.specs.command_outcome.Texts.{line_end, out_of_frames_text}
use Rattle.command_library.specs.command_words.Words.{Room}
use Rattle.command_library.specs.fip_base.declared.plain.Param.{Param}
use Rattle.command_library.specs.fip_language.Core.{Name}
use Rattle.command_library.specs.fip_language.Meaning.{Answer, Gives, Trap, Out, Deep, Stuck}
use Rattle.command_library.specs.fip_language.PrintedText.{printed}
use Rattle.command_library.specs.fip_language.Values.{Value, Values, End, More}
use Rattle.command_library.specs.command_run.fip_trees.SoundProgram.{IsSoundProgram}
use Rattle.command_library.specs.command_run.fip_trees.Tree.{Instance, Program}
use Rattle.command_library.specs.command_run.fip_trees.declared.groups.Member.{Member}
use Rattle.command_library.specs.command_run.tail_groups.Members.{AreMembers}
use Rattle.command_library.specs.command_source.Roots.{held}
use Rattle.command_library.specs.command_tasks.TasksAnswer.{IsSetting}
use Rattle.command_library.specs.session_semantics.Lines.{Given, Held, Fresh, Line, Calls, Shows, GivesUp, SpellsLine, lines_of}
use Rattle.command_library.specs.session_semantics.Talk.{Setting, Holding, State, IsTaken, AreTaken, IsWrong, AreFree, IsTakenName, Called, Fits, CallReplies, NoEntry, WrongNumber, BadArgument, BadResult, TooSmall, Ended, Done, Replies, BadLine, NothingShown, NothingGivenUp, Shown, GivenUp, Called', Talks}
use Rattle.command_library.specs.session_semantics.Talk.{at_first, answer_of, free_frames, frames_by, frames_of, held_as, hold_all, holding, left, named_by, needed, running, store_text, reported, used_by, without, EndText}
use Rattle.command_library.specs.session_semantics.Typed.{IsEntry}
use Rattle.command_library.specs.command_tasks.source_report.instance_semantics.Meaning.{flat_meaning}
use Rattle.command_library.proofs.command_run.session_semantics.OneForm.{line_once}
use Rattle.command_library.proofs.command_run.compiler_correctness.SoundTypes.{typed_sound}
use Rattle.command_library.proofs.command_eval.Meant.{typed_of}
use Rattle.command_library.proofs.command_source.Once.{held_same}
use Rattle.command_library.proofs.command_tasks.Once.{value_once}
use Rattle.command_library.proofs.command_tasks.source_report.FipCalls.{fip_calls}
use Rattle.command_library.proofs.command_tasks.source_report.Once.{accepted_once}
use Rattle.command_answers.specs.Ends as X
use Rattle.command_answers.specs.Exec as E

-- ---- what a call is given

module _ (p : Program) (sound : IsSoundProgram p) (holds : List Holding) where
  taken_once : (before : List Name) (q : Param) (g : Given) (u v : Value) → IsTaken p.types holds before q g u → IsTaken p.types holds before q g v → u ≡ v
  taken_once before q (Fresh w) u v h k = value_once p.types sound.unlike q.ty w u v h k
  taken_once before q (Held name) u v (a, at, ty, is, once) (b, there, tz, also, twice) = is ∙ ap (λ (x : Holding). x.value) (same_Some a b (sym at ∙ there)) ∙ sym also

  all_taken_once : (before : List Name) (qs : List Param) (gs : List Given) (us vs : Values) → AreTaken p.types holds before qs gs us → AreTaken p.types holds before qs gs vs → us ≡ vs
  all_taken_once before [] [] End End h k = refl
  all_taken_once before [] [] End (More v vs) h k = absurd k
  all_taken_once before [] [] (More u us) vs h k = absurd h
  all_taken_once before [] (g ∷ gs) us vs h k = absurd h
  all_taken_once before (q ∷ qs) [] us vs h k = absurd h
  all_taken_once before (q ∷ qs) (g ∷ gs) End vs h k = absurd h
  all_taken_once before (q ∷ qs) (g ∷ gs) (More u us) End h k = absurd k
  all_taken_once before (q ∷ qs) (g ∷ gs) (More u us) (More v vs) h k =
      let first = taken_once before q g u v h.0 k.0 in
      let rest = all_taken_once (before ++ named_by p.types q g) qs gs us vs h.1 k.1 in
      λ i. More (first i) (rest i)

  taken_length : (before : List Name) (qs : List Param) (gs : List Given) (vs : Values) → AreTaken p.types holds before qs gs vs → length gs ≡ length qs
  taken_length before [] [] End h = refl
  taken_length before [] [] (More v vs) h = absurd h
  taken_length before [] (g ∷ gs) vs h = absurd h
  taken_length before (q ∷ qs) [] vs h = absurd h
  taken_length before (q ∷ qs) (g ∷ gs) End h = absurd h
  taken_length before (q ∷ qs) (g ∷ gs) (More v vs) h = ap suc (taken_length (before ++ named_by p.types q g) qs gs vs h.1)

  -- where one is wrong they aren't all taken
  wrong_or_taken : (before : List Name) (qs : List Param) (gs : List Given) (k : ℕ) (vs : Values) → IsWrong p.types holds before qs gs k → AreTaken p.types holds before qs gs vs → ⊥
  wrong_or_taken before [] gs k vs h t = h
  wrong_or_taken before (q ∷ qs) [] k vs h t = h
  wrong_or_taken before (q ∷ qs) (g ∷ gs) k End h t = t
  wrong_or_taken before (q ∷ qs) (g ∷ gs) zero (More v vs) h t = h v t.0
  wrong_or_taken before (q ∷ qs) (g ∷ gs) (suc k) (More v vs) h t = wrong_or_taken (before ++ named_by p.types q g) qs gs k vs h.2 t.1

  wrong_once : (before : List Name) (qs : List Param) (gs : List Given) (j k : ℕ) → IsWrong p.types holds before qs gs j → IsWrong p.types holds before qs gs k → j ≡ k
  wrong_once before [] gs j k h i = absurd h
  wrong_once before (q ∷ qs) [] j k h i = absurd h
  wrong_once before (q ∷ qs) (g ∷ gs) zero zero h i = refl
  wrong_once before (q ∷ qs) (g ∷ gs) zero (suc k) h i = absurd (h i.0 i.1)
  wrong_once before (q ∷ qs) (g ∷ gs) (suc j) zero h i = absurd (i h.0 h.1)
  wrong_once before (q ∷ qs) (g ∷ gs) (suc j) (suc k) h i = ap suc (wrong_once (before ++ named_by p.types q g) qs gs j k h.2 i.2)

-- ---- the names of results

module _ (holds : List Holding) (used : List Name) where
  free_or_taken : (before ns : List Name) (name : Name) → AreFree holds used before ns → IsTakenName holds used before ns name → ⊥
  free_or_taken before [] name h k = k
  free_or_taken before (n ∷ ns) name h (inl (none, e)) = none h.0
  free_or_taken before (n ∷ ns) name h (inr (free, k)) = free_or_taken (n ∷ before) ns name h.1 k

  name_once : (before ns : List Name) (a b : Name) → IsTakenName holds used before ns a → IsTakenName holds used before ns b → a ≡ b
  name_once before [] a b h k = absurd h
  name_once before (n ∷ ns) a b (inl (none, e)) (inl (never, f)) = e ∙ sym f
  name_once before (n ∷ ns) a b (inl (none, e)) (inr (free, k)) = absurd (none free)
  name_once before (n ∷ ns) a b (inr (free, k)) (inl (none, e)) = absurd (none free)
  name_once before (n ∷ ns) a b (inr (free, h)) (inr (fine, k)) = name_once (n ∷ before) ns a b h k

-- ---- a reply to a call

abbrev given_of : Answer → Values
given_of (Gives vs left) = vs
given_of a = End

module _ (o : Setting) (sound : IsSoundProgram o.program) (s : State) (rs : List Name) (entry : Name) (gs : List Given) where
  abbrev p : Program
  p = o.program

  entry_once : (i j : ℕ) (d e : Instance) → IsEntry p entry i d → IsEntry p entry j e → (i ≡ j) × (d ≡ e)
  entry_once i j d e h k =
      let at : i ≡ j = sound.roots i j d e h.there k.there h.root k.root (h.named ∙ sym k.named) in
      (at, same_Some d e (sym h.there ∙ ap (slice_get p.instances) at ∙ k.there))

  abbrev Taken : Instance → Values → Type 0
  Taken d vs = AreTaken p.types s.held [] d.params gs vs

  abbrev Used : Instance → List Name
  Used d = used_by p.types d.params gs

  values_same : (d e : Instance) (us vs : Values) → d ≡ e → Taken d us → Taken e vs → us ≡ vs
  values_same d e us vs same h k = all_taken_once p sound s.held [] e.params gs us vs (subst (λ x. Taken x us) same h) k

  as_many : (d : Instance) (vs : Values) → Taken d vs → length gs ≡ length d.params
  as_many d vs h = taken_length p sound s.held [] d.params gs vs h

  not_wrong : (d e : Instance) (k : ℕ) (vs : Values) → d ≡ e → IsWrong p.types s.held [] d.params gs k → Taken e vs → ⊥
  not_wrong d e k vs same h t = wrong_or_taken p sound s.held [] e.params gs k vs (subst (λ (x : Instance). IsWrong p.types s.held [] x.params gs k) same h) t

  right_number : (d e : Instance) → d ≡ e → (length gs ≢ length d.params) ⊎ (length rs ≢ length d.results) → length gs ≡ length e.params → length rs ≡ length e.results → ⊥
  right_number d e same (inl differ) one two = differ (one ∙ sym (ap (λ (x : Instance). length x.params) same))
  right_number d e same (inr differ) one two = differ (two ∙ sym (ap (λ (x : Instance). length x.results) same))

  not_taken : (d e : Instance) (name : Name) → d ≡ e → IsTakenName s.held (Used d) [] rs name → AreFree s.held (Used e) [] rs → ⊥
  not_taken d e name same k h = free_or_taken s.held (Used e) [] rs name h (subst (λ x. IsTakenName s.held (Used x) [] rs name) same k)

  needs : (d e : Instance) (us vs : Values) → d ≡ e → us ≡ vs → needed s gs us d.credits ≡ needed s gs vs e.credits
  needs d e us vs same also = λ i. needed s gs (also i) (same i).credits

  not_small : (d e : Instance) (us vs : Values) → d ≡ e → us ≡ vs → left o s < needed s gs us d.credits → needed s gs vs e.credits ≤ left o s → ⊥
  not_small d e us vs same also less fits = let n = needs d e us vs same also in omega (arith, less, fits, n)

  ran : (d e : Instance) (us vs : Values) → d ≡ e → us ≡ vs → running o s d gs us ≡ running o s e gs vs
  ran d e us vs same also = λ i. running o s (same i) gs (also i)

  end_once : (i : ℕ) (a : Answer) (t u : List ℕ) → EndText o i a t → EndText o i a u → t ≡ u
  end_once i (Gives vs left) t u h k = absurd h
  end_once i (Trap kind line col) t u h k = h ∙ sym k
  end_once i Out t u h k = h ∙ sym k
  end_once i Deep t u h k = h ∙ sym k
  end_once i Stuck t u h k = absurd h

  no_end : (i : ℕ) (vs : Values) (calls : ℕ) (a : Answer) (t : List ℕ) → a ≡ Gives vs calls → EndText o i a t → ⊥
  no_end i vs calls a t is h = subst (λ b. EndText o i b t) is h

  answered : (i j : ℕ) (us vs : Values) → i ≡ j → us ≡ vs → answer_of o i us ≡ answer_of o j vs
  answered i j us vs at also = λ k. answer_of o (at k) (also k)

  done : (d e : Instance) (us vs xs ys : Values) → d ≡ e → us ≡ vs → xs ≡ ys → holding (running o s d gs us) (hold_all rs d.results xs) ≡ holding (running o s e gs vs) (hold_all rs e.results ys)
  done d e us vs xs ys same also results = λ i. holding (running o s (same i) gs (also i)) (hold_all rs (same i).results (results i))

  call_once : (t u : List ℕ) (a b : State) → CallReplies o s rs entry gs t a → CallReplies o s rs entry gs u b → (t ≡ u) × (a ≡ b)
  call_once t u a b (NoEntry none1) (NoEntry none2) = (refl, refl)
  call_once t u a b (NoEntry none1) (WrongNumber i2 d2 h2 w2) = absurd (none1 i2 d2 h2)
  call_once t u a b (NoEntry none1) (BadArgument i2 d2 k2 h2 n2 m2 w2) = absurd (none1 i2 d2 h2)
  call_once t u a b (NoEntry none1) (BadResult i2 d2 vs2 name2 h2 m2 t2 w2) = absurd (none1 i2 d2 h2)
  call_once t u a b (NoEntry none1) (TooSmall i2 d2 vs2 h2 c2 less2) = absurd (none1 i2 d2 h2)
  call_once t u a b (NoEntry none1) (Ended i2 d2 vs2 text2 h2 f2 e2) = absurd (none1 i2 d2 h2)
  call_once t u a b (NoEntry none1) (Done i2 d2 vs2 given2 calls2 h2 f2 e2) = absurd (none1 i2 d2 h2)
  call_once t u a b (WrongNumber i1 d1 h1 w1) (NoEntry none2) = absurd (none2 i1 d1 h1)
  call_once t u a b (WrongNumber i1 d1 h1 w1) (WrongNumber i2 d2 h2 w2) = (refl, refl)
  call_once t u a b (WrongNumber i1 d1 h1 w1) (BadArgument i2 d2 k2 h2 n2 m2 w2) = absurd (right_number d1 d2 (entry_once i1 i2 d1 d2 h1 h2).1 w1 n2 m2)
  call_once t u a b (WrongNumber i1 d1 h1 w1) (BadResult i2 d2 vs2 name2 h2 m2 t2 w2) = absurd (right_number d1 d2 (entry_once i1 i2 d1 d2 h1 h2).1 w1 (as_many d2 vs2 t2) m2)
  call_once t u a b (WrongNumber i1 d1 h1 w1) (TooSmall i2 d2 vs2 h2 c2 less2) = absurd (right_number d1 d2 (entry_once i1 i2 d1 d2 h1 h2).1 w1 (as_many d2 vs2 c2.taken) c2.count)
  call_once t u a b (WrongNumber i1 d1 h1 w1) (Ended i2 d2 vs2 text2 h2 f2 e2) = absurd (right_number d1 d2 (entry_once i1 i2 d1 d2 h1 h2).1 w1 (as_many d2 vs2 f2.called.taken) f2.called.count)
  call_once t u a b (WrongNumber i1 d1 h1 w1) (Done i2 d2 vs2 given2 calls2 h2 f2 e2) = absurd (right_number d1 d2 (entry_once i1 i2 d1 d2 h1 h2).1 w1 (as_many d2 vs2 f2.called.taken) f2.called.count)
  call_once t u a b (BadArgument i1 d1 k1 h1 n1 m1 w1) (NoEntry none2) = absurd (none2 i1 d1 h1)
  call_once t u a b (BadArgument i1 d1 k1 h1 n1 m1 w1) (WrongNumber i2 d2 h2 w2) = absurd (right_number d2 d1 (entry_once i2 i1 d2 d1 h2 h1).1 w2 n1 m1)
  call_once t u a b (BadArgument i1 d1 k1 h1 n1 m1 w1) (BadArgument i2 d2 k2 h2 n2 m2 w2) = (ap (λ k. reported (codes "bad argument ") (decimal (suc k))) (wrong_once p sound s.held [] d2.params gs k1 k2 (subst (λ (x : Instance). IsWrong p.types s.held [] x.params gs k1) (entry_once i1 i2 d1 d2 h1 h2).1 w1) w2), refl)
  call_once t u a b (BadArgument i1 d1 k1 h1 n1 m1 w1) (BadResult i2 d2 vs2 name2 h2 m2 t2 w2) = absurd (not_wrong d1 d2 k1 vs2 (entry_once i1 i2 d1 d2 h1 h2).1 w1 t2)
  call_once t u a b (BadArgument i1 d1 k1 h1 n1 m1 w1) (TooSmall i2 d2 vs2 h2 c2 less2) = absurd (not_wrong d1 d2 k1 vs2 (entry_once i1 i2 d1 d2 h1 h2).1 w1 c2.taken)
  call_once t u a b (BadArgument i1 d1 k1 h1 n1 m1 w1) (Ended i2 d2 vs2 text2 h2 f2 e2) = absurd (not_wrong d1 d2 k1 vs2 (entry_once i1 i2 d1 d2 h1 h2).1 w1 f2.called.taken)
  call_once t u a b (BadArgument i1 d1 k1 h1 n1 m1 w1) (Done i2 d2 vs2 given2 calls2 h2 f2 e2) = absurd (not_wrong d1 d2 k1 vs2 (entry_once i1 i2 d1 d2 h1 h2).1 w1 f2.called.taken)
  call_once t u a b (BadResult i1 d1 vs1 name1 h1 m1 t1 w1) (NoEntry none2) = absurd (none2 i1 d1 h1)
  call_once t u a b (BadResult i1 d1 vs1 name1 h1 m1 t1 w1) (WrongNumber i2 d2 h2 w2) = absurd (right_number d2 d1 (entry_once i2 i1 d2 d1 h2 h1).1 w2 (as_many d1 vs1 t1) m1)
  call_once t u a b (BadResult i1 d1 vs1 name1 h1 m1 t1 w1) (BadArgument i2 d2 k2 h2 n2 m2 w2) = absurd (not_wrong d2 d1 k2 vs1 (entry_once i2 i1 d2 d1 h2 h1).1 w2 t1)
  call_once t u a b (BadResult i1 d1 vs1 name1 h1 m1 t1 w1) (BadResult i2 d2 vs2 name2 h2 m2 t2 w2) = (ap (reported (codes "bad result ")) (name_once s.held (Used d2) [] rs name1 name2 (subst (λ x. IsTakenName s.held (Used x) [] rs name1) (entry_once i1 i2 d1 d2 h1 h2).1 w1) w2), refl)
  call_once t u a b (BadResult i1 d1 vs1 name1 h1 m1 t1 w1) (TooSmall i2 d2 vs2 h2 c2 less2) = absurd (not_taken d1 d2 name1 (entry_once i1 i2 d1 d2 h1 h2).1 w1 c2.free)
  call_once t u a b (BadResult i1 d1 vs1 name1 h1 m1 t1 w1) (Ended i2 d2 vs2 text2 h2 f2 e2) = absurd (not_taken d1 d2 name1 (entry_once i1 i2 d1 d2 h1 h2).1 w1 f2.called.free)
  call_once t u a b (BadResult i1 d1 vs1 name1 h1 m1 t1 w1) (Done i2 d2 vs2 given2 calls2 h2 f2 e2) = absurd (not_taken d1 d2 name1 (entry_once i1 i2 d1 d2 h1 h2).1 w1 f2.called.free)
  call_once t u a b (TooSmall i1 d1 vs1 h1 c1 less1) (NoEntry none2) = absurd (none2 i1 d1 h1)
  call_once t u a b (TooSmall i1 d1 vs1 h1 c1 less1) (WrongNumber i2 d2 h2 w2) = absurd (right_number d2 d1 (entry_once i2 i1 d2 d1 h2 h1).1 w2 (as_many d1 vs1 c1.taken) c1.count)
  call_once t u a b (TooSmall i1 d1 vs1 h1 c1 less1) (BadArgument i2 d2 k2 h2 n2 m2 w2) = absurd (not_wrong d2 d1 k2 vs1 (entry_once i2 i1 d2 d1 h2 h1).1 w2 c1.taken)
  call_once t u a b (TooSmall i1 d1 vs1 h1 c1 less1) (BadResult i2 d2 vs2 name2 h2 m2 t2 w2) = absurd (not_taken d2 d1 name2 (entry_once i2 i1 d2 d1 h2 h1).1 w2 c1.free)
  call_once t u a b (TooSmall i1 d1 vs1 h1 c1 less1) (TooSmall i2 d2 vs2 h2 c2 less2) = (ap (λ n. store_text n (left o s)) (needs d1 d2 vs1 vs2 (entry_once i1 i2 d1 d2 h1 h2).1 (values_same d1 d2 vs1 vs2 (entry_once i1 i2 d1 d2 h1 h2).1 c1.taken c2.taken)), refl)
  call_once t u a b (TooSmall i1 d1 vs1 h1 c1 less1) (Ended i2 d2 vs2 text2 h2 f2 e2) = absurd (not_small d1 d2 vs1 vs2 (entry_once i1 i2 d1 d2 h1 h2).1 (values_same d1 d2 vs1 vs2 (entry_once i1 i2 d1 d2 h1 h2).1 c1.taken f2.called.taken) less1 f2.room)
  call_once t u a b (TooSmall i1 d1 vs1 h1 c1 less1) (Done i2 d2 vs2 given2 calls2 h2 f2 e2) = absurd (not_small d1 d2 vs1 vs2 (entry_once i1 i2 d1 d2 h1 h2).1 (values_same d1 d2 vs1 vs2 (entry_once i1 i2 d1 d2 h1 h2).1 c1.taken f2.called.taken) less1 f2.room)
  call_once t u a b (Ended i1 d1 vs1 text1 h1 f1 e1) (NoEntry none2) = absurd (none2 i1 d1 h1)
  call_once t u a b (Ended i1 d1 vs1 text1 h1 f1 e1) (WrongNumber i2 d2 h2 w2) = absurd (right_number d2 d1 (entry_once i2 i1 d2 d1 h2 h1).1 w2 (as_many d1 vs1 f1.called.taken) f1.called.count)
  call_once t u a b (Ended i1 d1 vs1 text1 h1 f1 e1) (BadArgument i2 d2 k2 h2 n2 m2 w2) = absurd (not_wrong d2 d1 k2 vs1 (entry_once i2 i1 d2 d1 h2 h1).1 w2 f1.called.taken)
  call_once t u a b (Ended i1 d1 vs1 text1 h1 f1 e1) (BadResult i2 d2 vs2 name2 h2 m2 t2 w2) = absurd (not_taken d2 d1 name2 (entry_once i2 i1 d2 d1 h2 h1).1 w2 f1.called.free)
  call_once t u a b (Ended i1 d1 vs1 text1 h1 f1 e1) (TooSmall i2 d2 vs2 h2 c2 less2) = absurd (not_small d2 d1 vs2 vs1 (entry_once i2 i1 d2 d1 h2 h1).1 (values_same d2 d1 vs2 vs1 (entry_once i2 i1 d2 d1 h2 h1).1 c2.taken f1.called.taken) less2 f1.room)
  call_once t u a b (Ended i1 d1 vs1 text1 h1 f1 e1) (Ended i2 d2 vs2 text2 h2 f2 e2) = (end_once i2 (answer_of o i2 vs2) text1 text2 (subst (λ a. EndText o i2 a text1) (answered i1 i2 vs1 vs2 (entry_once i1 i2 d1 d2 h1 h2).0 (values_same d1 d2 vs1 vs2 (entry_once i1 i2 d1 d2 h1 h2).1 f1.called.taken f2.called.taken)) (subst (λ j. EndText o j (answer_of o i1 vs1) text1) (entry_once i1 i2 d1 d2 h1 h2).0 e1)) e2, ran d1 d2 vs1 vs2 (entry_once i1 i2 d1 d2 h1 h2).1 (values_same d1 d2 vs1 vs2 (entry_once i1 i2 d1 d2 h1 h2).1 f1.called.taken f2.called.taken))
  call_once t u a b (Ended i1 d1 vs1 text1 h1 f1 e1) (Done i2 d2 vs2 given2 calls2 h2 f2 e2) = absurd (no_end i1 given2 calls2 (answer_of o i1 vs1) text1 (answered i1 i2 vs1 vs2 (entry_once i1 i2 d1 d2 h1 h2).0 (values_same d1 d2 vs1 vs2 (entry_once i1 i2 d1 d2 h1 h2).1 f1.called.taken f2.called.taken) ∙ e2) e1)
  call_once t u a b (Done i1 d1 vs1 given1 calls1 h1 f1 e1) (NoEntry none2) = absurd (none2 i1 d1 h1)
  call_once t u a b (Done i1 d1 vs1 given1 calls1 h1 f1 e1) (WrongNumber i2 d2 h2 w2) = absurd (right_number d2 d1 (entry_once i2 i1 d2 d1 h2 h1).1 w2 (as_many d1 vs1 f1.called.taken) f1.called.count)
  call_once t u a b (Done i1 d1 vs1 given1 calls1 h1 f1 e1) (BadArgument i2 d2 k2 h2 n2 m2 w2) = absurd (not_wrong d2 d1 k2 vs1 (entry_once i2 i1 d2 d1 h2 h1).1 w2 f1.called.taken)
  call_once t u a b (Done i1 d1 vs1 given1 calls1 h1 f1 e1) (BadResult i2 d2 vs2 name2 h2 m2 t2 w2) = absurd (not_taken d2 d1 name2 (entry_once i2 i1 d2 d1 h2 h1).1 w2 f1.called.free)
  call_once t u a b (Done i1 d1 vs1 given1 calls1 h1 f1 e1) (TooSmall i2 d2 vs2 h2 c2 less2) = absurd (not_small d2 d1 vs2 vs1 (entry_once i2 i1 d2 d1 h2 h1).1 (values_same d2 d1 vs2 vs1 (entry_once i2 i1 d2 d1 h2 h1).1 c2.taken f1.called.taken) less2 f1.room)
  call_once t u a b (Done i1 d1 vs1 given1 calls1 h1 f1 e1) (Ended i2 d2 vs2 text2 h2 f2 e2) = absurd (no_end i2 given1 calls1 (answer_of o i2 vs2) text2 (answered i2 i1 vs2 vs1 (entry_once i2 i1 d2 d1 h2 h1).0 (values_same d2 d1 vs2 vs1 (entry_once i2 i1 d2 d1 h2 h1).1 f2.called.taken f1.called.taken) ∙ e1) e2)
  call_once t u a b (Done i1 d1 vs1 given1 calls1 h1 f1 e1) (Done i2 d2 vs2 given2 calls2 h2 f2 e2) = (refl, done d1 d2 vs1 vs2 given1 given2 (entry_once i1 i2 d1 d2 h1 h2).1 (values_same d1 d2 vs1 vs2 (entry_once i1 i2 d1 d2 h1 h2).1 f1.called.taken f2.called.taken) (ap given_of (sym e1 ∙ answered i1 i2 vs1 vs2 (entry_once i1 i2 d1 d2 h1 h2).0 (values_same d1 d2 vs1 vs2 (entry_once i1 i2 d1 d2 h1 h2).1 f1.called.taken f2.called.taken) ∙ e2)))

-- ---- a reply to a line

abbrev result_of : Line → Name
result_of (Calls result results entry gs) = result
result_of (Shows name) = name
result_of (GivesUp name) = name

abbrev results_of : Line → List Name
results_of (Calls result results entry gs) = results
results_of line = []

abbrev entry_of : Line → Name
entry_of (Calls result results entry gs) = entry
entry_of line = []

abbrev arguments_of : Line → List Given
arguments_of (Calls result results entry gs) = gs
arguments_of line = []

-- which of the three it is
abbrev kind_of : Line → ℕ
kind_of (Calls result results entry gs) = 0
kind_of (Shows name) = 1
kind_of (GivesUp name) = 2

module _ (o : Setting) (sound : IsSoundProgram o.program) (s : State) (bytes : List ℕ) where
  other_kind : (a b : Line) → SpellsLine bytes a → SpellsLine bytes b → kind_of a ≢ kind_of b → ⊥
  other_kind a b h k differ = differ (ap kind_of (line_once bytes a b h k))

  name_same : (a b : Line) → SpellsLine bytes a → SpellsLine bytes b → result_of a ≡ result_of b
  name_same a b h k = ap result_of (line_once bytes a b h k)

  held_or_none : (m n : Name) (h : Holding) → m ≡ n → held_as m s.held ≡ None → held_as n s.held ≡ Some h → ⊥
  held_or_none m n h same none some = none-some h (sym none ∙ ap (λ x. held_as x s.held) same ∙ some)

  holding_same : (m n : Name) (g h : Holding) → m ≡ n → held_as m s.held ≡ Some g → held_as n s.held ≡ Some h → g ≡ h
  holding_same m n g h same at there = same_Some g h (sym at ∙ ap (λ x. held_as x s.held) same ∙ there)

  replies_once : (t u : List ℕ) (a b : State) → Replies o s bytes t a → Replies o s bytes u b → (t ≡ u) × (a ≡ b)
  replies_once t u a b (BadLine none1) (BadLine none2) = (refl, refl)
  replies_once t u a b (BadLine none1) (NothingShown name2 h2 e2) = absurd (none1 (Shows name2) h2)
  replies_once t u a b (BadLine none1) (NothingGivenUp name2 h2 e2) = absurd (none1 (GivesUp name2) h2)
  replies_once t u a b (BadLine none1) (Shown name2 g2 h2 e2) = absurd (none1 (Shows name2) h2)
  replies_once t u a b (BadLine none1) (GivenUp name2 g2 h2 e2) = absurd (none1 (GivesUp name2) h2)
  replies_once t u a b (BadLine none1) (Called' r2 rs2 entry2 gs2 text2 s2 h2 c2) = absurd (none1 (Calls r2 rs2 entry2 gs2) h2)
  replies_once t u a b (NothingShown name1 h1 e1) (BadLine none2) = absurd (none2 (Shows name1) h1)
  replies_once t u a b (NothingShown name1 h1 e1) (NothingShown name2 h2 e2) = (ap (reported (codes "no name ")) (name_same (Shows name1) (Shows name2) h1 h2), refl)
  replies_once t u a b (NothingShown name1 h1 e1) (NothingGivenUp name2 h2 e2) = absurd (other_kind (Shows name1) (GivesUp name2) h1 h2 (λ e. omega (arith, e)))
  replies_once t u a b (NothingShown name1 h1 e1) (Shown name2 g2 h2 e2) = absurd (held_or_none name1 name2 g2 (name_same (Shows name1) (Shows name2) h1 h2) e1 e2)
  replies_once t u a b (NothingShown name1 h1 e1) (GivenUp name2 g2 h2 e2) = absurd (other_kind (Shows name1) (GivesUp name2) h1 h2 (λ e. omega (arith, e)))
  replies_once t u a b (NothingShown name1 h1 e1) (Called' r2 rs2 entry2 gs2 text2 s2 h2 c2) = absurd (other_kind (Shows name1) (Calls r2 rs2 entry2 gs2) h1 h2 (λ e. omega (arith, e)))
  replies_once t u a b (NothingGivenUp name1 h1 e1) (BadLine none2) = absurd (none2 (GivesUp name1) h1)
  replies_once t u a b (NothingGivenUp name1 h1 e1) (NothingShown name2 h2 e2) = absurd (other_kind (GivesUp name1) (Shows name2) h1 h2 (λ e. omega (arith, e)))
  replies_once t u a b (NothingGivenUp name1 h1 e1) (NothingGivenUp name2 h2 e2) = (ap (reported (codes "no name ")) (name_same (GivesUp name1) (GivesUp name2) h1 h2), refl)
  replies_once t u a b (NothingGivenUp name1 h1 e1) (Shown name2 g2 h2 e2) = absurd (other_kind (GivesUp name1) (Shows name2) h1 h2 (λ e. omega (arith, e)))
  replies_once t u a b (NothingGivenUp name1 h1 e1) (GivenUp name2 g2 h2 e2) = absurd (held_or_none name1 name2 g2 (name_same (GivesUp name1) (GivesUp name2) h1 h2) e1 e2)
  replies_once t u a b (NothingGivenUp name1 h1 e1) (Called' r2 rs2 entry2 gs2 text2 s2 h2 c2) = absurd (other_kind (GivesUp name1) (Calls r2 rs2 entry2 gs2) h1 h2 (λ e. omega (arith, e)))
  replies_once t u a b (Shown name1 g1 h1 e1) (BadLine none2) = absurd (none2 (Shows name1) h1)
  replies_once t u a b (Shown name1 g1 h1 e1) (NothingShown name2 h2 e2) = absurd (held_or_none name2 name1 g1 (sym (name_same (Shows name1) (Shows name2) h1 h2)) e2 e1)
  replies_once t u a b (Shown name1 g1 h1 e1) (NothingGivenUp name2 h2 e2) = absurd (other_kind (Shows name1) (GivesUp name2) h1 h2 (λ e. omega (arith, e)))
  replies_once t u a b (Shown name1 g1 h1 e1) (Shown name2 g2 h2 e2) = (ap (λ (g : Holding). printed o.program.types g.type g.value line_end) (holding_same name1 name2 g1 g2 (name_same (Shows name1) (Shows name2) h1 h2) e1 e2), refl)
  replies_once t u a b (Shown name1 g1 h1 e1) (GivenUp name2 g2 h2 e2) = absurd (other_kind (Shows name1) (GivesUp name2) h1 h2 (λ e. omega (arith, e)))
  replies_once t u a b (Shown name1 g1 h1 e1) (Called' r2 rs2 entry2 gs2 text2 s2 h2 c2) = absurd (other_kind (Shows name1) (Calls r2 rs2 entry2 gs2) h1 h2 (λ e. omega (arith, e)))
  replies_once t u a b (GivenUp name1 g1 h1 e1) (BadLine none2) = absurd (none2 (GivesUp name1) h1)
  replies_once t u a b (GivenUp name1 g1 h1 e1) (NothingShown name2 h2 e2) = absurd (other_kind (GivesUp name1) (Shows name2) h1 h2 (λ e. omega (arith, e)))
  replies_once t u a b (GivenUp name1 g1 h1 e1) (NothingGivenUp name2 h2 e2) = absurd (held_or_none name2 name1 g1 (sym (name_same (GivesUp name1) (GivesUp name2) h1 h2)) e2 e1)
  replies_once t u a b (GivenUp name1 g1 h1 e1) (Shown name2 g2 h2 e2) = absurd (other_kind (GivesUp name1) (Shows name2) h1 h2 (λ e. omega (arith, e)))
  replies_once t u a b (GivenUp name1 g1 h1 e1) (GivenUp name2 g2 h2 e2) = (refl, ap (λ n. record { held = without n s.held; made = s.made }) (name_same (GivesUp name1) (GivesUp name2) h1 h2))
  replies_once t u a b (GivenUp name1 g1 h1 e1) (Called' r2 rs2 entry2 gs2 text2 s2 h2 c2) = absurd (other_kind (GivesUp name1) (Calls r2 rs2 entry2 gs2) h1 h2 (λ e. omega (arith, e)))
  replies_once t u a b (Called' r1 rs1 entry1 gs1 text1 s1 h1 c1) (BadLine none2) = absurd (none2 (Calls r1 rs1 entry1 gs1) h1)
  replies_once t u a b (Called' r1 rs1 entry1 gs1 text1 s1 h1 c1) (NothingShown name2 h2 e2) = absurd (other_kind (Calls r1 rs1 entry1 gs1) (Shows name2) h1 h2 (λ e. omega (arith, e)))
  replies_once t u a b (Called' r1 rs1 entry1 gs1 text1 s1 h1 c1) (NothingGivenUp name2 h2 e2) = absurd (other_kind (Calls r1 rs1 entry1 gs1) (GivesUp name2) h1 h2 (λ e. omega (arith, e)))
  replies_once t u a b (Called' r1 rs1 entry1 gs1 text1 s1 h1 c1) (Shown name2 g2 h2 e2) = absurd (other_kind (Calls r1 rs1 entry1 gs1) (Shows name2) h1 h2 (λ e. omega (arith, e)))
  replies_once t u a b (Called' r1 rs1 entry1 gs1 text1 s1 h1 c1) (GivenUp name2 g2 h2 e2) = absurd (other_kind (Calls r1 rs1 entry1 gs1) (GivesUp name2) h1 h2 (λ e. omega (arith, e)))
  replies_once t u a b (Called' r1 rs1 entry1 gs1 text1 s1 h1 c1) (Called' r2 rs2 entry2 gs2 text2 s2 h2 c2) = call_once o sound s (r2 ∷ rs2) entry2 gs2 text1 text2 s1 s2 (subst (λ l. CallReplies o s (result_of l ∷ results_of l) (entry_of l) (arguments_of l) text1 s1) (line_once bytes (Calls r1 rs1 entry1 gs1) (Calls r2 rs2 entry2 gs2) h1 h2) c1) c2

talks_once : (o : Setting) → IsSoundProgram o.program → (s : State) (lines : List (List ℕ)) (t u : List ℕ) → Talks o s lines t → Talks o s lines u → t ≡ u
talks_once o sound s [] t u h k = h ∙ sym k
talks_once o sound s (line ∷ lines) t u (x, xs, a, first, is, more) (y, ys, b, other, also, further) =
    let same = replies_once o sound s line x y a b first other in
    let rest = talks_once o sound b lines xs ys (subst (λ c. Talks o c lines xs) same.1 more) further in
    is ∙ (λ i. same.0 i ++ rest i) ∙ sym also

-- ---- groups that are numbered otherwise

frames_held : (frames : ℕ) (m : Option Member) → frames_by frames m ≡ frames_of frames (option_and_then (λ (m : Member). m.stack) m)
frames_held frames None = refl
frames_held frames (Some m) = refl

module _ (o : Setting) (ns : List Member) (same : (i : ℕ) → held o.members i ≡ held ns i) where
  abbrev q : Setting
  q = record o { members = ns }

  free_same : (i : ℕ) → free_frames o i ≡ free_frames q i
  free_same i = frames_held o.frames (slice_get o.members i) ∙ ap (frames_of o.frames) (same i) ∙ sym (frames_held o.frames (slice_get ns i))

  answer_same : (i : ℕ) (vs : Values) → answer_of o i vs ≡ answer_of q i vs
  answer_same i vs = ap (λ n. (flat_meaning o.program i vs o.calls n).answer) (free_same i)

  end_moved : (i : ℕ) (a : Answer) (t : List ℕ) → EndText o i a t → EndText q i a t
  end_moved i (Gives vs left) t h = h
  end_moved i (Trap kind line col) t h = h
  end_moved i Out t h = h
  end_moved i Deep t h = h ∙ ap out_of_frames_text (free_same i)
  end_moved i Stuck t h = h

  called_moved : (s : State) (rs : List Name) (i : ℕ) (d : Instance) (gs : List Given) (vs : Values) → Called o s rs i d gs vs → Called q s rs i d gs vs
  called_moved s rs i d gs vs c = record { count = c.count; taken = c.taken; free = c.free }

  fits_moved : (s : State) (rs : List Name) (i : ℕ) (d : Instance) (gs : List Given) (vs : Values) → Fits o s rs i d gs vs → Fits q s rs i d gs vs
  fits_moved s rs i d gs vs f = record { called = called_moved s rs i d gs vs f.called; room = f.room }

  call_moved : (s : State) (rs : List Name) (entry : Name) (gs : List Given) (t : List ℕ) (a : State) → CallReplies o s rs entry gs t a → CallReplies q s rs entry gs t a
  call_moved s rs entry gs t a (NoEntry none) = NoEntry none
  call_moved s rs entry gs t a (WrongNumber i d h w) = WrongNumber i d h w
  call_moved s rs entry gs t a (BadArgument i d k h n m w) = BadArgument i d k h n m w
  call_moved s rs entry gs t a (BadResult i d vs name h m taken w) = BadResult i d vs name h m taken w
  call_moved s rs entry gs t a (TooSmall i d vs h c less) = TooSmall i d vs h (called_moved s rs i d gs vs c) less
  call_moved s rs entry gs t a (Ended i d vs text h f e) = Ended i d vs text h (fits_moved s rs i d gs vs f) (subst (λ x. EndText q i x text) (answer_same i vs) (end_moved i (answer_of o i vs) text e))
  call_moved s rs entry gs t a (Done i d vs given calls h f e) = Done i d vs given calls h (fits_moved s rs i d gs vs f) (sym (answer_same i vs) ∙ e)

  reply_moved : (s : State) (bytes t : List ℕ) (a : State) → Replies o s bytes t a → Replies q s bytes t a
  reply_moved s bytes t a (BadLine none) = BadLine none
  reply_moved s bytes t a (NothingShown name h e) = NothingShown name h e
  reply_moved s bytes t a (NothingGivenUp name h e) = NothingGivenUp name h e
  reply_moved s bytes t a (Shown name g h e) = Shown name g h e
  reply_moved s bytes t a (GivenUp name g h e) = GivenUp name g h e
  reply_moved s bytes t a (Called' r rs entry gs text b h c) = Called' r rs entry gs text b h (call_moved s (r ∷ rs) entry gs text b c)

  talk_moved : (s : State) (lines : List (List ℕ)) (t : List ℕ) → Talks o s lines t → Talks q s lines t
  talk_moved s [] t h = h
  talk_moved s (line ∷ lines) t (x, xs, a, first, is, more) = (x, xs, a, reply_moved s line x a first, is, talk_moved a lines xs more)

-- ---- of a source

-- two settings of one source differ in how groups are numbered alone
setting_same : (source : List ℕ) (room : Room) (o q : Setting) → o.program ≡ q.program → IsSetting source room o → IsSetting source room q → record o { members = q.members } ≡ q
setting_same source room o q same h k = λ i. record { program = same i; members = q.members; words = (h.words ∙ sym k.words) i; calls = (h.calls ∙ sym k.calls) i; frames = (h.frames ∙ sym k.frames) i }

pub replies_same : (source input : List ℕ) (room : Room) (d e : E.End) → X.Replies source input room d → X.Replies source input room e → d ≡ e
replies_same source input room (Ok t) (Ok u) (o, h, talk) (q, k, other) =
    let program : o.program ≡ q.program = accepted_once source o.program q.program h.accepted k.accepted in
    let fip = fip_calls source q.program k.accepted.tailed.credited.owned in
    let found : AreMembers q.program.instances o.members = subst (λ (x : Program). AreMembers x.instances o.members) program h.found in
    let stacks = held_same q.program.instances o.members q.members fip found k.found in
    let moved : Talks q at_first (lines_of input) t = subst (λ (x : Setting). Talks x at_first (lines_of input) t) (setting_same source room o q program h k) (talk_moved o q.members stacks at_first (lines_of input) t talk) in
    ap (λ t. Ok t) (talks_once q (typed_sound source q.program (typed_of source q.program k.accepted)) at_first (lines_of input) t u moved other)
replies_same source input room (Ok t) (Err f) h k = absurd k
replies_same source input room (Err f) e h k = absurd h
