-- A session of a source that breaks no rule replies to each line.
-- Idea: where no other cause holds the next is checked; what is held has its type, so no call is stuck.
use Rattle.std.proofs.Common.{◌≡◌, ◌≢◌, ◌∙◌, ◌<◌, ◌≤◌, ◌++◌, inl, inr, ℕ, zero, suc, Bool, true, false, List, [], ◌∷◌, length, map, Option, Some, None, slice_get, if◌then◌else◌, refl, sym, subst, arith}
use Rattle.std.specs.Prelude.{◌⊎◌, Ok, Err, codes}
use Rattle.std.specs.Fmt.{decimal}
use Rattle.std.proofs.lemmas.Option.{none-some, same_Some}
use Rattle.command_answers.proofs.command_library.fip_language.Search.{le_or_less}
use Rattle.command_answers.specs.command_library.command_outcome.Texts.{line_end, trap_text, out_of_calls_text, out_of_frames_text}
use Rattle.command_answers.specs.command_library.command_words.Words.{Room}
use Rattle.command_answers.specs.command_library.command_source.Wanted.{Lawful, IsReady}
use Rattle.command_answers.specs.command_library.fip_base.declared.plain.Param.{Param}
use Rattle.command_answers.specs.command_library.fip_language.Core.{Name}
use Rattle.command_answers.specs.command_library.fip_language.Declarations.{same_name}
use Rattle.command_answers.specs.command_library.fip_language.Meaning.{Answer, Gives, Trap, Out, Deep, Stuck}
use Rattle.command_answers.specs.command_library.fip_language.PrintedText.{printed}
use Rattle.command_answers.specs.command_library.fip_language.Table.{Table, HasType, HaveTypes}
use Rattle.command_answers.specs.command_library.fip_language.Values.{Value, Values, End, More}
use Rattle.command_answers.specs.command_library.session_semantics.Lines.{Given, Held, Fresh, Line, Calls, Shows, GivesUp, SpellsLine, lines_of}
use Rattle.command_answers.specs.command_library.session_semantics.Talk.{Setting, Holding, State, IsTaken, AreTaken, IsWrong, AreFree, IsTakenName, Called, Fits, CallReplies, NoEntry, WrongNumber, BadArgument, BadResult, TooSmall, Ended, Done, Replies, BadLine, NothingShown, NothingGivenUp, Shown, GivenUp, Called', Talks}
use Rattle.command_answers.specs.command_library.session_semantics.Talk.{EndText, answer_of, at_first, free_frames, held_as, hold_all, holding, left, made_then, named_by, needed, ok_text, running, store_text, reported, used_by, without, without_all}
use Rattle.command_answers.specs.command_library.session_semantics.Turns.{type_of}
use Rattle.command_answers.specs.command_library.session_semantics.Typed.{IsEntry}
use Rattle.command_answers.proofs.command_tasks.Weighing.{typed}
use Rattle.worked_examples.specs.fip_trees.Tree.{Instance, Program}
use Rattle.worked_examples.specs.source_report.Report.{IsAccepted}
use Rattle.worked_examples.specs.type_safety.Soundness.{IsSoundAnswer}
use Rattle.command_answers.proofs.command_library.command_run.machine_correctness.compiler_correctness.source_safety.Accepted.{matched_sound}
use Rattle.command_answers.specs.Ends as X
use Rattle.command_answers.specs.Exec as E
use Rattle.answer_correctness.proofs.SomeTurns.{setting}

-- ---- what is held has its type

abbrev AllHeld : Table → List Holding → Type 0
AllHeld tb [] = Unit {0}
AllHeld tb (h ∷ hs) = HasType tb h.type h.value × AllHeld tb hs

module _ (tb : Table) where
  held_typed : (name : Name) (hs : List Holding) (h : Holding) → AllHeld tb hs → held_as name hs ≡ Some h → HasType tb h.type h.value
  held_typed name [] h all e = absurd (none-some h e)
  held_typed name (x ∷ xs) h all e = by (same_name name x.name) (λ later. held_typed name xs h all.1 later) e
    where
      by : (b : Bool) → (held_as name xs ≡ Some h → HasType tb h.type h.value) → (if b then Some x else held_as name xs) ≡ Some h → HasType tb h.type h.value
      by true later e = subst (λ (h : Holding). HasType tb h.type h.value) (same_Some x h e) all.0
      by false later e = later e

  without_typed : (name : Name) (hs : List Holding) → AllHeld tb hs → AllHeld tb (without name hs)
  without_typed name [] all = tt
  without_typed name (x ∷ xs) all = by (same_name name x.name) (without_typed name xs all.1)
    where
      by : (b : Bool) → AllHeld tb (without name xs) → AllHeld tb (if b then without name xs else x ∷ without name xs)
      by true rest = rest
      by false rest = (all.0, rest)

  without_all_typed : (names : List Name) (hs : List Holding) → AllHeld tb hs → AllHeld tb (without_all names hs)
  without_all_typed [] hs all = all
  without_all_typed (n ∷ ns) hs all = without_all_typed ns (without n hs) (without_typed n hs all)

  both_typed : (gs hs : List Holding) → AllHeld tb gs → AllHeld tb hs → AllHeld tb (gs ++ hs)
  both_typed [] hs a b = b
  both_typed (g ∷ gs) hs a b = (a.0, both_typed gs hs a.1 b)

  results_typed : (ns : List Name) (ts : List ℕ) (vs : Values) → HaveTypes tb ts vs → AllHeld tb (hold_all ns ts vs)
  results_typed [] ts vs h = tt
  results_typed (n ∷ ns) [] vs h = tt
  results_typed (n ∷ ns) (t ∷ ts) End h = tt
  results_typed (n ∷ ns) (t ∷ ts) (More v vs) h = (h.0, results_typed ns ts vs h.1)

  module _ (hs : List Holding) (all : AllHeld tb hs) where
    one_typed : (before : List Name) (q : Param) (g : Given) (v : Value) → IsTaken tb hs before q g v → HasType tb q.ty v
    one_typed before q (Fresh w) v h = typed tb q.ty w v h
    one_typed before q (Held name) v (h, at, ty, is, once) = subst (λ x. HasType tb q.ty x) (sym is) (subst (λ k. HasType tb k h.value) ty (held_typed name hs h all at))

    taken_typed : (before : List Name) (qs : List Param) (gs : List Given) (vs : Values) → AreTaken tb hs before qs gs vs → HaveTypes tb (map type_of qs) vs
    taken_typed before [] [] End h = tt
    taken_typed before [] [] (More v vs) h = absurd h
    taken_typed before [] (g ∷ gs) vs h = absurd h
    taken_typed before (q ∷ qs) [] vs h = absurd h
    taken_typed before (q ∷ qs) (g ∷ gs) End h = absurd h
    taken_typed before (q ∷ qs) (g ∷ gs) (More v vs) h = (one_typed before q g v h.0, taken_typed (before ++ named_by tb q g) qs gs vs h.1)

  -- ---- the causes

  taken_or_wrong : (hs : List Holding) (before : List Name) (qs : List Param) (gs : List Given) → length gs ≡ length qs → ((k : ℕ) → IsWrong tb hs before qs gs k → ⊥) → ((vs : Values) → AreTaken tb hs before qs gs vs → ⊥) → ⊥
  taken_or_wrong hs before [] [] e wrong taken = taken End tt
  taken_or_wrong hs before [] (g ∷ gs) e wrong taken = omega (arith, e)
  taken_or_wrong hs before (q ∷ qs) [] e wrong taken = omega (arith, e)
  taken_or_wrong hs before (q ∷ qs) (g ∷ gs) e wrong taken =
      wrong zero (λ v is. taken_or_wrong hs (before ++ named_by tb q g) qs gs (omega (arith, e)) (λ k w. wrong (suc k) (v, is, w)) (λ vs are. taken (More v vs) (is, are)))

free_or_not : (hs : List Holding) (used before ns : List Name) → ((name : Name) → IsTakenName hs used before ns name → ⊥) → (AreFree hs used before ns → ⊥) → ⊥
free_or_not hs used before [] name free = free tt
free_or_not hs used before (n ∷ ns) name free =
    name n (inl (λ f. free_or_not hs used (n ∷ before) ns (λ m k. name m (inr (f, k))) (λ fs. free (f, fs)), refl))

same_or_not : (m n : ℕ) → (m ≡ n) ⊎ (m ≢ n)
same_or_not m n = elim (le_or_less m n) [
  | inr more ↦ inr (λ e. omega (arith, more, e))
  | inl le ↦ elim (le_or_less n m) [ inl ge ↦ inl (omega (arith, le, ge)) | inr less ↦ inr (λ e. omega (arith, less, e)) ]
]

-- ---- replies

module _ (source : List ℕ) (o : Setting) (accepted : IsAccepted source o.program) where
  abbrev p : Program
  p = o.program

  abbrev Typed : State → Type 0
  Typed s = AllHeld p.types s.held

  module _ (s : State) (all : Typed s) (rs : List Name) (entry : Name) (gs : List Given) (none : (t : List ℕ) (a : State) → Typed a → CallReplies o s rs entry gs t a → ⊥) where
    module _ (i : ℕ) (d : Instance) (is : IsEntry p entry i d) where
      module _ (vs : Values) (f : Fits o s rs i d gs vs) where
        ran_typed : Typed (running o s d gs vs)
        ran_typed = without_all_typed p.types (used_by p.types d.params gs) s.held all

        ended : (a : Answer) → answer_of o i vs ≡ a → IsSoundAnswer p.types d.results a → ⊥
        ended (Gives given calls) e h = none ok_text (holding (running o s d gs vs) (hold_all rs d.results given)) (both_typed p.types (running o s d gs vs).held (hold_all rs d.results given) ran_typed (results_typed p.types rs d.results given h)) (Done i d vs given calls is f e)
        ended (Trap kind line col) e h = none (trap_text kind line col) (running o s d gs vs) ran_typed (Ended i d vs (trap_text kind line col) is f (subst (λ a. EndText o i a (trap_text kind line col)) (sym e) refl))
        ended Out e h = none (out_of_calls_text o.calls) (running o s d gs vs) ran_typed (Ended i d vs (out_of_calls_text o.calls) is f (subst (λ a. EndText o i a (out_of_calls_text o.calls)) (sym e) refl))
        ended Deep e h = none (out_of_frames_text (free_frames o i)) (running o s d gs vs) ran_typed (Ended i d vs (out_of_frames_text (free_frames o i)) is f (subst (λ a. EndText o i a (out_of_frames_text (free_frames o i))) (sym e) refl))
        ended Stuck e h = absurd h

      in_store : (vs : Values) → Called o s rs i d gs vs → ⊥
      in_store vs c = elim (le_or_less (needed s gs vs d.credits) (left o s)) as (λ v. ⊥) [
        | inr less ↦ none (store_text (needed s gs vs d.credits) (left o s)) s all (TooSmall i d vs is c less)
        | inl fits ↦ ended vs (record { called = c; room = fits }) (answer_of o i vs) refl
            (matched_sound source p i d vs o.calls (free_frames o i) accepted.tailed.credited.owned.matched is.there (taken_typed p.types s.held all [] d.params gs vs c.taken))
      ]

      counted : length gs ≡ length d.params → length rs ≡ length d.results → ⊥
      counted one two =
          taken_or_wrong p.types s.held [] d.params gs one (λ k w. none (reported (codes "bad argument ") (decimal (suc k))) s all (BadArgument i d k is one two w)) (λ vs taken.
          free_or_not s.held (used_by p.types d.params gs) [] rs (λ name w. none (reported (codes "bad result ") name) s all (BadResult i d vs name is two taken w)) (λ free.
          in_store vs (record { count = two; taken = taken; free = free })))

      called : ⊥
      called = elim (same_or_not (length gs) (length d.params)) as (λ v. ⊥) [
        | inr differs ↦ none (codes "wrong number\n") s all (WrongNumber i d is (inl differs))
        | inl one ↦ elim (same_or_not (length rs) (length d.results)) as (λ v. ⊥) [
          | inr differs ↦ none (codes "wrong number\n") s all (WrongNumber i d is (inr differs))
          | inl two ↦ counted one two
        ]
      ]

    some_call : ⊥
    some_call = none (reported (codes "no entry ") entry) s all (NoEntry called)

  module _ (s : State) (all : Typed s) (bytes : List ℕ) (none : (t : List ℕ) (a : State) → Typed a → Replies o s bytes t a → ⊥) where
    shown : (name : Name) → SpellsLine bytes (Shows name) → (h : Option Holding) → held_as name s.held ≡ h → ⊥
    shown name is None e = none (reported (codes "no name ") name) s all (NothingShown name is e)
    shown name is (Some h) e = none (printed p.types h.type h.value line_end) s all (Shown name h is e)

    given_up : (name : Name) → SpellsLine bytes (GivesUp name) → (h : Option Holding) → held_as name s.held ≡ h → ⊥
    given_up name is None e = none (reported (codes "no name ") name) s all (NothingGivenUp name is e)
    given_up name is (Some h) e = none ok_text (record { held = without name s.held; made = s.made }) (without_typed p.types name s.held all) (GivenUp name h is e)

    spelt : (line : Line) → SpellsLine bytes line → ⊥
    spelt (Shows name) is = shown name is (held_as name s.held) refl
    spelt (GivesUp name) is = given_up name is (held_as name s.held) refl
    spelt (Calls r rs entry gs) is = some_call s all (r ∷ rs) entry gs (λ t a typed c. none t a typed (Called' r rs entry gs t a is c))

    some_reply : ⊥
    some_reply = none (codes "bad line\n") s all (BadLine spelt)

  some_talk : (lines : List (List ℕ)) (s : State) → Typed s → ((t : List ℕ) → Talks o s lines t → ⊥) → ⊥
  some_talk [] s all none = none [] refl
  some_talk (line ∷ lines) s all none =
      some_reply s all line (λ reply a typed is. some_talk lines a typed (λ rest more. none (reply ++ rest) (reply, rest, a, is, refl, more)))

pub some_replies : (source input : List ℕ) (room : Room) → IsReady source Lawful → ((e : E.End) → X.Replies source input room e → ⊥) → ⊥
some_replies source input room h none = let o = setting source room h in some_talk source o.0 o.1.accepted (lines_of input) at_first tt (λ t talk. none (Ok t) (o.0, o.1, talk))
