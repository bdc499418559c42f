-- The code of the empty source, and what commands end in with both.
use Rattle.std.proofs.Common.{◌≡◌, ℕ, zero, suc, ◌<◌, ◌≤◌, false, List, [], ◌∷◌, length, Some, refl, sym, ap, ◌∙◌, subst, inl, inr, arith, slice_get, get_or}
use Rattle.std.specs.Prelude.{codes}
use Rattle.std.proofs.lemmas.Option.{none-some}
use Rattle.command_answers.specs.command_library.fip_language.declared.limits.TheConstants.{MOST_FILE_BYTES}
use Rattle.command_answers.specs.command_library.fip_language.declared.rule.Rule.TheVariants.{E70}
use Rattle.command_answers.specs.command_library.fip_language.Table.{Shape}
use Rattle.command_answers.specs.command_library.fip_language.Values.{Node, End}
use Rattle.command_answers.specs.command_library.code_rules.Tables.{bare, IsSoundShape, IsSoundType, AreSoundTables}
use Rattle.command_answers.specs.command_library.code_rules.Breaks.{IsSound}
use Rattle.command_answers.specs.command_library.command_words.Words.{Room}
use Rattle.command_answers.specs.command_library.command_outcome.Successes.{derived_text}
use Rattle.command_answers.specs.command_library.command_outcome.declared.failure.Failure.TheVariants as F
use Rattle.worked_examples.specs.code_file.CodeText.{CodeText, code_text, table_text, type_text, shape_text, types_text, functions_text}
use Rattle.worked_examples.specs.code_file.Spelling.{◌+++◌, each, one, two, four, upper_name_text, name_text}
use Rattle.worked_examples.specs.code_file.declared.tags.Version.TheVariants.{Second}
use Rattle.command_answers.specs.command_library.command_source.Codes.{names_one, IsSoundFile, IsCodeListing, IsUpgraded}
use Rattle.command_answers.specs.command_library.command_source.Roots.{IsListing}
use Rattle.command_answers.specs.command_library.command_source.Wanted.{Lawful, Root, Compiled, IsReady, Refuses, of_entry}
use Rattle.command_answers.specs.command_library.session_semantics.Lines.{lines_of, Symbol, Line, Calls, Shows, GivesUp, SpellsLine}
use Rattle.command_answers.specs.command_library.session_semantics.Talk as T
use Rattle.command_answers.specs.command_library.session_semantics.Talk.{Setting, at_first}
use Rattle.command_answers.specs.command_library.session_semantics.Turns as U
use Rattle.command_answers.specs.command_library.session_semantics.Turns.{Task, IsTask}
use Rattle.command_answers.specs.CodeOf.{IsCodeOf}
use Rattle.command_answers.specs.command_library.command_source.Derived.{IsDerivedFile}
use Rattle.command_answers.specs.command_tasks.TasksAnswer.{IsSetting, TakesTurns}
use Rattle.command_answers.specs.Ends as A
use Rattle.command_answers.specs.Ends.{Audits, Derives}
use Rattle.std.specs.Prelude.{Ok, Err}
use Rattle.worked_examples.specs.Empty.{bool_alone, empty_program}
use Rattle.worked_examples.proofs.Empty.{matched, no_members, accepted}
use Rattle.answer_correctness.specs.Empty.{empty_code, empty_file}

-- ---- its code

bare_sound : (name : List ℕ) → IsSoundShape bool_alone (bare name)
bare_sound name = record { few = omega arith; typed = λ i t e. absurd (none-some t e) }

same_Some' : (a s : Shape) → Some a ≡ Some s → a ≡ s
same_Some' a s e = cc

shapes_sound : (k : ℕ) (s : Shape) → slice_get (bare (codes "False") ∷ bare (codes "True") ∷ []) k ≡ Some s → IsSoundShape bool_alone s
shapes_sound zero s e = subst (IsSoundShape bool_alone) (same_Some' (bare (codes "False")) s e) (bare_sound (codes "False"))
shapes_sound (suc zero) s e = subst (IsSoundShape bool_alone) (same_Some' (bare (codes "True")) s e) (bare_sound (codes "True"))
shapes_sound (suc (suc k)) s e = absurd (none-some s e)

false_is_not_true : codes "False" ≡ codes "True" → ⊥
false_is_not_true e = let first : ◌≡◌ {A = ℕ} 70 84 = ap (λ zs. get_or zs 0 0) e in omega arith

shapes_apart : (k l : ℕ) (r s : Shape) → slice_get (bare (codes "False") ∷ bare (codes "True") ∷ []) k ≡ Some r → slice_get (bare (codes "False") ∷ bare (codes "True") ∷ []) l ≡ Some s → r.name ≡ s.name → k ≡ l
shapes_apart zero zero r s e g h = refl
shapes_apart zero (suc zero) r s e g h =
    absurd (false_is_not_true (ap (λ (x : Shape). x.name) (same_Some' (bare (codes "False")) r e) ∙ (h ∙ sym (ap (λ (x : Shape). x.name) (same_Some' (bare (codes "True")) s g)))))
shapes_apart zero (suc (suc l)) r s e g h = absurd (none-some s g)
shapes_apart (suc zero) zero r s e g h =
    absurd (false_is_not_true (ap (λ (x : Shape). x.name) (same_Some' (bare (codes "False")) s g) ∙ (sym h ∙ sym (ap (λ (x : Shape). x.name) (same_Some' (bare (codes "True")) r e)))))
shapes_apart (suc zero) (suc zero) r s e g h = refl
shapes_apart (suc zero) (suc (suc l)) r s e g h = absurd (none-some s g)
shapes_apart (suc (suc k)) l r s e g h = absurd (none-some r e)

bool_sound : IsSoundType bool_alone 1
bool_sound = record { some = omega arith; shapes = shapes_sound; apart = shapes_apart; value = (Node 0 End, (_, refl, tt)) }

types_sound : (t : ℕ) → 0 < t → t ≤ 1 → IsSoundType bool_alone t
types_sound zero h k = absurd (omega (arith, h))
types_sound (suc zero) h k = bool_sound
types_sound (suc (suc t)) h k = absurd (omega (arith, k))

tables_sound : AreSoundTables empty_code
tables_sound = record {
  few_types = omega arith;
  few_functions = omega arith;
  bool = refl;
  types = types_sound;
  names = λ m n f g h k l e. absurd (none-some f h);
}

pub code_sound : IsSound empty_code
code_sound n i rule (inl (h, a, b, d)) = h tables_sound
code_sound n i rule (inr (h, (f, there, breaks))) = none-some f there

pub file_spelt : CodeText empty_file Second empty_code
unfolding code_text table_text type_text shape_text types_text upper_name_text name_text functions_text each one two four ◌+++◌
file_spelt = refl

pub code_of_it : IsCodeOf empty_program empty_code
code_of_it = record {
  types = refl;
  members = [];
  found = no_members;
  functions = refl;
  within = λ i n d f h k l. absurd (none-some d h);
  narrow = λ i n d f h k l. absurd (none-some d h);
  spelt = (empty_file, file_spelt);
  sound = code_sound;
  stacks = λ ms found i n m h k. absurd (none-some n h);
  means = λ before waits kinds i n vs calls frames s h. absurd (none-some h.instance h.there);
  peaks = λ before waits kinds i n vs calls frames s h some end last left steps e. absurd (none-some h.instance h.there);
}

-- ---- its file

pub file_sound : IsSoundFile empty_file empty_code
file_sound = record { short = omega arith; spelt = (Second, file_spelt); sound = code_sound }

pub code_listing : IsCodeListing empty_file []
code_listing = record { code = empty_code; file = file_sound; lines = refl }

pub upgraded : IsUpgraded empty_file empty_file
upgraded = record { code = empty_code; of' = file_sound; spelt = file_spelt; short = omega arith }

pub names_none : (entry : List ℕ) → names_one entry empty_code.functions ≡ false
names_none [] = refl
names_none (b ∷ bs) = refl

-- ---- what commands do with it

pub ready : IsReady [] Lawful
ready = record { program = empty_program; accepted = accepted; has = tt }

pub no_root : (entry : List ℕ) → Refuses [] (Root entry) (of_entry E70 entry)
no_root entry = inr (empty_program, accepted, refl)

pub no_code : (entry : List ℕ) → Refuses [] (Compiled entry) (of_entry E70 entry)
no_code entry = inr (empty_program, accepted, refl)

pub no_bytes : length {A = ℕ} [] ≤ MOST_FILE_BYTES
no_bytes = omega arith

pub one_byte : length {A = ℕ} (10 ∷ []) ≤ MOST_FILE_BYTES
one_byte = omega arith

pub listing : IsListing [] []
listing = record { program = empty_program; accepted = accepted; members = []; found = no_members; is = refl }

derived : IsDerivedFile [] []
derived = record { program = empty_program; accepted = accepted; text = (tt, refl); derives = tt; lean = tt; short = omega arith }

pub derives : Derives [] (Ok derived_text)
derives = (([], derived), refl)

pub judged : Audits [] (Some []) (Ok derived_text)
judged = A.Judged empty_program [] _ matched (record { file = record { short = omega arith; derivation = []; text = (tt, refl) }; derives = tt }, refl)

-- ---- lines

setting : Room → Setting
setting room = record { program = empty_program; members = []; words = room.words; calls = room.calls; frames = room.frames }

is_setting : (room : Room) → IsSetting [] room (setting room)
unfolding setting
is_setting room = record { accepted = accepted; found = no_members; words = refl; calls = refl; frames = refl }

pub talks : (room : Room) → (o : Setting) × IsSetting [] room o × T.Talks o at_first (lines_of []) []
talks room = (setting room, is_setting room, refl)

no_word : (sign : Symbol) (rest : List Symbol) → ◌≡◌ {A = List Symbol} [] (sign ∷ rest) → ⊥
no_word sign rest e = cc

no_line : (line : Line) → SpellsLine [] line → ⊥
no_line (Calls result results entry gs) h = (h.2).small
no_line (Shows name) h = no_word _ _ h.2
no_line (GivesUp name) h = no_word _ _ h.2

pub talks_badly : (room : Room) → (o : Setting) × IsSetting [] room o × T.Talks o at_first (lines_of (10 ∷ [])) (codes "bad line\n")
talks_badly room = (setting room, is_setting room, (_, [], at_first, T.BadLine no_line, refl, refl))

pub comes : (room : Room) → TakesTurns [] [] room (Ok [])
comes room = (setting room, is_setting room, U.Answered [] [] tt (omega arith) (omega arith) refl)

no_task : (task : Task) → IsTask empty_program [] task → ⊥
no_task task h = ((h.spelt).3).small

pub comes_badly : (room : Room) → TakesTurns [] (10 ∷ []) room (Err (F.BadTask 1))
unfolding setting
comes_badly room = (setting room, is_setting room, U.Bad 1 (inl (refl, inr no_task)))
