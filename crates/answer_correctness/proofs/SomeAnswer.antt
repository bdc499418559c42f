-- `run`, `verify`, `upgrade` and `replay` are never without an answer: a code file is refused, or that of a sound code; its
-- functions have stack numbers; and a trace's file is that of a trace, or bad at a place.
use Rattle.std.proofs.Common.{◌≡◌, ◌⊎◌, inl, inr, ℕ, suc, ◌<◌, ◌≤◌, ◌-◌, ◌++◌, Bool, true, false, List, [], ◌∷◌, Option, Some, None, length, refl, sym, ◌∙◌, subst, arith}
use Rattle.std.specs.Prelude.{Ok, Err}
use Rattle.std.proofs.lemmas.Option.{none-some, same_Some}
use Rattle.command_answers.specs.fip_outside.Files.{File, file_of}
use Rattle.command_answers.proofs.command_library.fip_language.Search.{le_or_less}
use Rattle.command_answers.specs.command_library.fip_language.declared.limits.TheConstants.{MOST_FILE_BYTES}
use Rattle.command_answers.specs.command_library.fip_language.declared.rule.Rule.TheVariants.{E70, E61}
use Rattle.command_answers.specs.command_library.command_words.Words.{Request, Run, Verify, Upgrade, Replay}
use Rattle.command_answers.specs.command_library.command_outcome.declared.failure.Failure.{Failure}
use Rattle.command_answers.specs.command_library.command_outcome.declared.failure.Failure.TheVariants as F
use Rattle.command_answers.specs.command_library.command_outcome.declared.failure.Object.TheVariants as O
use Rattle.worked_examples.specs.code_file.CodeText.{IsFileOf, code_text}
use Rattle.worked_examples.specs.cell_code.CodeKinds.{fun_kind}
use Rattle.worked_examples.specs.cell_code.Plain.{PlainFunction, PlainCode}
use Rattle.worked_examples.specs.code_file.Reading.{Answer, Got, Stop, read_all, code_reader}
use Rattle.worked_examples.specs.code_file.declared.tags.Version.{Version}
use Rattle.worked_examples.proofs.code_file.Whole.{read_text, read_place}
use Rattle.command_answers.specs.command_library.code_rules.Breaks.{IsSound, Breaks, IsLeast, IsBefore, digit}
use Rattle.command_answers.specs.command_library.code_rules.declared.rule.SoundRule.{SoundRule}
use Rattle.worked_examples.proofs.separation_bounds.Solving.{least_one}
use Rattle.command_answers.specs.command_library.command_source.Codes.{IsSoundFile, RefusesCode, LongFile, BadFile, UnsoundFile, names_one, IsLine, AreLines, IsCodeListing}
use Rattle.command_answers.specs.command_library.command_source.Wanted.{of_entry}
use Rattle.answer_correctness.proofs.SomeRun.{some_run}
use Rattle.command_answers.specs.command_library.command_outcome.Successes.{function_text}
use Rattle.worked_examples.specs.code_file.declared.tags.Version.TheVariants.{Second}
use Rattle.worked_examples.proofs.separation_bounds.Numbers.{has_stack}
use Rattle.command_answers.specs.command_library.run_loading.Replaying.{replayed}
use Rattle.command_answers.specs.command_library.run_loading.TraceReading.{IsBadTrace, IsTraceFile}
use Rattle.command_answers.specs.command_library.run_loading.TraceText.{Trace}
use Rattle.command_answers.proofs.command_library.run_loading.Either.{is_one}
use Rattle.worked_examples.specs.source_report.Report.{bare}
use Rattle.command_answers.specs.Answer.{OnFound, ComesTo}
use Rattle.command_answers.specs.Ends.{OnCode, CodeRefused, CodeSound, NoFunction, LongRun, Runs, Upgrades, Replays}
use Rattle.command_answers.specs.Exec.{End}

-- ---- a code that breaks a rule has a least violation

before : (n i m j : ℕ) (r s : SoundRule) → n ≤ m → (n ≡ m → i ≤ j) → (n ≡ m → i ≡ j → digit r ≤ digit s) → IsBefore n i r m j s
before n i m j r s a b c = elim (le_or_less m n) as (λ v. IsBefore n i r m j s) [
  | inr less ↦ inl less
  | inl same ↦
      let e : n ≡ m = omega (arith, a, same) in
      let k = b e in
      elim (le_or_less j i) as (λ v. IsBefore n i r m j s) [
        | inr less ↦ inr (e, inl less)
        | inl also ↦ let f : i ≡ j = omega (arith, k, also) in inr (e, inr (f, c e f))
      ]
]

least_violation : (c : PlainCode) (n i : ℕ) (r : SoundRule) → Breaks c n i r → ((m j : ℕ) (s : SoundRule) → IsLeast c m j s → ⊥) → ⊥
least_violation c n i r h none =
    least_one (λ m. (j : ℕ) × (s : SoundRule) × Breaks c m j s) n (i, r, h) (λ a.
    least_one (λ j. (s : SoundRule) × Breaks c a.0 j s) a.1.has.0 (a.1.has.1, a.1.has.2) (λ b.
    least_one (λ d. (s : SoundRule) × Breaks c a.0 b.0 s × (digit s ≡ d)) (digit b.1.has.0) (b.1.has.0, b.1.has.1, refl) (λ d.
    none a.0 b.0 d.1.has.0 (record {
      breaks = d.1.has.1;
      least = λ m j s k. before a.0 b.0 m j d.1.has.0 s
          (a.1.least m (j, s, k))
          (λ e. b.1.least j (s, subst (λ m. Breaks c m j s) (sym e) k))
          (λ e f.
          let less = d.1.least (digit s) (s, subst (λ j. Breaks c a.0 j s) (sym f) (subst (λ m. Breaks c m j s) (sym e) k), refl) in
          let own = d.1.has.2 in
          omega (arith, less, own));
    }))))

-- ---- a file is refused, or that of a sound code

file_read : (bytes : List ℕ) → length bytes ≤ MOST_FILE_BYTES → ((f : Failure) → RefusesCode bytes f → ⊥) → ((code : PlainCode) → IsSoundFile bytes code → ⊥) → ⊥
file_read bytes short refused sound = by (read_all code_reader bytes) refl
  where
    by : (x : Answer (Version × PlainCode)) → read_all code_reader bytes ≡ x → ⊥
    by (Got y rest) e =
        let spelt : IsFileOf bytes y.1 = (y.0, read_text bytes rest y e) in
        let right : IsSound y.1 = λ n i r h. least_violation y.1 n i r h (λ m j s least. refused (F.Unsound m j s) (UnsoundFile y.1 m j s short spelt least)) in
        sound y.1 (record { short = short; spelt = spelt; sound = right })
    by (Stop left) e = refused (F.BadCode (length bytes - left)) (BadFile (length bytes - left) short (read_place bytes left e))

pub refused_or_sound : (bytes : List ℕ) → ((f : Failure) → RefusesCode bytes f → ⊥) → ((code : PlainCode) → IsSoundFile bytes code → ⊥) → ⊥
refused_or_sound bytes refused sound = elim (le_or_less (length bytes) MOST_FILE_BYTES) as (λ v. ⊥) [
  | inl short ↦ file_read bytes short refused sound
  | inr long ↦ refused (F.BadCode MOST_FILE_BYTES) (LongFile long)
]

-- ---- some answer

some_of_code : (bytes input : List ℕ) (r : Request) → ((e : End) → OnCode bytes input (Run r) e → ⊥) → ⊥
some_of_code bytes input r none = refused_or_sound bytes (λ f h. none (Err f) (CodeRefused f h)) (λ code file. by code file (names_one r.entry code.functions) refl)
  where
    by : (code : PlainCode) → IsSoundFile bytes code → (b : Bool) → names_one r.entry code.functions ≡ b → ⊥
    by code file false e = none (Err (F.Refused (of_entry E70 r.entry))) (CodeSound (Err (F.Refused (of_entry E70 r.entry))) (NoFunction code file e))
    by code file true e = elim (le_or_less (length input) MOST_FILE_BYTES) as (λ v. ⊥) [
      | inl short ↦ some_run bytes r.entry input r.room r.gauge (code, file, e) (λ o h. none o (CodeSound o (Runs o short h)))
      | inr long ↦ none (Err (F.BadInput MOST_FILE_BYTES)) (CodeSound (Err (F.BadInput MOST_FILE_BYTES)) (LongRun (code, file, e) long))
    ]

pub some_answer : (files : List File) (input : List ℕ) (r : Request) → ((e : End) → ComesTo files input (Run r) e → ⊥) → ⊥
some_answer files input r = by (file_of r.file files)
  where
    by : (f : Option (List ℕ)) → ((e : End) → OnFound files input (Run r) f e → ⊥) → ⊥
    by None none = none (Err (F.Fault O.Folder)) refl
    by (Some bytes) none = some_of_code bytes input r none

-- ---- the lines of a code

some_line : (c : PlainCode) (n : ℕ) (f : PlainFunction) (name : List ℕ) → IsSound c → ((line : List ℕ) → IsLine c n f name line → ⊥) → ⊥
some_line c n f [] sound none = none [] refl
some_line c n f (b ∷ name) sound none = has_stack c n sound (λ held stack. none (function_text (b ∷ name) (fun_kind f.kind) f.credits held) (held, stack, refl))

some_lines : (c : PlainCode) (n : ℕ) (fs : List PlainFunction) → IsSound c → ((text : List ℕ) → AreLines c n fs text → ⊥) → ⊥
some_lines c n [] sound none = none [] refl
some_lines c n (f ∷ fs) sound none =
    some_line c n f f.name sound (λ line is. some_lines c (suc n) fs sound (λ rest more. none (line ++ rest) (line, rest, is, more, refl)))

some_listing : (bytes : List ℕ) (code : PlainCode) → IsSoundFile bytes code → ((text : List ℕ) → IsCodeListing bytes text → ⊥) → ⊥
some_listing bytes code file none = some_lines code 0 code.functions file.sound (λ text lines. none text (record { code = code; file = file; lines = lines }))

-- ---- verify

module _ (input file : List ℕ) where
  some_verified : (bytes : List ℕ) → ((e : End) → OnCode bytes input (Verify file) e → ⊥) → ⊥
  some_verified bytes none = refused_or_sound bytes (λ f h. none (Err f) (CodeRefused f h)) (λ code sound. some_listing bytes code sound (λ text h. none (Ok text) (CodeSound (Ok text) h)))

pub some_verify : (files : List File) (input file : List ℕ) → ((e : End) → ComesTo files input (Verify file) e → ⊥) → ⊥
some_verify files input file = by (file_of file files)
  where
    by : (f : Option (List ℕ)) → ((e : End) → OnFound files input (Verify file) f e → ⊥) → ⊥
    by None none = none (Err (F.Fault O.Folder)) refl
    by (Some bytes) none = some_verified input file bytes none

-- ---- upgrade

some_file : (bytes : List ℕ) (code : PlainCode) → IsSoundFile bytes code → ((e : End) → Upgrades bytes e → ⊥) → ⊥
some_file bytes code sound none = by (code_text Second code) refl
  where
    same_text : (s t : List ℕ) → Some s ≡ Some t → s ≡ t
    same_text s t e = same_Some s t e

    by : (x : Option (List ℕ)) → code_text Second code ≡ x → ⊥
    by None e = none (Err (F.Refused (bare E61))) ((code, sound, λ file h. absurd (none-some file (sym e ∙ h))), refl)
    by (Some file) e = elim (le_or_less (length file) MOST_FILE_BYTES) as (λ v. ⊥) [
      | inl short ↦ some_listing bytes code sound (λ text h. none (Ok text) (h, (file, record { code = code; of' = sound; spelt = e; short = short })))
      | inr long ↦ none (Err (F.Refused (bare E61))) ((code, sound, λ other h. subst (λ t. MOST_FILE_BYTES < length t) (same_text file other (sym e ∙ h)) long), refl)
    ]

module _ (input file out : List ℕ) where
  some_upgraded : (bytes : List ℕ) → ((e : End) → OnCode bytes input (Upgrade file out) e → ⊥) → ⊥
  some_upgraded bytes none = refused_or_sound bytes (λ f h. none (Err f) (CodeRefused f h)) (λ code sound. some_file bytes code sound (λ o h. none o (CodeSound o h)))

pub some_upgrade : (files : List File) (input file out : List ℕ) → ((e : End) → ComesTo files input (Upgrade file out) e → ⊥) → ⊥
some_upgrade files input file out = by (file_of file files)
  where
    by : (f : Option (List ℕ)) → ((e : End) → OnFound files input (Upgrade file out) f e → ⊥) → ⊥
    by None none = none (Err (F.Fault O.Folder)) refl
    by (Some bytes) none = some_upgraded input file out bytes none

-- ---- replay

some_replay_of : (bytes : List ℕ) (step : ℕ) → ((t : Trace) × IsTraceFile bytes t) ⊎ ((at : ℕ) × IsBadTrace bytes at) → (e : End) × Replays bytes step e
some_replay_of bytes step (inl (t, h)) = (Ok (replayed t step), (t, h, refl))
some_replay_of bytes step (inr (at, h)) = (Err (F.BadTrace at), h)

pub some_replay : (files : List File) (input trace : List ℕ) (step : ℕ) → (e : End) × ComesTo files input (Replay trace step) e
some_replay files input trace step = by (file_of trace files)
  where
    by : (f : Option (List ℕ)) → (e : End) × OnFound files input (Replay trace step) f e
    by None = (Err (F.Fault O.Folder), refl)
    by (Some bytes) = some_replay_of bytes step (is_one bytes)
