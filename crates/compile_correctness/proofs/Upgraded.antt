-- `run` on an upgraded file ends as on the file before it: both are of one code, and nothing else of a file matters.
use Rattle.std.proofs.Common.{◌≡◌, ◌<◌, ◌≤◌, ℕ, Bool, List, length, refl, ap, arith}
use Rattle.std.specs.Prelude.{Result, Err}
use Rattle.command_words.specs.Words.{Room}
use Rattle.command_run.specs.session_semantics.command_outcome.declared.failure.Failure.{Failure}
use Rattle.command_run.specs.session_semantics.command_outcome.declared.failure.Failure.TheVariants as F
use Rattle.command_run.specs.command_source.Codes.{IsUpgraded, HasFunction}
use Rattle.command_run.specs.CodeRun as D
use Rattle.command_run.specs.CodeRun.{Chosen, RunsCode}
use Rattle.command_run.proofs.CodeOnce.{code_run_once}
use Rattle.compile_correctness.specs.Ends.{RunEnds, RefusedCode, NoFunction, LongForRun, Ran}
use Rattle.compile_correctness.proofs.Alike.{ran_function, none_or_one}
use Rattle.compile_correctness.proofs.Files.{refused_not_sound, upgraded_sound, upgraded_code}

module _ (bytes file name input : List ℕ) (room : Room) (gauge : Bool) (h : IsUpgraded bytes file) where
  abbrev moved : Chosen bytes name → Chosen file name
  moved x = record {
    code = x.code;
    file = upgraded_code bytes file x.code h x.file;
    number = x.number;
    function = x.function;
    there = x.there;
    named = x.named;
    some = x.some;
    held = x.held;
    stack = x.stack;
  }

  runs_again : (e : Result (List ℕ) Failure) → RunsCode bytes name input room gauge e → RunsCode file name input room gauge e
  runs_again _ (D.Misspelt x at place) = D.Misspelt (moved x) at place
  runs_again _ (D.Small x vs spelt less) = D.Small (moved x) vs spelt less
  runs_again e (D.Ran x vs r _ spelt fits reported) = D.Ran (moved x) vs r e spelt fits reported

  has_again : HasFunction bytes name → HasFunction file name
  has_again (code, sound, one) = (code, upgraded_code bytes file code h sound, one)

upgraded_to : (bytes file name input : List ℕ) (room : Room) (gauge : Bool) (e : Result (List ℕ) Failure) → IsUpgraded bytes file → RunEnds bytes name input room gauge e → RunEnds file name input room gauge e
upgraded_to bytes file name input room gauge _ h (RefusedCode f k) = absurd (refused_not_sound bytes f h.code k h.of')
upgraded_to bytes file name input room gauge _ h (NoFunction code sound none) = NoFunction code (upgraded_code bytes file code h sound) none
upgraded_to bytes file name input room gauge _ h (LongForRun has more) = LongForRun (has_again bytes file name input room gauge h has) more
upgraded_to bytes file name input room gauge e h (Ran _ le runs) = Ran e le (runs_again bytes file name input room gauge h e runs)

pub upgraded_ends : (bytes file name input : List ℕ) (room : Room) (gauge : Bool) (e : Result (List ℕ) Failure) → IsUpgraded bytes file → RunEnds bytes name input room gauge e → RunEnds file name input room gauge e
upgraded_ends = upgraded_to

-- `run` ends in one way
run_once : (file name input : List ℕ) (room : Room) (gauge : Bool) (d e : Result (List ℕ) Failure) (bytes : List ℕ) → IsUpgraded bytes file → RunEnds file name input room gauge d → RunEnds file name input room gauge e → d ≡ e
run_once file name input room gauge d e bytes h (RefusedCode f k) y = absurd (refused_not_sound file f h.code k (upgraded_sound bytes file h))
run_once file name input room gauge d e bytes h (NoFunction code sound none) (RefusedCode f k) = absurd (refused_not_sound file f h.code k (upgraded_sound bytes file h))
run_once file name input room gauge d e bytes h (NoFunction code sound none) (NoFunction other also neither) = refl
run_once file name input room gauge d e bytes h (NoFunction code sound none) (LongForRun has more) = absurd (none_or_one file name code sound none has)
run_once file name input room gauge d e bytes h (NoFunction code sound none) (Ran f le runs) = absurd (none_or_one file name code sound none (ran_function file name input room gauge f runs))
run_once file name input room gauge d e bytes h (LongForRun has more) (RefusedCode f k) = absurd (refused_not_sound file f h.code k (upgraded_sound bytes file h))
run_once file name input room gauge d e bytes h (LongForRun has more) (NoFunction code sound none) = absurd (none_or_one file name code sound none has)
run_once file name input room gauge d e bytes h (LongForRun has more) (LongForRun other also) = refl
run_once file name input room gauge d e bytes h (LongForRun has more) (Ran f le runs) = absurd (omega (arith, more, le))
run_once file name input room gauge d e bytes h (Ran f le runs) (RefusedCode g k) = absurd (refused_not_sound file g h.code k (upgraded_sound bytes file h))
run_once file name input room gauge d e bytes h (Ran f le runs) (NoFunction code sound none) = absurd (none_or_one file name code sound none (ran_function file name input room gauge f runs))
run_once file name input room gauge d e bytes h (Ran f le runs) (LongForRun has more) = absurd (omega (arith, more, le))
run_once file name input room gauge d e bytes h (Ran f le runs) (Ran g lo others) = code_run_once file name input room gauge f g runs others

pub upgraded_once : (bytes file name input : List ℕ) (room : Room) (gauge : Bool) (d e : Result (List ℕ) Failure) → IsUpgraded bytes file → RunEnds bytes name input room gauge d → RunEnds file name input room gauge e → d ≡ e
upgraded_once bytes file name input room gauge d e h x y =
    run_once file name input room gauge d e bytes h (upgraded_to bytes file name input room gauge d h x) y
