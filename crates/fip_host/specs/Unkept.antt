-- Why nothing is kept, and why no run starts on what is kept.
--
-- Two results are not kept under one number; and of the numbers 0 and 1, where nothing is kept under 1, no run starts on
-- both.
use Rattle.std.specs.Prelude.{◌≡◌, ◌<◌, ◌⊎◌, ℕ, List, true, None, Some, length, slice_get}
use Rattle.fip_base.specs.declared.plain.Param.{Param}
use Rattle.fip_host.specs.declared.answer.FipArgument.{FipArgument}
use Rattle.fip_host.specs.declared.answer.Refusal.{Refusal}
use Rattle.fip_host.specs.declared.answer.Refusal.TheVariants as R
use Rattle.fip_host.specs.declared.hosted.Kept.{Kept}
use Rattle.std.specs.Prelude.{Option, map}
use Rattle.fip_host.specs.Hosting.{Seen, results_of}
use Rattle.fip_host.specs.Keeping.{count_free}
use Rattle.fip_host.specs.Starting.{LacksCredits, TakesOthers}
use Rattle.fip_host.specs.Telling.{argument_word, kept_at}

-- There are results, and fewer places for their numbers, or fewer numbers that are free. The last case is that of a run
-- of no function; no call starts one.
pub record HasTooFew (numbers : List ℕ) (m : Seen) : Type 0 where
  pub words : List ℕ
  pub results : results_of m ≡ Some words
  pub few : (length numbers < length words) ⊎ (count_free m.kept < length words)
      ⊎ (slice_get m.code.code.functions.items m.entry ≡ None)

abbrev pub IsUnkept : List ℕ → Seen → Refusal → Type 0
IsUnkept numbers m (R.BadInput at) = ⊥
IsUnkept numbers m (R.TooSmall needed given) = ⊥
IsUnkept numbers m R.NoMemory = ⊥
IsUnkept numbers m R.OutOfRange = HasTooFew numbers m
IsUnkept numbers m R.NotReady = results_of m ≡ None
IsUnkept numbers m R.WrongValue = ⊥

-- An argument names a kept value, and nothing is kept under the number.
pub record NamesNothing (kept : List (Option Kept)) (arguments : List FipArgument) : Type 0 where
  pub place : ℕ
  pub argument : FipArgument
  pub is : slice_get arguments place ≡ Some argument
  pub names : argument.kept ≡ true
  pub nothing : kept_at kept argument.value ≡ None

-- Why an argument has no word.
abbrev pub IsNoWord : List (Option Kept) → List Param → List FipArgument → ℕ → Refusal → Type 0
IsNoWord kept ps bs i (R.BadInput at) = ⊥
IsNoWord kept ps bs i (R.TooSmall needed given) = ⊥
IsNoWord kept ps bs i R.NoMemory = ⊥
IsNoWord kept ps bs i R.OutOfRange =
    (slice_get ps i ≡ None) ⊎ (slice_get bs i ≡ None) ⊎ NamesNothing kept bs
IsNoWord kept ps bs i R.NotReady = ⊥
IsNoWord kept ps bs i R.WrongValue = Unit {0}

-- Why arguments have no words.
abbrev pub AreNoWords : List (Option Kept) → List FipArgument → Refusal → Type 0
AreNoWords kept bs (R.BadInput at) = ⊥
AreNoWords kept bs (R.TooSmall needed given) = ⊥
AreNoWords kept bs R.NoMemory = Unit {0}
AreNoWords kept bs R.OutOfRange = NamesNothing kept bs
AreNoWords kept bs R.NotReady = ⊥
AreNoWords kept bs R.WrongValue = Unit {0}

-- Why no run of function f starts on these arguments.
abbrev pub IsUnstartedOn : ℕ → List FipArgument → Seen → Refusal → Type 0
IsUnstartedOn f bs m (R.BadInput at) = ⊥
IsUnstartedOn f bs m (R.TooSmall needed given) = LacksCredits f (map (argument_word m.kept) bs) m
IsUnstartedOn f bs m R.NoMemory = Unit {0}
IsUnstartedOn f bs m R.OutOfRange = TakesOthers f (length bs) m ⊎ NamesNothing m.kept bs
IsUnstartedOn f bs m R.NotReady = ⊥
IsUnstartedOn f bs m R.WrongValue = Unit {0}
