-- Keeping values by number.
--
-- Where something is kept under 1 and nothing under 0 and 2, two results are kept under 0 and 2. A run that is started on
-- the value under 2 leaves nothing there, unless its parameter is borrowed.
use Rattle.std.specs.Prelude.{◌≡◌, ◌&&◌, ℕ, suc, not, List, [], ◌∷◌, Option, Some, None, slice_get, slice_set}
use Rattle.std.specs.Prelude.{if◌then◌else◌}
use Rattle.fip_base.specs.declared.plain.Param.{Param}
use Rattle.fip_machine.specs.cell_code.declared.code.Function.{Function}
use Rattle.fip_host.specs.declared.answer.FipArgument.{FipArgument}
use Rattle.fip_host.specs.declared.hosted.Kept.{Kept}
use Rattle.fip_host.specs.Hosting.{Seen, results_of}
use Rattle.fip_host.specs.Telling.{kept_at}

-- the words with their types
abbrev pub typed_words : List ℕ → List ℕ → List Kept
typed_words [] ws = []
typed_words (t ∷ ts) [] = []
typed_words (t ∷ ts) (w ∷ ws) = record { ty = t; word = w } ∷ typed_words ts ws

-- how many numbers are free
abbrev pub count_free : List (Option Kept) → ℕ
count_free [] = 0
count_free (None ∷ os) = suc (count_free os)
count_free (Some k ∷ os) = count_free os

-- The values are put under these numbers, one after another, each under one that is free then.
abbrev pub ArePut : List Kept → List ℕ → List (Option Kept) → List (Option Kept) → Type 0
ArePut [] [] old new = new ≡ old
ArePut [] (n ∷ ns) old new = ⊥
ArePut (k ∷ ks) [] old new = ⊥
ArePut (k ∷ ks) (n ∷ ns) old new = (slice_get old n ≡ Some None) × ArePut ks ns (slice_set old n (Some k)) new

-- The results of the run were kept under these numbers: each was free, and what is kept under it now is the result.
pub record HasKept (old new : Seen) (numbers : List ℕ) : Type 0 where
  pub words : List ℕ
  pub results : results_of old ≡ Some words
  pub function : Function
  pub is : slice_get old.code.code.functions.items old.entry ≡ Some function
  pub put : ArePut (typed_words function.results words) numbers old.kept new.kept
  pub free : (i n : ℕ) → slice_get numbers i ≡ Some n → kept_at old.kept n ≡ None
  pub names : (i n : ℕ) (k : Kept) → slice_get numbers i ≡ Some n →
      slice_get (typed_words function.results words) i ≡ Some k → kept_at new.kept n ≡ Some k

-- what is kept once an argument was given to a parameter: a kept value is used up, unless the parameter is borrowed
abbrev pub used_by : Param → FipArgument → List (Option Kept) → List (Option Kept)
used_by p a os = if a.kept && not p.lent then slice_set os a.value None else os

abbrev pub used_up : List Param → List FipArgument → List (Option Kept) → List (Option Kept)
used_up [] bs os = os
used_up (p ∷ ps) [] os = os
used_up (p ∷ ps) (a ∷ bs) os = used_up ps bs (used_by p a os)

-- The kept values that a run of function f was started on are used up; all others stay.
pub record IsUsedUp (f : ℕ) (arguments : List FipArgument) (old new : Seen) : Type 0 where
  pub function : Function
  pub is : slice_get old.code.code.functions.items f ≡ Some function
  pub kept : new.kept ≡ used_up function.params arguments old.kept
