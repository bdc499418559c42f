-- How cells are counted by size while a text is read, in the machine's words. No public clause speaks of it.
use Rattle.std.specs.Prelude.{◌≡◌, ℕ, suc, ◌+◌, ◌≤◌, List, length, Result, Ok, Err, slice_index_or}
use Rattle.fip_language.specs.Prefix.{Accepted, Stopped}
use Rattle.fip_language.specs.Values.{Values, End, count_of, one_of_size, cells_of_all, words_needed}
use Rattle.fip_language.specs.Values.{words_needed_by_all}
use Rattle.fip_language.specs.Table.{Table}
use Rattle.fip_language.specs.declared.limits.TheConstants.{MOST_FIELDS}
use Rattle.value_text.specs.Machine.{start, join, snoc, Around, Alone, Lines, Field}
use Rattle.value_text.specs.Scan.{runs}
use Rattle.value_text.specs.declared.counts.Counts.{Counts}
use Rattle.value_text.specs.declared.read.Event.{Event}
use Rattle.value_text.specs.declared.read.Event.TheVariants.{Closed}
use Rattle.value_text.specs.declared.read.Refused.{Refused}
use Rattle.value_text.specs.declared.read.Refused.TheVariants.{BadValue, NoMemory}
use Rattle.value_text.specs.Reading.{Outline, Spot, Before, After, Nowhere, Origin, IsReading}

-- how many cells of size k an event closes
abbrev pub closes : ℕ → Event → ℕ
closes k (Closed c n) = one_of_size k n
closes k _ = 0

-- the values that are whole, those inside of open constructors too, in the order in which they were read
abbrev pub values_before : Around → Values
values_before (Alone n) = End
values_before (Lines done rest) = done
values_before (Field c done rest a) = join (values_before a) done

abbrev pub values_to : Spot → Values
values_to (Before k a) = values_before a
values_to (After a v) = snoc (values_before a) v
values_to Nowhere = End

-- the words of the cells of the values before, and of the cells that are open as far as their fields go
abbrev pub spent : Around → ℕ
spent (Alone n) = 0
spent (Lines done rest) = words_needed_by_all done
spent (Field c done rest a) = spent a + (suc (suc (count_of done)) + words_needed_by_all done)

abbrev pub spent_at : Spot → ℕ
spent_at (Before k a) = spent a
spent_at (After a v) = spent a + words_needed v
spent_at Nowhere = 0

-- the number of size k
abbrev pub count_at : Counts → ℕ → ℕ
count_at counts k = slice_index_or counts.numbers k 0

-- the cells so far
pub record IsCounting (tb : Table) (from : Origin) (bytes : List ℕ) (o : Outline) (at : ℕ) (counts : Counts) :
    Type 0 where
  pub spot : Spot
  pub reading : IsReading tb from bytes o at spot
  pub exact : (k : ℕ) → k ≤ MOST_FIELDS → count_at counts k ≡ cells_of_all k (values_to spot)
  pub few : spent_at spot ≤ at

-- the cells of the values of the whole text, which has as many bytes as they have words at least
abbrev pub IsCounted : Table → List ℕ → List ℕ → Result Counts Refused → Type 0
IsCounted tb types bytes (Ok counts) = (vs : Values) × (runs tb bytes (start types) 0 ≡ Accepted vs)
    × ((k : ℕ) → k ≤ MOST_FIELDS → count_at counts k ≡ cells_of_all k vs) × (words_needed_by_all vs ≤ length bytes)
IsCounted tb types bytes (Err (BadValue k)) = runs tb bytes (start types) 0 ≡ Stopped k
IsCounted tb types bytes (Err NoMemory) = Unit {0}
