-- What a session keeps to between lines: what it finds under names, its store, and the words that are left, against
-- what was said so far.
--
-- With 6 words, after `a = rev(Cons(1, Nil), Nil)`: the type and the word 1 are found under a, the one cell of 2 fields
-- at 0 is that of its list, one cell of size 2 was made, and 3 words are left.
use Rattle.std.specs.Prelude.{◌≡◌, ℕ, suc, ◌+◌, ◌*◌, ◌<◌, ◌≤◌, List, Option, length, map, option_map}
use Rattle.tree_refinement.specs.fip_language.Core.{Name}
use Rattle.tree_refinement.specs.fip_language.Store.{word_of}
use Rattle.tree_refinement.specs.fip_language.Table.{Table}
use Rattle.tree_refinement.specs.fip_language.declared.limits.TheConstants.{MOST_FIELDS, MOST_STORE_WORDS}
use Rattle.tree_refinement.specs.machine_semantics.Cells.{Store}
use Rattle.session_semantics.specs.Talk.{State, over_sizes}
use Rattle.session_correctness.specs.Called.{IsHeld}
use Rattle.session_correctness.specs.Counted.{sized}
use Rattle.session_correctness.specs.Lodging.{Lodged, holding_of, lodged_as, AreDistinct}

-- the type and the word of what a name holds
abbrev pub as_found : Lodged → ℕ × ℕ
as_found l = (l.type, word_of l.tree)

pub record IsOpen (tb : Table) (words : ℕ) (finds : Name → Option (ℕ × ℕ)) (cells : Store) (room : ℕ) (s : State) :
    Type 0 where
  pub lodged : List Lodged
  pub names : (name : Name) → finds name ≡ option_map as_found (lodged_as name lodged)
  pub distinct : AreDistinct lodged
  pub said : s.held ≡ map holding_of lodged
  pub held : IsHeld tb lodged cells
  pub small : length cells.cells ≤ MOST_STORE_WORDS
  pub made : (k : ℕ) → 0 < k → k ≤ MOST_FIELDS → s.made k ≡ sized k cells.cells
  pub left : room + over_sizes MOST_FIELDS (λ k. s.made k * suc k) ≡ words
