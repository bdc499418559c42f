-- What is held in a store, with the cells that aren't released; and stores in which cells were given up.
--
-- With Cons(1, Nil) in the cell at 0 under a, and the cell at 3 released, the cells that aren't released are those of
-- what is held.
use Rattle.std.specs.Prelude.{◌≡◌, ℕ, ◌+◌, ◌<◌, List, length}
use Rattle.tree_refinement.specs.fip_language.Every.{Every}
use Rattle.tree_refinement.specs.fip_language.Store.{Parts, words_of, uses_of_all}
use Rattle.tree_refinement.specs.fip_language.Table.{Table}
use Rattle.tree_refinement.specs.machine_semantics.Cells.{Store, IsStore, there, released_at}
use Rattle.tree_refinement.specs.machine_semantics.Trees.{Stands, StandAll}
use Rattle.session_correctness.specs.Lodging.{Lodged, lodged_uses}

abbrev pub AllStand : Table → Store → List Lodged → Type 0
AllStand tb s ls = Every (λ l. Stands tb s l.type l.tree) ls

-- The cells that aren't released are those of the trees that these names hold, and each is there once.
pub record IsHeld (tb : Table) (ls : List Lodged) (s : Store) : Type 0 where
  pub store : IsStore s
  pub stand : AllStand tb s ls
  pub once : (q : ℕ) → lodged_uses ls q + released_at s q ≡ there s q

-- And those of the trees that words of these types stand for.
pub record IsHeldWith (tb : Table) (ls : List Lodged) (types ws : List ℕ) (s : Store) : Type 0 where
  pub store : IsStore s
  pub stand : AllStand tb s ls
  pub results : Parts
  pub words : ws ≡ words_of results
  pub stand_too : StandAll tb s types results
  pub once : (q : ℕ) → lodged_uses ls q + (uses_of_all q results + released_at s q) ≡ there s q

-- The cells that are gone are released, and the others are as they were.
pub record IsGivenUp (gone : ℕ → ℕ) (old new : Store) : Type 0 where
  pub cells : new.cells ≡ old.cells
  pub wide : length new.released ≡ length old.released
  pub here : (q : ℕ) → 0 < gone q → released_at new q ≡ there old q
  pub other : (q : ℕ) → gone q ≡ 0 → released_at new q ≡ released_at old q

-- All cells but those that are held are released, and these are as they were.
pub record IsSwept (held : ℕ → ℕ) (old new : Store) : Type 0 where
  pub cells : new.cells ≡ old.cells
  pub wide : length new.released ≡ length old.released
  pub here : (q : ℕ) → held q ≡ 0 → released_at new q ≡ there old q
  pub other : (q : ℕ) → 0 < held q → released_at new q ≡ released_at old q
