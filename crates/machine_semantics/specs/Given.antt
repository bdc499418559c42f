-- What the entry of a run is given: words for its arguments and for the cells of its credits, beside cells that are
-- kept. Each cell is one of an argument, of a credit, kept or released, and once.
-- The reversal of Cons(1, Nil) in cell 0, with a released one, is given the words 1 and 0: no credit, and no kept cell.
use Rattle.std.specs.Prelude.{◌≡◌, ℕ, ◌+◌, List, [], ◌∷◌, ◌++◌, Some, map}
use Rattle.cell_code.specs.fip_language.Table.{Table}
use Rattle.cell_code.specs.fip_language.Store.{Cell, Parts, words_of, uses_of_all, count}
use Rattle.cell_code.specs.Plain.{PlainFunction}
use Rattle.machine_semantics.specs.Words.{place_word}
use Rattle.machine_semantics.specs.Cells.{Store, IsStore, cell_at, size_of, there, released_at}
use Rattle.machine_semantics.specs.Trees.{StandAll}

-- A cell of its size for each credit.
abbrev pub AreSpare : Store → List ℕ → List ℕ → Type 0
AreSpare s [] [] = Unit {0}
AreSpare s [] (p ∷ ps) = ⊥
AreSpare s (k ∷ ks) [] = ⊥
AreSpare s (k ∷ ks) (p ∷ ps) = ((c : Cell) × (cell_at s p ≡ Some c) × (size_of c ≡ k)) × AreSpare s ks ps

-- What the entry g requires of the words that it is given: they stand for arguments of its parameters' types and name a
-- cell of its size for each of its credits; these, the kept and the released cells are apart, and together all cells.
pub record IsGiven (tb : Table) (g : PlainFunction) (s : Store) (kept ws : List ℕ) : Type 0 where
  pub store : IsStore s
  pub arguments : Parts
  pub spares : List ℕ
  pub words : ws ≡ words_of arguments ++ map (λ p. place_word p) spares
  pub stand : StandAll tb s (map (λ p. p.ty) g.params) arguments
  pub credits : AreSpare s g.credits spares
  pub once : (q : ℕ) → uses_of_all q arguments + (count q spares + (count q kept + released_at s q)) ≡ there s q
