-- The cells of a line's values and credits are made beside what is held: a function begins on its arguments, and what
-- the call isn't given is kept.
use Rattle.std.proofs.Common.{◌≡◌, ℕ, ◌+◌, ◌<◌, List, [], ◌++◌, map, arith}
use Rattle.tree_refinement.specs.fip_language.Store.{Parts, words_of, count}
use Rattle.tree_refinement.specs.fip_language.Table.{Table}
use Rattle.tree_refinement.specs.machine_semantics.Apart.{AreSpare, IsGiven}
use Rattle.tree_refinement.specs.machine_semantics.Cells.{Store, IsStore, cell_at, there, released_at}
use Rattle.separation_bounds.specs.cell_code.Plain.{PlainFunction}
use Rattle.tree_refinement.specs.machine_semantics.Trees.{StandAll}
use Rattle.tree_refinement.specs.machine_semantics.Words.{place_word}
use Rattle.session_semantics.specs.Lines.{Given}
use Rattle.session_correctness.specs.Called.{AllStand, IsHeld}
use Rattle.session_correctness.specs.Lodging.{Lodged, but_all, AreDistinct, lodged_uses, lodged_places, AreTrees, named_by_all, fresh_uses}
use Rattle.session_correctness.proofs.Calls.{all_stand_on, bare}
use Rattle.session_correctness.proofs.Sharing.{arguments_and_kept, lodged_count}

module _ (tb : Table) (ls : List Lodged) (old new : Store) (g : PlainFunction) (gs : List Given) (xs : Parts) (spares words : List ℕ) (held : IsHeld tb ls old) (distinct : AreDistinct ls) (store : IsStore new) (same : (q : ℕ) → 0 < lodged_uses ls q → cell_at new q ≡ cell_at old q) (made : (q : ℕ) → lodged_uses ls q + ((fresh_uses gs xs q + count q spares) + released_at new q) ≡ there new q) (stand : StandAll tb new (map (λ p. p.ty) g.params) xs) (credits : AreSpare new g.credits spares) (given : AreTrees tb ls [] g.params gs xs) (are : words ≡ words_of xs ++ map (λ p. place_word p) spares) where
  -- the places of what the call isn't given
  abbrev pub kept : List ℕ
  kept = lodged_places (but_all (named_by_all tb g.params gs) ls)

  pub others : (q : ℕ) → count q kept ≡ lodged_uses (but_all (named_by_all tb g.params gs) ls) q
  others q = lodged_count (but_all (named_by_all tb g.params gs) ls) q

  pub still_stand : AllStand tb new ls
  still_stand = all_stand_on tb old new ls same held.stand

  abbrev pub is_given : IsGiven tb g new kept words
  is_given = record {
    store = store;
    arguments = xs;
    spares = spares;
    words = are;
    stand = stand;
    credits = credits;
    once = λ q. (let m = made q in let k = others q in let a = arguments_and_kept tb ls distinct g.params gs xs q given (bare tb new g.params xs stand) in omega (arith, m, k, a));
  }
