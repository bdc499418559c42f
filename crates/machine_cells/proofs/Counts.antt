-- Counts of released cells: of one, of none, and of some after others.
use Rattle.std.proofs.Common.{◌≡◌, ◌≢◌, ℕ, ◌+◌, ◌<◌, ◌^◌, Bool, true, false, List, Option, Some, None, refl, sym, ap, subst, ◌∙◌, arith, slice_get, slice_set}
use Rattle.std.specs.Prelude.{option_map}
use Rattle.std.proofs.lemmas.Option.{none-some, same_Some}
use Rattle.fip_language.specs.Store.{Cell}
use Rattle.cell_store.specs.Cells.{Cells, cell_at, size_of, size_in, count_live}
use Rattle.cell_store.proofs.Parsed.{count_set, count_flag}
use Rattle.machine_cells.specs.Counting.{freed_of, CountsReleased, one_of, CountsOne}

pub counts_none : (cs : Cells) (rs : List Bool) (freed : List ℕ) → CountsReleased cs rs freed cs rs freed
counts_none cs rs freed k low high few = refl

pub counts_on : (cs ds es : Cells) (rs qs ps : List Bool) (freed counts more : List ℕ) → CountsReleased cs rs freed ds qs counts → CountsReleased ds qs counts es ps more → CountsReleased cs rs freed es ps more
counts_on cs ds es rs qs ps freed counts more f g k low high few =
    let e = f k low high few in
    g k low high (subst (λ n. n < 2 ^ 64) (sym e) few) ∙ e

-- the size that was read of a cell
the_cell : (o : Option Cell) (size : ℕ) → option_map size_of o ≡ Some size → (c : Cell) × (o ≡ Some c) × (size_of c ≡ size)
the_cell None size e = absurd (none-some size e)
the_cell (Some c) size e = (c, refl, same_Some (size_of c) size e)

-- a cell that was held is released, and counted
pub counts_release : (cs : Cells) (rs : List Bool) (p size : ℕ) (freed counts : List ℕ) → slice_get rs p ≡ Some false → option_map size_of (cell_at cs p) ≡ Some size → CountsOne freed size counts → CountsReleased cs rs freed cs (slice_set rs p true) counts
counts_release cs rs p size freed counts live e one k low high few =
    let z = the_cell (cell_at cs p) size e in
    let fell : count_live k cs (slice_set rs p true) + one_of k size ≡ count_live k cs rs = subst (λ n. count_live k cs (slice_set rs p true) + one_of k n ≡ count_live k cs rs) z.2 (count_flag k cs rs p z.0 z.1 live) in
    let is = one k low high (omega (arith, few, fell)) in
    omega (arith, is, fell)

-- a cell keeps its size where it is written
pub counts_write : (cs : Cells) (rs : List Bool) (p : ℕ) (d : Cell) (freed : List ℕ) → cell_at cs p ≢ None → size_of d ≡ size_in (cell_at cs p) → CountsReleased cs rs freed (slice_set cs p (Some d)) rs freed
counts_write cs rs p d freed there size k low high few = ap (λ n. freed_of freed k + n) (by (cell_at cs p) refl)
  where
    by : (o : Option Cell) → cell_at cs p ≡ o → count_live k (slice_set cs p (Some d)) rs ≡ count_live k cs rs
    by None e = absurd (there e)
    by (Some c) e = count_set k cs rs p c d e (size ∙ ap size_in e)
