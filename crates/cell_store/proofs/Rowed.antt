-- Cells that are kept one by one.
use Rattle.std.proofs.Common.{◌≡◌, ◌≢◌, ℕ, zero, suc, ◌+◌, ◌<◌, ◌≤◌, ◌∙◌, Bool, false, List, ◌++◌, set, [], ◌∷◌, length, map, get_or, slice_set, Some, None, All, refl, sym, ap, arith}
use Rattle.fip_language.specs.Store.{Cell}
use Rattle.cell_store.specs.Cells.{Cells, cell_at, size_of, size_in, number, count_live}
use Rattle.std.proofs.lemmas.Option.{none-some}
use Rattle.std.proofs.lemmas.List.{length-set}
use Rattle.cell_store.specs.Flat.{IsCounted}
use Rattle.cell_store.proofs.Parsed.{one_live_past, one_live_le, count_append, get_set}

abbrev pub rows : List Cell → Cells
rows cs = map (λ c. Some c) cs

pub row_within : (cs : List Cell) (p : ℕ) → cell_at (rows cs) p ≢ None → p < length cs
row_within [] p h = absurd (h refl)
row_within (c ∷ cs) zero h = omega arith
row_within (c ∷ cs) (suc p) h = let l = row_within cs p h in omega (arith, l)

pub row_is : (cs : List Cell) (p : ℕ) (c : Cell) → p < length cs → c ≡ get_or cs p c → cell_at (rows cs) p ≡ Some c
row_is [] p c h e = absurd (omega arith)
row_is (d ∷ cs) zero c h e = ap (λ c. Some c) (sym e)
row_is (d ∷ cs) (suc p) c h e = row_is cs p c (omega arith) e

pub row_field : (cs : List Cell) (p i : ℕ) → i < size_in (cell_at (rows cs) p) → p < length cs
row_field [] p i h = absurd (omega arith)
row_field (c ∷ cs) zero i h = omega arith
row_field (c ∷ cs) (suc p) i h = let l = row_field cs p i h in omega (arith, l)

pub row_set : (cs : List Cell) (p : ℕ) (c : Cell) → rows (slice_set cs p c) ≡ slice_set (rows cs) p (Some c)
row_set [] p c = refl
row_set (d ∷ cs) zero c = refl
row_set (d ∷ cs) (suc p) c = ap (λ cs. Some d ∷ cs) (row_set cs p c)

pub row_number : (cs : List Cell) → number (rows cs) ≡ length cs
row_number [] = refl
row_number (c ∷ cs) = ap suc (row_number cs)

pub row_past : (k : ℕ) (cs : List Cell) (rs : List Bool) → All (λ c. size_of c ≤ 16) cs → 16 < k → count_live k (rows cs) rs ≡ 0
row_past k [] rs s h = refl
row_past k (c ∷ cs) [] s h = refl
row_past k (c ∷ cs) (r ∷ rs) s h =
    let first : size_of c ≤ 16 = s 0 c (omega arith) in
    let rest = row_past k cs rs (λ i d within. s (suc i) d (omega (arith, within))) h in
    let one = one_live_past k c r (omega (arith, first, h)) in
    omega (arith, one, rest)

pub row_there : (cs : List Cell) (p : ℕ) → p < length cs → cell_at (rows cs) p ≢ None
row_there [] p h = absurd (omega arith)
row_there (c ∷ cs) zero h = λ e. none-some c (sym e)
row_there (c ∷ cs) (suc p) h = row_there cs p (omega arith)

pub row_append : (cs : List Cell) (c : Cell) → rows (cs ++ c ∷ []) ≡ rows cs ++ Some c ∷ []
row_append [] c = refl
row_append (d ∷ cs) c = ap (λ os. Some d ∷ os) (row_append cs c)

pub row_counted : (cs : List Cell) (rs : List Bool) (ns : List ℕ) (c : Cell) → IsCounted (rows cs) rs ns → length rs ≡ length cs → size_of c ≤ 16 → IsCounted (rows (cs ++ c ∷ [])) (rs ++ false ∷ []) (set ns (size_of c) (get_or ns (size_of c) 0 + 1))
row_counted cs rs ns c kept long small = record {
  wide = length-set ns (size_of c) _ ∙ kept.wide;
  exact = λ k h. grind (arith, kept.wide, get_set ns (size_of c) (get_or ns (size_of c) 0 + 1) k, ap (λ os. count_live k os (rs ++ false ∷ [])) (row_append cs c), count_append k (rows cs) (Some c ∷ []) rs (false ∷ []) (long ∙ sym (row_length cs)), kept.exact k h, kept.exact (size_of c) small);
}
  where
    row_length : (cs : List Cell) → length (rows cs) ≡ length cs
    row_length [] = refl
    row_length (c ∷ cs) = ap suc (row_length cs)

pub row_count_le : (k : ℕ) (cs : List Cell) (rs : List Bool) → count_live k (rows cs) rs ≤ length cs
row_count_le k [] rs = omega arith
row_count_le k (c ∷ cs) [] = omega arith
row_count_le k (c ∷ cs) (r ∷ rs) = omega (arith, one_live_le k c r, row_count_le k cs rs)
