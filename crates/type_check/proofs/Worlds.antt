-- What lists have at a number.
use Rattle.std.proofs.Common.{◌≡◌, ℕ, zero, suc, ◌-◌, ◌<◌, ◌≤◌, List, [], ◌∷◌, map, length, slice_index_or, refl, sym, ap, ◌∙◌, Vec, Global, arith}
use Rattle.fip_language.specs.Table.{Shape, Table, constructors}
use Rattle.fip_base.specs.TableView.{fields_at}
use Rattle.type_check.specs.World.{counts_of}

pub constructors_past : (tb : Table) (t : ℕ) → length tb < t → constructors tb t ≡ []
constructors_past tb zero h = refl
constructors_past [] (suc t) h = refl
constructors_past (r ∷ rs) (suc zero) h = absurd (omega arith)
constructors_past (r ∷ rs) (suc (suc t)) h = constructors_past rs (suc t) (omega arith)

pub fields_past : (ss : List Shape) (c : ℕ) → length ss ≤ c → fields_at ss c ≡ []
fields_past [] c h = refl
fields_past (s ∷ ss) zero h = absurd (omega arith)
fields_past (s ∷ ss) (suc c) h = fields_past ss c (omega arith)

-- the row of a number from 1
pub row_past : (rows : List (Vec ℕ Global)) (n : ℕ) → 0 < n → length rows ≤ n - 1 → counts_of (map (λ r. r.items) rows) n ≡ []
row_past rows zero h g = absurd (omega arith)
row_past [] (suc n) h g = refl
row_past (r ∷ rs) (suc zero) h g = absurd (omega arith)
row_past (r ∷ rs) (suc (suc n)) h g = row_past rs (suc n) (omega arith) (omega arith)

pub row_at : (rows : List (Vec ℕ Global)) (n : ℕ) (d : Vec ℕ Global) → n < length rows → counts_of (map (λ r. r.items) rows) (suc n) ≡ (slice_index_or rows n d).items
row_at [] n d h = absurd (omega arith)
row_at (r ∷ rs) zero d h = refl
row_at (r ∷ rs) (suc n) d h = row_at rs n d (omega arith)

before : (n : ℕ) → suc n - 1 ≡ n
before n = omega arith

pub row_here : (rows : List (Vec ℕ Global)) (n : ℕ) (d : Vec ℕ Global) → 0 < n → n - 1 < length rows → counts_of (map (λ r. r.items) rows) n ≡ (slice_index_or rows (n - 1) d).items
row_here rows zero d h g = absurd (omega arith)
row_here rows (suc n) d h g = row_at rows n d (omega arith) ∙ ap (λ m. (slice_index_or rows m d).items) (sym (before n))
