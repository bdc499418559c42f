-- What an operator gives is a value of its type: an int of 64 bits, or a truth.
use Rattle.std.proofs.Common.{◌≡◌, ◌<◌, ◌≤◌, ◌^◌, ℕ, zero, suc, ℤ, pos, negsuc, ◌+ℤ◌, ◌-ℤ◌, ◌*ℤ◌, Bool, true, false, not, if◌then◌else◌, int_lt, int_le, int_div, int_rem, unsigned_abs, FitsSigned, arith, refl}
use Rattle.std.specs.Int.{w64}
use Rattle.std.proofs.lemmas.Bool.{ltb-true}
use Rattle.std.proofs.lemmas.Int.{rem_below, fits_signed_from_abs}
use Rattle.separation_kinds.specs.fip_language.declared.Operator.{Operator}
use Rattle.separation_kinds.specs.fip_language.declared.Operator.TheVariants as O
use Rattle.separation_kinds.specs.fip_language.declared.TrapKind.TheVariants.{Overflow, DivideByZero}
use Rattle.separation_kinds.specs.fip_language.Values.{Int}
use Rattle.separation_kinds.specs.fip_language.Table.{Table}
use Rattle.separation_kinds.specs.fip_language.Store.{Placed, PlacedInt, Bare, uses}
use Rattle.separation_kinds.specs.fip_language.Matching.{same_int}
use Rattle.separation_kinds.specs.fip_language.Arithmetic.{Operated, Is, Fails, fits, truth, operate}
use Rattle.separation_kinds.specs.machine_semantics.Words.{scalar_word}
use Rattle.separation_kinds.specs.machine_semantics.Cells.{Store}
use Rattle.separation_kinds.specs.machine_semantics.Trees.{IsTree}
use Rattle.separation_kinds.specs.code_rules.Leaves.{result_type}
use Rattle.separation.specs.Rows.{IsTruth}
use Rattle.separation_kinds.proofs.machine_semantics.cell_code.fip_base.fip_language.Facts.{abs_fits}

pub fits_signed : (i : ℤ) → fits i ≡ true → FitsSigned w64 i
fits_signed (pos n) e = record { sfits = ltb-true n (2 ^ 63) e }
fits_signed (negsuc n) e = record { sfits = ltb-true n (2 ^ 63) e }

pub some_abs : (j : ℤ) → same_int j (pos 0) ≡ false → 0 < unsigned_abs j
some_abs (pos zero) e = absurd (cc)
some_abs (pos (suc n)) e = omega arith
some_abs (negsuc n) e = omega arith

pub remainder_fits : (i j : ℤ) → FitsSigned w64 j → same_int j (pos 0) ≡ false → FitsSigned w64 (int_rem i j)
remainder_fits i j f e =
    let below = rem_below i j (some_abs j e) in
    let most = abs_fits j f in
    fits_signed_from_abs w64 (int_rem i j) (omega arith)

-- a value of a type without a cell
pub record IsScalarTree (tb : Table) (s : Store) (t w : ℕ) : Type 0 where
  pub tree : Placed
  pub is : IsTree tb s t w tree
  pub bare : (q : ℕ) → uses q tree ≡ 0

abbrev pub GivesTree : Table → Store → ℕ → Operated → Type 0
GivesTree tb s t (Is v) = IsScalarTree tb s t (scalar_word v)
GivesTree tb s t (Fails kind) = Unit {0}

int_tree : (tb : Table) (s : Store) (i : ℤ) → FitsSigned w64 i → IsScalarTree tb s 0 (scalar_word (Int i))
int_tree tb s i f = record { tree = PlacedInt i; is = record { word = refl; stands = f }; bare = λ q. refl }

int_or : (tb : Table) (s : Store) (i : ℤ) (b : Bool) → fits i ≡ b → GivesTree tb s 0 (if b then Is (Int i) else Fails Overflow)
int_or tb s i true e = int_tree tb s i (fits_signed i e)
int_or tb s i false e = tt

unless : (tb : Table) (s : Store) (t : ℕ) (b : Bool) (o : Operated) → (b ≡ false → GivesTree tb s t o) → GivesTree tb s t (if b then Fails DivideByZero else o)
unless tb s t true o h = tt
unless tb s t false o h = h refl

truth_of : (tb : Table) (s : Store) → IsTruth tb 0 × IsTruth tb 1 → (b : Bool) → GivesTree tb s 1 (truth b)
truth_of tb s bool true = record { tree = Bare 1; is = record { word = refl; stands = bool.1 }; bare = λ q. refl }
truth_of tb s bool false = record { tree = Bare 0; is = record { word = refl; stands = bool.0 }; bare = λ q. refl }

pub operate_gives : (tb : Table) (s : Store) → IsTruth tb 0 × IsTruth tb 1 → (o : Operator) (i j : ℤ) → FitsSigned w64 j → GivesTree tb s (result_type o) (operate o i j)
operate_gives tb s bool O.Add i j h = int_or tb s (i +ℤ j) (fits (i +ℤ j)) refl
operate_gives tb s bool O.Subtract i j h = int_or tb s (i -ℤ j) (fits (i -ℤ j)) refl
operate_gives tb s bool O.Multiply i j h = int_or tb s (i *ℤ j) (fits (i *ℤ j)) refl
operate_gives tb s bool O.Divide i j h = unless tb s 0 (same_int j (pos 0)) _ (λ e. int_or tb s (int_div i j) (fits (int_div i j)) refl)
operate_gives tb s bool O.Remainder i j h = unless tb s 0 (same_int j (pos 0)) _ (λ e. int_tree tb s (int_rem i j) (remainder_fits i j h e))
operate_gives tb s bool O.Equal i j h = truth_of tb s bool (same_int i j)
operate_gives tb s bool O.NotEqual i j h = truth_of tb s bool (not (same_int i j))
operate_gives tb s bool O.Less i j h = truth_of tb s bool (int_lt i j)
operate_gives tb s bool O.LessOrEqual i j h = truth_of tb s bool (int_le i j)
operate_gives tb s bool O.Greater i j h = truth_of tb s bool (int_lt j i)
operate_gives tb s bool O.GreaterOrEqual i j h = truth_of tb s bool (int_le j i)
