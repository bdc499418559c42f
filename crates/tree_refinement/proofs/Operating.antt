-- What an operator gives is the value that its word stands for.
use Rattle.std.proofs.Common.{◌≡◌, ◌<◌, ◌≤◌, ◌^◌, ℕ, zero, suc, ℤ, pos, negsuc, ◌+ℤ◌, ◌-ℤ◌, ◌*ℤ◌, Bool, true, false, not, if◌then◌else◌, int_lt, int_le, int_div, int_rem, unsigned_abs, FitsSigned, arith, refl, sym, ap, ◌∙◌}
use Rattle.std.specs.Int.{w64}
use Rattle.std.proofs.lemmas.Bool.{ltb-true}
use Rattle.std.proofs.lemmas.Int.{rem_below, fits_signed_from_abs}
use Rattle.tree_semantics.specs.fip_language.declared.Operator.{Operator}
use Rattle.tree_semantics.specs.fip_language.declared.Operator.TheVariants as O
use Rattle.tree_semantics.specs.fip_language.declared.TrapKind.TheVariants.{Overflow, DivideByZero}
use Rattle.tree_semantics.specs.fip_language.Values.{Value, Int}
use Rattle.tree_semantics.specs.fip_language.Table.{Table}
use Rattle.tree_semantics.specs.fip_language.Store.{PlacedInt, Bare, At}
use Rattle.tree_semantics.specs.fip_language.Matching.{same_int}
use Rattle.tree_semantics.specs.fip_language.Arithmetic.{Operated, Is, Fails, fits, truth, operate}
use Rattle.tree_semantics.specs.machine_semantics.Words.{int_of, scalar_word}
use Rattle.tree_semantics.specs.machine_semantics.Cells.{Store}
use Rattle.separation_bounds.specs.code_rules.Leaves.{result_type}
use Rattle.separation_bounds.specs.separation.Rows.{IsTruth}
use Rattle.separation_bounds.proofs.separation.Reading.{int_is}
use Rattle.tree_refinement.specs.Agreement.{IsWordOf}
use Rattle.tree_semantics.proofs.machine_semantics.cell_code.fip_base.fip_language.Facts.{abs_fits}
use Rattle.separation_bounds.proofs.separation.Arithmetic.{fits_signed, remainder_fits, some_abs}

abbrev pub GivesValue : Table → Store → ℕ → Operated → Type 0
GivesValue tb s t (Is v) = IsWordOf tb s t (scalar_word v) v
GivesValue tb s t (Fails kind) = Unit {0}

int_word_of : (tb : Table) (s : Store) (i : ℤ) → FitsSigned w64 i → GivesValue tb s 0 (Is (Int i))
int_word_of tb s i f = (PlacedInt i, record { word = refl; stands = f }, refl)

int_or : (tb : Table) (s : Store) (i : ℤ) (b : Bool) → fits i ≡ b → GivesValue tb s 0 (if b then Is (Int i) else Fails Overflow)
int_or tb s i true e = int_word_of tb s i (fits_signed i e)
int_or tb s i false e = tt

unless : (tb : Table) (s : Store) (t : ℕ) (b : Bool) (o : Operated) → (b ≡ false → GivesValue tb s t o) → GivesValue tb s t (if b then Fails DivideByZero else o)
unless tb s t true o h = tt
unless tb s t false o h = h refl

truth_of : (tb : Table) (s : Store) → IsTruth tb 0 × IsTruth tb 1 → (b : Bool) → GivesValue tb s 1 (truth b)
truth_of tb s bool true = (Bare 1, record { word = refl; stands = bool.1 }, refl)
truth_of tb s bool false = (Bare 0, record { word = refl; stands = bool.0 }, refl)

pub operate_value : (tb : Table) (s : Store) → IsTruth tb 0 × IsTruth tb 1 → (o : Operator) (i j : ℤ) → FitsSigned w64 j → GivesValue tb s (result_type o) (operate o i j)
operate_value tb s bool O.Add i j h = int_or tb s (i +ℤ j) (fits (i +ℤ j)) refl
operate_value tb s bool O.Subtract i j h = int_or tb s (i -ℤ j) (fits (i -ℤ j)) refl
operate_value tb s bool O.Multiply i j h = int_or tb s (i *ℤ j) (fits (i *ℤ j)) refl
operate_value tb s bool O.Divide i j h = unless tb s 0 (same_int j (pos 0)) _ (λ e. int_or tb s (int_div i j) (fits (int_div i j)) refl)
operate_value tb s bool O.Remainder i j h = unless tb s 0 (same_int j (pos 0)) _ (λ e. int_word_of tb s (int_rem i j) (remainder_fits i j h e))
operate_value tb s bool O.Equal i j h = truth_of tb s bool (same_int i j)
operate_value tb s bool O.NotEqual i j h = truth_of tb s bool (not (same_int i j))
operate_value tb s bool O.Less i j h = truth_of tb s bool (int_lt i j)
operate_value tb s bool O.LessOrEqual i j h = truth_of tb s bool (int_le i j)
operate_value tb s bool O.Greater i j h = truth_of tb s bool (int_lt j i)
operate_value tb s bool O.GreaterOrEqual i j h = truth_of tb s bool (int_le j i)

-- an int is that of its word
pub int_value : (tb : Table) (s : Store) (w : ℕ) (v : Value) → IsWordOf tb s 0 w v → (v ≡ Int (int_of w)) × FitsSigned w64 (int_of w)
int_value tb s w v (PlacedInt i, g, e) =
    let same : int_of w ≡ i = ap int_of (sym g.word) ∙ int_is i g.stands in
    (sym e ∙ ap Int (sym same), rw same g.stands)
int_value tb s w v (Bare c, g, e) = absurd g.stands
int_value tb s w v (At p c xs, g, e) = absurd g.stands
