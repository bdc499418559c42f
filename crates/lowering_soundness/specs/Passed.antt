-- It serves the proof that lowered code is sound: the registers of arguments. One in a borrowed position is that of a
-- variable that is borrowed; any other holds a value.
use Rattle.std.specs.Prelude.{◌≡◌, ℕ, ◌+◌, Bool, true, false, ◌&&◌, not, List, [], ◌∷◌, Some, if◌then◌else◌}
use Rattle.separation.specs.fip_language.Table.{Table}
use Rattle.separation.specs.fip_base.declared.plain.Param.{Param}
use Rattle.derivation_making.specs.type_check.Scope.{Scope, of_binder}
use Rattle.separation.specs.code_rules.Types.{is_scalar_type}
use Rattle.lowering_relation.specs.Known.{Known, register_of}
use Rattle.lowering_relation.specs.Describing.{Holding, held_at}
use Rattle.lowering_soundness.specs.Ties.{HoldsValue, owe, is_read_of, LiesIn}

abbrev pub Choose : Bool → Type 0 → Type 0 → Type 0
Choose true A B = A
Choose false A B = B

-- a parameter that borrows
abbrev pub borrows : Table → Param → Bool
borrows w p = p.lent && not (is_scalar_type w p.ty)

-- how often register q owns the tree of an argument in register r
abbrev pub owe_passed : Table → Param → ℕ → ℕ → ℕ
owe_passed w p r q = if borrows w p then 0 else owe w p.ty r q

abbrev pub owed_passed : Table → List Param → List ℕ → ℕ → ℕ
owed_passed w [] rs q = 0
owed_passed w (p ∷ ps) [] q = 0
owed_passed w (p ∷ ps) (r ∷ rs) q = owe_passed w p r q + owed_passed w ps rs q

-- the register is that of a variable of the parameter's type, which is borrowed
pub record IsBorrowed (s : Scope) (B : ℕ → Bool) (k : Known) (p : Param) (r : ℕ) : Type 0 where
  pub variable : ℕ
  pub named : register_of k.names (Some variable) ≡ Some r
  pub typed : of_binder s (Some variable) ≡ Some (Some p.ty)
  pub borrowed : B variable ≡ true

abbrev pub PassHolds : Table → Scope → (ℕ → Bool) → Known → List Param → List ℕ → Type 0
PassHolds w s B k [] [] = Unit {0}
PassHolds w s B k [] (r ∷ rs) = ⊥
PassHolds w s B k (p ∷ ps) [] = ⊥
PassHolds w s B k (p ∷ ps) (r ∷ rs) =
    Choose (borrows w p) (IsBorrowed s B k p r) (HoldsValue w p.ty (held_at k.held r)) × PassHolds w s B k ps rs

-- the same of what is held, where trees that are read lie in some
pub record IsReadIn (n : ℕ → ℕ) (g : Holding) (p : Param) (r : ℕ) : Type 0 where
  pub read : is_read_of p.ty (g r) ≡ true
  pub lies : LiesIn n r (g r)

abbrev pub HoldPassed : Table → (ℕ → ℕ) → Holding → List Param → List ℕ → Type 0
HoldPassed w n g [] [] = Unit {0}
HoldPassed w n g [] (r ∷ rs) = ⊥
HoldPassed w n g (p ∷ ps) [] = ⊥
HoldPassed w n g (p ∷ ps) (r ∷ rs) =
    Choose (borrows w p) (IsReadIn n g p r) (HoldsValue w p.ty (g r)) × HoldPassed w n g ps rs
