-- What an instruction that is as required leaves: the kinds at the next instruction, and those at its target.
--
-- Where register 0 owns a tree with constructor 0 or 1, `Test 0 0 3` leaves constructor 0 to the next instruction, and
-- constructor 1 to instruction 3.
use Rattle.std.specs.Prelude.{◌≡◌, ℕ, false, List, [], ◌∷◌, Some, slice_get, if◌then◌else◌}
use Rattle.cell_code.specs.fip_language.Table.{Table}
use Rattle.cell_code.specs.fip_language.declared.Operator.{Operator}
use Rattle.cell_code.specs.fip_language.declared.Operator.TheVariants as O
use Rattle.cell_code.specs.declared.code.Instr.{Instr}
use Rattle.cell_code.specs.declared.code.Instr.TheVariants as I
use Rattle.cell_code.specs.declared.kind.Kind.{Kind}
use Rattle.cell_code.specs.declared.kind.Kind.TheVariants.{Gone, Scalar, Owned}
use Rattle.cell_code.specs.Plain.{PlainCode, results}
use Rattle.code_rules.specs.Types.{fields, is_scalar_type, field_kind, lent_kind}
use Rattle.code_rules.specs.Kinds.{at, set_of, root_of}
use Rattle.code_rules.specs.Changes.{written, used_up, moved, tested, without}
use Rattle.code_rules.specs.Taking.{IsTaken}
use Rattle.code_rules.specs.Handing.{give_all, arguments}
use Rattle.code_rules.specs.Asked.{known_fields}

-- An operator gives an int, or, where it compares, a bool.
abbrev pub result_type : Operator → ℕ
result_type O.Add = 0
result_type O.Subtract = 0
result_type O.Multiply = 0
result_type O.Divide = 0
result_type O.Remainder = 0
result_type O.Equal = 1
result_type O.NotEqual = 1
result_type O.Less = 1
result_type O.LessOrEqual = 1
result_type O.Greater = 1
result_type O.GreaterOrEqual = 1

-- a constructor without fields
abbrev pub atom_kind : Table → ℕ → ℕ → Kind
atom_kind w t k = if is_scalar_type w t then Scalar t else Owned t (k ∷ [])

-- Results come into registers.
abbrev pub received : Table → List Kind → List ℕ → List ℕ → List Kind
received w ks [] ts = ks
received w ks (d ∷ ds) [] = ks
received w ks (d ∷ ds) (t ∷ ts) = received w (written ks d (field_kind w t)) ds ts

-- The next instruction is reached with these kinds.
abbrev pub Leaves : PlainCode → List Kind → Instr → List Kind → Type 0
Leaves c ks (I.Const d v) left = left ≡ written ks d (Scalar 0)
Leaves c ks (I.Atom d t k) left = left ≡ written ks d (atom_kind c.types t k)
Leaves c ks (I.Move d s) left = left ≡ written (moved ks s) d (at ks s)
Leaves c ks (I.Arith d op a b line col) left = left ≡ written ks d (Scalar (result_type op))
Leaves c ks (I.Test r k target) left = left ≡ tested ks r (k ∷ [])
Leaves c ks (I.TestInt r v target) left = left ≡ ks
Leaves c ks (I.Peek d r i) left =
    (t : ℕ) × (slice_get (known_fields c.types (at ks r)) i ≡ Some t)
    × (left ≡ written ks d (lent_kind c.types t (root_of r (at ks r)) r i))
Leaves c ks (I.Take r ds) left = IsTaken c.types ks r ds (known_fields c.types (at ks r)) left
Leaves c ks (I.Put d t k ss) left =
    (rest : List Kind) × (give_all ks ss (fields c.types t k) ≡ Some rest) × (left ≡ written rest d (Owned t (k ∷ [])))
Leaves c ks (I.Drop r) left = left ≡ used_up ks r
Leaves c ks (I.Free r) left = left ≡ written ks r Gone
Leaves c ks (I.Call g rs ds) left =
    (rest : List Kind) × (arguments c false ks g rs ≡ Some rest) × (left ≡ received c.types rest ds (results c g))
Leaves c ks (I.Tail g rs) left = ⊥
Leaves c ks (I.Ret rs) left = ⊥
Leaves c ks (I.Jump target) left = ⊥

-- This instruction is reached as a target, with these kinds.
abbrev pub Jumps : List Kind → Instr → ℕ → List Kind → Type 0
Jumps ks (I.Const d v) j left = ⊥
Jumps ks (I.Atom d t k) j left = ⊥
Jumps ks (I.Move d s) j left = ⊥
Jumps ks (I.Arith d op a b line col) j left = ⊥
Jumps ks (I.Test r k target) j left = (j ≡ target) × (left ≡ tested ks r (without k (set_of (at ks r))))
Jumps ks (I.TestInt r v target) j left = (j ≡ target) × (left ≡ ks)
Jumps ks (I.Peek d r i) j left = ⊥
Jumps ks (I.Take r ds) j left = ⊥
Jumps ks (I.Put d t k ss) j left = ⊥
Jumps ks (I.Drop r) j left = ⊥
Jumps ks (I.Free r) j left = ⊥
Jumps ks (I.Call g rs ds) j left = ⊥
Jumps ks (I.Tail g rs) j left = ⊥
Jumps ks (I.Ret rs) j left = ⊥
Jumps ks (I.Jump target) j left = (j ≡ target) × (left ≡ ks)
