-- S2 and S3: what an instruction requires of its sources and of its destinations, by the kinds before it. Each of the
-- two has a line for each instruction.
--
-- `Take 0 (2 ∷ 3 ∷ [])` requires that register 0 is owned with one constructor, which has two fields (S2), and that
-- registers 2 and 3 may be overwritten (S3).
use Rattle.std.specs.Prelude.{ℕ, Bool, true, false, ◌&&◌, not, is_some, List, [], ◌∷◌, Option, Some, None, length}
use Rattle.std.specs.Prelude.{if◌then◌else◌, ◌==◌, nat_lt}
use Rattle.cell_code.specs.fip_language.Table.{Table}
use Rattle.cell_code.specs.declared.code.Instr.{Instr}
use Rattle.cell_code.specs.declared.code.Instr.TheVariants as I
use Rattle.cell_code.specs.declared.kind.Kind.{Kind}
use Rattle.cell_code.specs.declared.kind.Kind.TheVariants.{Gone, Scalar, Owned, Lent, Credit}
use Rattle.cell_code.specs.Plain.{PlainFunction, PlainCode, results}
use Rattle.code_rules.specs.Types.{fields}
use Rattle.code_rules.specs.Kinds.{has, at, is_free, is_gone, is_scalar_of, is_owned, is_credit, is_credit_of}
use Rattle.code_rules.specs.Ranges.{is_constructor}
use Rattle.code_rules.specs.Handing.{give_all, arguments}

-- ---- S2

-- A value of this kind may have constructor k: of a scalar any of its type, of a tree one that is known.
abbrev pub may_have : Table → ℕ → Kind → Bool
may_have w k Gone = false
may_have w k (Scalar t) = is_constructor w t k
may_have w k (Owned t s) = has s k
may_have w k (Lent t s root from) = has s k
may_have w k (Credit n) = false

-- the types of the fields, where one constructor is known
abbrev pub only_fields : Table → ℕ → List ℕ → List ℕ
only_fields w t [] = []
only_fields w t (k ∷ []) = fields w t k
only_fields w t (k ∷ l ∷ ks) = []

abbrev pub is_one : List ℕ → Bool
is_one [] = false
is_one (k ∷ []) = true
is_one (k ∷ l ∷ ks) = false

-- the types of the fields that can be read
abbrev pub known_fields : Table → Kind → List ℕ
known_fields w Gone = []
known_fields w (Scalar t) = []
known_fields w (Owned t s) = only_fields w t s
known_fields w (Lent t s root from) = only_fields w t s
known_fields w (Credit n) = []

-- It is owned with one constructor, of n fields.
abbrev pub can_take : Table → ℕ → Kind → Bool
can_take w n Gone = false
can_take w n (Scalar t) = false
can_take w n (Owned t s) = is_one s && (length (only_fields w t s) == n)
can_take w n (Lent t s root from) = false
can_take w n (Credit k) = false

abbrev pub same_types : List ℕ → List ℕ → Bool
same_types [] [] = true
same_types [] (b ∷ ys) = false
same_types (a ∷ xs) [] = false
same_types (a ∷ xs) (b ∷ ys) = (a == b) && same_types xs ys

-- what is left after the arguments of a tail call, where its results are those of the function and they fit
abbrev pub tail_left : PlainCode → PlainFunction → List Kind → ℕ → List ℕ → Option (List Kind)
tail_left c f ks g rs = if same_types (results c g) f.results then arguments c true ks g rs else None

abbrev pub sources : PlainCode → PlainFunction → List Kind → Instr → Bool
sources c f ks (I.Const d v) = true
sources c f ks (I.Atom d t k) = length (fields c.types t k) == 0
sources c f ks (I.Move d s) = not (is_gone (at ks s))
sources c f ks (I.Arith d op a b line col) = is_scalar_of 0 (at ks a) && is_scalar_of 0 (at ks b)
sources c f ks (I.Test r k target) = may_have c.types k (at ks r)
sources c f ks (I.TestInt r v target) = is_scalar_of 0 (at ks r)
sources c f ks (I.Peek d r i) = nat_lt i (length (known_fields c.types (at ks r)))
sources c f ks (I.Take r ds) = can_take c.types (length ds) (at ks r)
sources c f ks (I.Put d t k ss) = is_some (give_all ks ss (fields c.types t k))
sources c f ks (I.Drop r) = is_owned (at ks r)
sources c f ks (I.Free r) = is_credit (at ks r)
sources c f ks (I.Call g rs ds) = is_some (arguments c false ks g rs)
sources c f ks (I.Tail g rs) = is_some (tail_left c f ks g rs)
sources c f ks (I.Ret rs) = is_some (give_all ks rs f.results)
sources c f ks (I.Jump target) = true

-- ---- S3

-- Registers are distinct, and all may be overwritten.
abbrev pub are_places : List Kind → List ℕ → Bool
are_places ks [] = true
are_places ks (d ∷ ds) = is_free (at ks d) && (not (has ds d) && are_places ks ds)

-- One register for each of n results, checked after the arguments where these fit.
abbrev pub can_receive : Option (List Kind) → ℕ → List ℕ → Bool
can_receive None n ds = true
can_receive (Some left) n ds = (length ds == n) && are_places left ds

abbrev pub destinations : PlainCode → List Kind → Instr → Bool
destinations c ks (I.Const d v) = is_free (at ks d)
destinations c ks (I.Atom d t k) = is_free (at ks d)
destinations c ks (I.Move d s) = is_free (at ks d) && not (d == s)
destinations c ks (I.Arith d op a b line col) = is_free (at ks d)
destinations c ks (I.Test r k target) = true
destinations c ks (I.TestInt r v target) = true
destinations c ks (I.Peek d r i) = is_free (at ks d) && not (d == r)
destinations c ks (I.Take r ds) = are_places ks ds && not (has ds r)
destinations c ks (I.Put d t k ss) = is_credit_of (length ss) (at ks d)
destinations c ks (I.Drop r) = true
destinations c ks (I.Free r) = true
destinations c ks (I.Call g rs ds) = can_receive (arguments c false ks g rs) (length (results c g)) ds
destinations c ks (I.Tail g rs) = true
destinations c ks (I.Ret rs) = true
destinations c ks (I.Jump target) = true
