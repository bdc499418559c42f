-- S9: the form of a function. It has an instruction; its registers are at least its parameters and credits together,
-- and at most 4,096; it has 1 to 8 results; the types of its header are there; it has at most 16 credits, of sizes 1 to
-- 16. Its label maps have rising numbers, above 0 and in the function, and exactly one kind for each register, with
-- numbers that are there: a credit has a size of 1 to 16; a set isn't empty and rises; the root of a borrowed register
-- is owned in the map; and a from names another register, owned or borrowed with the same root, with one constructor,
-- which has that field.
--
-- A map of two registers `Owned 2 (1 ∷ [])` and `Lent 2 (0 ∷ []) (Some 0) (Some (record { register = 0; field = 1 }))`
-- has this form where constructor 1 of type 2 has two fields.
use Rattle.std.specs.Prelude.{ℕ, suc, ◌+◌, Bool, true, ◌&&◌, not, List, [], ◌∷◌, Option, Some, None, length}
use Rattle.std.specs.Prelude.{◌==◌, nat_lt}
use Rattle.cell_code.specs.fip_language.Table.{Table}
use Rattle.cell_code.specs.fip_base.declared.plain.Param.{Param}
use Rattle.cell_code.specs.declared.kind.From.{From}
use Rattle.cell_code.specs.declared.kind.Kind.{Kind}
use Rattle.cell_code.specs.declared.kind.Kind.TheVariants.{Gone, Scalar, Owned, Lent, Credit}
use Rattle.code_rules.specs.Limits.{most_fields, most_credits, most_results, most_registers}
use Rattle.cell_code.specs.Plain.{LabelMap, PlainFunction, PlainCode}
use Rattle.code_rules.specs.Types.{is_type, count}
use Rattle.code_rules.specs.Kinds.{at, is_owned, same_root, root_of}
use Rattle.code_rules.specs.Asked.{known_fields}

abbrev pub are_types : Table → List ℕ → Bool
are_types w [] = true
are_types w (t ∷ ts) = is_type w t && are_types w ts

abbrev pub are_params : Table → List Param → Bool
are_params w [] = true
are_params w (p ∷ ps) = is_type w p.ty && are_params w ps

-- the size of a cell
abbrev pub is_size : ℕ → Bool
is_size k = nat_lt 0 k && nat_lt k (suc most_fields)

abbrev pub are_sizes : List ℕ → Bool
are_sizes [] = true
are_sizes (k ∷ ks) = is_size k && are_sizes ks

-- They rise, are below n, and none is below `low`.
abbrev pub are_rising : ℕ → ℕ → List ℕ → Bool
are_rising n low [] = true
are_rising n low (k ∷ ks) = not (nat_lt k low) && (nat_lt k n && are_rising n (suc k) ks)

-- constructors of type t in rising order, at least one
abbrev pub is_set : Table → ℕ → List ℕ → Bool
is_set w t s = not (length s == 0) && are_rising (count w t) 0 s

abbrev pub is_good_root : List Kind → Option ℕ → Bool
is_good_root ms None = true
is_good_root ms (Some r) = is_owned (at ms r)

-- the from of register j, which is borrowed with this root; only a register with one known constructor has known fields
abbrev pub is_good_from : Table → List Kind → ℕ → Option ℕ → Option From → Bool
is_good_from w ms j root None = true
is_good_from w ms j root (Some f) =
    not (f.register == j) &&
    (same_root (root_of f.register (at ms f.register)) root &&
    nat_lt f.field (length (known_fields w (at ms f.register))))

-- what a map says of register j
abbrev pub is_good_kind : Table → List Kind → ℕ → Kind → Bool
is_good_kind w ms j Gone = true
is_good_kind w ms j (Scalar t) = is_type w t
is_good_kind w ms j (Owned t s) = is_set w t s
is_good_kind w ms j (Lent t s root from) = is_set w t s && (is_good_root ms root && is_good_from w ms j root from)
is_good_kind w ms j (Credit k) = is_size k

abbrev pub are_good_kinds : Table → List Kind → ℕ → List Kind → Bool
are_good_kinds w ms j [] = true
are_good_kinds w ms j (k ∷ ks) = is_good_kind w ms j k && are_good_kinds w ms (suc j) ks

-- label maps above number `low`, rising, in the function, with a kind for each register
abbrev pub are_good_maps : Table → PlainFunction → ℕ → List LabelMap → Bool
are_good_maps w f low [] = true
are_good_maps w f low (m ∷ ms) =
    nat_lt low m.at &&
    (nat_lt m.at (length f.instrs) &&
    ((length m.kinds == f.registers) &&
    (are_good_kinds w m.kinds 0 m.kinds && are_good_maps w f m.at ms)))

-- The function doesn't break S9.
abbrev pub is_formed : PlainCode → PlainFunction → Bool
is_formed c f =
    not (length f.instrs == 0) &&
    (not (nat_lt f.registers (length f.params + length f.credits)) &&
    (nat_lt f.registers (suc most_registers) &&
    (not (length f.results == 0) &&
    (nat_lt (length f.results) (suc most_results) &&
    (nat_lt (length f.credits) (suc most_credits) &&
    (are_params c.types f.params &&
    (are_sizes f.credits &&
    (are_types c.types f.results &&
    are_good_maps c.types f 0 f.labels))))))))
