-- Registers that are handed over: as the fields of a Put, as results, and as arguments. Each owned one is used up in
-- its turn and each credit becomes Gone in its turn, so that one that is named twice isn't there the second time.
--
-- Arguments fit where there is one for each parameter of the callee, of its type, then one for each credit of its
-- header. A scalar one is a scalar, an owned one owned and used up, and a credit's is a credit of that size. After that
-- the borrowed ones are owned or borrowed; in a tail call they are borrowed without a root, since the frame goes.
--
-- With register 0 owned of type 2, it may be given once as a field of type 2, and not twice.
use Rattle.std.specs.Prelude.{ℕ, Bool, true, false, ◌&&◌, ◌||◌, not, is_some, List, [], ◌∷◌, Option, Some, None, ◌+◌}
use Rattle.std.specs.Prelude.{option_and_then, drop, length, if◌then◌else◌, ◌==◌}
use Rattle.cell_code.specs.fip_language.Table.{Table}
use Rattle.cell_code.specs.fip_base.declared.plain.Param.{Param}
use Rattle.cell_code.specs.declared.kind.Kind.{Kind}
use Rattle.cell_code.specs.declared.kind.Kind.TheVariants.{Gone, Scalar, Owned, Lent, Credit}
use Rattle.cell_code.specs.Plain.{PlainCode}
use Rattle.code_rules.specs.Codes.{params, credits}
use Rattle.code_rules.specs.Types.{is_scalar_type}
use Rattle.code_rules.specs.Kinds.{at, is_scalar_of, is_owned_of, is_credit_of}
use Rattle.code_rules.specs.Changes.{written, used_up}

-- Register s is given as a value of type t.
abbrev pub give : List Kind → ℕ → ℕ → Option (List Kind)
give ks s t =
    if is_scalar_of t (at ks s) then Some ks else (if is_owned_of t (at ks s) then Some (used_up ks s) else None)

-- One register for each type; what is left, where all are of their types.
abbrev pub give_all : List Kind → List ℕ → List ℕ → Option (List Kind)
give_all ks [] [] = Some ks
give_all ks [] (t ∷ ts) = None
give_all ks (s ∷ ss) [] = None
give_all ks (s ∷ ss) (t ∷ ts) = option_and_then (λ left. give_all left ss ts) (give ks s t)

-- Register a is handed over for a parameter. What is borrowed stays, and is checked after all of these.
abbrev pub pass : Table → List Kind → Param → ℕ → Option (List Kind)
pass w ks p a =
    if is_scalar_type w p.ty then (if is_scalar_of p.ty (at ks a) then Some ks else None) else
    (if p.lent then Some ks else (if is_owned_of p.ty (at ks a) then Some (used_up ks a) else None))

abbrev pub pass_all : Table → List Kind → List Param → List ℕ → Option (List Kind)
pass_all w ks [] rs = Some ks
pass_all w ks (p ∷ ps) [] = None
pass_all w ks (p ∷ ps) (a ∷ rs) = option_and_then (λ left. pass_all w left ps rs) (pass w ks p a)

-- Register a is handed over as a credit of a size.
abbrev pub hand : List Kind → ℕ → ℕ → Option (List Kind)
hand ks size a = if is_credit_of size (at ks a) then Some (written ks a Gone) else None

abbrev pub hand_all : List Kind → List ℕ → List ℕ → Option (List Kind)
hand_all ks [] rs = Some ks
hand_all ks (size ∷ sizes) [] = None
hand_all ks (size ∷ sizes) (a ∷ rs) = option_and_then (λ left. hand_all left sizes rs) (hand ks size a)

-- It may be borrowed as a tree of type u.
abbrev pub is_lendable : Bool → ℕ → Kind → Bool
is_lendable tail u Gone = false
is_lendable tail u (Scalar t) = false
is_lendable tail u (Owned t s) = (t == u) && not tail
is_lendable tail u (Lent t s root from) = (t == u) && not (tail && is_some root)
is_lendable tail u (Credit k) = false

abbrev pub lends : Table → Bool → List Kind → Param → ℕ → Bool
lends w tail ks p a = is_scalar_type w p.ty || (not p.lent || is_lendable tail p.ty (at ks a))

abbrev pub lend_all : Table → Bool → List Kind → List Param → List ℕ → Bool
lend_all w tail ks [] rs = true
lend_all w tail ks (p ∷ ps) [] = true
lend_all w tail ks (p ∷ ps) (a ∷ rs) = lends w tail ks p a && lend_all w tail ks ps rs

abbrev pub kept_if : Bool → List Kind → Option (List Kind)
kept_if true left = Some left
kept_if false left = None

-- What is left of the registers after the arguments of a call of function g, where they fit.
abbrev pub arguments : PlainCode → Bool → List Kind → ℕ → List ℕ → Option (List Kind)
arguments c tail ks g rs =
    if length rs == length (params c g) + length (credits c g) then
    option_and_then (λ left. kept_if (lend_all c.types tail left (params c g) rs) left)
    (option_and_then (λ left. hand_all left (credits c g) (drop (length (params c g)) rs))
    (pass_all c.types ks (params c g) rs))
    else None
