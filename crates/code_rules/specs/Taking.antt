-- After Take: the cell of register r, which has fields of the types ts, goes into the registers ds.
--
-- 1. Where field i is of a scalar type, its register is a scalar.
-- 2. Else, where that register was borrowed as field i of r, it owns the field, with the constructors that it was
--    known to have, and a from that names it stays. It is an heir. Each register that is none of the ds and that
--    reached it through its from, directly or through further froms, gets it as root.
-- 3. Any other register of the ds gets what the field's type reports.
-- 4. Every other register with root r is Gone.
-- 5. r is a credit of the number of fields, or Gone where there is none.
--
-- Say register 1 was peeked as field 0 of register 0, and register 2 as field 0 of register 1. After register 0 is
-- taken into 1, register 1 owns its tree, and 2 is borrowed from 1. Taken into 3, both 1 and 2 are Gone.
use Rattle.std.specs.Prelude.{◌≡◌, ℕ, zero, suc, Bool, true, false, ◌&&◌, not, is_some, List, [], ◌∷◌, Option, Some}
use Rattle.std.specs.Prelude.{None, length, if◌then◌else◌, ◌==◌}
use Rattle.cell_code.specs.fip_language.Table.{Table}
use Rattle.cell_code.specs.declared.kind.From.{From}
use Rattle.cell_code.specs.declared.kind.Kind.{Kind}
use Rattle.cell_code.specs.declared.kind.Kind.TheVariants.{Gone, Scalar, Owned, Lent, Credit}
use Rattle.code_rules.specs.Types.{is_scalar_type, field_kind}
use Rattle.code_rules.specs.Kinds.{at, is_lent_of, from_of}
use Rattle.code_rules.specs.Changes.{become, forget}

-- a field and its type
pub record Part : Type 0 where
  pub field : ℕ
  pub ty : ℕ

-- the part that register q gets, of fields from number i on
abbrev pub part_from : ℕ → List ℕ → List ℕ → ℕ → Option Part
part_from i [] ts q = None
part_from i (d ∷ ds) [] q = None
part_from i (d ∷ ds) (t ∷ ts) q =
    if d == q then Some (record { field = i; ty = t }) else part_from (suc i) ds ts q

abbrev pub part : List ℕ → List ℕ → ℕ → Option Part
part ds ts q = part_from 0 ds ts q

-- a from is field i of register r
abbrev pub is_field : ℕ → ℕ → Option From → Bool
is_field r i None = false
is_field r i (Some f) = (f.register == r) && (f.field == i)

-- A register of this kind, which gets the part, was borrowed as that part.
abbrev pub is_heir_by : Table → ℕ → Kind → Option Part → Bool
is_heir_by w r k None = false
is_heir_by w r k (Some p) = not (is_scalar_type w p.ty) && is_field r p.field (from_of k)

abbrev pub is_heir : Table → List Kind → ℕ → (ℕ → Option Part) → ℕ → Bool
is_heir w ks r parts q = is_heir_by w r (at ks q) (parts q)

-- After a from, n further froms lead to register d, which is the first heir that they meet.
abbrev pub Chain : List Kind → (ℕ → Bool) → ℕ → Option From → ℕ → Type 0
Chain ks heir zero None d = ⊥
Chain ks heir (suc n) None d = ⊥
Chain ks heir zero (Some f) d = (heir f.register ≡ true) × (f.register ≡ d)
Chain ks heir (suc n) (Some f) d = (heir f.register ≡ false) × Chain ks heir n (from_of (at ks f.register)) d

abbrev pub Reaches : List Kind → (ℕ → Bool) → ℕ → ℕ → Type 0
Reaches ks heir q d = (n : ℕ) × Chain ks heir n (from_of (at ks q)) d

-- the heir that register q reaches, or that it reaches none
abbrev pub IsReached : List Kind → (ℕ → Bool) → ℕ → Option ℕ → Type 0
IsReached ks heir q None = (d : ℕ) → Reaches ks heir q d → ⊥
IsReached ks heir q (Some d) = Reaches ks heir q d

-- what was borrowed is owned
abbrev pub inherited : Kind → Kind
inherited Gone = Gone
inherited (Scalar t) = Scalar t
inherited (Owned t s) = Owned t s
inherited (Lent t s root from) = Owned t s
inherited (Credit k) = Credit k

-- 1 to 3: the kind of a register that gets a part and had kind k before
abbrev pub part_kind : Table → ℕ → Kind → Part → Kind
part_kind w r k p =
    if is_scalar_type w p.ty then Scalar p.ty else
    (if is_field r p.field (from_of k) then inherited k else field_kind w p.ty)

abbrev pub with_root : ℕ → Kind → Kind
with_root d Gone = Gone
with_root d (Scalar t) = Scalar t
with_root d (Owned t s) = Owned t s
with_root d (Lent t s root from) = Lent t s (Some d) from
with_root d (Credit k) = Credit k

-- 2 and 4: what becomes of a register of kind k that is none of the ds and not r, where it reaches an heir or none
abbrev pub fate : Option ℕ → ℕ → Kind → Kind
fate (Some d) r k = with_root d k
fate None r k = if is_lent_of r k then Gone else k

-- 5
abbrev pub credit : ℕ → Kind
credit zero = Gone
credit (suc k) = Credit (suc k)

-- Register q is written or becomes Gone, so that no from names it any more; an heir keeps its froms.
abbrev pub ends : Table → List Kind → ℕ → (ℕ → Option Part) → ℕ → (ℕ → Option ℕ) → ℕ → Bool
ends w ks r parts size reached q =
    if is_some (parts q) then not (is_heir w ks r parts q) else
    (if q == r then size == 0 else is_lent_of r (at ks q) && not (is_some (reached q)))

-- what becomes of a register of kind k that gets this part, or else this kind
abbrev pub part_or : Table → ℕ → Kind → Option Part → Kind → Kind
part_or w r k None other = other
part_or w r k (Some p) other = part_kind w r k p

-- all registers after the Take of a cell of so many fields, by the heirs that they reach
abbrev pub taken : Table → List Kind → ℕ → (ℕ → Option Part) → ℕ → (ℕ → Option ℕ) → List Kind
taken w ks r parts size reached =
    become ks (λ q. part_or w r (at ks q) (parts q)
    (if q == r then credit size else forget (ends w ks r parts size reached) (fate (reached q) r (at ks q))))

abbrev pub IsTaken : Table → List Kind → ℕ → List ℕ → List ℕ → List Kind → Type 0
IsTaken w ks r ds ts left =
    (reached : ℕ → Option ℕ) × ((q : ℕ) → IsReached ks (is_heir w ks r (part ds ts)) q (reached q))
    × (left ≡ taken w ks r (part ds ts) (length ds) reached)
