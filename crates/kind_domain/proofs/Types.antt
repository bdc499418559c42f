-- Types and constructors that a table doesn't have.
use Rattle.std.proofs.Common.{◌≡◌, ℕ, zero, suc, ◌<◌, ◌≤◌, List, [], ◌∷◌, length, slice_get, get_or, sym, ap, ◌∙◌, Some, refl, arith}
use Rattle.std.specs.Prelude.{Bool, false, ◌&&◌}
use Rattle.std.proofs.lemmas.Bool.{lt-ltb, le-ltb}
use Rattle.cell_code.specs.fip_language.Table.{Table, Shape, shapes, constructors, is_scalar}
use Rattle.code_rules.specs.Types.{fields_of, is_scalar_type}
use Rattle.kind_domain.specs.Scalars.{IsMarked}
use Rattle.fip_base.proofs.fip_language.Facts.{some_bool_same as some_is}

shapes_past : (w : Table) (t : ℕ) → length w ≤ t → shapes w t ≡ []
shapes_past [] t h = refl
shapes_past (x ∷ w) zero h = absurd (omega arith)
shapes_past (x ∷ w) (suc t) h = shapes_past w t (omega arith)

pub constructors_past : (w : Table) (t : ℕ) → length w < t → constructors w t ≡ []
constructors_past w zero h = refl
constructors_past w (suc t) h = shapes_past w t (omega arith)

shape_get : (ss : List Shape) (c : ℕ) (s : Shape) → c < length ss → slice_get ss c ≡ Some (get_or ss c s)
shape_get [] c s h = absurd (omega arith)
shape_get (x ∷ ss) zero s h = refl
shape_get (x ∷ ss) (suc c) s h = shape_get ss c s (omega arith)

pub fields_found : (xs ys : List Shape) (c : ℕ) (s : Shape) → ys ≡ xs → c < length ys → s ≡ get_or ys c s →
    s.fields ≡ fields_of (slice_get xs c)
fields_found xs ys c s e h g =
    ap (λ x. x.fields) g ∙ ap fields_of (sym (shape_get ys c s h)) ∙ ap (λ z. fields_of (slice_get z c)) e

-- marks of scalar types

mark_get : (xs : List Bool) (c : ℕ) (s : Bool) → c < length xs → slice_get xs c ≡ Some (get_or xs c s)
mark_get [] c s h = absurd (omega arith)
mark_get (x ∷ xs) zero s h = refl
mark_get (x ∷ xs) (suc c) s h = mark_get xs c s (omega arith)

below_is : (w : Table) (c : ℕ) → c < suc (length w) → is_scalar w c ≡ is_scalar_type w c
below_is w c h = sym (ap (λ b. b && is_scalar w c) (lt-ltb c (suc (length w)) h))

pub mark_found : (w : Table) (xs ys : List Bool) (c : ℕ) (s : Bool) → IsMarked w xs → ys ≡ xs → c < length ys →
    s ≡ get_or ys c s → s ≡ is_scalar_type w c
mark_found w xs ys c s m e h g =
    let l = m.long in
    let k = ap length e in
    g ∙ some_is (get_or ys c s) (is_scalar w c)
    (sym (mark_get ys c s h) ∙ ap (λ z. slice_get z c) e ∙ m.marks c (omega arith)) ∙ below_is w c (omega arith)

pub mark_past : (w : Table) (xs ys : List Bool) (c : ℕ) → IsMarked w xs → ys ≡ xs → length ys ≤ c →
    false ≡ is_scalar_type w c
mark_past w xs ys c m e h =
    let l = m.long in
    let k = ap length e in
    sym (ap (λ b. b && is_scalar w c) (le-ltb c (suc (length w)) (omega arith)))
