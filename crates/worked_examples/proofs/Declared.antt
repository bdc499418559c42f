-- Which types of the examples have a value: a tree is shown, or by induction on trees there is none.
use Rattle.std.proofs.Common.{◌≡◌, zero, suc, Some, refl, sym, subst}
use Rattle.source_report.specs.data_types.Types.{Ty, Parameter, Applied, Tys, NoTys, Tree, Leaf, Node, Trees, End, More}
use Rattle.source_report.specs.data_types.Types.{HasType, HaveTypes, fill_all, IsValued}
use Rattle.worked_examples.specs.Declared.{only, list_type, endless_type, growing_type}

pub list_has_one : IsValued list_type 0
list_has_one = (Node 0 End, (NoTys, refl, tt))

-- the fields of a node are those of the one constructor
fields_are : (fs gs : Tys) → Some fs ≡ Some gs → fs ≡ gs
fields_are fs gs h = cc

mutual
  endless_has_none : (v : Tree) → HasType endless_type (Applied 0 NoTys) v → ⊥
  endless_has_none Leaf h = h
  endless_has_none (Node zero vs) (fs, e, h) =
      endless_have_none vs (subst (λ gs. HaveTypes endless_type (fill_all NoTys gs) vs)
      (sym (fields_are (only (Applied 0 NoTys)) fs e)) h)
  endless_has_none (Node (suc c) vs) (fs, e, h) = absurd cc

  endless_have_none : (vs : Trees) → HaveTypes endless_type (only (Applied 0 NoTys)) vs → ⊥
  endless_have_none End h = h
  endless_have_none (More v vs) h = endless_has_none v h.0

pub endless_is_not : IsValued endless_type 0 → ⊥
endless_is_not h = endless_has_none h.0 h.1

mutual
  growing_has_none : (t : Ty) (v : Tree) → HasType growing_type (Applied 0 (only t)) v → ⊥
  growing_has_none t Leaf h = h
  growing_has_none t (Node zero vs) (fs, e, h) =
      growing_have_none t vs (subst (λ gs. HaveTypes growing_type (fill_all (only t) gs) vs)
      (sym (fields_are (only (Applied 0 (only (Applied 1 (only (Parameter 0)))))) fs e)) h)
  growing_has_none t (Node (suc c) vs) (fs, e, h) = absurd cc

  growing_have_none : (t : Ty) (vs : Trees) →
      HaveTypes growing_type (only (Applied 0 (only (Applied 1 (only t))))) vs → ⊥
  growing_have_none t End h = h
  growing_have_none t (More v vs) h = growing_has_none (Applied 1 (only t)) v h.0

pub growing_is_not : IsValued growing_type 0 → ⊥
growing_is_not h = growing_has_none (Parameter 0) h.0 h.1

pub ruleset computed = (list_has_one, endless_is_not, growing_is_not)
