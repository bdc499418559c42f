-- What small declarations break, by computation; and of values a tree is shown, or by induction on trees there is none.
use Rattle.std.proofs.Common.{◌≡◌, ℕ, zero, suc, [], ◌∷◌, Some, inl, inr, refl, sym, ap, ◌∙◌, subst}
use Rattle.std.specs.Prelude.{codes, slice_get}
use Rattle.std.proofs.lemmas.Option.{none-some, same_Some}
use Rattle.source_report.specs.fip_language.declared.rule.Rule.TheVariants.{E10, E11, E12, E13}
use Rattle.source_report.specs.fip_language.Core.{Data}
use Rattle.source_report.specs.fip_language.Example.{at}
use Rattle.source_report.specs.fip_trees.declared.least.Violation.{Violation}
use Rattle.source_report.specs.fip_trees.Least.{In, comes_before}
use Rattle.source_report.specs.data_types.Types.{Applied, Tys, NoTys, MoreTys, Tree, Leaf, Node, Trees, End, More, HasType, HaveTypes, fill_all, IsValued}
use Rattle.source_report.specs.data_types.Declarations.{declarations}
use Rattle.source_report.specs.data_types.Answers.{HasNoValue, Violates, IsFirst}
use Rattle.source_report.specs.data_types.Faults.{broken, written_violations}
use Rattle.worked_examples.specs.Declaring.{list_with, with_brackets, without_brackets, endless, unknown, with_two}

-- ---- lists

list_valued : IsValued (declarations (list_with with_brackets)) 1
list_valued = (Node 0 End, (NoTys, refl, tt))

list_has : (v : Violation) → HasNoValue (list_with with_brackets) v → ⊥
list_has v h = by h.place h.there h.unvalued
  where
    by : (n : ℕ) → slice_get (list_with with_brackets).types n ≡ Some h.type → (IsValued (declarations (list_with with_brackets)) (suc n) → ⊥) → ⊥
    by zero e none = none list_valued
    by (suc n) e none = none-some h.type e

pub list_breaks_none : (v : Violation) → Violates (list_with with_brackets) v → ⊥
list_breaks_none v (inl h) = h
list_breaks_none v (inr h) = list_has v h

pub brackets_are_missed : written_violations (list_with without_brackets) ≡ broken E12 (at 1 29) (codes "list") ∷ []
brackets_are_missed = refl

-- ---- a type that holds itself

abbrev no_value : Violation
no_value = broken E13 (at 1 6) (codes "inf")

abbrev field : Tys
field = MoreTys (Applied 1 NoTys) NoTys

mutual
  has_none : (v : Tree) → HasType (declarations endless) (Applied 1 NoTys) v → ⊥
  has_none Leaf h = h
  has_none (Node zero vs) (fs, e, h) = have_none vs (subst (λ gs. HaveTypes (declarations endless) (fill_all NoTys gs) vs) (sym (same_Some field fs e)) h)
  has_none (Node (suc c) vs) (fs, e, h) = none-some fs e

  have_none : (vs : Trees) → HaveTypes (declarations endless) field vs → ⊥
  have_none End h = h
  have_none (More v vs) h = has_none v h.0

unvalued : IsValued (declarations endless) 1 → ⊥
unvalued h = has_none h.0 h.1

only_one : (v : Violation) (n : ℕ) (d : Data) → slice_get endless.types n ≡ Some d → v ≡ broken E13 d.place d.name → v ≡ no_value
only_one v zero d e is = is ∙ ap (λ (d : Data). broken E13 d.place d.name) (sym (same_Some _ d e))
only_one v (suc n) d e is = absurd (none-some d e)

pub just_endless : (v : Violation) → Violates endless v → v ≡ no_value
just_endless v (inl h) = absurd h
just_endless v (inr h) = only_one v h.place h.type h.there h.is

pub endless_first : IsFirst endless no_value
endless_first = record {
  violated = inr (record { place = 0; type = _; there = refl; unvalued = unvalued; is = refl });
  least = λ w h. ap (λ w. comes_before w no_value) (just_endless w h);
}

-- ---- a type that is unknown

pub nat_is_unknown : written_violations unknown ≡ broken E11 (at 1 12) (codes "nat") ∷ []
nat_is_unknown = refl

unknown_valued : IsValued (declarations unknown) 1
unknown_valued = (Node 0 (More Leaf End), (_, refl, (tt, tt)))

unknown_has : (v : Violation) → HasNoValue unknown v → ⊥
unknown_has v h = by h.place h.there h.unvalued
  where
    by : (n : ℕ) → slice_get unknown.types n ≡ Some h.type → (IsValued (declarations unknown) (suc n) → ⊥) → ⊥
    by zero e none = none unknown_valued
    by (suc n) e none = none-some h.type e

pub just_unknown : (v : Violation) → Violates unknown v → v ≡ broken E11 (at 1 12) (codes "nat")
just_unknown v (inl h) = in_one h
  where
    in_one : In v (written_violations unknown) → v ≡ broken E11 (at 1 12) (codes "nat")
    in_one (inl e) = e
    in_one (inr e) = absurd e
just_unknown v (inr h) = absurd (unknown_has v h)

pub x_stands_twice : written_violations with_two ≡ broken E10 (at 2 13) (codes "X") ∷ []
x_stands_twice = refl
