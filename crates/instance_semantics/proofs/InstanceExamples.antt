-- The program of the examples is that of its source, for the instance of rev.
use Rattle.std.proofs.Common.{◌≡◌, ℕ, zero, suc, [], ◌∷◌, Some, slice_get, refl, subst}
use Rattle.std.specs.Prelude.{codes}
use Rattle.fip_trees.specs.fip_language.Core.{Name}
use Rattle.fip_trees.specs.fip_language.Statics.{Closed, Closeds, ClosedInt, ClosedName, NoClosed}
use Rattle.fip_trees.specs.fip_language.Example as C
use Rattle.fip_trees.specs.fip_language.Example.{reversing}
use Rattle.instance_semantics.specs.Example as T
use Rattle.instance_semantics.specs.Example.{lists}
use Rattle.instance_semantics.specs.Specialised.{IsBlock, Stands, IsSpecialised}

abbrev pub only_rev : Closed
only_rev = ClosedName (codes "rev") NoClosed

rev_body : IsBlock reversing (only_rev ∷ []) (record { function = C.rev; given = NoClosed }) C.rev.body T.rev.body
rev_body = (
  _,
  refl,
  (
    _,
    _,
    _,
    _,
    _,
    _,
    _,
    refl,
    (_, _, refl),
    (
      _,
      _,
      _,
      refl,
      (_, _, _, _, _, _, refl, refl, refl),
      (_, refl, (_, refl, (_, _, refl))),
      (
        _,
        _,
        _,
        refl,
        (_, _, _, _, _, _, refl, refl, (_, _, refl, (_, refl, refl), (_, _, refl, (_, refl, refl), refl))),
        (_, refl, (_, _, _, _, refl, refl, (_, _, refl, (_, _, refl), (_, _, refl, (_, _, _, _, _, _, refl, refl, (_, _, refl, (_, _, refl), (_, _, refl, (_, _, refl), refl))), refl)))),
        refl,
      ),
    ),
  ),
)

rev_stands : Stands reversing (only_rev ∷ []) lists 0 (codes "rev") NoClosed
rev_stands = record {
  function = C.rev;
  instance = T.rev;
  declared = refl;
  there = refl;
  is = record { parameters = refl; credits = refl; binders = (refl, (refl, tt)); body = rev_body };
}

abbrev name_or : Closed → Name
name_or ClosedInt = []
name_or (ClosedName name given) = name

abbrev given_or : Closed → Closeds
given_or ClosedInt = NoClosed
given_or (ClosedName name given) = given

one_stands : (i : ℕ) (name : Name) (given : Closeds) → slice_get (only_rev ∷ []) i ≡ Some (ClosedName name given) → Stands reversing (only_rev ∷ []) lists i name given
one_stands zero name given e =
    let same : only_rev ≡ ClosedName name given = cc in
    subst (λ c. Stands reversing (only_rev ∷ []) lists 0 (name_or c) (given_or c)) same rev_stands
one_stands (suc i) name given e = cc

no_int : (i : ℕ) → slice_get (only_rev ∷ []) i ≡ Some ClosedInt → ⊥
no_int zero e = cc
no_int (suc i) e = cc

pub lists_specialised : IsSpecialised reversing lists (only_rev ∷ [])
lists_specialised = record { functions = one_stands; no_int = no_int }
