-- The program of the examples is well typed, so the theorems speak of some program.
use Rattle.std.proofs.Common.{◌≡◌, ◌<◌, ℕ, zero, suc, pos, true, [], ◌∷◌, Some, FitsSigned, arith, refl, sym, subst}
use Rattle.std.specs.Prelude.{codes}
use Rattle.std.specs.Int.{w64}
use Rattle.std.proofs.lemmas.Int.{fits_signed_from_abs}
use Rattle.match_cover.specs.fip_language.Values.{Int, Node, Values, End, More}
use Rattle.match_cover.specs.fip_language.Table.{Shape, HaveTypes}
use Rattle.match_cover.specs.fip_trees.Tree.{Block, NoClauses, MoreClauses}
use Rattle.type_check.specs.World.{world}
use Rattle.type_check.specs.Typing.{Typed}
use Rattle.instance_semantics.specs.Example.{rev, inc, number, lists, nil_pattern, cons_pattern, truth_pattern}
use Rattle.type_safety.specs.Formed.{IsFormed}
use Rattle.type_safety.specs.Exhaustive.{IsExhaustive, some_matches}
use Rattle.type_safety.specs.Soundness.{IsWellTyped}
use Rattle.type_check.proofs.fip_language.Facts.{fits_bit as one_fits}

formed : IsFormed lists
formed = record {
  false_is_bare = (record { name = _; fields = [] }, refl, refl);
  true_is_bare = (record { name = _; fields = [] }, refl, refl);
  bodies = (
    record { binders = refl; body = (tt, tt, ((omega arith, (tt, ((omega arith, (tt, (tt, tt))), tt))), tt)) },
    (
      record { binders = refl; body = (tt, (omega arith, tt), (((tt, one_fits 1 (omega arith)), ((omega arith, (tt, tt)), (omega arith, (tt, (tt, tt))))), tt)) },
      (record { binders = refl; body = (tt, one_fits 0 (omega arith), (one_fits 1 (omega arith), tt)) }, tt),
    ),
  );
}

rev_typed : Typed true (world lists) rev
rev_typed = (
  omega arith,
  tt,
  (refl, (refl, tt)),
  (
    2,
    refl,
    refl,
    (refl, refl, tt),
    (2, refl, refl),
    ((refl, refl, (refl, (refl, tt))), (refl, (refl, ((refl, refl, (refl, (refl, tt))), tt))), tt),
  ),
)

inc_typed : Typed true (world lists) inc
inc_typed = (
  omega arith,
  tt,
  (refl, tt),
  (
    2,
    refl,
    refl,
    (refl, refl, tt),
    (2, refl, (refl, refl, tt)),
    (
      (refl, refl, (refl, (refl, tt))),
      (0 ∷ [], (refl, refl, refl), ((tt, refl), tt), (2 ∷ [], (refl, (refl, tt)), ((tt, refl), tt), (2, refl, (refl, refl, (refl, (refl, tt)))))),
      tt,
    ),
  ),
)

number_typed : Typed true (world lists) number
number_typed = (
  omega arith,
  tt,
  (refl, tt),
  (1, refl, refl, (refl, refl, tt), (0, refl, refl), ((refl, refl, tt), (0, refl, refl), tt)),
)

-- where a shape's fields are these, the values are of their types
fields_have : (r s : Shape) (vs : Values) → Some r ≡ Some s → HaveTypes lists.types s.fields vs → HaveTypes lists.types r.fields vs
fields_have r s vs e h = let same : s ≡ r = cc in subst (λ (x : Shape). HaveTypes lists.types x.fields vs) same h

pair_matches : (body other : Block) (x t : ℕ) (vs : Values) → HaveTypes lists.types (0 ∷ 2 ∷ []) vs → some_matches (MoreClauses nil_pattern other (MoreClauses (cons_pattern x t) body NoClauses)) (Node 1 vs) ≡ true
pair_matches body other x t End h = absurd h
pair_matches body other x t (More v End) h = absurd h.1
pair_matches body other x t (More v (More w End)) h = refl
pair_matches body other x t (More v (More w (More u vs))) h = absurd h.1.1

none_matches : (vs : Values) → HaveTypes lists.types [] vs → vs ≡ End
none_matches End h = refl
none_matches (More v vs) h = absurd h

by_list : (body other : Block) (x t : ℕ) → IsExhaustive lists.types 2 (MoreClauses nil_pattern other (MoreClauses (cons_pattern x t) body NoClauses))
by_list body other x t (Int i) h = absurd h
by_list body other x t (Node zero vs) h =
    let none = none_matches vs (fields_have (record { name = _; fields = [] }) h.0 vs h.1 h.2) in
    subst (λ us. some_matches (MoreClauses nil_pattern other (MoreClauses (cons_pattern x t) body NoClauses)) (Node zero us) ≡ true) (sym none) refl
by_list body other x t (Node (suc zero) vs) h = pair_matches body other x t vs (fields_have (record { name = _; fields = 0 ∷ 2 ∷ [] }) h.0 vs h.1 h.2)
by_list body other x t (Node (suc (suc c)) vs) h = let none = h.1 in cc

by_truth : (first second : Block) → IsExhaustive lists.types 1 (MoreClauses (truth_pattern 0 (codes "False")) first (MoreClauses (truth_pattern 1 (codes "True")) second NoClauses))
by_truth first second (Int i) h = absurd h
by_truth first second (Node zero vs) h =
    let none = none_matches vs (fields_have (record { name = _; fields = [] }) h.0 vs h.1 h.2) in
    subst (λ us. some_matches (MoreClauses (truth_pattern 0 (codes "False")) first (MoreClauses (truth_pattern 1 (codes "True")) second NoClauses)) (Node zero us) ≡ true) (sym none) refl
by_truth first second (Node (suc zero) vs) h =
    let none = none_matches vs (fields_have (record { name = _; fields = [] }) h.0 vs h.1 h.2) in
    subst (λ us. some_matches (MoreClauses (truth_pattern 0 (codes "False")) first (MoreClauses (truth_pattern 1 (codes "True")) second NoClauses)) (Node (suc zero) us) ≡ true) (sym none) refl
by_truth first second (Node (suc (suc c)) vs) h = let none = h.1 in cc

pub lists_well_typed : IsWellTyped lists
lists_well_typed = record {
  formed = formed;
  typed = (rev_typed, (inc_typed, (number_typed, tt)));
  exhaustive =
      ((by_list rev.body rev.body 2 3, tt, (tt, tt)), ((by_list rev.body rev.body 1 2, tt, ((tt, (tt, tt)), tt)), ((by_truth rev.body rev.body, tt, (tt, tt)), tt)));
}
