-- Patterns bind just their binders.
use Rattle.std.proofs.Common.{◌≡◌, ◌⊎◌, inl, inr, refl, sym, ap, ◌∙◌, ⊎_elim, ℕ, List, [], ◌∷◌, ◌++◌, Option, Some, None, Bool, true, false}
use Rattle.std.specs.Prelude.{◌==◌, if◌then◌else◌, nat_eq}
use Rattle.std.proofs.lemmas.Bool.{eqb-true, eqb-false}
use Rattle.tree_refinement.specs.fip_language.Values.{Value, Int, Node, Values, End, More}
use Rattle.tree_refinement.specs.fip_language.Every.{Among}
use Rattle.tree_refinement.specs.fip_language.Matching.{Binding, same_int, both}
use Rattle.tree_refinement.specs.fip_language.Meaning.{Environment, bind, bind_matched}
use Rattle.lowering_relation.specs.fip_trees.Tree.{Pattern, BinderPattern, LiteralPattern, ConstructorPattern, Patterns, NoPatterns, MorePatterns}
use Rattle.lowering_relation.specs.instance_semantics.Matching.{matching, matching_all}
use Rattle.lowering_relation.specs.Choosing.{binders_of}
use Rattle.lowering_simulation.specs.Distinct.{in_pattern, in_patterns}
use Rattle.lowering_relation.proofs.LoweredLists.{same_some}
use Rattle.lowering_simulation.proofs.Naming.{bind_elim}

binders_append : (as' bs : List Binding) → binders_of (as' ++ bs) ≡ binders_of as' ++ binders_of bs
binders_append [] bs = refl
binders_append (a ∷ as') bs = ap (λ xs. a.binder ∷ xs) (binders_append as' bs)

both_inv : (o p : Option (List Binding)) (bs : List Binding) → both o p ≡ Some bs → (as' : List Binding) × (cs : List Binding) × (o ≡ Some as') × (p ≡ Some cs) × (as' ++ cs ≡ bs)
both_inv None p bs e = absurd cc
both_inv (Some as') None bs e = absurd cc
both_inv (Some as') (Some cs) bs e = (as', cs, refl, refl, same_some (as' ++ cs) bs e)

literal_numbers : (b : Bool) (bs : List Binding) → (if b then Some [] else None) ≡ Some bs → binders_of bs ≡ []
literal_numbers true bs e = ap binders_of (sym (same_some [] bs e))
literal_numbers false bs e = absurd cc

if_some : (b : Bool) (o : Option (List Binding)) (bs : List Binding) → (if b then o else None) ≡ Some bs → o ≡ Some bs
if_some true o bs e = e
if_some false o bs e = absurd cc

mutual
  pub matched_numbers : (q : Pattern) (v : Value) (bs : List Binding) → matching q v ≡ Some bs → binders_of bs ≡ in_pattern q
  matched_numbers (BinderPattern b) v bs e = ap binders_of (sym (same_some _ bs e))
  matched_numbers (LiteralPattern i p) (Int j) bs e = literal_numbers (same_int i j) bs e
  matched_numbers (LiteralPattern i p) (Node c vs) bs e = absurd cc
  matched_numbers (ConstructorPattern t d k n p ps) (Int j) bs e = absurd cc
  matched_numbers (ConstructorPattern t d k n p ps) (Node c vs) bs e = all_matched_numbers ps vs bs (if_some (k == c) (matching_all ps vs) bs e)

  all_matched_numbers : (ps : Patterns) (vs : Values) (bs : List Binding) → matching_all ps vs ≡ Some bs → binders_of bs ≡ in_patterns ps
  all_matched_numbers NoPatterns End bs e = ap binders_of (sym (same_some _ bs e))
  all_matched_numbers NoPatterns (More v vs) bs e = absurd cc
  all_matched_numbers (MorePatterns p ps) End bs e = absurd cc
  all_matched_numbers (MorePatterns p ps) (More v vs) bs e =
      let inv = both_inv (matching p v) (matching_all ps vs) bs e in
      ap binders_of (sym inv.4) ∙ binders_append inv.0 inv.1
      ∙ ap (λ xs. xs ++ binders_of inv.1) (matched_numbers p v inv.0 inv.2)
      ∙ ap (λ ys. in_pattern p ++ ys) (all_matched_numbers ps vs inv.1 inv.3)

-- whether a number is among others
pub among_or_not : (x : ℕ) (xs : List ℕ) → Among x xs ⊎ (Among x xs → ⊥)
among_or_not x [] = inr (λ m. m)
among_or_not x (y ∷ ys) = by_test (nat_eq x y) refl (among_or_not x ys)
  where
    by_test : (b : Bool) → nat_eq x y ≡ b → Among x ys ⊎ (Among x ys → ⊥) → Among x (y ∷ ys) ⊎ (Among x (y ∷ ys) → ⊥)
    by_test true e h = inl (inl (eqb-true x y e))
    by_test false e (inl m) = inl (inr m)
    by_test false e (inr n) = inr (λ m. ⊎_elim (λ same. eqb-false x y e same) n m)

pub unmatched_same : (env : Environment) (bs : List Binding) (x : ℕ) → (Among x (binders_of bs) → ⊥) → bind_matched env bs x ≡ env x
unmatched_same env [] x n = refl
unmatched_same env (b ∷ bs) x n =
    unmatched_same (bind env b.binder b.value) bs x (λ m. n (inr m))
    ∙ bind_elim (λ o. o ≡ env x) env b.binder b.value x (λ e. absurd (n (inl (sym e)))) (λ ne. refl)

-- what is bound is bound so in each environment
pub matched_same : (env other : Environment) (bs : List Binding) (x : ℕ) → Among x (binders_of bs) → bind_matched env bs x ≡ bind_matched other bs x
matched_same env other [] x m = absurd m
matched_same env other (b ∷ bs) x m =
    ⊎_elim
    (λ among. matched_same (bind env b.binder b.value) (bind other b.binder b.value) bs x among)
    (λ n. unmatched_same (bind env b.binder b.value) bs x n
    ∙ bind_elim (λ o. o ≡ bind other b.binder b.value x) env b.binder b.value x
    (λ e. bind_elim (λ o. Some b.value ≡ o) other b.binder b.value x (λ f. refl) (λ ne. absurd (ne e)))
    (λ ne. absurd (⊎_elim (λ e. ne (sym e)) n m))
    ∙ sym (unmatched_same (bind other b.binder b.value) bs x n))
    (among_or_not x (binders_of bs))
