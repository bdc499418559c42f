-- Places of static arguments, gathered one after another.
use Rattle.std.proofs.Common.{◌≡◌, ℕ, ◌+◌, ◌<◌, ◌≤◌, true, List, [], ◌∷◌, ◌++◌, length, drop, get_or, Option, Some, None, option_map, Vec, Global, refl, ap, sym, subst, ◌∙◌, arith, drop_of_length-le}
use Rattle.fip_base.specs.fip_language.Core.{Static, TypeParameter, FunctionParameter}
use Rattle.fip_base.proofs.fip_language.Plain.{every_append}
use Rattle.closed_types.specs.Closed.{Closed, Int, NoClosed}
use Rattle.closed_types.specs.SharedTrees.{Branch, AreWithin, NoneOrWithin, all_at, tree_at}
use Rattle.closed_types.specs.Uses.{all_given, both, types_given}
use Rattle.closed_types.specs.UsesView.{AreAllWithin, all_trees, trees_of, type_or_int}
use Rattle.reached_instances.proofs.Closing.{joined, joined_some, joined_none, onto_row, at_append}
use Rattle.closed_types.proofs.Lists.{drop_item}

-- ---- all of them

pub record IsGathered (as' : List (Option ℕ)) (is : List ℕ) (k : ℕ) : Type 0 where
  pub within : (bs : List Branch) → AreAllWithin bs as' → AreWithin bs is × AreAllWithin bs (drop k as')
  pub row : (ts : List Closed) → joined true (all_at ts is) (all_given (all_trees ts (drop k as'))) ≡ all_given (all_trees ts as')

pub gathered_starts : (as' : List (Option ℕ)) → IsGathered as' [] 0
gathered_starts as' = record { within = λ bs w. (tt, w); row = λ ts. joined_none (all_given (all_trees ts as')) }

gathered_row : (as' : List (Option ℕ)) (is : List ℕ) (k : ℕ) (o : Option ℕ) (ts : List Closed) → k < length as' → o ≡ get_or as' k o → IsGathered as' is k → joined true (all_at ts is) (both (option_map (tree_at ts) o) (all_given (all_trees ts (drop (k + 1) as')))) ≡ all_given (all_trees ts as')
gathered_row as' is k o ts l e g = ap (λ (ys : List (Option ℕ)). joined true (all_at ts is) (all_given (all_trees ts ys))) (sym (drop_item as' k o l e)) ∙ g.row ts

pub gathered_goes : (as' : List (Option ℕ)) (is js : List ℕ) (k i : ℕ) (o : Option ℕ) → k < length as' → o ≡ get_or as' k o → o ≡ Some i → js ≡ is ++ i ∷ [] → IsGathered as' is k → IsGathered as' js (k + 1)
gathered_goes as' is js k i o l e s f g = record {
  within = λ bs w.
      let old = g.within bs w in
      let here : AreAllWithin bs (Some i ∷ drop (k + 1) as') = subst (AreAllWithin bs) (drop_item as' k o l e ∙ ap (λ (y : Option ℕ). y ∷ drop (k + 1) as') s) old.1 in
      (subst (AreWithin bs) (sym f) (every_append (λ j. j < length bs + 1) is (i ∷ []) old.0 (here.0, tt)), here.1);
  row = λ ts.
      ap (λ ys. joined true (all_at ts ys) (all_given (all_trees ts (drop (k + 1) as')))) f
      ∙ ap (λ (l : List Closed). joined true l (all_given (all_trees ts (drop (k + 1) as')))) (at_append ts is (i ∷ []))
      ∙ joined_some true (all_at ts is) (tree_at ts i) (all_given (all_trees ts (drop (k + 1) as')))
      ∙ ap (λ (y : Option ℕ). joined true (all_at ts is) (both (option_map (tree_at ts) y) (all_given (all_trees ts (drop (k + 1) as'))))) (sym s)
      ∙ gathered_row as' is k o ts l e g;
}

pub gathered_ends : (as' : List (Option ℕ)) (v : Vec ℕ Global) (k : ℕ) (ts : List Closed) → length as' ≤ k → IsGathered as' v.items k → trees_of ts (Some v) ≡ all_given (all_trees ts as')
gathered_ends as' v k ts l g =
    ap (λ x. Some x) (sym (onto_row ts v.items))
    ∙ ap (λ (ys : List (Option ℕ)). joined true (all_at ts v.items) (all_given (all_trees ts ys))) (sym (drop_of_length-le as' l))
    ∙ g.row ts

pub gathered_fails : (as' : List (Option ℕ)) (is : List ℕ) (k : ℕ) (o : Option ℕ) (ts : List Closed) → k < length as' → o ≡ get_or as' k o → o ≡ None → IsGathered as' is k → None ≡ all_given (all_trees ts as')
gathered_fails as' is k o ts l e n g = ap (λ (y : Option ℕ). joined true (all_at ts is) (both (option_map (tree_at ts) y) (all_given (all_trees ts (drop (k + 1) as'))))) (sym n) ∙ gathered_row as' is k o ts l e g

-- ---- those for type parameters

no_types_left : (xs : List Static) → types_given xs [] ≡ Some NoClosed
no_types_left [] = refl
no_types_left (x ∷ xs) = refl

type_step : (ts : List Closed) (x : Static) (xs : List Static) (a : Option ℕ) (as' : List (Option ℕ)) → get_or ts 0 Int ≡ Int → types_given (x ∷ xs) (all_trees ts (a ∷ as')) ≡ both (option_map (tree_at ts) (type_or_int x a)) (types_given xs (all_trees ts as'))
type_step ts (TypeParameter n p) xs a as' z = refl
type_step ts (FunctionParameter n p ps r) xs a as' z = ap (λ c. both (Some c) (types_given xs (all_trees ts as'))) (sym z)

pub record AreTyped (xs : List Static) (as' : List (Option ℕ)) (is : List ℕ) (k : ℕ) : Type 0 where
  pub within : (bs : List Branch) → AreAllWithin bs as' → AreWithin bs is × AreAllWithin bs (drop k as')
  pub row : (ts : List Closed) → get_or ts 0 Int ≡ Int → joined true (all_at ts is) (types_given (drop k xs) (all_trees ts (drop k as'))) ≡ types_given xs (all_trees ts as')

pub typed_starts : (xs : List Static) (as' : List (Option ℕ)) → AreTyped xs as' [] 0
typed_starts xs as' = record { within = λ bs w. (tt, w); row = λ ts z. joined_none (types_given xs (all_trees ts as')) }

typed_row : (xs : List Static) (as' : List (Option ℕ)) (is : List ℕ) (k : ℕ) (x : Static) (a : Option ℕ) (ts : List Closed) → get_or ts 0 Int ≡ Int → drop k xs ≡ x ∷ drop (k + 1) xs → drop k as' ≡ a ∷ drop (k + 1) as' → AreTyped xs as' is k → joined true (all_at ts is) (both (option_map (tree_at ts) (type_or_int x a)) (types_given (drop (k + 1) xs) (all_trees ts (drop (k + 1) as')))) ≡ types_given xs (all_trees ts as')
typed_row xs as' is k x a ts z d e g =
    ap (joined true (all_at ts is)) (sym (type_step ts x (drop (k + 1) xs) a (drop (k + 1) as') z))
    ∙ ap (λ (ys : List Static). joined true (all_at ts is) (types_given ys (all_trees ts (a ∷ drop (k + 1) as')))) (sym d)
    ∙ ap (λ (ys : List (Option ℕ)). joined true (all_at ts is) (types_given (drop k xs) (all_trees ts ys))) (sym e)
    ∙ g.row ts z

within_type : (bs : List Branch) (x : Static) (a : Option ℕ) (i : ℕ) → NoneOrWithin bs a → type_or_int x a ≡ Some i → i < length bs + 1
within_type bs (TypeParameter n p) a i w e = let f : NoneOrWithin bs (Some i) = subst (NoneOrWithin bs) e w in f
within_type bs (FunctionParameter n p ps r) a i w e = let f : 0 ≡ i = cc in omega (arith, f)

pub typed_goes : (xs : List Static) (as' : List (Option ℕ)) (is js : List ℕ) (k i : ℕ) (x : Static) (a : Option ℕ) → drop k xs ≡ x ∷ drop (k + 1) xs → drop k as' ≡ a ∷ drop (k + 1) as' → type_or_int x a ≡ Some i → js ≡ is ++ i ∷ [] → AreTyped xs as' is k → AreTyped xs as' js (k + 1)
typed_goes xs as' is js k i x a d e s f g = record {
  within = λ bs w.
      let old = g.within bs w in
      let here : AreAllWithin bs (a ∷ drop (k + 1) as') = subst (AreAllWithin bs) e old.1 in
      (subst (AreWithin bs) (sym f) (every_append (λ j. j < length bs + 1) is (i ∷ []) old.0 (within_type bs x a i here.0 s, tt)), here.1);
  row = λ ts z.
      let rest = types_given (drop (k + 1) xs) (all_trees ts (drop (k + 1) as')) in
      ap (λ ys. joined true (all_at ts ys) rest) f
      ∙ ap (λ (l : List Closed). joined true l rest) (at_append ts is (i ∷ []))
      ∙ joined_some true (all_at ts is) (tree_at ts i) rest
      ∙ ap (λ (y : Option ℕ). joined true (all_at ts is) (both (option_map (tree_at ts) y) rest)) (sym s)
      ∙ typed_row xs as' is k x a ts z d e g;
}

pub typed_fails : (xs : List Static) (as' : List (Option ℕ)) (is : List ℕ) (k : ℕ) (x : Static) (a : Option ℕ) (ts : List Closed) → get_or ts 0 Int ≡ Int → drop k xs ≡ x ∷ drop (k + 1) xs → drop k as' ≡ a ∷ drop (k + 1) as' → type_or_int x a ≡ None → AreTyped xs as' is k → None ≡ types_given xs (all_trees ts as')
typed_fails xs as' is k x a ts z d e n g = ap (λ (y : Option ℕ). joined true (all_at ts is) (both (option_map (tree_at ts) y) (types_given (drop (k + 1) xs) (all_trees ts (drop (k + 1) as'))))) (sym n) ∙ typed_row xs as' is k x a ts z d e g

pub typed_ends : (xs : List Static) (as' : List (Option ℕ)) (v : Vec ℕ Global) (k : ℕ) (ts : List Closed) → get_or ts 0 Int ≡ Int → length xs ≤ k → AreTyped xs as' v.items k → trees_of ts (Some v) ≡ types_given xs (all_trees ts as')
typed_ends xs as' v k ts z l g =
    ap (λ x. Some x) (sym (onto_row ts v.items))
    ∙ ap (λ (ys : List Static). joined true (all_at ts v.items) (types_given ys (all_trees ts (drop k as')))) (sym (drop_of_length-le xs l))
    ∙ g.row ts z

pub typed_stops : (xs : List Static) (as' : List (Option ℕ)) (v : Vec ℕ Global) (k : ℕ) (ts : List Closed) → get_or ts 0 Int ≡ Int → length as' ≤ k → AreTyped xs as' v.items k → trees_of ts (Some v) ≡ types_given xs (all_trees ts as')
typed_stops xs as' v k ts z l g =
    ap (λ x. Some x) (sym (onto_row ts v.items))
    ∙ ap (joined true (all_at ts v.items)) (sym (ap (λ (ys : List (Option ℕ)). types_given (drop k xs) (all_trees ts ys)) (drop_of_length-le as' l) ∙ no_types_left (drop k xs)))
    ∙ g.row ts z
