-- How many places the cells of values and of credits take: by induction on the values.
use Rattle.std.proofs.Common.{◌≡◌, ℕ, suc, ◌+◌, List, [], ◌∷◌, ◌++◌, refl, ap, ◌∙◌, arith, length-append}
use Rattle.std.proofs.lemmas.List.{length-replicate}
use Rattle.std.specs.Prelude.{length}
use Rattle.tree_refinement.specs.fip_language.Store.{Cell}
use Rattle.tree_refinement.specs.fip_language.Values.{Value, Int, Node, Values, End, More, count_of, words_needed, words_needed_by_all}
use Rattle.tree_refinement.specs.machine_semantics.Cells.{size_of, credit_cell}
use Rattle.run_loading.specs.Loading.{places_of, value_places, all_places, value_word, all_words, credit_places}
use Rattle.run_loading.specs.Loading.{first_store, words_of_credits}

words_length : (n : ℕ) (vs : Values) → length (all_words n vs) ≡ count_of vs
words_length n End = refl
words_length n (More v vs) = ap suc (words_length (n + length (value_places n v)) vs)

cell_length : (c : Cell) → length (places_of c) ≡ suc (size_of c)
cell_length c = ap suc (length-replicate _ _)

sum : (p q a b c k : ℕ) → p ≡ q + a → q ≡ b + c → a ≡ suc k → p ≡ suc k + (b + c)
sum p q a b c k h i j = omega arith

mutual
  pub value_length : (n : ℕ) (v : Value) → length (value_places n v) ≡ words_needed v
  value_length n (Int i) = refl
  value_length n (Node c End) = refl
  value_length n (Node c (More v vs)) =
      let m : ℕ = n + length (value_places n v) in
      let cell : Cell = record { tag = c; fields = value_word n v ∷ all_words m vs } in
      sum _ _ _ _ _ _ (length-append (value_places n v ++ all_places m vs) (places_of cell)) (all_length n (More v vs))
      (cell_length cell ∙ ap (λ k. suc (suc k)) (words_length m vs))

  pub all_length : (n : ℕ) (vs : Values) → length (all_places n vs) ≡ words_needed_by_all vs
  all_length n End = refl
  all_length n (More v vs) =
      length-append (value_places n v) (all_places (n + length (value_places n v)) vs)
      ∙ (ap (λ k. k + length (all_places (n + length (value_places n v)) vs)) (value_length n v)
      ∙ ap (λ k. words_needed v + k) (all_length (n + length (value_places n v)) vs))

credits_length : (ks : List ℕ) → length (credit_places ks) ≡ words_of_credits ks
credits_length [] = refl
credits_length (k ∷ ks) =
    length-append (places_of (credit_cell k)) (credit_places ks)
    ∙ (ap (λ n. n + length (credit_places ks)) (cell_length (credit_cell k) ∙ ap suc (length-replicate _ _))
    ∙ ap (λ n. suc k + n) (credits_length ks))

pub store_length : (vs : Values) (credits : List ℕ) →
    length (first_store vs credits).cells ≡ words_needed_by_all vs + words_of_credits credits
store_length vs credits =
    length-append (all_places 0 vs) (credit_places credits)
    ∙ (ap (λ k. k + length (credit_places credits)) (all_length 0 vs)
    ∙ ap (λ k. words_needed_by_all vs + k) (credits_length credits))
