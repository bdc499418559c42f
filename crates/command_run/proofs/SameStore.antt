-- What a loader makes of values in order is the store in which a run begins: both definitions lay out the same cells.
-- Idea: by the values, since each of both puts the cells of a field where those before it end.
use Rattle.std.proofs.Common.{◌≡◌, ◌∙◌, ℕ, suc, ◌+◌, false, List, [], ◌∷◌, ◌++◌, length, Option, refl, sym, ap, ap₂, arith}
use Rattle.std.specs.Prelude.{replicate}
use Rattle.fip_language.specs.Values.{Value, Int, Node, Values, End, More}
use Rattle.fip_language.specs.Store.{Cell}
use Rattle.command_eval.specs.machine_correctness.machine_semantics.Cells.{Store}
use Rattle.command_eval.specs.machine_correctness.machine_semantics.Words.{place_word}
use Rattle.command_eval.specs.machine_correctness.run_loading.Loading as R
use Rattle.command_eval.specs.machine_correctness.run_loading.Loading.{places_of, first_store, first_words}
use Rattle.value_text.specs.FirstStore as V
use Rattle.value_text.specs.FirstStore.{loaded_places, loaded_words}

mutual
  same_places : (n : ℕ) (v : Value) → V.value_places n v ≡ R.value_places n v
  same_places n (Int i) = refl
  same_places n (Node c End) = refl
  same_places n (Node c (More v vs)) =
      let first = same_places n v in
      let start = ap (λ (os : List (Option Cell)). n + length os) first in
      let rest = same_all (n + length (V.value_places n v)) vs ∙ ap (λ m. R.all_places m vs) start in
      let words = same_words (n + length (V.value_places n v)) vs ∙ ap (λ m. R.all_words m vs) start in
      ap₂ (λ (front : List (Option Cell)) (fields : List ℕ). front ++ places_of (record { tag = c; fields = fields }))
      (ap₂ (λ (xs ys : List (Option Cell)). xs ++ ys) first rest) (ap₂ (λ w ws. w ∷ ws) (same_word n v) words)

  same_all : (n : ℕ) (vs : Values) → V.all_places n vs ≡ R.all_places n vs
  same_all n End = refl
  same_all n (More v vs) =
      let first = same_places n v in
      let start = ap (λ (os : List (Option Cell)). n + length os) first in
      ap₂ (λ (xs ys : List (Option Cell)). xs ++ ys) first (same_all (n + length (V.value_places n v)) vs ∙ ap (λ m. R.all_places m vs) start)

  same_word : (n : ℕ) (v : Value) → V.value_word n v ≡ R.value_word n v
  same_word n (Int i) = refl
  same_word n (Node c End) = refl
  same_word n (Node c (More v vs)) =
      let first = same_places n v in
      let start = ap (λ (os : List (Option Cell)). n + length os) first in
      let rest = same_all (n + length (V.value_places n v)) vs ∙ ap (λ m. R.all_places m vs) start in
      ap (λ (os : List (Option Cell)). place_word (n + length os)) (ap₂ (λ (xs ys : List (Option Cell)). xs ++ ys) first rest)

  same_words : (n : ℕ) (vs : Values) → V.all_words n vs ≡ R.all_words n vs
  same_words n End = refl
  same_words n (More v vs) =
      let start = ap (λ (os : List (Option Cell)). n + length os) (same_places n v) in
      ap₂ (λ w ws. w ∷ ws) (same_word n v) (same_words (n + length (V.value_places n v)) vs ∙ ap (λ m. R.all_words m vs) start)

same_credits : (ks : List ℕ) → V.credit_places ks ≡ R.credit_places ks
same_credits [] = refl
same_credits (k ∷ ks) = ap (λ os. places_of (record { tag = 0; fields = replicate k 0 }) ++ os) (same_credits ks)

same_credit_words : (n : ℕ) (ks : List ℕ) → V.credit_words n ks ≡ R.credit_words n ks
same_credit_words n [] = refl
same_credit_words n (k ∷ ks) = ap (λ ws. place_word n ∷ ws) (same_credit_words (n + suc k) ks)

-- ---- the whole store

pub store_same : (vs : Values) (credits : List ℕ) (s : Store) → s.cells ≡ loaded_places 0 vs credits → s.released ≡ replicate (length (loaded_places 0 vs credits)) false → s ≡ first_store vs credits
store_same vs credits s cells released =
    let all : loaded_places 0 vs credits ≡ (first_store vs credits).cells = ap₂ (λ xs ys. xs ++ ys) (same_all 0 vs) (same_credits credits) in
    let flags = released ∙ ap (λ (os : List (Option Cell)). replicate (length os) false) all in
    (λ i. record { cells = (cells ∙ all) i; released = flags i })

pub words_same : (vs : Values) (credits : List ℕ) → loaded_words 0 vs credits ≡ first_words vs credits
words_same vs credits =
    let start : 0 + length (V.all_places 0 vs) ≡ length (R.all_places 0 vs) = (let l = ap (λ (os : List (Option Cell)). length os) (same_all 0 vs) in omega (arith, l)) in
    ap₂ (λ xs ys. xs ++ ys) (same_words 0 vs) (ap (λ m. V.credit_words m credits) start ∙ same_credit_words (length (R.all_places 0 vs)) credits)
