-- Rows of places, one for each binder.
use Rattle.std.proofs.Common.{◌≡◌, ℕ, zero, suc, ◌<◌, ◌≤◌, ◌+◌, refl, sym, ap, ◌∙◌, List, [], ◌∷◌, ◌++◌, length, get_or, map, slice_set, Bool, true, false, Vec, Global, arith}
use Rattle.std.proofs.lemmas.List.{map-append}
use Rattle.derivation_walk.specs.Tables.{zeros, empty_rows, row, rows, add_at}

pub zeros_more : (n : ℕ) → zeros n ++ 0 ∷ [] ≡ zeros (suc n)
zeros_more zero = refl
zeros_more (suc n) = ap (λ (xs : List ℕ). 0 ∷ xs) (zeros_more n)

empty_more : (n : ℕ) → empty_rows n ++ [] ∷ [] ≡ empty_rows (suc n)
empty_more zero = refl
empty_more (suc n) = ap (λ (xs : List (List ℕ)). [] ∷ xs) (empty_more n)

pub rows_more : (vs ws : List (Vec ℕ Global)) (v : Vec ℕ Global) (n m : ℕ) → ws ≡ vs ++ v ∷ [] → v.items ≡ [] → m ≡ n + 1 → rows vs ≡ empty_rows n → rows ws ≡ empty_rows m
rows_more vs ws v n m e f k h =
    let s : suc n ≡ m = omega arith in
    ap rows e ∙ map-append row vs (v ∷ []) ∙ ap (λ r. rows vs ++ r ∷ []) f ∙ ap (λ rs. rs ++ [] ∷ []) h ∙ empty_more n ∙ ap empty_rows s

pub add_past : (vs : List (Vec ℕ Global)) (x i : ℕ) → length vs ≤ x → rows vs ≡ add_at x i (rows vs)
add_past [] x i l = refl
add_past (v ∷ vs) zero i l = absurd (omega arith)
add_past (v ∷ vs) (suc x) i l = ap (λ (rs : List (List ℕ)). v.items ∷ rs) (add_past vs x i (omega arith))

pub add_set : (vs : List (Vec ℕ Global)) (x i : ℕ) (v w : Vec ℕ Global) → x < length vs → v ≡ get_or vs x v → w.items ≡ v.items ++ i ∷ [] → rows (slice_set vs x w) ≡ add_at x i (rows vs)
add_set [] x i v w l e h = absurd (omega arith)
add_set (u ∷ vs) zero i v w l e h = ap (λ (r : List ℕ). r ∷ rows vs) (h ∙ ap (λ (z : Vec ℕ Global). z.items ++ i ∷ []) e)
add_set (u ∷ vs) (suc x) i v w l e h = ap (λ (rs : List (List ℕ)). u.items ∷ rs) (add_set vs x i v w (omega arith) e h)

pub row_past : (vs : List (Vec ℕ Global)) (x : ℕ) → length vs ≤ x → get_or (rows vs) x [] ≡ []
row_past [] x l = refl
row_past (v ∷ vs) zero l = absurd (omega arith)
row_past (v ∷ vs) (suc x) l = row_past vs x (omega arith)

pub row_there : (vs : List (Vec ℕ Global)) (x : ℕ) (v : Vec ℕ Global) → x < length vs → v ≡ get_or vs x v → v.items ≡ get_or (rows vs) x []
row_there [] x v l e = absurd (omega arith)
row_there (u ∷ vs) zero v l e = ap (λ (z : Vec ℕ Global). z.items) e
row_there (u ∷ vs) (suc x) v l e = row_there vs x v (omega arith) e
