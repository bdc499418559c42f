-- A number that isn't among some heads.
use Rattle.std.proofs.Common.{◌≡◌, ◌≢◌, ℕ, zero, suc, ◌<◌, ◌≤◌, List, [], ◌∷◌, length, Bool, true, false, refl, sym, ap, ◌∙◌, arith}
use Rattle.std.specs.Prelude.{if◌then◌else◌, pos}
use Rattle.match_knowledge.specs.declared.heads.Head.{Head}
use Rattle.match_knowledge.specs.declared.heads.Head.TheVariants.{Number}
use Rattle.match_knowledge.specs.ValueHeads.{same_head}
use Rattle.match_knowledge.specs.Known.{is_in}
use Rattle.match_knowledge.proofs.Facts.{same_is}

abbrev without : Head → List Head → List Head
without i [] = []
without i (j ∷ js) = if same_head j i then without i js else j ∷ without i js

len_step : (b : Bool) (j : Head) (xs : List Head) (n : ℕ) → length xs ≤ n → length (if b then xs else j ∷ xs) ≤ suc n
len_step true j xs n h = omega arith
len_step false j xs n h = omega arith

fewer : (i : Head) (js : List Head) → length (without i js) ≤ length js
fewer i [] = omega arith
fewer i (j ∷ js) = len_step (same_head j i) j (without i js) (length js) (fewer i js)

less_step : (b : Bool) (j : Head) (xs : List Head) (x : Bool) (n : ℕ) → length xs ≤ n → (x ≡ true → length xs < n) → (if b then true else x) ≡ true → length (if b then xs else j ∷ xs) < suc n
less_step true j xs x n h f e = omega arith
less_step false j xs x n h f e = let k = f e in omega arith

less : (i : Head) (js : List Head) → is_in i js ≡ true → length (without i js) < length js
less i [] e = cc
less i (j ∷ js) e = less_step (same_head j i) j (without i js) (is_in i js) (length js) (fewer i js) (less i js) e

in_step : (b d : Bool) (i j k : Head) (js xs : List Head) → (b ≡ true → j ≡ i) → (d ≡ true → j ≡ k) → k ≢ i → same_head j k ≡ d → is_in k (if b then xs else j ∷ xs) ≡ false → (is_in k xs ≡ false → is_in k js ≡ false) → (if d then true else is_in k js) ≡ false
in_step true true i j k js xs f g n m e h = absurd (n (sym (g refl) ∙ f refl))
in_step true false i j k js xs f g n m e h = h e
in_step false true i j k js xs f g n m e h = let z = ap (λ b. if b then true else is_in k xs) (sym m) ∙ e in cc
in_step false false i j k js xs f g n m e h = h (ap (λ b. if b then true else is_in k xs) (sym m) ∙ e)

still : (i k : Head) (js : List Head) → k ≢ i → is_in k (without i js) ≡ false → is_in k js ≡ false
still i k [] n e = refl
still i k (j ∷ js) n e = in_step (same_head j i) (same_head j k) i j k js (without i js) (same_is j i) (same_is j k) n refl e (still i k js n)

abbrev pub Fresh : List Head → ℕ → Type 0
Fresh js n = (m : ℕ) × (m ≤ n) × (is_in (Number (pos m)) js ≡ false)

none_in : (js : List Head) → length js ≡ 0 → is_in (Number (pos 0)) js ≡ false
none_in [] e = refl
none_in (j ∷ js) e = absurd (omega arith)

not_number : (m n : ℕ) → m < n → Number (pos m) ≢ Number (pos n)
not_number m n h = λ e. let k : m ≡ n = cc in absurd (omega arith)

fresh_step : (js : List Head) (n : ℕ) → length js ≤ suc n → ((js : List Head) → length js ≤ n → Fresh js n) → (b : Bool) → is_in (Number (pos (suc n))) js ≡ b → Fresh js (suc n)
fresh_step js n h rest true e =
    let r = rest (without (Number (pos (suc n))) js) (let l = less (Number (pos (suc n))) js e in omega arith) in
    (r.0, omega (arith, r.1), still (Number (pos (suc n))) (Number (pos r.0)) js (not_number r.0 (suc n) (omega (arith, r.1))) r.2)
fresh_step js n h rest false e = (suc n, omega arith, e)

-- one of 0 to n is not among n heads
pub fresh : (n : ℕ) (js : List Head) → length js ≤ n → Fresh js n
fresh zero js h = (0, omega arith, none_in js (omega arith))
fresh (suc n) js h = fresh_step js n h (fresh n) (is_in (Number (pos (suc n))) js) refl
