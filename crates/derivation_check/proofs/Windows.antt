-- Which variables of a list were seen in parts of a derivation.
use Rattle.std.proofs.Common.{◌≡◌, ℕ, zero, suc, ◌<◌, ◌≤◌, ◌+◌, ◌-◌, refl, sym, ap, ◌∙◌, subst, List, [], ◌∷◌, length, get_or, take, replicate, Bool, true, false, arith, nat_eq, nat_lt, ◌⊎◌, inl, inr, Result, Ok, Err, Option, Some, None}
use Rattle.std.proofs.lemmas.Bool.Decides.{nat_tests}
use Rattle.ownership_calculus.specs.Terms.{one, given, Item, Own}
use Rattle.derivation_trees.specs.Trees.{Trees}
use Rattle.derivation_check.specs.Owned.{Rising, roots}
use Rattle.derivation_check.specs.Places.{IsRising, flag, Marked}
use Rattle.derivation_check.proofs.Numbers.{given_before, given_here, given_other, take_next}
use Rattle.fip_base.proofs.fip_language.Facts.{take_past as take_all}

-- ---- places in lists that rise

least_at : (n d i : ℕ) (xs : List ℕ) → Rising n d xs → i < length xs → n ≤ get_or xs i 0
least_at n d i [] h l = absurd (omega arith)
least_at n d zero (x ∷ xs) h l = h.0
least_at n d (suc i) (x ∷ xs) h l = let g = least_at (x + 1) d i xs h.2 (omega arith) in let a = h.0 in omega arith

rising_strict : (n d i j : ℕ) (xs : List ℕ) → Rising n d xs → i < j → j < length xs → get_or xs i 0 < get_or xs j 0
rising_strict n d i j [] h l k = absurd (omega arith)
rising_strict n d i zero (x ∷ xs) h l k = absurd (omega arith)
rising_strict n d zero (suc j) (x ∷ xs) h l k = let g = least_at (x + 1) d j xs h.2 (omega arith) in omega arith
rising_strict n d (suc i) (suc j) (x ∷ xs) h l k = rising_strict (x + 1) d i j xs h.2 (omega arith) (omega arith)

pub rising_order : (xs : List ℕ) → IsRising xs → (i j : ℕ) → i ≤ j → j < length xs → get_or xs i 0 ≤ get_or xs j 0
rising_order xs h i j l k = by (nat_lt i j) refl
  where
    by : (b : Bool) → nat_lt i j ≡ b → get_or xs i 0 ≤ get_or xs j 0
    by true e = let m : i < j = grind (arith, nat_tests) in let g = rising_strict h.0 h.1 i j xs h.2 m k in omega arith
    by false e = let m : j ≤ i = grind (arith, nat_tests) in let s : i ≡ j = omega arith in let g = ap (λ a. get_or xs a 0) s in omega arith

place_same : (xs : List ℕ) → IsRising xs → (i j : ℕ) → i < length xs → j < length xs → get_or xs i 0 ≡ get_or xs j 0 → i ≡ j
place_same xs h i j l k e = by (nat_lt i j) (nat_lt j i) refl refl
  where
    by : (a b : Bool) → nat_lt i j ≡ a → nat_lt j i ≡ b → i ≡ j
    by true b f g = let m : i < j = grind (arith, nat_tests) in let s = rising_strict h.0 h.1 i j xs h.2 m k in absurd (omega arith)
    by false true f g = let m : j < i = grind (arith, nat_tests) in let s = rising_strict h.0 h.1 j i xs h.2 m l in absurd (omega arith)
    by false false f g = let m : j ≤ i = grind (arith, nat_tests) in let s : i ≤ j = grind (arith, nat_tests) in omega arith

given_apart : (xs : List ℕ) (x : ℕ) → ((k : ℕ) → k < length xs → get_or xs k 0 ≡ x → ⊥) → given x xs ≡ 0
given_apart [] x h = refl
given_apart (y ∷ ys) x h = given_other x y ys (λ e. h 0 (omega arith) (sym e)) ∙ given_apart ys x (λ k l e. h (suc k) (omega arith) e)

pub given_place : (xs : List ℕ) (k : ℕ) → k < length xs → 1 ≤ given (get_or xs k 0) xs
given_place [] k l = absurd (omega arith)
given_place (x ∷ xs) zero l = given_here x xs
given_place (x ∷ xs) (suc k) l = let g = given_place xs k (omega arith) in omega arith

given_most : (n d x : ℕ) (xs : List ℕ) → Rising n d xs → given x xs ≤ 1
given_most n d x [] h = omega arith
given_most n d x (y ∷ ys) h = by (given_most (y + 1) d x ys h.2) (nat_eq x y) refl
  where
    by : given x ys ≤ 1 → (b : Bool) → nat_eq x y ≡ b → given x (y ∷ ys) ≤ 1
    by g true e =
        let s : x ≡ y = grind (arith, nat_tests) in
        let z = given_before (y + 1) d x ys h.2 (omega arith) in
        let w : one y x ≤ 1 = grind (arith, nat_tests) in omega arith
    by g false e =
        let s : x ≡ y → ⊥ = λ q. grind (arith, nat_tests) in
        let o = given_other x y ys s in omega arith

pub rising_most : (xs : List ℕ) → IsRising xs → (x : ℕ) → given x xs ≤ 1
rising_most xs h x = given_most h.0 h.1 x xs h.2

pub not_found : (xs : List ℕ) (x i : ℕ) → ((k : ℕ) → k < i → get_or xs k 0 < x) → ((k : ℕ) → i ≤ k → k < length xs → x < get_or xs k 0) → given x xs ≡ 0
not_found xs x i f g = given_apart xs x (λ k l e. by k l e (nat_lt k i) refl)
  where
    by : (k : ℕ) → k < length xs → get_or xs k 0 ≡ x → (b : Bool) → nat_lt k i ≡ b → ⊥
    by k l e true t = let m : k < i = grind (arith, nat_tests) in let u = f k m in omega arith
    by k l e false t = let m : i ≤ k = grind (arith, nat_tests) in let u = g k m l in omega arith

-- ---- what was seen

pub marked_same : (seen : List Bool) (start : ℕ) (whole : List ℕ) (c f : ℕ → ℕ) → ((x : ℕ) → c x ≡ f x) → Marked seen start whole c → Marked seen start whole f
marked_same seen start whole c f e m k l h g = m k l h g ∙ e (get_or whole k 0)

one_same : (x : ℕ) → one x x ≡ 1
one_same x = grind arith

one_other : (x y : ℕ) → (x ≡ y → ⊥) → one x y ≡ 0
one_other x y n = grind arith

pub marked_see : (old new : List Bool) (start place v : ℕ) (whole : List ℕ) (c : ℕ → ℕ) → IsRising whole → place < length whole → get_or whole place 0 ≡ v → ((k : ℕ) → (start + k ≡ place → ⊥) → k < 256 → get_or new k false ≡ get_or old k false) → (start ≤ place → place < start + 256 → (get_or old (place - start) false ≡ false) × (get_or new (place - start) false ≡ true)) → Marked old start whole c → Marked new start whole (λ x. c x + one v x)
marked_see old new start place v whole c r l e f h m k a b g = by (nat_eq k place) refl
  where
    by : (t : Bool) → nat_eq k place ≡ t → flag (get_or new (k - start) false) ≡ c (get_or whole k 0) + one v (get_or whole k 0)
    by true t =
        let s : k ≡ place = grind (arith, nat_tests) in
        let u = h (omega arith) (omega arith) in
        let w = m k a b g in
        let p : get_or old (k - start) false ≡ false = ap (λ i. get_or old (i - start) false) s ∙ u.0 in
        let q : get_or new (k - start) false ≡ true = ap (λ i. get_or new (i - start) false) s ∙ u.1 in
        let z : get_or whole k 0 ≡ v = ap (λ i. get_or whole i 0) s ∙ e in
        let o : one v (get_or whole k 0) ≡ 1 = ap (one v) z ∙ one_same v in
        let y : 0 ≡ c (get_or whole k 0) = sym (ap flag p) ∙ w in
        let x : flag (get_or new (k - start) false) ≡ 1 = ap flag q in omega arith
    by false t =
        let s : k ≡ place → ⊥ = λ q. grind (arith, nat_tests) in
        let w = m k a b g in
        let p = f (k - start) (λ q. s (omega arith)) (omega arith) in
        let o : one v (get_or whole k 0) ≡ 0 = one_other v (get_or whole k 0) (λ q. s (place_same whole r k place g l (sym (e ∙ q)))) in
        let x = ap flag p in omega arith

pub seen_none : (v x : ℕ) (whole : List ℕ) → given x whole ≡ 0 → 0 < given v whole → one v x ≡ 0
seen_none v x whole z l = one_other v x (λ e. let g = ap (λ y. given y whole) e in omega arith)

pub none_seen : (n k : ℕ) → get_or (replicate n false) k false ≡ false
none_seen zero k = refl
none_seen (suc n) zero = refl
none_seen (suc n) (suc k) = none_seen n k

flag_false : (b : Bool) → flag b ≡ 0 → b ≡ false
flag_false true e = absurd (omega arith)
flag_false false e = refl

flag_one : (b : Bool) → b ≡ true → flag b ≡ 1
flag_one b e = ap flag e

pub marked_new : (old : List Bool) (start place v : ℕ) (whole : List ℕ) (c : ℕ → ℕ) → IsRising whole → place < length whole → get_or whole place 0 ≡ v → Marked old start whole c → c v + 1 ≤ given v whole → start ≤ place → place < start + 256 → get_or old (place - start) false ≡ false
marked_new old start place v whole c r l e m n a b =
    let w = m place a b l in
    let y = rising_most whole r v in
    let z = ap c e in flag_false (get_or old (place - start) false) (omega arith)

take_few : (xs : List ℕ) (i x : ℕ) → given x (take i xs) ≤ given x xs
take_few [] zero x = omega arith
take_few [] (suc i) x = omega arith
take_few (y ∷ ys) zero x = omega arith
take_few (y ∷ ys) (suc i) x = let g = take_few ys i x in omega arith

pub seen_more : (xs : List ℕ) (i v x : ℕ) → i < length xs → v ≡ get_or xs i 0 → given x (take (i + 1) xs) ≡ given x (take i xs) + one v x
seen_more xs i v x l e = let s : suc i ≡ i + 1 = omega arith in sym (ap (λ k. given x (take k xs)) s) ∙ take_next xs i v x l e

pub seen_room : (xs : List ℕ) (i v a b : ℕ) → i < length xs → v ≡ get_or xs i 0 → a + given v xs ≤ b → a + given v (take i xs) + 1 ≤ b
seen_room xs i v a b l e h = let g = seen_more xs i v v l e in let o = one_same v in let t = take_few xs (i + 1) v in omega arith

pub seen_all : (xs : List ℕ) (i x : ℕ) → length xs ≤ i → given x (take i xs) ≡ given x xs
seen_all xs i x l = ap (given x) (take_all xs i l)

-- where a walk through some parts is: left are those to come
pub record WindowAt (seen : List Bool) (start : ℕ) (whole : List ℕ) (left all : Trees) : Type 0 where
  pub counted : ℕ → ℕ
  pub marked : Marked seen start whole counted
  pub sum : (x : ℕ) → counted x + roots left (Own x) ≡ roots all (Own x)
  pub inside : (x : ℕ) → given x whole ≡ 0 → counted x ≡ 0

pub window_start : (seen : List Bool) (start : ℕ) (whole : List ℕ) (all : Trees) → ((k : ℕ) → get_or seen k false ≡ false) → WindowAt seen start whole all all
window_start seen start whole all h = record { counted = λ x. 0; marked = λ k a b l. ap flag (h (k - start)); sum = λ x. omega arith; inside = λ x e. refl }

pub window_step : (old new : List Bool) (start : ℕ) (whole vs : List ℕ) (left rest all : Trees) → WindowAt old start whole left all → ((c : ℕ → ℕ) → Marked old start whole c → Marked new start whole (λ x. c x + given x vs)) → ((x : ℕ) → given x whole ≡ 0 → given x vs ≡ 0) → ((x : ℕ) → roots left (Own x) ≡ given x vs + roots rest (Own x)) → WindowAt new start whole rest all
window_step old new start whole vs left rest all w f g e = record {
  counted = λ x. w.counted x + given x vs;
  marked = f w.counted w.marked;
  sum = λ x. let a = w.sum x in let b = e x in omega arith;
  inside = λ x z. let a = w.inside x z in let b = g x z in omega arith;
}

pub window_room : (old : List Bool) (start : ℕ) (whole vs : List ℕ) (left rest all : Trees) → (w : WindowAt old start whole left all) → ((x : ℕ) → roots left (Own x) ≡ given x vs + roots rest (Own x)) → ((x : ℕ) → given x whole ≡ roots all (Own x)) → (x : ℕ) → w.counted x + given x vs ≤ given x whole
window_room old start whole vs left rest all w e h x = let a = w.sum x in let b = e x in let c = h x in omega arith

pub window_sound : (seen : List Bool) (start : ℕ) (whole : List ℕ) (left all : Trees) → WindowAt seen start whole left all → ((x : ℕ) → roots left (Own x) ≡ 0) → ((k : ℕ) → k < 256 → start + k < length whole → get_or seen k false ≡ true) → (k : ℕ) → start ≤ k → k < start + 256 → k < length whole → roots all (Own (get_or whole k 0)) ≡ 1
window_sound seen start whole left all w z f k a b l =
    let m = w.marked k a b l in
    let t = flag_one (get_or seen (k - start) false) (f (k - start) (omega arith) (omega arith)) in
    let s = w.sum (get_or whole k 0) in let u = z (get_or whole k 0) in omega arith

pub window_inside : (seen : List Bool) (start : ℕ) (whole : List ℕ) (left all : Trees) → WindowAt seen start whole left all → ((x : ℕ) → roots left (Own x) ≡ 0) → (x : ℕ) → given x whole ≡ 0 → roots all (Own x) ≡ 0
window_inside seen start whole left all w z x e = let a = w.sum x in let b = w.inside x e in let c = z x in omega arith

flag_true : (b : Bool) → 1 ≤ flag b → b ≡ true
flag_true true e = refl
flag_true false e = absurd (omega arith)

pub window_complete : (seen : List Bool) (start : ℕ) (whole : List ℕ) (left all : Trees) → WindowAt seen start whole left all → ((x : ℕ) → roots left (Own x) ≡ 0) → ((x : ℕ) → given x whole ≡ roots all (Own x)) → (k : ℕ) → k < 256 → start + k < length whole → get_or seen k false ≡ true
window_complete seen start whole left all w z h k a l =
    let m = w.marked (start + k) (omega arith) (omega arith) l in
    let i : start + k - start ≡ k = omega arith in
    let j = ap (λ e. flag (get_or seen e false)) i in
    let s = w.sum (get_or whole (start + k) 0) in
    let u = z (get_or whole (start + k) 0) in
    let v = h (get_or whole (start + k) 0) in
    let p = given_place whole (start + k) l in flag_true (get_or seen k false) (omega arith)

place_in : (x : ℕ) (xs : List ℕ) → 1 ≤ given x xs → (k : ℕ) × (k < length xs) × (get_or xs k 0 ≡ x)
place_in x [] h = absurd (omega arith)
place_in x (y ∷ ys) h = first (λ l. place_in x ys l) (nat_eq x y) refl
  where
    first : (1 ≤ given x ys → (k : ℕ) × (k < length ys) × (get_or ys k 0 ≡ x)) → (b : Bool) → nat_eq x y ≡ b → (k : ℕ) × (k < length (y ∷ ys)) × (get_or (y ∷ ys) k 0 ≡ x)
    first f true e = (0, omega arith, grind (arith, nat_tests))
    first f false e =
        let s : x ≡ y → ⊥ = λ q. grind (arith, nat_tests) in
        let o = given_other x y ys s in
        let p = f (omega arith) in (suc p.0, omega arith, p.2)

pub parted_sound : (whole : List ℕ) (all : Trees) (n : ℕ) → IsRising whole → length whole ≤ n → ((k : ℕ) → k < n → k < length whole → roots all (Own (get_or whole k 0)) ≡ 1) → ((x : ℕ) → given x whole ≡ 0 → roots all (Own x) ≡ 0) → (x : ℕ) → given x whole ≡ roots all (Own x)
parted_sound whole all n r l f g x = by (given x whole) refl
  where
    by : (m : ℕ) → given x whole ≡ m → given x whole ≡ roots all (Own x)
    by zero e = e ∙ sym (g x e)
    by (suc m) e =
        let p = place_in x whole (omega arith) in
        let a = f p.0 (omega arith) p.1 in
        let b = rising_most whole r x in
        let c = ap (λ y. roots all (Own y)) p.2 in omega arith

pub parted_one : (whole : List ℕ) (all : Trees) → ((x : ℕ) → given x whole ≡ roots all (Own x)) → IsRising whole → (k : ℕ) → k < length whole → roots all (Own (get_or whole k 0)) ≡ 1
parted_one whole all h r k l = let a = h (get_or whole k 0) in let b = given_place whole k l in let c = rising_most whole r (get_or whole k 0) in omega arith

-- a variable that a list has is below the list's bound
pub given_below : (n d x : ℕ) (xs : List ℕ) → Rising n d xs → given x xs ≡ 1 → x < d
given_below n d x [] h e = absurd (omega arith)
given_below n d x (y ∷ ys) h e = by (given_below (y + 1) d x ys h.2) (nat_eq x y) refl
  where
    by : (given x ys ≡ 1 → x < d) → (b : Bool) → nat_eq x y ≡ b → x < d
    by g true f = let s : x ≡ y = grind (arith, nat_tests) in let l = h.1 in omega arith
    by g false f =
        let s : x ≡ y → ⊥ = λ q. grind (arith, nat_tests) in
        let o = given_other x y ys s in g (omega arith)

pub has_not : (x : ℕ) (xs : List ℕ) → given x xs ≡ 0 → given x xs ≡ 1 → ⊥
has_not x xs e f = omega arith

pub ruleset once = (given_place, rising_most, has_not)
