-- The cells of credits, one more, and the words that are needed.
use Rattle.std.proofs.Common.{◌≡◌, ◌≢◌, ℕ, zero, suc, ◌+◌, ◌-◌, ◌*◌, ◌^◌, ◌<◌, ◌≤◌, List, [], ◌∷◌, ◌++◌, length, take, get_or, Some, Bool, true, false, refl, sym, ap, ap₂, ◌∙◌, subst, append_assoc, arith}
use Rattle.std.specs.Prelude.{replicate, nat_eq, min, if◌then◌else◌}
use Rattle.std.proofs.lemmas.Bool.{eqb-true, eq-eqb}
use Rattle.std.proofs.lemmas.Bool.Decides.{nat_tests}
use Rattle.std.proofs.lemmas.List.{append-nil, take_more, length-replicate}
use Rattle.std.proofs.Math.Nat.{mul-zero, mul-one, mul-add}
use Rattle.fip_language.specs.Values.{Value, Int, Node, Values, End, More, count_of, one_of_size, cells, cells_of_all, words_of_node, words_needed, words_needed_by_all}
use Rattle.fip_language.specs.Store.{Cell, one_at, count, uses_of_all, words_of}
use Rattle.cell_store.specs.Cells.{Cells, cell_at, size_of}
use Rattle.cell_store.specs.Made.{Loading}
use Rattle.cell_store.proofs.Freed.{one_size}
use Rattle.value_text.specs.Loaded.{AreSizes, AreCredits, wanted, words_up_to, free_in, AreZero, cell_words}
use Rattle.value_text.specs.Building.{IsMade, IsBuilt, IsCrediting}
use Rattle.value_text.proofs.Taken.{Made, made, taken_on, room_for, hold_all_on, one_here, one_other, unlike_of, words_same, words_zero, words_suc, times_suc}
use Rattle.value_text.proofs.Order.{lies_credited, lies_credit}
use Rattle.value_text.proofs.Built.{taken_same}
use Rattle.fip_language.proofs.Facts.{times_minus_one as top_one, times_minus_zero as top_zero}
pub use Rattle.fip_language.proofs.Facts.{take_whole}

-- places and sizes in rows
pub count_append : (q : ℕ) (xs ys : List ℕ) → count q (xs ++ ys) ≡ count q xs + count q ys
count_append q [] ys = omega arith
count_append q (x ∷ xs) ys = let h = count_append q xs ys in omega (arith, h)

cell_words_on : (ps : List ℕ) (p : ℕ) → cell_words (ps ++ p ∷ []) ≡ cell_words ps ++ (2 * p + 1) ∷ []
cell_words_on [] p = refl
cell_words_on (q ∷ ps) p = ap (λ ws. (2 * q + 1) ∷ ws) (cell_words_on ps p)

zero_on : (cs cs' : Cells) (ps ks : List ℕ) (p s : ℕ) → ((q : ℕ) → q ≢ p → cell_at cs' q ≡ cell_at cs q) → count p ps ≡ 0 → cell_at cs' p ≡ Some (record { tag = 0; fields = replicate s 0 }) → AreZero cs ps ks → AreZero cs' (ps ++ p ∷ []) (ks ++ s ∷ [])
zero_on cs cs' [] [] p s e n h z = (h, tt)
zero_on cs cs' [] (k ∷ ks) p s e n h z = absurd z
zero_on cs cs' (q ∷ ps) [] p s e n h z = absurd z
zero_on cs cs' (q ∷ ps) (k ∷ ks) p s e n h z =
    let u : p ≢ q = unlike_of p q (omega (arith, n)) in
    (e q (λ x. u (sym x)) ∙ z.0, zero_on cs cs' ps ks p s e (omega (arith, n)) h z.1)

pub sizes_at : (ks : List ℕ) (i : ℕ) → AreSizes ks → i < length ks → (0 < get_or ks i 0) × (get_or ks i 0 ≤ 16)
sizes_at [] i h l = absurd (omega arith)
sizes_at (k ∷ ks) zero h l = (h.0, h.1)
sizes_at (k ∷ ks) (suc i) h l = sizes_at ks i h.2 (omega arith)

count_take : (q n : ℕ) (ks : List ℕ) → count q (take n ks) ≤ count q ks
count_take q zero ks = omega arith
count_take q (suc n) [] = omega arith
count_take q (suc n) (k ∷ ks) = let h = count_take q n ks in omega (arith, h)

-- one credit more
module _ (ks : List ℕ) (s : ℕ) (want : ℕ → ℕ) (first now new : Loading) (vs : Values) (ws ws' : List ℕ) (p : ℕ) (h : IsCrediting ks want first now vs ws) (some : 0 < s) (few : s ≤ 16) (in_want : wanted (ks ++ s ∷ []) vs s ≤ want s) (w : ws' ≡ ws ++ (2 * p + 1) ∷ []) (m : IsMade now new p (record { tag = 0; fields = replicate s 0 })) where
  abbrev cell : Cell
  cell = record { tag = 0; fields = replicate s 0 }

  sized : size_of cell ≡ s
  sized = length-replicate {A = ℕ} s 0

  facts : Made now new p cell
  facts = made now new p cell (h.taken).flags m

  none : uses_of_all p h.trees + count p h.places ≡ 0
  none = let a = (h.taken).once p in let d = facts.dead in omega (arith, a, d)

  done : (k : ℕ) → wanted (ks ++ s ∷ []) vs k ≡ wanted ks vs k + one_size k cell
  done k =
      let a = count_append k ks (s ∷ []) in
      let b : one_size k cell ≡ one_at k s = ap (one_at k) sized in
      omega (arith, a, b)

  pub crediting_on : IsCrediting (ks ++ s ∷ []) want first new vs ws'
  crediting_on = record {
    trees = h.trees;
    places = h.places ++ p ∷ [];
    values = h.values;
    words = w ∙ ap (λ ws. ws ++ (2 * p + 1) ∷ []) h.words ∙ append_assoc (words_of h.trees) (cell_words h.places) ((2 * p + 1) ∷ []) ∙ ap (λ xs. words_of h.trees ++ xs) (sym (cell_words_on h.places p));
    held = hold_all_on now.cells new.cells p h.trees facts.others (let n = none in omega (arith, n)) h.held;
    zero = zero_on now.cells new.cells h.places ks p s facts.others (let n = none in omega (arith, n)) facts.here h.zero;
    taken = taken_on want (wanted ks vs) (wanted (ks ++ s ∷ []) vs) (λ q. uses_of_all q h.trees + count q h.places) (λ q. uses_of_all q h.trees + count q (h.places ++ p ∷ [])) first now new p cell h.taken facts (let z = sized in omega (arith, z, some)) (let z = sized in omega (arith, z, few)) (λ k le. done k) (subst (λ n. wanted (ks ++ s ∷ []) vs n ≤ want n) (sym sized) in_want) (λ q. let a = count_append q h.places (p ∷ []) in omega (arith, a));
    order = lies_credit ks s first now new vs ws ws' p h.order (h.taken).flags w m;
  }

pub crediting_starts : (want : ℕ → ℕ) (first now : Loading) (vs : Values) (ws : List ℕ) → IsBuilt want first now vs ws → IsCrediting [] want first now vs ws
crediting_starts want first now vs ws h = record {
  trees = h.trees;
  places = [];
  values = h.values;
  words = h.words ∙ sym (append-nil (words_of h.trees));
  held = h.held;
  zero = tt;
  taken = taken_same want (λ k. cells_of_all k vs) (wanted [] vs) (λ p. uses_of_all p h.trees) (λ p. uses_of_all p h.trees + 0) first now (λ k. omega arith) (λ q. omega arith) h.taken;
  order = λ free. lies_credited first now vs ws (h.order free);
}

-- credit number i
module _ (ks : List ℕ) (i s : ℕ) (lt : i < length ks) (is : s ≡ get_or ks i 0) (sizes : AreSizes ks) (first now : Loading) (vs : Values) (ws : List ℕ) (h : IsCrediting (take i ks) (wanted ks vs) first now vs ws) where
  range : (0 < s) × (s ≤ 16)
  range = subst (λ s. (0 < s) × (s ≤ 16)) (sym is) (sizes_at ks i sizes lt)

  next : take (i + 1) ks ≡ take i ks ++ s ∷ []
  next = take_more ks i 0 lt ∙ ap (λ s. take i ks ++ s ∷ []) (sym is)

  in_want : wanted (take i ks ++ s ∷ []) vs s ≤ wanted ks vs s
  in_want =
      let a = count_take s (i + 1) ks in
      let b = ap (count s) next in
      omega (arith, a, b)

  pub credit_on : (new : Loading) (ws' : List ℕ) → (p : ℕ) × (ws' ≡ ws ++ (2 * p + 1) ∷ []) × IsMade now new p (record { tag = 0; fields = replicate s 0 }) → IsCrediting (take (i + 1) ks) (wanted ks vs) first new vs ws'
  credit_on new ws' m = subst (λ ks'. IsCrediting ks' (wanted ks vs) first new vs ws') (sym next) (crediting_on (take i ks) s (wanted ks vs) first now new vs ws ws' m.0 h range.0 range.1 in_want m.1 m.2)

  pub credit_fits : words_up_to 16 (wanted ks vs) (free_in first) ≤ first.left → (0 < s → s ≤ 16 → (free_in now s ≡ 0) × (now.left < s + 1)) → ⊥
  credit_fits fits full =
      let f = full range.0 range.1 in
      let a = in_want in
      let b = count_append s (take i ks) (s ∷ []) in
      let o = one_here s in
      let r = room_for (wanted ks vs) (wanted (take i ks) vs) (λ p. uses_of_all p h.trees + count p h.places) first now s h.taken fits range.0 range.1 (omega (arith, a, b, o)) f.0 in
      omega (arith, r, f.1)

-- how many words are needed at the most
times_sum : (a b c : ℕ) → a * (b + c - 0) ≡ a * (b - 0) + a * (c - 0)
times_sum a b c = ap (λ x. a * x) (let z : b + c - 0 ≡ (b - 0) + (c - 0) = omega arith in z) ∙ mul-add a (b - 0) (c - 0)

four : (p a b x y q r s : ℕ) → p ≡ q + r → q ≡ a + x → r ≡ b + y → s ≡ (a + b) + (x + y) → s ≡ p
four p a b x y q r s e f g h = omega (arith, e, f, g, h)

pub sum_join : (n : ℕ) (f g : ℕ → ℕ) → words_up_to n (λ k. f k + g k) (λ _. 0) ≡ words_up_to n f (λ _. 0) + words_up_to n g (λ _. 0)
sum_join zero f g = let a = words_zero (λ k. f k + g k) (λ _. 0) in let b = words_zero f (λ _. 0) in let c = words_zero g (λ _. 0) in omega (arith, a, b, c)
sum_join (suc n) f g = four (words_up_to (suc n) f (λ _. 0) + words_up_to (suc n) g (λ _. 0)) (words_up_to n f (λ _. 0)) (words_up_to n g (λ _. 0)) ((suc n + 1) * (f (suc n) - 0)) ((suc n + 1) * (g (suc n) - 0)) (words_up_to (suc n) f (λ _. 0)) (words_up_to (suc n) g (λ _. 0)) (words_up_to (suc n) (λ k. f k + g k) (λ _. 0)) refl (words_suc n f (λ _. 0)) (words_suc n g (λ _. 0)) (words_suc n (λ k. f k + g k) (λ _. 0) ∙ ap₂ (λ a x. a + x) (sum_join n f g) (times_sum (suc n + 1) (f (suc n)) (g (suc n))))

no_words : (n s : ℕ) → n < s → words_up_to n (λ k. one_at k s) (λ _. 0) ≡ 0
no_words zero s l = words_zero (λ k. one_at k s) (λ _. 0)
no_words (suc n) s l =
    let h = no_words n s (omega (arith, l)) in
    let d = top_zero (suc n + 1) (one_at (suc n) s) (one_other (suc n) s (λ e. absurd (omega (arith, e, l)))) in
    words_suc n (λ k. one_at k s) (λ _. 0) ∙ ap₂ (λ a x. a + x) h d

one_words_by : (n s : ℕ) → (words_up_to n (λ k. one_at k s) (λ _. 0) ≤ s + 1) → (t : Bool) → nat_eq (suc n) s ≡ t → words_up_to (suc n) (λ k. one_at k s) (λ _. 0) ≤ s + 1
one_words_by n s h true t =
    let e : suc n ≡ s = eqb-true (suc n) s t in
    let z = no_words n s (omega (arith, e)) in
    let o : one_at (suc n) s ≡ 1 = ap (λ (t : Bool). if t then 1 else 0) t in
    let w : words_up_to (suc n) (λ k. one_at k s) (λ _. 0) ≡ 0 + (suc n + 1) = words_suc n (λ k. one_at k s) (λ _. 0) ∙ ap₂ (λ a x. a + x) z (top_one (suc n + 1) (one_at (suc n) s) o) in
    omega (arith, w, e)
one_words_by n s h false t =
    let o : one_at (suc n) s ≡ 0 = ap (λ (t : Bool). if t then 1 else 0) t in
    let w : words_up_to (suc n) (λ k. one_at k s) (λ _. 0) ≡ words_up_to n (λ k. one_at k s) (λ _. 0) + 0 = words_suc n (λ k. one_at k s) (λ _. 0) ∙ ap (λ x. words_up_to n (λ k. one_at k s) (λ _. 0) + x) (top_zero (suc n + 1) (one_at (suc n) s) o) in
    omega (arith, w, h)

pub one_words : (n s : ℕ) → words_up_to n (λ k. one_at k s) (λ _. 0) ≤ s + 1
one_words zero s = let z = words_zero (λ k. one_at k s) (λ _. 0) in omega (arith, z)
one_words (suc n) s = one_words_by n s (one_words n s) (nat_eq (suc n) s) refl

none_sum : (n : ℕ) → words_up_to n (λ k. 0) (λ _. 0) ≡ 0
none_sum zero = words_zero (λ k. 0) (λ _. 0)
none_sum (suc n) = words_suc n (λ k. 0) (λ _. 0) ∙ ap₂ (λ a x. a + x) (none_sum n) (top_zero (suc n + 1) 0 refl)

node_sum : (m n : ℕ) → words_up_to n (λ k. one_of_size k m) (λ _. 0) ≤ words_of_node m
node_sum zero n = let h = none_sum n in omega (arith, h)
node_sum (suc m) n = let h = one_words n (suc m) in omega (arith, h)

mutual
  value_sum : (n : ℕ) (v : Value) → words_up_to n (λ k. cells k v) (λ _. 0) ≤ words_needed v
  value_sum n (Int i) = let h = none_sum n in omega (arith, h)
  value_sum n (Node c vs) =
      let a = sum_join n (λ k. one_of_size k (count_of vs)) (λ k. cells_of_all k vs) in
      let b = node_sum (count_of vs) n in
      let d = values_sum n vs in
      omega (arith, a, b, d)

  pub values_sum : (n : ℕ) (vs : Values) → words_up_to n (λ k. cells_of_all k vs) (λ _. 0) ≤ words_needed_by_all vs
  values_sum n End = let h = none_sum n in omega (arith, h)
  values_sum n (More v vs) =
      let a = sum_join n (λ k. cells k v) (λ k. cells_of_all k vs) in
      let b = value_sum n v in
      let d = values_sum n vs in
      omega (arith, a, b, d)

credits_sum : (n : ℕ) (ks : List ℕ) → AreSizes ks → words_up_to n (λ k. count k ks) (λ _. 0) ≤ 17 * length ks
credits_sum n [] h = let a = none_sum n in omega (arith, a)
credits_sum n (s ∷ ks) h =
    let a = sum_join n (λ k. one_at k s) (λ k. count k ks) in
    let b = one_words n s in
    let d = credits_sum n ks h.2 in
    omega (arith, a, b, d, h.1)

pub wanted_sum : (credits : List ℕ) (vs : Values) → AreCredits credits → words_up_to 16 (wanted credits vs) (λ _. 0) ≤ words_needed_by_all vs + 272
wanted_sum credits vs h =
    let a : words_up_to 16 (wanted credits vs) (λ _. 0) ≡ words_up_to 16 (λ k. cells_of_all k vs) (λ _. 0) + words_up_to 16 (λ k. count k credits) (λ _. 0) = sum_join 16 (λ k. cells_of_all k vs) (λ k. count k credits) in
    let b = values_sum 16 vs in
    let d = credits_sum 16 credits h.sizes in
    let f = h.few in
    omega (arith, a, b, d, f)

-- how many of each size were counted
pub counted_words : (n : ℕ) (have want free : ℕ → ℕ) → ((k : ℕ) → k ≤ n → have k ≡ want k) → words_up_to n have free ≡ words_up_to n want free
counted_words n have want free e = words_same n want have free free (λ k le. ap (λ x. x - free k) (e k le))

-- free cells spare words, and fewer sizes need no more
less_top : (d x y : ℕ) → d * (x - y) ≤ d * (x - 0)
less_top d x zero = omega arith
less_top d zero (suc y) =
    let e : d * (0 - suc y) ≡ d * (0 - 0) = ap (λ x. d * x) (let z : 0 - suc y ≡ 0 - 0 = omega arith in z) in
    omega (arith, e)
less_top d (suc x) (suc y) =
    let h = less_top d x y in
    let l : d * (suc x - suc y) ≡ d * (x - y) = ap (λ x. d * x) (let z : suc x - suc y ≡ x - y = omega arith in z) in
    let r : d * (suc x - 0) ≡ d * x + d = ap (λ x. d * x) (let z : suc x - 0 ≡ suc x = omega arith in z) ∙ times_suc d x in
    let s : d * (x - 0) ≡ d * x = ap (λ x. d * x) (let z : x - 0 ≡ x = omega arith in z) in
    omega (arith, h, l, r, s)

less_words : (want free : ℕ → ℕ) (n : ℕ) → words_up_to n want free ≤ words_up_to n want (λ _. 0)
less_words want free zero = let a = words_zero want free in let b = words_zero want (λ _. 0) in omega (arith, a, b)
less_words want free (suc n) = add_less (words_up_to n want free) (words_up_to n want (λ _. 0)) ((suc n + 1) * (want (suc n) - free (suc n))) ((suc n + 1) * (want (suc n) - 0)) (words_up_to (suc n) want free) (words_up_to (suc n) want (λ _. 0)) (less_words want free n) (less_top (suc n + 1) (want (suc n)) (free (suc n))) (words_suc n want free) (words_suc n want (λ _. 0))
  where
    add_less : (a b x y p q : ℕ) → a ≤ b → x ≤ y → p ≡ a + x → q ≡ b + y → p ≤ q
    add_less a b x y p q e f g h = omega (arith, e, f, g, h)

more_by : (want : ℕ → ℕ) (n m : ℕ) → n ≤ suc m → (n ≤ m → words_up_to n want (λ _. 0) ≤ words_up_to m want (λ _. 0)) → (t : Bool) → nat_eq n (suc m) ≡ t → words_up_to n want (λ _. 0) ≤ words_up_to (suc m) want (λ _. 0)
more_by want n m le rest true t = let e = ap (λ n. words_up_to n want (λ _. 0)) (eqb-true n (suc m) t) in omega (arith, e)
more_by want n m le rest false t =
    let r = rest (grind (arith, nat_tests)) in
    let w = words_suc m want (λ _. 0) in
    omega (arith, r, w)

more_words : (want : ℕ → ℕ) (n m : ℕ) → n ≤ m → words_up_to n want (λ _. 0) ≤ words_up_to m want (λ _. 0)
more_words want n zero le = let e = ap (λ n. words_up_to n want (λ _. 0)) (let z : n ≡ 0 = omega (arith, le) in z) in omega (arith, e)
more_words want n (suc m) le = more_by want n m le (λ l. more_words want n m l) (nat_eq n (suc m)) refl

-- the words of one size more
pub needed_on : (have free : ℕ → ℕ) (k fresh more needed' needed'' : ℕ) → 1 ≤ k → k ≤ 16 → words_up_to 16 have (λ _. 0) < 2 ^ 64 → needed' ≡ words_up_to (k - 1) have free → fresh ≡ have k - free k → more ≡ min ((k + 1) * fresh) (2 ^ 64 - 1) → needed'' ≡ min (needed' + more) (2 ^ 64 - 1) → needed'' ≡ words_up_to (k + 1 - 1) have free
needed_on have free zero fresh more needed' needed'' z le b n f m r = absurd (omega (arith, z))
needed_on have free (suc j) fresh more needed' needed'' z le b n f m r =
    let x = less_words have free (suc j) in
    let y = more_words have (suc j) 16 le in
    let d : (suc j + 1) * fresh ≡ (suc j + 1) * (have (suc j) - free (suc j)) = ap (λ x. (suc j + 1) * x) f in
    let low : words_up_to (suc j - 1) have free ≡ words_up_to j have free = ap (λ n. words_up_to n have free) (let e : suc j - 1 ≡ j = omega arith in e) in
    let high : words_up_to (suc j + 1 - 1) have free ≡ words_up_to (suc j) have free = ap (λ n. words_up_to n have free) (let e : suc j + 1 - 1 ≡ suc j = omega arith in e) in
    adds (words_up_to j have free) ((suc j + 1) * (have (suc j) - free (suc j))) (words_up_to (suc j) have free) (words_up_to (suc j) have (λ _. 0)) (words_up_to 16 have (λ _. 0)) ((suc j + 1) * fresh) more needed' needed'' (words_suc j have free) x y b d (n ∙ low) m r ∙ sym high where
      adds : (a t w v u s more needed' needed'' : ℕ) → w ≡ a + t → w ≤ v → v ≤ u → u < 2 ^ 64 → s ≡ t → needed' ≡ a → more ≡ min s (2 ^ 64 - 1) → needed'' ≡ min (needed' + more) (2 ^ 64 - 1) → needed'' ≡ w
      adds a t w v u s more needed' needed'' e f g h i j k l = omega (arith, e, f, g, h, i, j, k, l)

-- the counts of the sizes of credits, one more
pub count_most : (q : ℕ) (xs : List ℕ) → count q xs ≤ length xs
count_most q [] = omega arith
count_most q (x ∷ xs) = let h = count_most q xs in let o = at_most (nat_eq q x) in omega (arith, h, o) where
  at_most : (t : Bool) → (if t then 1 else 0) ≤ 1
  at_most true = omega arith
  at_most false = omega arith

length-take : (n : ℕ) (xs : List ℕ) → length (take n xs) ≤ n
length-take zero xs = omega arith
length-take (suc n) [] = omega arith
length-take (suc n) (x ∷ xs) = let h = length-take n xs in omega (arith, h)

pub sizes_on : (first old new : ℕ → ℕ) (ks : List ℕ) (i s : ℕ) → i < length ks → s ≡ get_or ks i 0 → AreSizes ks → ((k : ℕ) → k ≤ 16 → first k + length ks < 2 ^ 64) → ((k : ℕ) → k ≤ 16 → old k ≡ first k + count k (take i ks)) → (0 < s → s ≤ 16 → old s < 2 ^ 64 - 1 → new s ≡ suc (old s)) → ((k : ℕ) → k ≢ s → new k ≡ old k) → (k : ℕ) → k ≤ 16 → new k ≡ first k + count k (take (i + 1) ks)
sizes_on first old new ks i s lt is sizes room h one others k le = by_size (nat_eq k s) refl where
  range : (0 < s) × (s ≤ 16)
  range = subst (λ s. (0 < s) × (s ≤ 16)) (sym is) (sizes_at ks i sizes lt)

  more : count k (take (i + 1) ks) ≡ count k (take i ks) + one_at k s
  more = ap (count k) (take_more ks i 0 lt ∙ ap (λ s. take i ks ++ s ∷ []) (sym is)) ∙ count_append k (take i ks) (s ∷ []) ∙ (let z : count k (take i ks) + (one_at k s + 0) ≡ count k (take i ks) + one_at k s = omega arith in z)

  by_size : (t : Bool) → nat_eq k s ≡ t → new k ≡ first k + count k (take (i + 1) ks)
  by_size true t =
      let e : k ≡ s = eqb-true k s t in
      let o : one_at k s ≡ 1 = ap (λ (t : Bool). if t then 1 else 0) t in
      let a = h k le in
      let m = count_most k (take i ks) in
      let l = length-take i ks in
      let r = room k le in
      let few : old k < 2 ^ 64 - 1 = omega (arith, a, m, l, lt, r) in
      let n : new k ≡ suc (old k) = subst (λ k. old k < 2 ^ 64 - 1 → new k ≡ suc (old k)) (sym e) (one range.0 range.1) few in
      let q = more in
      omega (arith, n, a, q, o)
  by_size false t =
      let u : k ≢ s = λ e. (let z = eq-eqb k s e in cc) in
      let o : one_at k s ≡ 0 = ap (λ (t : Bool). if t then 1 else 0) t in
      let n = others k u in
      let a = h k le in
      let q = more in
      omega (arith, n, a, q, o)
