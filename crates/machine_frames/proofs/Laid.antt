-- Words that are cleared in two parts; and lists of words that are written one after another, seen from the rest.
use Rattle.std.proofs.Common.{◌≡◌, ◌≢◌, ℕ, zero, suc, ◌+◌, ◌<◌, ◌≤◌, List, [], ◌∷◌, length, drop, take, get_or, refl, sym, subst, ap, inl, inr, ◌∙◌, arith}
use Rattle.std.specs.Prelude.{slice_set}
use Rattle.std.proofs.lemmas.Bool.{cases_lt}
use Rattle.std.proofs.lemmas.List.{drop_more, drop_all, ext_get_or, get_or-take, get_or-set_same, get_or-set_other, length-take-le}
use Rattle.machine_semantics.specs.cell_code.Runnable.{AreOthers}
use Rattle.machine_frames.specs.Keeping.{Clears}
use Rattle.machine_frames.specs.Words.{words_from, put_words, laid_at}

pub clears_both : (a b c d : ℕ) (ws us xs : List ℕ) → a ≤ c → c ≤ b → b ≤ d → Clears a b ws us → Clears c d us xs → Clears a d ws xs
clears_both a b c d ws us xs l m n p q = record {
  long = q.long ∙ p.long;
  keeps = λ i h. q.keeps i (omega (arith, h, l)) ∙ p.keeps i h;
  zero = λ i h k. elim (cases_lt i c) [
    | inl t ↦ (q.keeps i t ∙ p.zero i h (omega (arith, t, m)))
    | inr t ↦ q.zero i t k
  ];
}

-- one more word is laid out
pub laid_more : (n m base i : ℕ) (ws us rs : List ℕ) → i < length rs → m ≡ n + (i + 1) → laid_at (n + i) us (words_from base ws (drop i rs)) ≡ laid_at m (slice_set us (n + i) (get_or ws (base + get_or rs i 0) 0)) (words_from base ws (drop (i + 1) rs))
laid_more n m base i ws us rs h e =
    let next : suc (n + i) ≡ m = omega (arith, e) in
    ap (λ xs. laid_at (n + i) us (words_from base ws xs)) (drop_more rs i 0 h)
    ∙ ap (λ k. laid_at k (slice_set us (n + i) (get_or ws (base + get_or rs i 0) 0)) (words_from base ws (drop (i + 1) rs))) next

pub laid_none : (n base i : ℕ) (ws us rs : List ℕ) → length rs ≤ i → laid_at n us (words_from base ws (drop i rs)) ≡ us
laid_none n base i ws us rs h = ap (λ xs. laid_at n us (words_from base ws xs)) (drop_all i rs h)

-- one more word is put
pub put_more : (base i : ℕ) (us ds vs : List ℕ) → i < length ds → i < length vs → put_words base us (drop i ds) (drop i vs) ≡ put_words base (slice_set us (base + get_or ds i 0) (get_or vs i 0)) (drop (i + 1) ds) (drop (i + 1) vs)
put_more base i us ds vs h k = λ j. put_words base us (drop_more ds i 0 h j) (drop_more vs i 0 k j)

pub put_none : (base i : ℕ) (us ds vs : List ℕ) → length ds ≤ i → put_words base us (drop i ds) vs ≡ us
put_none base i us ds vs h = ap (λ xs. put_words base us xs vs) (drop_all i ds h)

pub words_long : (base : ℕ) (ws rs : List ℕ) → length (words_from base ws rs) ≡ length rs
words_long base ws [] = refl
words_long base ws (r ∷ rs) = ap suc (words_long base ws rs)

pub word_from : (base : ℕ) (ws rs : List ℕ) (i : ℕ) → i < length rs → get_or (words_from base ws rs) i 0 ≡ get_or ws (base + get_or rs i 0) 0
word_from base ws [] i h = absurd (omega (arith, h))
word_from base ws (r ∷ rs) zero h = refl
word_from base ws (r ∷ rs) (suc i) h = word_from base ws rs i (omega (arith, h))

-- words that were read one after another
pub all_read : (base : ℕ) (ws rs xs : List ℕ) → length rs ≤ length xs → ((i : ℕ) → i < length rs → get_or xs i 0 ≡ get_or ws (base + get_or rs i 0) 0) → take (length rs) xs ≡ words_from base ws rs
all_read base ws rs xs h f =
    let long = length-take-le (length rs) xs h in
    let same = words_long base ws rs in
    ext_get_or 0 (take (length rs) xs) (words_from base ws rs) (long ∙ sym same) (λ i l.
    let k : i < length rs = omega (arith, l, long) in
    get_or-take (length rs) xs i 0 k ∙ f i k ∙ sym (word_from base ws rs i k))

-- one more word was read
pub read_more : (xs : List ℕ) (f : ℕ → ℕ) (i : ℕ) → i < length xs → ((j : ℕ) → j < i → get_or xs j 0 ≡ f j) → (j : ℕ) → j < i + 1 → get_or (slice_set xs i (f i)) j 0 ≡ f j
read_more xs f i h p j l = elim (cases_lt j i) [
  | inl t ↦ (get_or-set_other xs i j (f i) 0 (λ e. omega (arith, e, t)) ∙ p j t)
  | inr t ↦ (let e : i ≡ j = omega (arith, l, t) in subst (λ k. get_or (slice_set xs i (f i)) k 0 ≡ f k) e (get_or-set_same xs i (f i) 0 h))
]

-- a register that gets no word keeps its own
pub put_other : (base r : ℕ) (ws ds vs : List ℕ) → AreOthers r ds → get_or (put_words base ws ds vs) (base + r) 0 ≡ get_or ws (base + r) 0
put_other base r ws [] vs o = refl
put_other base r ws (d ∷ ds) [] o = refl
put_other base r ws (d ∷ ds) (v ∷ vs) o =
    put_other base r (slice_set ws (base + d) v) ds vs (λ k q l. o (suc k) q (omega (arith, l)))
    ∙ get_or-set_other ws (base + d) (base + r) v 0 (λ e. let first : d ≢ r = o 0 0 (omega arith) in let same : d ≡ r = omega (arith, e) in first same)
