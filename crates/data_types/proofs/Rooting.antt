-- The data types' own claims, and the answer.
use Rattle.std.proofs.Common.{◌≡◌, ℕ, zero, suc, ◌+◌, ◌<◌, ◌⊎◌, inl, inr, Bool, true, false, List, [], ◌∷◌, ◌++◌, length, slice_get, Some, refl, ap, sym, subst, ◌∙◌, arith, true≢false, add-one, length-append}
use Rattle.data_types.specs.Types as t
use Rattle.data_types.specs.Types.{Declarations, IsValued}
use Rattle.data_types.specs.Marks.{Claim, State, asked, known, marked_of, is_marked, IsSound, AllDone, IsAt, trues, root, with_claim}
use Rattle.data_types.specs.Steps.{Goes, HasRoots, Reports, ReportsValued}
use Rattle.data_types.specs.View as v
use Rattle.fip_trees.specs.declared.decls.DeclaredType.{DeclaredType}
use Rattle.data_types.proofs.Values.{past, root_has, root_lacks}
use Rattle.fip_language.proofs.Facts.{less_or_last}
use Rattle.data_types.proofs.Extending.{place_left as stays_left}

pub arity_at : (ds : List DeclaredType) (n : ℕ) (d : DeclaredType) → slice_get ds n ≡ Some d → t.arity (v.declarations ds) n ≡ d.arity
arity_at [] n d e = cc
arity_at (x ∷ ds) zero d e = let f : x ≡ d = cc in ap (λ (y : DeclaredType). y.arity) f
arity_at (x ∷ ds) (suc n) d e = arity_at ds n d e

trues_last : (n : ℕ) → trues n ++ true ∷ [] ≡ trues (suc n)
trues_last zero = refl
trues_last (suc n) = ap (λ bs. true ∷ bs) (trues_last n)

pub trues_more : (n : ℕ) → trues n ++ true ∷ [] ≡ trues (n + 1)
trues_more n = trues_last n ∙ ap trues (sym (add-one n))

-- ---- the claims

pub roots_first : (ds : Declarations) (a : State) → a ≡ record { claims = []; todo = [] } → HasRoots ds a 0
roots_first ds a e = subst (λ s. HasRoots ds s 0) (sym e) (record { count = refl; asked = λ n lt. absurd (omega (arith, lt)); only = λ i n bs f. cc })

left_or_last : (cs : List Claim) (c d : Claim) (i : ℕ) → slice_get (cs ++ d ∷ []) i ≡ Some c → (slice_get cs i ≡ Some c) ⊎ (d ≡ c)
left_or_last [] c d zero e = inr cc
left_or_last [] c d (suc i) e = cc
left_or_last (x ∷ cs) c d zero e = inl e
left_or_last (x ∷ cs) c d (suc i) e = left_or_last cs c d i e

last_at : (cs : List Claim) (c : Claim) (n : ℕ) → length cs ≡ n → slice_get (cs ++ c ∷ []) n ≡ Some c
last_at [] c n e = ap (slice_get (c ∷ [])) (sym e)
last_at (x ∷ cs) c zero e = absurd (omega (arith, e))
last_at (x ∷ cs) c (suc n) e = last_at cs c n (omega (arith, e))

pub roots_next : (ds : Declarations) (a b : State) (n : ℕ) (bs : List Bool) → HasRoots ds a n → bs ≡ root ds n → b ≡ with_claim a n bs → HasRoots ds b (n + 1)
roots_next ds a b n bs r e f = subst (λ s. HasRoots ds s (n + 1)) (ap (with_claim a n) (sym e) ∙ sym f) (record {
  count = length-append a.claims (asked n (root ds n) ∷ []) ∙ ap (λ k. k + 1) r.count;
  asked = λ k lt. by k (less_or_last k n lt);
  only = λ i k cs g. only i k cs (left_or_last a.claims (known k cs) (asked n (root ds n)) i g);
})
  where
    by : (k : ℕ) → (k < n) ⊎ (k ≡ n) → slice_get (a.claims ++ asked n (root ds n) ∷ []) k ≡ Some (asked k (root ds k))
    by k (inl l) = stays_left a.claims (asked k (root ds k)) (asked n (root ds n)) k (r.asked k l)
    by k (inr g) = subst (λ j. slice_get (a.claims ++ asked n (root ds n) ∷ []) j ≡ Some (asked j (root ds j))) (sym g) (last_at a.claims (asked n (root ds n)) n r.count)

    only : (i k : ℕ) (cs : List Bool) → (slice_get a.claims i ≡ Some (known k cs)) ⊎ (asked n (root ds n) ≡ known k cs) → ⊥
    only i k cs (inl g) = r.only i k cs g
    only i k cs (inr g) = true≢false (sym (ap (λ (c : Claim). c.marked) g))

-- ---- the marks

-- some of the marks are reported
abbrev pub Telling : State → List Bool → ℕ → Type 0
Telling s xs n = (length xs ≡ n) × Reports s xs

pub telling_first : (s : State) → Telling s [] 0
telling_first s = (refl, λ k b e. cc)

last_or : (xs : List Bool) (m : Bool) (k : ℕ) (b : Bool) → slice_get (xs ++ m ∷ []) k ≡ Some b → (slice_get xs k ≡ Some b) ⊎ ((k ≡ length xs) × (m ≡ b))
last_or [] m zero b e = inr (refl, cc)
last_or [] m (suc k) b e = cc
last_or (x ∷ xs) m zero b e = inl e
last_or (x ∷ xs) m (suc k) b e = elim (last_or xs m k b e) as (λ _. (slice_get xs k ≡ Some b) ⊎ ((suc k ≡ suc (length xs)) × (m ≡ b))) [ inl f ↦ inl f | inr f ↦ inr (ap suc f.0, f.1) ]

one_longer : (xs : List Bool) (m : Bool) → length (xs ++ m ∷ []) ≡ length xs + 1
one_longer [] m = refl
one_longer (x ∷ xs) m = let r = one_longer xs m in omega (arith, r)

pub telling_next : (s : State) (xs : List Bool) (n : ℕ) (m : Bool) → Telling s xs n → m ≡ is_marked s n → Telling s (xs ++ m ∷ []) (n + 1)
telling_next s xs n m r e = (one_longer xs m ∙ ap (λ k. k + 1) r.0, λ k x g. by k x (last_or xs m k x g))
  where
    by : (k : ℕ) (x : Bool) → (slice_get xs k ≡ Some x) ⊎ ((k ≡ length xs) × (m ≡ x)) → is_marked s k ≡ x
    by k x (inl g) = r.1 k x g
    by k x (inr g) = ap (is_marked s) (g.0 ∙ r.0) ∙ sym e ∙ g.1

marked_has : (ds : Declarations) (s : State) (k : ℕ) → IsSound ds s → IsAt s k k (root ds k) → is_marked s k ≡ true → IsValued ds k
marked_has ds s k sound (inl e) m = absurd (true≢false (sym m ∙ ap marked_of e))
marked_has ds s k sound (inr e) m = root_has ds k e.0 (sound k k e.0 e.1)

unmarked_lacks : (ds : Declarations) (s : State) (k : ℕ) → AllDone ds s → IsAt s k k (root ds k) → is_marked s k ≡ false → IsValued ds k → ⊥
unmarked_lacks ds s k done (inl e) m = root_lacks ds s done k k e
unmarked_lacks ds s k done (inr e) m = absurd (true≢false (sym (ap marked_of e.1) ∙ m))

pub answers : (ds : Declarations) (a b : State) (xs : List Bool) (n : ℕ) → n ≡ length ds → HasRoots ds a n → Goes ds a b → AllDone ds b → length xs ≡ n → Reports b xs → ReportsValued ds xs
answers ds a b xs n size roots g done all reports = record {
  all = all ∙ size;
  valued = λ k f. marked_has ds b k (g.sound (λ i j bs h. absurd (roots.only i j bs h))) (root_at k (past xs k true f)) (reports k true f);
  unvalued = λ k f. unmarked_lacks ds b k done (root_at k (past xs k false f)) (reports k false f);
}
  where
    root_at : (k : ℕ) → k < length xs → IsAt b k k (root ds k)
    root_at k lt = g.kept k k (root ds k) (inl (roots.asked k (omega (arith, lt, all))))
