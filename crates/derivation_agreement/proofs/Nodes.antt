-- A node as the walk makes it is the node that is defined.
use Rattle.std.proofs.Common.{◌≡◌, ℕ, zero, suc, ◌<◌, ◌≤◌, ◌+◌, ◌⊎◌, inl, inr, refl, sym, ap, ap₂, subst, ◌∙◌, append_assoc, List, [], ◌∷◌, ◌++◌, length, nat_lt, Bool, true, false, not, ◌&&◌, ◌||◌, arith}
use Rattle.std.specs.Prelude.{◌==◌, filter, if◌then◌else◌, Option, Some, None}
use Rattle.std.proofs.lemmas.Bool.{eq-eqb, ne_eqb}
use Rattle.std.proofs.lemmas.Bool.Decides.{nat_tests}
use Rattle.tail_groups.specs.fip_trees.Sizes.{number}
use Rattle.tail_groups.specs.fip_trees.declared.program.Binder.{Binder}
use Rattle.derivation_walk.specs.fip_rules.World.{World}
use Rattle.derivation_walk.specs.derivation_trees.declared.derivation.RuleName.{RuleName}
use Rattle.derivation_walk.specs.derivation_trees.declared.derivation.RuleName.TheVariants as R
use Rattle.derivation_walk.specs.derivation_trees.declared.derivation.Credit as D
use Rattle.derivation_walk.specs.derivation_trees.Trees.{Tree, Branch, Trees, NoTrees, MoreTrees}
use Rattle.derivation_making.specs.derivation_check.Owned.{is_weaken, Under}
use Rattle.derivation_making.specs.derivation_check.Scopes.{Known, named}
use Rattle.derivation_walk.specs.declared.found.Bound.{Bound}
use Rattle.derivation_walk.specs.declared.tables.Uses.{Uses}
use Rattle.derivation_making.specs.Made as M
use Rattle.derivation_making.specs.Made.{those, all_those, numbers, unscalar, counted}
use Rattle.derivation_walk.specs.Walked as W
use Rattle.derivation_walk.specs.Walked.{Owned, credits_from}
use Rattle.derivation_walk.proofs.credit_check.Amounts.{Long}
use Rattle.derivation_agreement.proofs.Sited.{Sited, AllSited}
use Rattle.tail_groups.proofs.fip_language.Facts.{suc_same as suc_test}
pub use Rattle.derivation_making.proofs.Lists.{numbers_append}

-- ---- credits

-- a list has so many of each size
pub record Counts (xs : List ℕ) (f : ℕ → ℕ) : Type 0 where
  pub long : Long xs
  pub at : (k : ℕ) → 0 < k → k < 17 → number xs k ≡ f k

credits_by : (k n : ℕ) (xs : List ℕ) (f : ℕ → ℕ) → 0 < k → k + n ≤ 17 → Counts xs f → credits_from xs k n ≡ counted f k n
credits_by k zero xs f p l h = refl
credits_by k (suc n) xs f p l h =
    ap (λ (cs : List D.Credit). if nat_lt 0 (number xs k) then record { size = k; count = number xs k } ∷ cs else cs) (credits_by (suc k) n xs f (omega arith) (omega (arith, l)) h)
    ∙ ap (λ m. if nat_lt 0 m then record { size = k; count = m } ∷ counted f (suc k) n else counted f (suc k) n) (h.at k p (omega (arith, l)))

pub credits_is : (xs : List ℕ) (f : ℕ → ℕ) → Counts xs f → W.credits xs ≡ M.credits f
credits_is xs f h = credits_by 1 16 xs f (omega arith) (omega arith) h

same_by : (k n : ℕ) (xs ys : List ℕ) (f g : ℕ → ℕ) → 0 < k → k + n ≤ 17 → Counts xs f → Counts ys g → W.same_from xs ys k n ≡ M.same_from f g k n
same_by k zero xs ys f g p l h j = refl
same_by k (suc n) xs ys f g p l h j =
    ap₂ (λ a b. (a == number ys k) && b) (h.at k p (omega (arith, l))) (same_by (suc k) n xs ys f g (omega arith) (omega (arith, l)) h j)
    ∙ ap (λ b. (f k == b) && M.same_from f g (suc k) n) (j.at k p (omega (arith, l)))

-- ---- variables

pub filter_is : (w : World) (order : List Bound) (t : Uses) (f h : ℕ → Bool) (us : List Known) → AllSited w order t us → ((v : Known) → Sited w order t v → f v.number ≡ h v.binder) → filter f (numbers us) ≡ numbers (those h us)
filter_is w order t f h [] a g = refl
filter_is w order t f h (u ∷ us) a g =
    ap (λ (xs : List ℕ). if f u.number then u.number ∷ xs else xs) (filter_is w order t f h us a.1 g) ∙ by (f u.number) (h u.binder) (g u a.0)
  where
    by : (b c : Bool) → b ≡ c → (if b then u.number ∷ numbers (those h us) else numbers (those h us)) ≡ numbers (if c then u ∷ those h us else those h us)
    by true true e = refl
    by false false e = refl
    by true false e = absurd (cc)
    by false true e = absurd (cc)

pub those_sited : (w : World) (order : List Bound) (t : Uses) (h : ℕ → Bool) (us : List Known) → AllSited w order t us → AllSited w order t (those h us)
those_sited w order t h [] a = tt
those_sited w order t h (u ∷ us) a = by (h u.binder) (those_sited w order t h us a.1)
  where
    by : (b : Bool) → AllSited w order t (those h us) → AllSited w order t (if b then u ∷ those h us else those h us)
    by true k = (a.0, k)
    by false k = k

pub unscalar_sited : (w : World) (order : List Bound) (t : Uses) (us : List Known) → AllSited w order t us → AllSited w order t (unscalar w us)
unscalar_sited w order t [] a = tt
unscalar_sited w order t (u ∷ us) a = by (w.scalar u.ty) (unscalar_sited w order t us a.1)
  where
    by : (b : Bool) → AllSited w order t (unscalar w us) → AllSited w order t (if b then unscalar w us else u ∷ unscalar w us)
    by true k = k
    by false k = (a.0, k)

-- all pass a test where as many do
fewer : (h : ℕ → Bool) (us : List Known) → length (numbers (those h us)) ≤ length (numbers us)
fewer h [] = omega arith
fewer h (u ∷ us) = by (h u.binder) (fewer h us)
  where
    by : (b : Bool) → length (numbers (those h us)) ≤ length (numbers us) → length (numbers (if b then u ∷ those h us else those h us)) ≤ suc (length (numbers us))
    by true l = omega (arith, l)
    by false l = omega (arith, l)

less_test : (m n : ℕ) → m ≤ n → (m == suc n) ≡ false
less_test m n l = ne_eqb m (suc n) (λ e. absurd (omega (arith, e, l)))

pub all_test : (h : ℕ → Bool) (us : List Known) → (length (numbers (those h us)) == length (numbers us)) ≡ all_those h us
all_test h [] = eq-eqb 0 0 refl
all_test h (u ∷ us) = by (h u.binder) (all_test h us)
  where
    by : (b : Bool) → (length (numbers (those h us)) == length (numbers us)) ≡ all_those h us → (length (numbers (if b then u ∷ those h us else those h us)) == suc (length (numbers us))) ≡ (b && all_those h us)
    by true e = suc_test (length (numbers (those h us))) (length (numbers us)) ∙ e
    by false e = less_test (length (numbers (those h us))) (length (numbers us)) (fewer h us)

-- ---- nodes

weakened_is : (b c : Bool) (o : Owned) (there : List Known) (have : ℕ → ℕ) (t : Tree) → b ≡ c → o.variables ≡ numbers there → W.credits o.credits ≡ M.credits have → W.weakened b o t ≡ M.weakened c there have t
weakened_is true true o there have t e f g = refl
weakened_is false false o there have t e f g = ap₂ (λ xs cs. Branch R.Weaken xs cs (MoreTrees t NoTrees)) f g
weakened_is true false o there have t e f g = absurd (cc)
weakened_is false true o there have t e f g = absurd (cc)

pub node_is : (r : RuleName) (h : ℕ → Bool) (there : List Known) (have needed : ℕ → ℕ) (o : Owned) (xs need : List ℕ) (ts : Trees) → o.variables ≡ numbers there → Counts o.credits have → xs ≡ numbers (those h there) → Counts need needed → W.node r o xs need ts ≡ M.node r h there have needed ts
node_is r h there have needed o xs need ts e c f n =
    let t : W.credits need ≡ M.credits needed = credits_is need needed n in
    let b : ((length xs == length o.variables) && W.same_from o.credits need 1 16) ≡ (all_those h there && M.same_from have needed 1 16) =
    ap₂ (λ p q. (length p == length q) && W.same_from o.credits need 1 16) f e
    ∙ ap₂ (λ p q. p && q) (all_test h there) (same_by 1 16 o.credits need have needed (omega arith) (omega arith) c n) in
    ap₂ (λ p q. W.weakened ((length xs == length o.variables) && W.same_from o.credits need 1 16) o (Branch r p q ts)) f t
    ∙ weakened_is ((length xs == length o.variables) && W.same_from o.credits need 1 16) (all_those h there && M.same_from have needed 1 16) o there have (Branch r (numbers (those h there)) (M.credits needed) ts) b e (credits_is o.credits have c)

-- what is below nodes that weaken
pub record IsNode (h : ℕ → Bool) (there : List Known) (ts : Trees) (xs : List ℕ) (us : Trees) : Type 0 where
  pub variables : xs ≡ numbers (those h there)
  pub parts : us ≡ ts

same_branch : (r q : RuleName) (xs ys : List ℕ) (cs ds : List D.Credit) (ts us : Trees) → Branch r xs cs ts ≡ Branch q ys ds us → (ys ≡ xs) × (us ≡ ts)
same_branch r q xs ys cs ds ts us e = ((let k : ys ≡ xs = cc in k), (let k : us ≡ ts = cc in k))

plain_is : (fip : Bool) (d : ℕ) (r q : RuleName) (xs ys : List ℕ) (cs ds : List D.Credit) (ts us : Trees) → is_weaken r ≡ false → Under fip d (Branch r xs cs ts) (Branch q ys ds us) → (ys ≡ xs) × (us ≡ ts)
plain_is fip d r q xs ys cs ds ts us n (inl h) = same_branch r q xs ys cs ds ts us h.1
plain_is fip d r q xs ys cs ds ts us n (inr h) = absurd (let a = h.0 in cc)

under_by : (b fip : Bool) (d : ℕ) (r q : RuleName) (h : ℕ → Bool) (there : List Known) (have needed : ℕ → ℕ) (ts us : Trees) (ys : List ℕ) (ds : List D.Credit) → is_weaken r ≡ false → Under fip d (M.weakened b there have (Branch r (numbers (those h there)) (M.credits needed) ts)) (Branch q ys ds us) → is_weaken q ≡ false → IsNode h there ts ys us
under_by true fip d r q h there have needed ts us ys ds n u m = let e = plain_is fip d r q (numbers (those h there)) ys (M.credits needed) ds ts us n u in record { variables = e.0; parts = e.1 }
under_by false fip d r q h there have needed ts us ys ds n (inl u) m = absurd (let a = u.0 in cc)
under_by false fip d r q h there have needed ts us ys ds n (inr u) m = let e = plain_is fip d r q (numbers (those h there)) ys (M.credits needed) ds ts us n u.2.2 in record { variables = e.0; parts = e.1 }

pub under_is : (fip : Bool) (d : ℕ) (r q : RuleName) (h : ℕ → Bool) (there : List Known) (have needed : ℕ → ℕ) (ts us : Trees) (ys : List ℕ) (ds : List D.Credit) → is_weaken r ≡ false → Under fip d (M.node r h there have needed ts) (Branch q ys ds us) → is_weaken q ≡ false → IsNode h there ts ys us
under_is fip d r q h there have needed ts us ys ds n u m = under_by (all_those h there && M.same_from have needed 1 16) fip d r q h there have needed ts us ys ds n u m
