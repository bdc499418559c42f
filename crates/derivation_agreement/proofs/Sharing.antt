-- What a derivation's node has, by the numbers that the calculus knows its variables by.
use Rattle.std.proofs.Common.{◌≡◌, ◌⊎◌, inl, inr, ℕ, zero, suc, ◌≤◌, ◌+◌, refl, sym, ap, ◌∙◌, List, [], ◌∷◌, Option, Some, None, Bool, true, false, arith}
use Rattle.derivation_making.specs.ownership_calculus.Terms.{Item, Own, Credit, paid, charge}
use Rattle.derivation_making.specs.ownership_calculus.Rules.{Fits}
use Rattle.derivation_walk.specs.derivation_trees.declared.derivation.RuleName.{RuleName}
use Rattle.derivation_walk.specs.derivation_trees.declared.derivation.Credit as D
use Rattle.derivation_walk.specs.derivation_trees.Trees.{Tree, Missing, Branch, Trees, NoTrees, MoreTrees}
use Rattle.derivation_making.specs.derivation_check.Owned.{owned, root, Under}
use Rattle.derivation_making.specs.derivation_check.Scopes.{Known, known}

abbrev pub count_of : (Item → ℕ) → Option Known → ℕ
count_of O None = 0
count_of O (Some v) = O (Own v.number)

abbrev pub env : List Known → (Item → ℕ) → Item → ℕ
env vs O (Own x) = count_of O (known vs x)
env vs O (Credit k) = O (Credit k)

sum_of : (O A B : Item → ℕ) → ((i : Item) → O i ≡ A i + B i) → (o : Option Known) → count_of O o ≡ count_of A o + count_of B o
sum_of O A B h None = refl
sum_of O A B h (Some v) = h (Own v.number)

pub env_sum : (vs : List Known) (O A B : Item → ℕ) → ((i : Item) → O i ≡ A i + B i) → (i : Item) → env vs O i ≡ env vs A i + env vs B i
env_sum vs O A B h (Own x) = sum_of O A B h (known vs x)
env_sum vs O A B h (Credit k) = h (Credit k)

none_of : (O : Item → ℕ) → ((i : Item) → O i ≡ 0) → (o : Option Known) → count_of O o ≡ 0
none_of O h None = refl
none_of O h (Some v) = h (Own v.number)

pub env_none : (vs : List Known) (O : Item → ℕ) → ((i : Item) → O i ≡ 0) → (i : Item) → env vs O i ≡ 0
env_none vs O h (Own x) = none_of O h (known vs x)
env_none vs O h (Credit k) = h (Credit k)

pub fits_same : (fip : Bool) (a b : ℕ) → a ≡ b → Fits fip a b
fits_same true a b e = e
fits_same false a b e = omega arith

fits_of : (fip : Bool) (O A : Item → ℕ) → ((i : Item) → Fits fip (O i) (A i)) → (o : Option Known) → Fits fip (count_of O o) (count_of A o)
fits_of fip O A h None = fits_same fip 0 0 refl
fits_of fip O A h (Some v) = h (Own v.number)

pub env_fits : (fip : Bool) (vs : List Known) (O A : Item → ℕ) → ((i : Item) → Fits fip (O i) (A i)) → (i : Item) → Fits fip (env vs O i) (env vs A i)
env_fits fip vs O A h (Own x) = fits_of fip O A h (known vs x)
env_fits fip vs O A h (Credit k) = h (Credit k)

-- credits alone
paid_of : (n : ℕ) (o : Option Known) → count_of (paid n) o ≡ 0
paid_of n None = refl
paid_of zero (Some v) = refl
paid_of (suc n) (Some v) = refl

pub paid_own : (n x : ℕ) → paid n (Own x) ≡ 0
paid_own zero x = refl
paid_own (suc n) x = refl

pub env_paid : (vs : List Known) (n : ℕ) (i : Item) → env vs (paid n) i ≡ paid n i
env_paid vs n (Own x) = paid_of n (known vs x) ∙ sym (paid_own n x)
env_paid vs n (Credit k) = refl

charge_of : (ks : List ℕ) (o : Option Known) → count_of (charge ks) o ≡ 0
charge_of ks None = refl
charge_of ks (Some v) = refl

pub env_charge : (vs : List Known) (ks : List ℕ) (i : Item) → env vs (charge ks) i ≡ charge ks i
env_charge vs ks (Own x) = charge_of ks (known vs x)
env_charge vs ks (Credit k) = refl

pub nothing : (i : Item) → owned [] [] i ≡ 0
nothing (Own x) = refl
nothing (Credit k) = refl

fits_below : (fip : Bool) (a b c : ℕ) → fip ≡ false → b ≤ a → Fits fip b c → Fits fip a c
fits_below true a b c e l h = absurd (cc)
fits_below false a b c e l h = omega arith

pub under_fits : (fip : Bool) (d : ℕ) (t u : Tree) → Under fip d t u → (i : Item) → Fits fip (root t i) (root u i)
under_fits fip d Missing u h i = absurd h
under_fits fip d (Branch r xs cs ts) u (inl h) i = fits_same fip (owned xs cs i) (root u i) (ap (λ v. root v i) h.1)
under_fits fip d (Branch r xs cs NoTrees) u (inr h) i = absurd h.2
under_fits fip d (Branch r xs cs (MoreTrees t NoTrees)) u (inr h) i = fits_below fip (owned xs cs i) (root t i) (root u i) h.1 (h.2.1 i) (under_fits fip d t u h.2.2 i)
under_fits fip d (Branch r xs cs (MoreTrees t (MoreTrees s ts))) u (inr h) i = absurd h.2
