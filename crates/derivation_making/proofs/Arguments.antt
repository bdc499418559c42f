-- Arguments: what is made of them derives them, and has what the variables and credits for them are.
use Rattle.std.proofs.Common.{◌≡◌, ℕ, zero, suc, ◌<◌, ◌≤◌, ◌+◌, ◌⊎◌, inl, inr, refl, sym, ap, subst, ◌∙◌, List, [], ◌∷◌, Option, Some, None, Bool, true, false, arith}
use Rattle.std.specs.Prelude.{◌==◌, ◌||◌, if◌then◌else◌}
use Rattle.std.proofs.lemmas.Bool.Decides.{nat_tests}
use Rattle.type_check.specs.fip_language.declared.Place.{Place}
use Rattle.derivation_check.specs.fip_trees.Sizes.{one_if}
use Rattle.derivation_check.specs.fip_trees.Tree.{Name, Program, Argument, Variable, Literal, Constructor, Arguments, NoArguments, MoreArguments, count}
use Rattle.ownership_agreement.specs.fip_rules.World.{World, is_fip}
use Rattle.ownership_agreement.specs.fip_rules.Shapes as H
use Rattle.ownership_agreement.specs.fip_rules.Shapes.{Names}
use Rattle.ownership_agreement.specs.credit_check.Needs.{made, made_all}
use Rattle.ownership_agreement.specs.ownership_calculus.Terms as T
use Rattle.ownership_agreement.specs.ownership_calculus.Terms.{Item, Own, Credit, one, given, paid, size}
use Rattle.ownership_agreement.specs.ownership_calculus.Clean.{used_up, all_used_up}
use Rattle.ownership_agreement.specs.Bodies.{Scalars, variable, value, values}
use Rattle.ownership_agreement.specs.Sized.{SizedArgument, SizedArguments}
use Rattle.ownership_agreement.proofs.Amounts.{IsOut}
use Rattle.ownership_agreement.proofs.Basics.{pos}
use Rattle.derivation_check.specs.derivation_trees.declared.derivation.RuleName.{RuleName}
use Rattle.derivation_check.specs.derivation_trees.declared.derivation.RuleName.TheVariants as R
use Rattle.derivation_check.specs.derivation_trees.declared.derivation.Credit as D
use Rattle.derivation_check.specs.derivation_trees.Trees.{Tree, Branch, Trees, NoTrees}
use Rattle.derivation_check.specs.Owned.{amount, owned, root, roots, Rising, IsOwned, AreOwned, is_weaken, Under, Leaf}
use Rattle.derivation_check.specs.Scopes.{Known, known, meant}
use Rattle.derivation_check.specs.Calculus.{Choice, UsesVariable, DerivesValue, DerivesValues}
use Rattle.derivation_making.specs.Uses.{names, occurs_value, occurs_values}
use Rattle.derivation_making.specs.Made.{those, numbers, credits, rule_of_variable, constructor_rule, rule_of, made_value, made_values, made_fields}
use Rattle.derivation_making.specs.Fitting.{FitsValue, FitValues}
use Rattle.derivation_making.proofs.Lists.{flag, tally, AreKnown, EachOf, each_of, given_split, never_those, none_found, find_one, rising_those, not_both}
use Rattle.derivation_making.proofs.Credits.{by_size, amount_in, amount_out, rising_credits, no_credits}
use Rattle.derivation_making.proofs.Linking.{Linked, there_before}
use Rattle.derivation_making.proofs.Reading.{there_is, value_pos, values_pos}
pub use Rattle.ownership_agreement.proofs.Amounts.{zero_none}

-- the variables that arguments may take, each once
pub record Holding (w : World) (vs : List Known) (c : Names) (sc : Scalars) (d : ℕ) (have : List Known) : Type 0 where
  pub linked : Linked w vs c sc
  pub are_known : AreKnown w vs have
  pub rising : Rising 0 d (numbers have)
  pub single : (x : ℕ) → tally x have ≤ 1

pub flag_sum : (a b : Bool) (m n : ℕ) → a ≡ pos m → b ≡ pos n → m + n ≤ 1 → flag a + flag b ≡ flag (a || b)
flag_sum a b m n e f l = ap (λ t. flag t + flag b) e ∙ ap (λ t. flag (pos m) + flag t) f ∙ sums m n l ∙ ap (λ t. flag (pos m || t)) (sym f) ∙ ap (λ t. flag (t || b)) (sym e)
  where
    sums : (m n : ℕ) → m + n ≤ 1 → flag (pos m) + flag (pos n) ≡ flag (pos m || pos n)
    sums zero n l = omega arith
    sums (suc m) zero l = omega arith
    sums (suc m) (suc n) l = absurd (omega arith)

pub each_item : (P : Item → Type 0) → ((y : ℕ) → P (Own y)) → ((k : ℕ) → P (Credit k)) → (i : Item) → P i
each_item P f g (Own y) = f y
each_item P f g (Credit k) = g k

-- ---- what a node for an argument has

pub value_own : (w : World) (vs have : List Known) (a : Argument) (y : ℕ) → root (made_value w vs have a) (Own y) ≡ given y (numbers (those (λ x. occurs_value x a) have))
value_own w vs have (Variable x n p) y = refl
value_own w vs have (Literal i p) y = ap (λ (us : List Known). given y (numbers us)) (sym (never_those have))
value_own w vs have (Constructor t d c n p as') y = refl

pub value_in : (w : World) (vs have : List Known) (a : Argument) (k : ℕ) → 0 < k → k < 17 → root (made_value w vs have a) (Credit k) ≡ made k a
value_in w vs have (Variable x n p) k h l = refl
value_in w vs have (Literal i p) k h l = refl
value_in w vs have (Constructor t d c n p as') k h l = amount_in (λ j. made j (Constructor t d c n p as')) k h l

pub value_out : (w : World) (vs have : List Known) (a : Argument) (k : ℕ) → IsOut k → root (made_value w vs have a) (Credit k) ≡ 0
value_out w vs have (Variable x n p) k h = refl
value_out w vs have (Literal i p) k h = refl
value_out w vs have (Constructor t d c n p as') k h = amount_out (λ j. made j (Constructor t d c n p as')) k h

pub value_owned : (w : World) (vs have : List Known) (d : ℕ) (a : Argument) → Rising 0 d (numbers have) → IsOwned d (made_value w vs have a)
value_owned w vs have d (Variable x n p) r = (rising_those (λ y. names y x) 0 d have r, tt)
value_owned w vs have d (Literal i p) r = (tt, tt)
value_owned w vs have d (Constructor t e c n p as') r = (rising_those (λ x. occurs_values x as') 0 d have r, rising_credits (λ j. made j (Constructor t e c n p as')))

pub values_in : (w : World) (vs have : List Known) (as' : Arguments) (k : ℕ) → 0 < k → k < 17 → roots (made_values w vs have as') (Credit k) ≡ made_all k as'
values_in w vs have NoArguments k h l = refl
values_in w vs have (MoreArguments a as') k h l = let x = value_in w vs have a k h l in let y = values_in w vs have as' k h l in omega arith

pub values_out : (w : World) (vs have : List Known) (as' : Arguments) (k : ℕ) → IsOut k → roots (made_values w vs have as') (Credit k) ≡ 0
values_out w vs have NoArguments k h = refl
values_out w vs have (MoreArguments a as') k h = let x = value_out w vs have a k h in let y = values_out w vs have as' k h in omega arith

pub values_owned : (w : World) (vs have : List Known) (d : ℕ) (as' : Arguments) → Rising 0 d (numbers have) → AreOwned d (made_values w vs have as')
values_owned w vs have d NoArguments r = tt
values_owned w vs have d (MoreArguments a as') r = (value_owned w vs have d a r, values_owned w vs have d as' r)

-- each variable goes to just one of an argument and those after it
pub one_part : (w : World) (vs : List Known) (c : Names) (sc : Scalars) (d : ℕ) (have : List Known) (a : Argument) (as' : Arguments) (m : ℕ → ℕ) → Holding w vs c sc d have → FitsValue vs a → ((x : ℕ) → sc x ≡ false → occurs_values x as' ≡ pos (m x)) → ((x : ℕ) → used_up (value sc c.marks a) (Own x) + m x ≤ tally x have) → EachOf (λ x. flag (occurs_value x a) + flag (occurs_values x as') ≡ flag (occurs_value x a || occurs_values x as')) have
one_part w vs c sc d have a as' m h f g u =
    each_of (λ x. flag (occurs_value x a) + flag (occurs_values x as') ≡ flag (occurs_value x a || occurs_values x as')) have
    (λ x t.
    let b = there_before w vs c sc have x h.linked h.are_known t in
    flag_sum (occurs_value x a) (occurs_values x as') (used_up (value sc c.marks a) (Own x)) (m x) (value_pos w vs c sc x a h.linked f b.1) (g x b.1) (let e = u x in let s = h.single x in omega arith))

pub values_own : (w : World) (vs : List Known) (c : Names) (sc : Scalars) (d : ℕ) (have : List Known) (as' : Arguments) → Holding w vs c sc d have → FitValues vs as' → ((x : ℕ) → all_used_up (values sc c.marks as') (Own x) ≤ tally x have) → (y : ℕ) → roots (made_values w vs have as') (Own y) ≡ given y (numbers (those (λ x. occurs_values x as') have))
values_own w vs c sc d have NoArguments h f u y = ap (λ (us : List Known). given y (numbers us)) (sym (never_those have))
values_own w vs c sc d have (MoreArguments a as') h f u y =
    let x = value_own w vs have a y in
    let r = values_own w vs c sc d have as' h f.1 (λ z. let e : used_up (value sc c.marks a) (Own z) + all_used_up (values sc c.marks as') (Own z) ≤ tally z have = u z in omega arith) y in
    let s = given_split (λ z. occurs_value z a) (λ z. occurs_values z as') (λ z. occurs_value z a || occurs_values z as') have y
    (one_part w vs c sc d have a as' (λ z. all_used_up (values sc c.marks as') (Own z)) h f.0 (λ z e. values_pos w vs c sc z as' h.linked f.1 e) u) in
    omega arith

-- ---- they are derived

pub not_weaken_variable : (w : World) (o : Option Known) → is_weaken (rule_of_variable w o) ≡ false
not_weaken_variable w None = refl
not_weaken_variable w (Some v) = by_test (w.scalar v.ty)
  where
    by_test : (b : Bool) → is_weaken (if b then R.Scalar else R.Variable) ≡ false
    by_test true = refl
    by_test false = refl

pub not_weaken_constructor : (as' : Arguments) → is_weaken (constructor_rule as') ≡ false
not_weaken_constructor NoArguments = refl
not_weaken_constructor (MoreArguments a as') = refl

pub not_weaken : (w : World) (vs : List Known) (a : Argument) → is_weaken (rule_of w vs a) ≡ false
not_weaken w vs (Variable x n p) = not_weaken_variable w (meant vs x)
not_weaken w vs (Literal i p) = refl
not_weaken w vs (Constructor t d c n p as') = not_weaken_constructor as'

-- the node of an argument as a result
abbrev pub result_node : World → List Known → List Known → Argument → Tree
result_node w vs have a = Branch (rule_of w vs a) (numbers (those (λ x. occurs_value x a) have)) (credits (λ k. made k a)) (made_fields w vs have a)

value_node : (w : World) (vs have : List Known) (a : Argument) → made_value w vs have a ≡ result_node w vs have a
value_node w vs have (Variable x n p) = ap (λ (cs : List D.Credit). Branch (rule_of_variable w (meant vs x)) (numbers (those (λ y. names y x) have)) cs NoTrees) (sym (no_credits (λ k. made k (Variable x n p)) (λ k a b. refl)))
value_node w vs have (Literal i p) =
    ap (λ (us : List Known). Branch R.Scalar (numbers us) [] NoTrees) (sym (never_those have))
    ∙ ap (λ (cs : List D.Credit). Branch R.Scalar (numbers (those (λ x. false) have)) cs NoTrees) (sym (no_credits (λ k. made k (Literal i p)) (λ k a b. refl)))
value_node w vs have (Constructor t d c n p as') = refl

same_under : (fip : Bool) (d : ℕ) (t u : Tree) (r : RuleName) (xs : List ℕ) (cs : List D.Credit) (ts : Trees) → t ≡ u → u ≡ Branch r xs cs ts → is_weaken r ≡ false → Under fip d t u
same_under fip d t u r xs cs ts e f w = subst (λ z. Under fip d z u) (sym (e ∙ f)) (inl (w, sym f))

pub under_value : (fip : Bool) (d : ℕ) (w : World) (vs have : List Known) (a : Argument) → Under fip d (made_value w vs have a) (result_node w vs have a)
under_value fip d w vs have a = same_under fip d (made_value w vs have a) (result_node w vs have a) (rule_of w vs a) (numbers (those (λ x. occurs_value x a) have)) (credits (λ k. made k a)) (made_fields w vs have a) (value_node w vs have a) refl (not_weaken w vs a)

one_variable : (s : Bool) (w : World) (d : ℕ) (v : Known) (t : Tree) (us : List Known) → (s ≡ true → us ≡ []) → (s ≡ false → us ≡ v ∷ []) → Under (is_fip w.kind) d t (Branch (if s then R.Scalar else R.Variable) (numbers us) [] NoTrees) → Choice s (Leaf (is_fip w.kind) d R.Scalar t) (Under (is_fip w.kind) d t (Branch R.Variable (v.number ∷ []) [] NoTrees))
one_variable true w d v t us f g u = subst (λ (xs : List Known). Under (is_fip w.kind) d t (Branch R.Scalar (numbers xs) [] NoTrees)) (f refl) u
one_variable false w d v t us f g u = subst (λ (xs : List Known). Under (is_fip w.kind) d t (Branch R.Variable (numbers xs) [] NoTrees)) (g refl) u

named_one : (b : Bool) (y : ℕ) → b ≡ false → used_up (if b then T.Scalar else T.Named y) (Own y) ≡ 1
named_one true y e = absurd (cc)
named_one false y e = one_self y
  where
    one_self : (y : ℕ) → one y y ≡ 1
    one_self y = grind (arith, nat_tests)

variable_derives : (w : World) (vs : List Known) (c : Names) (sc : Scalars) (d : ℕ) (have : List Known) (t : Tree) (y : ℕ) (v : Known) → Holding w vs c sc d have → known vs y ≡ Some v → used_up (variable sc (H.known c.marks y)) (Own y) ≤ tally y have → Under (is_fip w.kind) d t (Branch (rule_of_variable w (known vs y)) (numbers (those (λ x. y == x) have)) [] NoTrees) → UsesVariable w d (known vs y) t
variable_derives w vs c sc d have t y v h k l u =
    let g = h.linked y v k in
    let m : used_up (variable sc (Some y)) (Own y) ≤ tally y have = subst (λ (o : Option ℕ). used_up (variable sc o) (Own y) ≤ tally y have) g.0 l in
    let none : w.scalar v.ty ≡ true → those (λ x. y == x) have ≡ [] = λ e. none_found y have (no_tally e) in
    let just : w.scalar v.ty ≡ false → those (λ x. y == x) have ≡ v ∷ [] = λ e.
    find_one w vs have y v h.are_known k (let z = named_one (sc y) y (g.1 ∙ e) in let s = h.single y in omega arith) in
    subst (λ (o : Option Known). UsesVariable w d o t) (sym k)
    (one_variable (w.scalar v.ty) w d v t (those (λ x. y == x) have) none just
    (subst (λ (o : Option Known). Under (is_fip w.kind) d t (Branch (rule_of_variable w o) (numbers (those (λ x. y == x) have)) [] NoTrees)) k u))
  where
    no_tally : w.scalar v.ty ≡ true → tally y have ≡ 0
    no_tally e = elim (less_or_more (tally y have)) [
      | inl z ↦ z
      | inr z ↦ absurd (not_both (w.scalar v.ty) e (sym (h.linked y v k).1 ∙ (there_before w vs c sc have y h.linked h.are_known z).1))
    ]
      where
        less_or_more : (n : ℕ) → (n ≡ 0) ⊎ (1 ≤ n)
        less_or_more zero = inl refl
        less_or_more (suc n) = inr (omega arith)

paid_size : (n k : ℕ) → paid (suc n) (Credit k) ≡ one_if (suc n == k)
paid_size n k = if_one (suc n == k)
  where
    if_one : (b : Bool) → (if b then 1 else zero) ≡ one_if b
    if_one true = refl
    if_one false = refl

pub paid_none_out : (n k : ℕ) → IsOut k → suc n < 17 → paid (suc n) (Credit k) ≡ 0
paid_none_out n k (inl e) l = grind (arith, nat_tests)
paid_none_out n k (inr g) l = grind (arith, nat_tests)

constructor_derives : (p : Program) (w : World) (vs : List Known) (c : Names) (sc : Scalars) (d : ℕ) (have : List Known) (t : Tree) (e g k : ℕ) (n : Name) (q : Place) (as' : Arguments) → Holding w vs c sc d have → FitValues vs as' → SizedArgument p (Constructor e g k n q as') → ((x : ℕ) → all_used_up (values sc c.marks as') (Own x) ≤ tally x have) → Under (is_fip w.kind) d t (result_node w vs have (Constructor e g k n q as')) → DerivesValues w vs d (made_values w vs have as') as' → DerivesValue w vs d t (Constructor e g k n q as')
constructor_derives p w vs c sc d have t e g k n q NoArguments h f z l u r =
    subst (λ (us : List Known). Under (is_fip w.kind) d t (Branch R.Atom (numbers us) [] NoTrees)) (never_those have)
    (subst (λ (cs : List D.Credit). Under (is_fip w.kind) d t (Branch R.Atom (numbers (those (λ x. false) have)) cs NoTrees)) (no_credits (λ j. made j (Constructor e g k n q NoArguments)) (λ j a b. zero_none j a)) u)
constructor_derives p w vs c sc d have t e g k n q (MoreArguments a as') h f z m u vd =
    let all = MoreArguments a as' in
    let own : (y : ℕ) → given y (numbers (those (λ x. occurs_values x all) have)) ≡ paid (suc (count as')) (Own y) + roots (made_values w vs have all) (Own y) = λ y. let r = values_own w vs c sc d have all h f m y in omega arith in
    let sizes : (j : ℕ) → amount j (credits (λ i. made i (Constructor e g k n q all))) ≡ paid (suc (count as')) (Credit j) + roots (made_values w vs have all) (Credit j) =
    by_size (λ j. amount j (credits (λ i. made i (Constructor e g k n q all))) ≡ paid (suc (count as')) (Credit j) + roots (made_values w vs have all) (Credit j))
    (λ j x y. let r = amount_in (λ i. made i (Constructor e g k n q all)) j x y in let s = values_in w vs have all j x y in let o = paid_size (count as') j in omega arith)
    (λ j o. let r = amount_out (λ i. made i (Constructor e g k n q all)) j o in let s = values_out w vs have all j o in let b = paid_none_out (count as') j o z.0 in omega arith) in (
      numbers (those (λ x. occurs_values x all) have),
      credits (λ i. made i (Constructor e g k n q all)),
      made_values w vs have all,
      u,
      values_owned w vs have d all h.rising,
      each_item (λ i. owned (numbers (those (λ x. occurs_values x all) have)) (credits (λ j. made j (Constructor e g k n q all))) i ≡ paid (suc (count as')) i + roots (made_values w vs have all) i) own sizes,
      vd,
    )

mutual
  pub value_derives : (p : Program) (w : World) (vs : List Known) (c : Names) (sc : Scalars) (d : ℕ) (have : List Known) (t : Tree) (a : Argument) → Holding w vs c sc d have → FitsValue vs a → SizedArgument p a → ((x : ℕ) → used_up (value sc c.marks a) (Own x) ≤ tally x have) → Under (is_fip w.kind) d t (result_node w vs have a) → DerivesValue w vs d t a
  value_derives p w vs c sc d have t (Variable None n q) h f z l u = absurd f
  value_derives p w vs c sc d have t (Variable (Some y) n q) h f z l u =
      let v = there_is (known vs y) f in
      variable_derives w vs c sc d have t y v.0 h v.1 (l y)
      (subst (λ (cs : List D.Credit). Under (is_fip w.kind) d t (Branch (rule_of_variable w (known vs y)) (numbers (those (λ x. y == x) have)) cs NoTrees)) (no_credits (λ k. made k (Variable (Some y) n q)) (λ k a b. refl)) u)
  value_derives p w vs c sc d have t (Literal i q) h f z l u =
      subst (λ (us : List Known). Under (is_fip w.kind) d t (Branch R.Scalar (numbers us) [] NoTrees)) (never_those have)
      (subst (λ (cs : List D.Credit). Under (is_fip w.kind) d t (Branch R.Scalar (numbers (those (λ x. false) have)) cs NoTrees)) (no_credits (λ k. made k (Literal i q)) (λ k a b. refl)) u)
  value_derives p w vs c sc d have t (Constructor e g k n q as') h f z l u =
      let m : (x : ℕ) → all_used_up (values sc c.marks as') (Own x) ≤ tally x have = λ x.
      let b : paid (size (values sc c.marks as')) (Own x) + all_used_up (values sc c.marks as') (Own x) ≤ tally x have = l x in omega arith in
      constructor_derives p w vs c sc d have t e g k n q as' h f z m u (values_derive p w vs c sc d have as' h f z.2 m)

  pub values_derive : (p : Program) (w : World) (vs : List Known) (c : Names) (sc : Scalars) (d : ℕ) (have : List Known) (as' : Arguments) → Holding w vs c sc d have → FitValues vs as' → SizedArguments p as' → ((x : ℕ) → all_used_up (values sc c.marks as') (Own x) ≤ tally x have) → DerivesValues w vs d (made_values w vs have as') as'
  values_derive p w vs c sc d have NoArguments h f z l = tt
  values_derive p w vs c sc d have (MoreArguments a as') h f z l = (
    value_derives p w vs c sc d have (made_value w vs have a) a h f.0 z.0 (λ x. let e : used_up (value sc c.marks a) (Own x) + all_used_up (values sc c.marks as') (Own x) ≤ tally x have = l x in omega arith) (under_value (is_fip w.kind) d w vs have a),
    values_derive p w vs c sc d have as' h f.1 z.1 (λ x. let e : used_up (value sc c.marks a) (Own x) + all_used_up (values sc c.marks as') (Own x) ≤ tally x have = l x in omega arith),
  )
