-- Arguments as the walk derives them are as they are defined.
use Rattle.std.proofs.Common.{◌≡◌, ℕ, zero, suc, ◌<◌, ◌≤◌, ◌+◌, refl, sym, ap, ap₂, subst, ◌∙◌, inl, inr, append_assoc, List, [], ◌∷◌, ◌++◌, Option, Some, None, Bool, true, false, not, ◌&&◌, ◌||◌, arith}
use Rattle.std.proofs.lemmas.List.{append-nil}
use Rattle.std.specs.Prelude.{◌==◌, if◌then◌else◌, slice_get}
use Rattle.tail_groups.specs.fip_base.declared.plain.Param.{Param}
use Rattle.tail_groups.specs.fip_language.declared.FunKind.{FunKind}
use Rattle.tail_groups.specs.fip_trees.Sizes.{no_sizes}
use Rattle.tail_groups.specs.fip_trees.declared.program.Binder.{Binder}
use Rattle.tail_groups.specs.fip_trees.declared.needs.Need.{Need}
use Rattle.tail_groups.specs.fip_trees.Tree.{Argument, Variable, Literal, Constructor, Arguments, NoArguments, MoreArguments, count, Pattern, BinderPattern, LiteralPattern, ConstructorPattern, Patterns, NoPatterns, MorePatterns, Instance}
use Rattle.derivation_walk.specs.fip_rules.World.{World, is_fip}
use Rattle.derivation_walk.specs.fip_rules.Shapes.{binders, binders_all}
use Rattle.derivation_walk.specs.credit_check.Needs.{made, made_all}
use Rattle.derivation_walk.specs.credit_check.Tallies.{made_from}
use Rattle.derivation_making.specs.ownership_calculus.Terms.{Item, Own, given, one, paid}
use Rattle.derivation_walk.specs.derivation_trees.declared.derivation.RuleName.{RuleName}
use Rattle.derivation_walk.specs.derivation_trees.declared.derivation.RuleName.TheVariants as R
use Rattle.derivation_walk.specs.derivation_trees.declared.derivation.Credit as D
use Rattle.derivation_walk.specs.derivation_trees.Trees.{Tree, Branch, Trees, NoTrees, MoreTrees}
use Rattle.derivation_making.specs.derivation_check.Owned.{owned, root, roots, Rising, IsOwned, AreOwned, is_weaken, Under, Leaf, Splits}
use Rattle.derivation_making.specs.derivation_check.Scopes.{Known, Scope, known, meant, named}
use Rattle.derivation_making.specs.derivation_check.Calculus.{Choice, UsesVariable, DerivesValue, DerivesValues, DerivesPassed, FirstOf}
use Rattle.derivation_walk.specs.declared.found.Bound.{Bound}
use Rattle.derivation_walk.specs.declared.tables.Uses.{Uses}
use Rattle.derivation_walk.specs.Lookups.{number_at, variable_at, is_scalar_at, scalar_of}
use Rattle.derivation_making.specs.Uses.{names, occurs_value, occurs_values}
use Rattle.derivation_making.specs.Made as M
use Rattle.derivation_making.specs.Made.{those, numbers, unscalar, rule_of_variable, constructor_rule, rule_of, made_value, made_values, made_fields, made_passed}
use Rattle.derivation_walk.specs.Walked as W
use Rattle.derivation_walk.specs.Walked.{Guided, owning_variable, owning, owning_all, sorted, value, values, fields, passed, bound, bound_all, bound_pattern, bound_patterns}
use Rattle.derivation_walk.proofs.credit_check.Amounts.{Long, none_long, none_at, made_long, made_at, from_none}
use Rattle.derivation_agreement.proofs.Sited.{Sited, AllSited, sited_known}
use Rattle.derivation_agreement.proofs.Ranks.{sorted_as}
use Rattle.derivation_agreement.proofs.Nodes.{Counts, credits_is, numbers_append}
use Rattle.derivation_agreement.proofs.Sharing.{paid_own}
use Rattle.derivation_making.proofs.Arguments.{not_weaken_constructor as not_constructor, not_weaken_variable as not_weaken}

-- ---- lists

given_both : (y : ℕ) (xs ys : List ℕ) → given y (xs ++ ys) ≡ given y xs + given y ys
given_both y [] ys = omega arith
given_both y (x ∷ xs) ys = ap (λ n. one x y + n) (given_both y xs ys) ∙ more (one x y) (given y xs) (given y ys)
  where
    more : (a b c : ℕ) → a + (b + c) ≡ (a + b) + c
    more a b c = omega arith

-- ---- the variables of an argument

after_variable : (g : Guided) (xs : List ℕ) (x : Option ℕ) → owning_variable g xs x ≡ xs ++ owning_variable g [] x
after_variable g xs None = sym (append-nil xs)
after_variable g xs (Some x) = by (is_scalar_at g.uses (number_at g.uses x))
  where
    by : (b : Bool) → (if b then xs else xs ++ number_at g.uses x ∷ []) ≡ xs ++ (if b then [] else [] ++ number_at g.uses x ∷ [])
    by true = sym (append-nil xs)
    by false = refl

mutual
  after_value : (g : Guided) (xs : List ℕ) (a : Argument) → owning g xs a ≡ xs ++ owning g [] a
  after_value g xs (Variable x n p) = after_variable g xs x
  after_value g xs (Literal i p) = sym (append-nil xs)
  after_value g xs (Constructor t d c n p as') = after_values g xs as'

  after_values : (g : Guided) (xs : List ℕ) (as' : Arguments) → owning_all g xs as' ≡ xs ++ owning_all g [] as'
  after_values g xs NoArguments = sym (append-nil xs)
  after_values g xs (MoreArguments a as') =
      after_values g (owning g xs a) as' ∙ ap (λ z. z ++ owning_all g [] as') (after_value g xs a)
      ∙ append_assoc xs (owning g [] a) (owning_all g [] as')
      ∙ ap (λ z. xs ++ z) (sym (after_values g (owning g [] a) as'))

-- ---- what is looked up

-- whether a variable in scope is scalar
scalar_is : (w : World) (order : List Bound) (u : Uses) (vs : List Known) (x : ℕ) (v : Known) → AllSited w order u vs → known vs x ≡ Some v → is_scalar_at u (number_at u x) ≡ w.scalar v.ty
scalar_is w order u vs x v h e =
    let s = sited_known w order u vs x v h e in
    ap (λ y. is_scalar_at u (number_at u y)) (sym s.1) ∙ ap (is_scalar_at u) s.0.number ∙ ap scalar_of s.0.variable

number_is : (w : World) (order : List Bound) (u : Uses) (vs : List Known) (x : ℕ) (v : Known) → AllSited w order u vs → known vs x ≡ Some v → number_at u x ≡ v.number
number_is w order u vs x v h e = let s = sited_known w order u vs x v h e in ap (number_at u) (sym s.1) ∙ s.0.number

used_there : (w : World) (d : ℕ) (o : Option Known) (t : Tree) → UsesVariable w d o t → (v : Known) × (o ≡ Some v)
used_there w d None t h = absurd h
used_there w d (Some v) t h = (v, refl)

-- a leaf has nothing, a variable's node just it
leaf_none : (fip : Bool) (d : ℕ) (q : RuleName) (xs : List ℕ) (cs : List D.Credit) → is_weaken q ≡ false → Under fip d (Branch q xs cs NoTrees) (Branch R.Scalar [] [] NoTrees) → xs ≡ []
leaf_none fip d q xs cs n (inl h) = let e = h.1 in (let k : xs ≡ [] = cc in k)
leaf_none fip d q xs cs n (inr h) = absurd (let a = h.0 in cc)

one_alone : (fip : Bool) (d x : ℕ) (q : RuleName) (xs : List ℕ) (cs : List D.Credit) → is_weaken q ≡ false → Under fip d (Branch q xs cs NoTrees) (Branch R.Variable (x ∷ []) [] NoTrees) → xs ≡ x ∷ []
one_alone fip d x q xs cs n (inl h) = let e = h.1 in (let k : xs ≡ x ∷ [] = cc in k)
one_alone fip d x q xs cs n (inr h) = absurd (let a = h.0 in cc)

-- of a variable that is used, just what the node has
variable_has : (w : World) (order : List Bound) (u : Uses) (ns : List Need) (vs have : List Known) (d : ℕ) (x : Option ℕ) → AllSited w order u vs → UsesVariable w d (meant vs x) (Branch (rule_of_variable w (meant vs x)) (numbers (those (λ y. names y x) have)) [] NoTrees) → numbers (those (λ y. names y x) have) ≡ owning_variable (record { world = w; uses = u; needs = ns }) [] x
variable_has w order u ns vs have d None h us = absurd us
variable_has w order u ns vs have d (Some x) h us =
    let v = used_there w d (known vs x) (Branch (rule_of_variable w (known vs x)) (numbers (those (λ y. names y (Some x)) have)) [] NoTrees) us in
    by v.0 (w.scalar v.0.ty) refl v.1 (subst (λ o. UsesVariable w d o (Branch (rule_of_variable w (known vs x)) (numbers (those (λ y. names y (Some x)) have)) [] NoTrees)) v.1 us)
  where
    by : (v : Known) (b : Bool) → w.scalar v.ty ≡ b → known vs x ≡ Some v → UsesVariable w d (Some v) (Branch (rule_of_variable w (known vs x)) (numbers (those (λ y. names y (Some x)) have)) [] NoTrees)
        → numbers (those (λ y. names y (Some x)) have) ≡ (if is_scalar_at u (number_at u x) then [] else [] ++ number_at u x ∷ [])
    by v true s e k =
        let l = subst (λ b. Choice b (Leaf (is_fip w.kind) d R.Scalar (Branch (rule_of_variable w (known vs x)) (numbers (those (λ y. names y (Some x)) have)) [] NoTrees)) (Under (is_fip w.kind) d (Branch (rule_of_variable w (known vs x)) (numbers (those (λ y. names y (Some x)) have)) [] NoTrees) (Branch R.Variable (v.number ∷ []) [] NoTrees))) s k in
        leaf_none (is_fip w.kind) d (rule_of_variable w (known vs x)) (numbers (those (λ y. names y (Some x)) have)) [] (not_weaken w (known vs x)) l
        ∙ ap (λ b. if b then [] else [] ++ number_at u x ∷ []) (sym (scalar_is w order u vs x v h e ∙ s))
    by v false s e k =
        let l = subst (λ b. Choice b (Leaf (is_fip w.kind) d R.Scalar (Branch (rule_of_variable w (known vs x)) (numbers (those (λ y. names y (Some x)) have)) [] NoTrees)) (Under (is_fip w.kind) d (Branch (rule_of_variable w (known vs x)) (numbers (those (λ y. names y (Some x)) have)) [] NoTrees) (Branch R.Variable (v.number ∷ []) [] NoTrees))) s k in
        one_alone (is_fip w.kind) d v.number (rule_of_variable w (known vs x)) (numbers (those (λ y. names y (Some x)) have)) [] (not_weaken w (known vs x)) l
        ∙ ap (λ (n : ℕ). n ∷ []) (sym (number_is w order u vs x v h e))
        ∙ ap (λ b. if b then [] else [] ++ number_at u x ∷ []) (sym (scalar_is w order u vs x v h e ∙ s))

-- ---- how often a variable is there

given_none : (y : ℕ) (us : List Known) → given y (numbers (those (λ x. false) us)) ≡ 0
given_none y [] = refl
given_none y (u ∷ us) = given_none y us

abbrev pub guide : World → Uses → List Need → Guided
guide w u ns = record { world = w; uses = u; needs = ns }

same_parts : (r q : RuleName) (xs ys : List ℕ) (cs ds : List D.Credit) (ts us : Trees) → Branch r xs cs ts ≡ Branch q ys ds us → (ys ≡ xs) × (ds ≡ cs) × (us ≡ ts)
same_parts r q xs ys cs ds ts us e = ((let k : ys ≡ xs = cc in k), (let k : ds ≡ cs = cc in k), (let k : us ≡ ts = cc in k))

plain_parts : (fip : Bool) (d : ℕ) (r q : RuleName) (xs ys : List ℕ) (cs ds : List D.Credit) (ts us : Trees) → is_weaken r ≡ false → Under fip d (Branch r xs cs ts) (Branch q ys ds us) → (ys ≡ xs) × (ds ≡ cs) × (us ≡ ts)
plain_parts fip d r q xs ys cs ds ts us n (inl h) = same_parts r q xs ys cs ds ts us h.1
plain_parts fip d r q xs ys cs ds ts us n (inr h) = absurd (let a = h.0 in cc)

root_given : (w : World) (vs have : List Known) (a : Argument) (y : ℕ) → root (made_value w vs have a) (Own y) ≡ given y (numbers (those (λ x. occurs_value x a) have))
root_given w vs have (Variable x n p) y = refl
root_given w vs have (Literal i p) y = sym (given_none y have)
root_given w vs have (Constructor t d c n p as') y = refl

zero_plus : (n : ℕ) → 0 + n ≡ n
zero_plus n = omega arith

-- the rule of a variable that is used
pub rule_there : (w : World) (order : List Bound) (u : Uses) (ns : List Need) (vs : List Known) (d : ℕ) (x : Option ℕ) (t : Tree) → AllSited w order u vs → UsesVariable w d (meant vs x) t → W.rule_of_variable (guide w u ns) x ≡ rule_of_variable w (meant vs x)
rule_there w order u ns vs d None t h us = absurd us
rule_there w order u ns vs d (Some x) t h us =
    let v = used_there w d (known vs x) t us in
    ap (λ b. if b then R.Scalar else R.Variable) (scalar_is w order u vs x v.0 h v.1) ∙ sym (ap (rule_of_variable w) v.1)

module _ (w : World) (order : List Bound) (u : Uses) (ns : List Need) (vs have : List Known) (d : ℕ) (sited : AllSited w order u vs) where
  mutual
    value_given : (a : Argument) → DerivesValue w vs d (made_value w vs have a) a → (y : ℕ) → root (made_value w vs have a) (Own y) ≡ given y (owning (guide w u ns) [] a)
    value_given (Variable x n p) h y = ap (given y) (variable_has w order u ns vs have d x sited h)
    value_given (Literal i p) h y = refl
    value_given (Constructor t e c n p NoArguments) h y =
        let k = plain_parts (is_fip w.kind) d R.Atom R.Atom (numbers (those (λ x. occurs_values x NoArguments) have)) [] (M.credits (λ j. made j (Constructor t e c n p NoArguments))) [] NoTrees NoTrees refl h in
        ap (given y) (sym k.0)
    value_given (Constructor t e c n p (MoreArguments a as')) h y =
        let k = plain_parts (is_fip w.kind) d R.Reuse R.Reuse (numbers (those (λ x. occurs_values x (MoreArguments a as')) have)) h.0 (M.credits (λ j. made j (Constructor t e c n p (MoreArguments a as')))) h.1 (made_values w vs have (MoreArguments a as')) h.2 refl h.3 in
        let s = h.5 (Own y) in
        let q : DerivesValues w vs d (made_values w vs have (MoreArguments a as')) (MoreArguments a as') = subst (λ ts. DerivesValues w vs d ts (MoreArguments a as')) k.2 h.6 in
        let r = values_given (MoreArguments a as') q y in
        ap (given y) (sym k.0) ∙ s ∙ ap (λ ts. 0 + roots ts (Own y)) k.2 ∙ zero_plus (roots (made_values w vs have (MoreArguments a as')) (Own y)) ∙ r

    values_given : (as' : Arguments) → DerivesValues w vs d (made_values w vs have as') as' → (y : ℕ) → roots (made_values w vs have as') (Own y) ≡ given y (owning_all (guide w u ns) [] as')
    values_given NoArguments h y = refl
    values_given (MoreArguments a as') h y =
        ap₂ (λ m n. m + n) (value_given a h.0 y) (values_given as' h.1 y)
        ∙ sym (ap (given y) (after_values (guide w u ns) (owning (guide w u ns) [] a) as') ∙ given_both y (owning (guide w u ns) [] a) (owning_all (guide w u ns) [] as'))

  -- ---- trees

  counts_made : (a : Argument) → Counts (made_from no_sizes a) (λ k. made k a)
  counts_made a = record { long = made_long no_sizes a none_long; at = λ k l m. from_none _ _ (made k a) (made_at k l m no_sizes a none_long) (none_at k) }

  mutual
    pub value_is : (a : Argument) → IsOwned d (made_value w vs have a) → DerivesValue w vs d (made_value w vs have a) a → value (guide w u ns) a ≡ made_value w vs have a
    value_is (Variable x n p) o h =
        ap₂ (λ r xs. Branch r xs [] NoTrees) (rule_there w order u ns vs d x (Branch (rule_of_variable w (meant vs x)) (numbers (those (λ y. names y x) have)) [] NoTrees) sited h)
        (sorted_as d (owning_variable (guide w u ns) [] x) (numbers (those (λ y. names y x) have)) o.0 (λ y. value_given (Variable x n p) h y))
    value_is (Literal i p) o h = refl
    value_is (Constructor t e c n p NoArguments) o h =
        ap₂ (λ xs cs. Branch R.Atom xs cs NoTrees)
        (sorted_as d [] (numbers (those (λ x. occurs_values x NoArguments) have)) o.0 (λ y. value_given (Constructor t e c n p NoArguments) h y))
        (credits_is _ _ (counts_made (Constructor t e c n p NoArguments)))
    value_is (Constructor t e c n p (MoreArguments a as')) o h =
        let k = plain_parts (is_fip w.kind) d R.Reuse R.Reuse (numbers (those (λ x. occurs_values x (MoreArguments a as')) have)) h.0 (M.credits (λ j. made j (Constructor t e c n p (MoreArguments a as')))) h.1 (made_values w vs have (MoreArguments a as')) h.2 refl h.3 in
        let q : DerivesValues w vs d (made_values w vs have (MoreArguments a as')) (MoreArguments a as') = subst (λ ts. DerivesValues w vs d ts (MoreArguments a as')) k.2 h.6 in
        let o1 : AreOwned d (made_values w vs have (MoreArguments a as')) = subst (AreOwned d) k.2 h.4 in
        ap₂ (λ xs cs. Branch R.Reuse xs cs (values (guide w u ns) (MoreArguments a as')))
        (sorted_as d (owning_all (guide w u ns) [] (MoreArguments a as')) (numbers (those (λ x. occurs_values x (MoreArguments a as')) have)) o.0 (λ y. value_given (Constructor t e c n p (MoreArguments a as')) h y))
        (credits_is _ _ (counts_made (Constructor t e c n p (MoreArguments a as'))))
        ∙ ap (Branch R.Reuse (numbers (those (λ x. occurs_values x (MoreArguments a as')) have)) (M.credits (λ j. made j (Constructor t e c n p (MoreArguments a as'))))) (values_is (MoreArguments a as') o1 q)

    pub values_is : (as' : Arguments) → AreOwned d (made_values w vs have as') → DerivesValues w vs d (made_values w vs have as') as' → values (guide w u ns) as' ≡ made_values w vs have as'
    values_is NoArguments o h = refl
    values_is (MoreArguments a as') o h = ap₂ MoreTrees (value_is a o.0 h.0) (values_is as' o.1 h.1)
