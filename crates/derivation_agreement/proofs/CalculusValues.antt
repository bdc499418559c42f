-- Arguments: where a tree derives them, so does the calculus.
use Rattle.std.proofs.Common.{◌≡◌, ◌⊎◌, inl, inr, ℕ, zero, suc, ◌<◌, ◌≤◌, ◌+◌, refl, sym, ap, ◌∙◌, subst, List, [], ◌∷◌, Option, Some, None, Bool, true, false, not, ◌||◌, ◌&&◌, arith}
use Rattle.std.specs.Prelude.{slice_get, ◌==◌, if◌then◌else◌}
use Rattle.tail_groups.specs.fip_base.declared.plain.Param.{Param}
use Rattle.tail_groups.specs.fip_trees.Tree.{Argument, Variable, Literal, Constructor, Arguments, NoArguments, MoreArguments, Instance, count}
use Rattle.derivation_walk.specs.fip_rules.Marks.{Mark}
use Rattle.derivation_walk.specs.fip_rules.World.{World, is_fip, lends, lends_to, lends_parameter}
use Rattle.derivation_walk.specs.fip_rules.Shapes as S
use Rattle.derivation_making.specs.ownership_calculus.Terms.{Item, Own, Credit, only, one, given, paid, charge, size}
use Rattle.derivation_making.specs.ownership_calculus.Terms as T
use Rattle.derivation_making.specs.ownership_calculus.Rules.{Fits, ValueDerivation, VAR, SCALAR, REUSE, WEAKEN_VALUE, ValuesDerivation, NONE, MORE, PassedDerivation, HEADER, LENT, GIVEN}
use Rattle.derivation_making.specs.ownership_calculus.Rules as C
use Rattle.derivation_making.specs.ownership_agreement.Bodies.{Scalars, variable, seen, value, values, lent_value, passed, header, credits_of}
use Rattle.derivation_walk.specs.derivation_trees.declared.derivation.RuleName.{RuleName}
use Rattle.derivation_walk.specs.derivation_trees.declared.derivation.RuleName.TheVariants as R
use Rattle.derivation_walk.specs.derivation_trees.Trees.{Tree, Branch, Trees, NoTrees, MoreTrees}
use Rattle.derivation_making.specs.derivation_check.Owned.{owned, root, roots, Under, Leaf, Splits}
use Rattle.derivation_making.specs.derivation_check.Scopes.{Known, Scope, known, meant}
use Rattle.derivation_making.specs.derivation_check.Calculus as P
use Rattle.derivation_agreement.proofs.Sharing.{count_of, env, env_sum, env_none, env_fits, env_paid, env_charge, nothing, under_fits, fits_same}
use Rattle.derivation_agreement.proofs.Scoping.{Sees, seen_as, one_same, one_other, one_false, either, same_number}
use Rattle.tail_groups.proofs.fip_language.Facts.{same_some_implicit as some_same}

-- what an occurrence is
pub variable_is : (w : World) (s : Scope) (c d : ℕ) (ms : List Mark) (sc : Scalars) (B : ℕ → Bool) (y : ℕ) (v : Known) (b : Bool) → Sees w s c d ms sc B → known s.variables y ≡ Some v → w.scalar v.ty ≡ b → variable sc (seen ms (Some y)) ≡ (if b then T.Scalar else T.Named y)
variable_is w s c d ms sc B y v b h k e = ap (variable sc) (h.marks y ∙ ap (seen_as y) k) ∙ ap (λ (q : Bool). if q then T.Scalar else T.Named y) (h.scalars y v k ∙ e)

-- one variable, and nothing else
pub env_only : (w : World) (s : Scope) (c d : ℕ) (ms : List Mark) (sc : Scalars) (B : ℕ → Bool) (y : ℕ) (v : Known) → Sees w s c d ms sc B → known s.variables y ≡ Some v → (i : Item) → env s.variables (only v.number) i ≡ only y i
env_only w s c d ms sc B y v h k (Credit j) = refl
env_only w s c d ms sc B y v h k (Own x) = by (known s.variables x) refl (either (y == x))
  where
    by : (o : Option Known) → known s.variables x ≡ o → ((y == x) ≡ true) ⊎ ((y == x) ≡ false) → count_of (only v.number) (known s.variables x) ≡ one y x
    by None e (inl q) = absurd (let f : Some v ≡ None = sym k ∙ ap (known s.variables) (same_number y x q) ∙ e in cc)
    by None e (inr q) = ap (count_of (only v.number)) e ∙ sym (one_false y x q)
    by (Some u) e (inl q) =
        let f : v ≡ u = some_same (sym k ∙ ap (known s.variables) (same_number y x q) ∙ e) in
        ap (count_of (only v.number)) e ∙ one_same v.number u.number (ap (λ (z : Known). z.number) f) ∙ sym (one_same y x (same_number y x q))
    by (Some u) e (inr q) =
        ap (count_of (only v.number)) e ∙ one_other v.number u.number (λ f. let g = h.apart y x v u k e f in let t = one_same y x g in let z = one_false y x q in absurd (omega arith)) ∙ sym (one_false y x q)

root_only : (r : RuleName) (n : ℕ) (i : Item) → root (Branch r (n ∷ []) [] NoTrees) i ≡ only n i
root_only r n (Own x) = let e : given x (n ∷ []) ≡ one n x + 0 = refl in omega arith
root_only r n (Credit k) = refl

pub env_same : (vs : List Known) (O A : Item → ℕ) → ((i : Item) → O i ≡ A i) → (i : Item) → env vs O i ≡ env vs A i
env_same vs O A h (Own x) = by (known vs x)
  where
    by : (o : Option Known) → count_of O o ≡ count_of A o
    by None = refl
    by (Some v) = h (Own v.number)
env_same vs O A h (Credit k) = h (Credit k)

-- what has nothing
pub leaf_value : (fip : Bool) (vs : List Known) (d : ℕ) (r : RuleName) (t : Tree) (a : T.Value) → Leaf fip d r t → ValueDerivation fip (env vs (root (Branch r [] [] NoTrees))) a → ValueDerivation fip (env vs (root t)) a
leaf_value fip vs d r t a h g = WEAKEN_VALUE {P = env vs (root (Branch r [] [] NoTrees))} (env_fits fip vs (root t) (root (Branch r [] [] NoTrees)) (under_fits fip d t (Branch r [] [] NoTrees) h)) g

size_values : (sc : Scalars) (ms : List Mark) (as' : Arguments) → size (values sc ms as') ≡ count as'
size_values sc ms NoArguments = refl
size_values sc ms (MoreArguments a as') = ap suc (size_values sc ms as')

used_derived : (w : World) (s : Scope) (c d : ℕ) (ms : List Mark) (sc : Scalars) (B : ℕ → Bool) (t : Tree) (y : ℕ) → Sees w s c d ms sc B → (o : Option Known) → known s.variables y ≡ o → P.UsesVariable w d o t → ValueDerivation (is_fip w.kind) (env s.variables (root t)) (variable sc (seen ms (Some y)))
used_derived w s c d ms sc B t y h None e g = absurd g
used_derived w s c d ms sc B t y h (Some v) e g = by (w.scalar v.ty) refl g
  where
    by : (b : Bool) → w.scalar v.ty ≡ b → P.Choice b (Leaf (is_fip w.kind) d R.Scalar t) (Under (is_fip w.kind) d t (Branch R.Variable (v.number ∷ []) [] NoTrees)) → ValueDerivation (is_fip w.kind) (env s.variables (root t)) (variable sc (seen ms (Some y)))
    by true q g = subst (ValueDerivation (is_fip w.kind) (env s.variables (root t))) (sym (variable_is w s c d ms sc B y v true h e q)) (leaf_value (is_fip w.kind) s.variables d R.Scalar t T.Scalar g (SCALAR (env_none s.variables (root (Branch R.Scalar [] [] NoTrees)) nothing)))
    by false q g = subst (ValueDerivation (is_fip w.kind) (env s.variables (root t))) (sym (variable_is w s c d ms sc B y v false h e q))
        (WEAKEN_VALUE {P = env s.variables (root (Branch R.Variable (v.number ∷ []) [] NoTrees))} (env_fits (is_fip w.kind) s.variables (root t) (root (Branch R.Variable (v.number ∷ []) [] NoTrees)) (under_fits (is_fip w.kind) d t (Branch R.Variable (v.number ∷ []) [] NoTrees) g))
        (VAR (λ i. env_same s.variables (root (Branch R.Variable (v.number ∷ []) [] NoTrees)) (only v.number) (root_only R.Variable v.number) i ∙ env_only w s c d ms sc B y v h e i)))

zero_paid : (i : Item) (n : ℕ) → n ≡ 0 → n ≡ paid 0 i + 0
zero_paid i n e = e

mutual
  pub value_derived : (w : World) (s : Scope) (c d : ℕ) (ms : List Mark) (sc : Scalars) (B : ℕ → Bool) (t : Tree) (a : Argument) → Sees w s c d ms sc B → P.DerivesValue w s.variables d t a → ValueDerivation (is_fip w.kind) (env s.variables (root t)) (value sc ms a)
  value_derived w s c d ms sc B t (Variable None n p) h g = absurd g
  value_derived w s c d ms sc B t (Variable (Some y) n p) h g = used_derived w s c d ms sc B t y h (known s.variables y) refl g
  value_derived w s c d ms sc B t (Literal i p) h g = leaf_value (is_fip w.kind) s.variables d R.Scalar t T.Scalar g (SCALAR (env_none s.variables (root (Branch R.Scalar [] [] NoTrees)) nothing))
  value_derived w s c d ms sc B t (Constructor u f k n p NoArguments) h g =
      leaf_value (is_fip w.kind) s.variables d R.Atom t (T.Built T.NoValues) g (REUSE {P = λ i. 0} (λ i. let e = env_none s.variables (root (Branch R.Atom [] [] NoTrees)) nothing i in zero_paid i (env s.variables (root (Branch R.Atom [] [] NoTrees)) i) e) (NONE (λ i. refl)))
  value_derived w s c d ms sc B t (Constructor u f k n p (MoreArguments a as')) h (xs, cs, ts, under, o, sum, more) =
      WEAKEN_VALUE {P = env s.variables (owned xs cs)} (env_fits (is_fip w.kind) s.variables (root t) (owned xs cs) (under_fits (is_fip w.kind) d t (Branch R.Reuse xs cs ts) under))
      (REUSE {P = env s.variables (roots ts)} (λ i. env_sum s.variables (owned xs cs) (paid (count (MoreArguments a as'))) (roots ts) sum i ∙ ap (λ m. m + env s.variables (roots ts) i) (env_paid s.variables (count (MoreArguments a as')) i ∙ ap (λ m. paid m i) (sym (size_values sc ms (MoreArguments a as')))))
      (values_derived w s c d ms sc B ts (MoreArguments a as') h more))

  pub values_derived : (w : World) (s : Scope) (c d : ℕ) (ms : List Mark) (sc : Scalars) (B : ℕ → Bool) (ts : Trees) (as' : Arguments) → Sees w s c d ms sc B → P.DerivesValues w s.variables d ts as' → ValuesDerivation (is_fip w.kind) (env s.variables (roots ts)) (values sc ms as')
  values_derived w s c d ms sc B NoTrees NoArguments h g = NONE (env_none s.variables (roots NoTrees) (λ i. refl))
  values_derived w s c d ms sc B (MoreTrees t ts) NoArguments h g = absurd g
  values_derived w s c d ms sc B NoTrees (MoreArguments a as') h g = absurd g
  values_derived w s c d ms sc B (MoreTrees t ts) (MoreArguments a as') h g =
      MORE {P = env s.variables (root t)} {Q = env s.variables (roots ts)} (env_sum s.variables (roots (MoreTrees t ts)) (root t) (roots ts) (λ i. refl)) (value_derived w s c d ms sc B t a h g.0) (values_derived w s c d ms sc B ts as' h g.1)

-- ---- operands and what is borrowed

scalar_value : (w : World) (s : Scope) (c d : ℕ) (ms : List Mark) (sc : Scalars) (B : ℕ → Bool) (x : Option ℕ) → Sees w s c d ms sc B → P.IsScalar w (meant s.variables x) → variable sc (seen ms x) ≡ T.Scalar
scalar_value w s c d ms sc B None h g = absurd g
scalar_value w s c d ms sc B (Some y) h g = by (known s.variables y) refl g
  where
    by : (o : Option Known) → known s.variables y ≡ o → P.IsScalar w o → variable sc (seen ms (Some y)) ≡ T.Scalar
    by None e g = absurd g
    by (Some v) e g = variable_is w s c d ms sc B y v true h e g

nothing_derived : (fip : Bool) (a : T.Value) → a ≡ T.Scalar → ValueDerivation fip (λ i. 0) a
nothing_derived fip a e = subst (ValueDerivation fip (λ i. 0)) (sym e) (SCALAR (λ i. refl))

pub operand_derived : (w : World) (s : Scope) (c d : ℕ) (ms : List Mark) (sc : Scalars) (B : ℕ → Bool) (a : Argument) → Sees w s c d ms sc B → P.Operand w s.variables a → ValueDerivation (is_fip w.kind) (λ i. 0) (value sc ms a)
operand_derived w s c d ms sc B (Variable x n p) h g = nothing_derived (is_fip w.kind) (variable sc (seen ms x)) (scalar_value w s c d ms sc B x h g)
operand_derived w s c d ms sc B (Literal i p) h g = SCALAR (λ i. refl)
operand_derived w s c d ms sc B (Constructor u f k n p as') h g = absurd g

plain_derived : (w : World) (s : Scope) (c d : ℕ) (ms : List Mark) (sc : Scalars) (B : ℕ → Bool) (a : Argument) → Sees w s c d ms sc B → P.Plain w s.variables a → ValueDerivation (is_fip w.kind) (λ i. 0) (value sc ms a)
plain_derived w s c d ms sc B (Variable x n p) h g = nothing_derived (is_fip w.kind) (variable sc (seen ms x)) (scalar_value w s c d ms sc B x h g)
plain_derived w s c d ms sc B (Literal i p) h g = SCALAR (λ i. refl)
plain_derived w s c d ms sc B (Constructor u f k n p NoArguments) h g = REUSE {P = λ i. 0} (λ i. refl) (NONE (λ i. refl))
plain_derived w s c d ms sc B (Constructor u f k n p (MoreArguments a as')) h g = absurd (omega arith)

variable_lent : (w : World) (s : Scope) (c d : ℕ) (ms : List Mark) (sc : Scalars) (B : ℕ → Bool) (x : Option ℕ) → Sees w s c d ms sc B → P.MayLend w s.lent (meant s.variables x) → C.Lends B (variable sc (seen ms x))
variable_lent w s c d ms sc B None h g = absurd g
variable_lent w s c d ms sc B (Some y) h g = by (known s.variables y) refl g
  where
    rest : (a b : Bool) → a ≡ false → (a || b) ≡ true → b ≡ true
    rest true b e f = absurd (cc)
    rest false b e f = f

    of : (v : Known) → known s.variables y ≡ Some v → (w.scalar v.ty || (not v.owned || s.lent v.number)) ≡ true → (b : Bool) → w.scalar v.ty ≡ b → C.Lends B (variable sc (seen ms (Some y)))
    of v e g true q = subst (C.Lends B) (sym (variable_is w s c d ms sc B y v true h e q)) tt
    of v e g false q = subst (C.Lends B) (sym (variable_is w s c d ms sc B y v false h e q)) (h.lent y v e q ∙ rest (w.scalar v.ty) (not v.owned || s.lent v.number) q g)

    by : (o : Option Known) → known s.variables y ≡ o → P.MayLend w s.lent o → C.Lends B (variable sc (seen ms (Some y)))
    by None e g = absurd g
    by (Some v) e g = of v e g (w.scalar v.ty) refl

pub lends_lent : (w : World) (s : Scope) (c d : ℕ) (ms : List Mark) (sc : Scalars) (B : ℕ → Bool) (a : Argument) → Sees w s c d ms sc B → P.Lends w s a → C.Lends B (lent_value w sc ms a)
lends_lent w s c d ms sc B (Variable x n p) h g = variable_lent w s c d ms sc B x h g
lends_lent w s c d ms sc B (Literal i p) h g = absurd g
lends_lent w s c d ms sc B (Constructor u f k n p as') h g = absurd g

-- ---- the arguments of a call

-- one argument, by whether its place is scalar, and borrowed
one_passed : (w : World) (s : Scope) (c d : ℕ) (ms : List Mark) (sc : Scalars) (B : ℕ → Bool) (a : Argument) (l : Bool) (O A Q : Item → ℕ) (gs : T.Passed) → Sees w s c d ms sc B → l ≡ false → ((i : Item) → O i ≡ A i + Q i) → ValueDerivation (is_fip w.kind) A (value sc ms a) → PassedDerivation (is_fip w.kind) B Q gs → PassedDerivation (is_fip w.kind) B O (if l then T.PassLent (lent_value w sc ms a) gs else T.PassOwned (value sc ms a) gs)
one_passed w s c d ms sc B a true O A Q gs h e f g k = absurd (cc)
one_passed w s c d ms sc B a false O A Q gs h e f g k = GIVEN {P = A} {Q = Q} f g k

lent_passed : (w : World) (s : Scope) (c d : ℕ) (ms : List Mark) (sc : Scalars) (B : ℕ → Bool) (a : Argument) (l : Bool) (O : Item → ℕ) (gs : T.Passed) → Sees w s c d ms sc B → l ≡ true → P.Lends w s a → PassedDerivation (is_fip w.kind) B O gs → PassedDerivation (is_fip w.kind) B O (if l then T.PassLent (lent_value w sc ms a) gs else T.PassOwned (value sc ms a) gs)
lent_passed w s c d ms sc B a true O gs h e g k = LENT (lends_lent w s c d ms sc B a h g) k
lent_passed w s c d ms sc B a false O gs h e g k = absurd (cc)

lends_at : (w : World) (g j : ℕ) (e : Instance) (p : Param) → slice_get w.instances g ≡ Some e → slice_get e.params j ≡ Some p → lends w g j ≡ (p.lent && not (w.scalar p.ty))
lends_at w g j e p f k = ap (λ o. lends_to w o j) f ∙ ap (lends_parameter w) k

abbrev pub charged : List ℕ → Trees → Item → ℕ
charged ks ts i = charge ks i + roots ts i

pub passed_derived : (w : World) (s : Scope) (c d : ℕ) (ms : List Mark) (sc : Scalars) (B : ℕ → Bool) (g j : ℕ) (e : Instance) (ps : List Param) (as' : Arguments) (ts : Trees) → Sees w s c d ms sc B → slice_get w.instances g ≡ Some e → ((k : ℕ) → slice_get e.params (j + k) ≡ slice_get ps k) → P.DerivesPassed w s d ps as' ts → PassedDerivation (is_fip w.kind) B (env s.variables (charged e.credits ts)) (passed w sc ms g j as')
passed_derived w s c d ms sc B g j e [] NoArguments NoTrees h f k x =
    subst (λ ks. PassedDerivation (is_fip w.kind) B (env s.variables (charged e.credits NoTrees)) (T.Header ks)) (sym (ap credits_of f))
    (HEADER (λ i. env_same s.variables (charged e.credits NoTrees) (charge e.credits) (λ i. let z : charged e.credits NoTrees i ≡ charge e.credits i + 0 = refl in omega arith) i ∙ env_charge s.variables e.credits i))
passed_derived w s c d ms sc B g j e [] NoArguments (MoreTrees t ts) h f k x = absurd x
passed_derived w s c d ms sc B g j e (p ∷ ps) NoArguments ts h f k x = absurd x
passed_derived w s c d ms sc B g j e [] (MoreArguments a as') ts h f k x = absurd x
passed_derived w s c d ms sc B g j e (p ∷ ps) (MoreArguments a as') ts h f k x =
    by (λ us y. passed_derived w s c d ms sc B g (suc j) e ps as' us h f next y) (w.scalar p.ty) p.lent refl refl x
  where
    here : slice_get e.params j ≡ Some p
    here = let z : j + 0 ≡ j = omega arith in sym (ap (slice_get e.params) z) ∙ k 0

    next : (i : ℕ) → slice_get e.params (suc j + i) ≡ slice_get ps i
    next i = let z : suc j + i ≡ j + suc i = omega arith in ap (slice_get e.params) z ∙ k (suc i)

    is_lent : (a b : Bool) → w.scalar p.ty ≡ a → p.lent ≡ b → lends w g j ≡ (b && not a)
    is_lent a b q r = lends_at w g j e p f here ∙ both (w.scalar p.ty) a p.lent b q r
      where
        both : (a b c d : Bool) → a ≡ b → c ≡ d → (c && not a) ≡ (d && not b)
        both a b c d e f = cc

    none : (O : Item → ℕ) (i : Item) → O i ≡ 0 + O i
    none O i = omega arith

    part : ((us : Trees) → P.DerivesPassed w s d ps as' us → PassedDerivation (is_fip w.kind) B (env s.variables (charged e.credits us)) (passed w sc ms g (suc j) as')) → (us : Trees) → P.FirstOf us (λ t vs. P.DerivesValue w s.variables d t a × P.DerivesPassed w s d ps as' vs) → lends w g j ≡ false → PassedDerivation (is_fip w.kind) B (env s.variables (charged e.credits us)) (if lends w g j then T.PassLent (lent_value w sc ms a) (passed w sc ms g (suc j) as') else T.PassOwned (value sc ms a) (passed w sc ms g (suc j) as'))
    part rest NoTrees y q = absurd y
    part rest (MoreTrees t us) y q = one_passed w s c d ms sc B a (lends w g j) (env s.variables (charged e.credits (MoreTrees t us))) (env s.variables (root t)) (env s.variables (charged e.credits us)) (passed w sc ms g (suc j) as') h q (env_sum s.variables (charged e.credits (MoreTrees t us)) (root t) (charged e.credits us) (λ i. let z : charged e.credits (MoreTrees t us) i ≡ charge e.credits i + (root t i + roots us i) = refl in let v : charged e.credits us i ≡ charge e.credits i + roots us i = refl in omega arith)) (value_derived w s c d ms sc B t a h y.0) (rest us y.1)

    by : ((us : Trees) → P.DerivesPassed w s d ps as' us → PassedDerivation (is_fip w.kind) B (env s.variables (charged e.credits us)) (passed w sc ms g (suc j) as')) → (m n : Bool) → w.scalar p.ty ≡ m → p.lent ≡ n → P.Choice m (P.Plain w s.variables a × P.DerivesPassed w s d ps as' ts) (P.Choice n (P.Lends w s a × P.DerivesPassed w s d ps as' ts) (P.FirstOf ts (λ t us. P.DerivesValue w s.variables d t a × P.DerivesPassed w s d ps as' us))) → PassedDerivation (is_fip w.kind) B (env s.variables (charged e.credits ts)) (if lends w g j then T.PassLent (lent_value w sc ms a) (passed w sc ms g (suc j) as') else T.PassOwned (value sc ms a) (passed w sc ms g (suc j) as'))
    by rest true true q r y = one_passed w s c d ms sc B a (lends w g j) (env s.variables (charged e.credits ts)) (λ i. 0) (env s.variables (charged e.credits ts)) (passed w sc ms g (suc j) as') h (is_lent true true q r) (none (env s.variables (charged e.credits ts))) (plain_derived w s c d ms sc B a h y.0) (rest ts y.1)
    by rest true false q r y = one_passed w s c d ms sc B a (lends w g j) (env s.variables (charged e.credits ts)) (λ i. 0) (env s.variables (charged e.credits ts)) (passed w sc ms g (suc j) as') h (is_lent true false q r) (none (env s.variables (charged e.credits ts))) (plain_derived w s c d ms sc B a h y.0) (rest ts y.1)
    by rest false true q r y = lent_passed w s c d ms sc B a (lends w g j) (env s.variables (charged e.credits ts)) (passed w sc ms g (suc j) as') h (is_lent false true q r) y.0 (rest ts y.1)
    by rest false false q r y = part rest ts y (is_lent false false q r)
