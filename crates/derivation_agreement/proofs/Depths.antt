-- How deep what is made lies: a node and one that weakens above it for each let and each match, and for each constructor
-- one. Lets and patterns have registers, so a body with n of them is at most 2 n + 3 deep. And what its nodes have of
-- credits is what is needed there, or what a header or a pattern gives.
use Rattle.std.proofs.Common.{ℕ, zero, suc, ◌≤◌, ◌+◌, ◌*◌, List, [], ◌∷◌, length, Bool, true, false, nat_lt, arith}
use Rattle.std.specs.Prelude.{slice_get, ◌||◌, ◌&&◌, if◌then◌else◌}
use Rattle.tail_groups.specs.fip_base.declared.plain.Param.{Param}
use Rattle.tail_groups.specs.fip_trees.Tree.{Argument, Variable, Literal, Constructor, Arguments, NoArguments, MoreArguments, Expression, Give, Tuple, Operation, Call, Match, Nested, Block, Last, Let, Clauses, NoClauses, MoreClauses, Program}
use Rattle.derivation_walk.specs.fip_rules.World.{World}
use Rattle.derivation_walk.specs.fip_rules.Shapes.{binders, takes}
use Rattle.derivation_walk.specs.credit_check.Needs.{made, made_all, given, need, need_block}
use Rattle.tail_groups.specs.Registers.{in_argument, in_arguments, in_expression, in_block, in_clauses}
use Rattle.derivation_walk.specs.derivation_trees.declared.derivation.RuleName.{RuleName}
use Rattle.derivation_walk.specs.derivation_trees.declared.derivation.RuleName.TheVariants as R
use Rattle.derivation_walk.specs.derivation_trees.Trees.{Branch, Trees, NoTrees, MoreTrees}
use Rattle.derivation_making.specs.derivation_check.Scopes.{Known, within, within_block}
use Rattle.derivation_making.specs.Uses.{occurs_value, occurs_values, occurs, occurs_block}
use Rattle.derivation_making.specs.Made.{those, all_those, numbers, counted, credits, same_from, weakened, node, made_value, made_values, rule_of, made_fields, made_passed, params_of, match_rule, clause_variables, made_expression, made_block, made_clauses}
use Rattle.derivation_making.specs.Numbered.{Numbered, NumberedBlock, NumberedClauses}
use Rattle.derivation_agreement.specs.Within.{AreFew, IsShallow, AreShallow}
use Rattle.derivation_agreement.proofs.Callees.{AsksFew, AsksFewBlock, AskFew}
use Rattle.derivation_agreement.proofs.Amounts.{made_few, made_all_few, given_few, pattern_some, need_few, need_block_few}

abbrev IsFew : (ℕ → ℕ) → Type 0
IsFew f = (k : ℕ) → f k ≤ 4294967295

counted_few : (f : ℕ → ℕ) (k n : ℕ) → IsFew f → AreFew (counted f k n)
counted_few f k zero h = tt
counted_few f k (suc n) h = by (nat_lt 0 (f k)) (counted_few f (suc k) n h)
  where
    by : (b : Bool) → AreFew (counted f (suc k) n) → AreFew (if b then record { size = k; count = f k } ∷ counted f (suc k) n else counted f (suc k) n)
    by true r = (h k, r)
    by false r = r

credits_few : (f : ℕ → ℕ) → IsFew f → AreFew (credits f)
credits_few f h = counted_few f 1 16 h

-- ---- arguments

mutual
  value_shallow : (w : World) (vs have : List Known) (a : Argument) (j : ℕ) → j + in_argument a ≤ 10000 → IsShallow j (made_value w vs have a)
  value_shallow w vs have (Variable x n p) j l = (omega (arith, l), tt, tt)
  value_shallow w vs have (Literal i p) j l = (omega (arith, l), tt, tt)
  value_shallow w vs have (Constructor t d c n p as') j l = (
    omega (arith, l),
    credits_few (λ k. made k (Constructor t d c n p as')) (λ k. (let x = made_few k (Constructor t d c n p as') in omega (arith, x, l))),
    values_shallow w vs have as' (suc j) (omega (arith, l)),
  )

  values_shallow : (w : World) (vs have : List Known) (as' : Arguments) (j : ℕ) → j + in_arguments as' ≤ 10000 → AreShallow j (made_values w vs have as')
  values_shallow w vs have NoArguments j l = tt
  values_shallow w vs have (MoreArguments a as') j l = (value_shallow w vs have a j (omega (arith, l)), values_shallow w vs have as' j (omega (arith, l)))

fields_shallow : (w : World) (vs have : List Known) (a : Argument) (j : ℕ) → j + in_argument a ≤ 10000 → AreShallow j (made_fields w vs have a)
fields_shallow w vs have (Variable x n p) j l = tt
fields_shallow w vs have (Literal i p) j l = tt
fields_shallow w vs have (Constructor t d c n p as') j l = values_shallow w vs have as' j (omega (arith, l))

passed_shallow : (w : World) (vs have : List Known) (ps : List Param) (as' : Arguments) (j : ℕ) → j + in_arguments as' ≤ 10000 → AreShallow j (made_passed w vs have ps as')
passed_shallow w vs have [] as' j l = tt
passed_shallow w vs have (p ∷ ps) NoArguments j l = tt
passed_shallow w vs have (p ∷ ps) (MoreArguments a as') j l = by (w.scalar p.ty || p.lent) (value_shallow w vs have a j (omega (arith, l))) (passed_shallow w vs have ps as' j (omega (arith, l)))
  where
    by : (b : Bool) → IsShallow j (made_value w vs have a) → AreShallow j (made_passed w vs have ps as') → AreShallow j (if b then made_passed w vs have ps as' else MoreTrees (made_value w vs have a) (made_passed w vs have ps as'))
    by true x y = y
    by false x y = (x, y)

-- ---- nodes

node_shallow : (r : RuleName) (asked : ℕ → Bool) (there : List Known) (have needed : ℕ → ℕ) (ts : Trees) (k : ℕ) → suc k ≤ 10000 → IsFew have → IsFew needed → ((j : ℕ) → j ≤ suc (suc k) → AreShallow j ts) → IsShallow k (node r asked there have needed ts)
node_shallow r asked there have needed ts k l h n parts = by (all_those asked there && same_from have needed 1 16)
  where
    by : (b : Bool) → IsShallow k (weakened b there have (Branch r (numbers (those asked there)) (credits needed) ts))
    by true = (omega (arith, l), credits_few needed n, parts (suc k) (omega arith))
    by false = (omega (arith, l), credits_few have h, ((l, credits_few needed n, parts (suc (suc k)) (omega arith)), tt))

-- ---- expressions

mutual
  expression_shallow : (p : Program) (w : World) (vs : List Known) (c d : ℕ) (there : List Known) (have : ℕ → ℕ) (e : Expression) (k : ℕ) → AsksFew p e → Numbered p c d e → in_expression e ≤ 4096 → k + 2 * in_expression e + 2 ≤ 10000 → IsFew have → IsShallow k (made_expression p w vs d there have e)
  expression_shallow p w vs c d there have (Give a) k h n m l f =
      node_shallow (rule_of w vs a) (λ x. occurs_value x a) there have (λ i. made i a) (made_fields w vs there a) k (omega (arith, l)) f
      (λ i. (let x = made_few i a in omega (arith, x, m)))
      (λ j u. fields_shallow w vs there a j (omega (arith, u, l)))
  expression_shallow p w vs c d there have (Tuple q as') k h n m l f =
      node_shallow R.Tuple (λ x. occurs_values x as') there have (λ i. made_all i as') (made_values w vs there as') k (omega (arith, l)) f
      (λ i. (let x = made_all_few i as' in omega (arith, x, m)))
      (λ j u. values_shallow w vs there as' j (omega (arith, u, l)))
  expression_shallow p w vs c d there have (Operation o q x y) k h n m l f =
      node_shallow R.Scalar (λ z. occurs_value z x || occurs_value z y) there have (λ i. made i x + made i y) NoTrees k (omega (arith, l)) f
      (λ i. (let a = made_few i x in let b = made_few i y in omega (arith, a, b, m)))
      (λ j u. tt)
  expression_shallow p w vs c d there have (Call g x q as') k h n m l f =
      node_shallow R.Call (λ z. occurs_values z as') there have (λ i. need p i (Call g x q as')) (made_passed w vs there (params_of (slice_get w.instances g)) as') k (omega (arith, l)) f
      (λ i. (let y = made_all_few i as' in let z = h i in omega (arith, y, z, m)))
      (λ j u. passed_shallow w vs there (params_of (slice_get w.instances g)) as' j (omega (arith, u, l)))
  expression_shallow p w vs c d there have (Match t u q a r body cs) k h n m l f =
      let e = Match t u q a r body cs in
      let x = pattern_some r in
      let need_here : (i : ℕ) → need p i e ≤ 20000000 = λ i. (let y = need_few p i c d e h n in omega (arith, y, m)) in
      node_shallow (match_rule (takes w t u)) (λ z. occurs z e) there have (λ i. need p i e)
      (MoreTrees
      (made_block p w _ (d + length (binders r)) (clause_variables w (takes w t u) a d (binders r) (those (λ z. occurs z e) there)) (λ i. need p i e + given i (takes w t u) r) body)
      (made_clauses p w vs (d + length (binders r) + within_block body) (takes w t u) a (those (λ z. occurs z e) there) (λ i. need p i e) cs))
      k (omega (arith, l)) f
      (λ i. (let y = need_here i in omega (arith, y)))
      (λ j z. (
        block_shallow p w _ _ (d + length (binders r)) (clause_variables w (takes w t u) a d (binders r) (those (λ z. occurs z e) there)) (λ i. need p i e + given i (takes w t u) r) body j h.0 n.1 (omega (arith, m)) (omega (arith, l, z, x))
            (λ i. (let y = need_here i in let v = given_few i (takes w t u) r in omega (arith, y, v, m))),
        clauses_shallow p w vs _ (d + length (binders r) + within_block body) (takes w t u) a (those (λ z. occurs z e) there) (λ i. need p i e) cs j h.1 n.2 (omega (arith, m)) (omega (arith, l, z, x)) need_here,
      ))
  expression_shallow p w vs c d there have (Nested b) k h n m l f = block_shallow p w vs c d there have b k h n m l f

  pub block_shallow : (p : Program) (w : World) (vs : List Known) (c d : ℕ) (there : List Known) (have : ℕ → ℕ) (b : Block) (k : ℕ) → AsksFewBlock p b → NumberedBlock p c d b → in_block b ≤ 4096 → k + 2 * in_block b + 2 ≤ 10000 → IsFew have → IsShallow k (made_block p w vs d there have b)
  block_shallow p w vs c d there have (Last e) k h n m l f = expression_shallow p w vs c d there have e k h n m l f
  block_shallow p w vs c d there have (Let bs e rest) k h n m l f =
      let some = n.0 in
      let bound_few : (i : ℕ) → need p i e ≤ 20000000 = λ i. (let y = need_few p i _ _ e h.0 n.2 in omega (arith, y, m)) in
      let rest_few : (i : ℕ) → need_block p i rest ≤ 20000000 = λ i. (let y = need_block_few p i _ _ rest h.1 n.3 in omega (arith, y, m)) in
      node_shallow R.Let (λ x. occurs x e || occurs_block x rest) there have (λ i. need p i e + need_block p i rest) _ k (omega (arith, l)) f
      (λ i. (let x = bound_few i in let y = rest_few i in omega (arith, x, y)))
      (λ j z. (
        expression_shallow p w vs _ (d + length bs) _ (λ i. need p i e) e j h.0 n.2 (omega (arith, m)) (omega (arith, l, z, some)) (λ i. (let x = bound_few i in omega (arith, x))),
        (block_shallow p w _ _ (d + within e + length bs) _ (λ i. need_block p i rest) rest j h.1 n.3 (omega (arith, m)) (omega (arith, l, z, some)) (λ i. (let x = rest_few i in omega (arith, x))), tt),
      ))

  clauses_shallow : (p : Program) (w : World) (vs : List Known) (c d : ℕ) (taken : Bool) (a : Argument) (has' : List Known) (have : ℕ → ℕ) (cs : Clauses) (j : ℕ) → AskFew p cs → NumberedClauses p c d cs → in_clauses cs ≤ 4096 → j + 2 * in_clauses cs + 2 ≤ 10002 → ((i : ℕ) → have i ≤ 20000000) → AreShallow j (made_clauses p w vs d taken a has' have cs)
  clauses_shallow p w vs c d taken a has' have NoClauses j h n m l f = tt
  clauses_shallow p w vs c d taken a has' have (MoreClauses r body cs) j h n m l f =
      let x = pattern_some r in (
        block_shallow p w _ _ (d + length (binders r)) (clause_variables w taken a d (binders r) has') (λ i. have i + given i taken r) body j h.0 n.1 (omega (arith, m)) (omega (arith, l, x))
            (λ i. (let y = f i in let v = given_few i taken r in omega (arith, y, v, m))),
        clauses_shallow p w vs _ (d + length (binders r) + within_block body) taken a has' have cs j h.1 n.2 (omega (arith, m)) (omega (arith, l)) f,
      )
