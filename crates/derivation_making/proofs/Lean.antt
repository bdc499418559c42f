-- What is made weakens no more than it must.
use Rattle.std.proofs.Common.{◌≡◌, ℕ, zero, suc, ◌<◌, ◌≤◌, ◌+◌, ◌-◌, ◌⊎◌, inl, inr, refl, ap, List, [], ◌∷◌, ◌++◌, length, Bool, true, false, not, arith}
use Rattle.std.specs.Prelude.{◌==◌, ◌||◌, ◌&&◌, slice_get, if◌then◌else◌}
use Rattle.std.proofs.lemmas.Bool.Decides.{nat_tests}
use Rattle.type_check.specs.fip_language.declared.FunKind.{FunKind}
use Rattle.derivation_check.specs.fip_base.declared.plain.Param.{Param}
use Rattle.derivation_check.specs.fip_trees.Sizes.{greater}
use Rattle.derivation_check.specs.fip_trees.Tree.{Program, Instance, Argument, Variable, Literal, Constructor, Arguments, NoArguments, MoreArguments, Expression, Give, Tuple, Operation, Call, Match, Nested, Block, Last, Let, Clauses, NoClauses, MoreClauses}
use Rattle.ownership_agreement.specs.fip_rules.World.{World, world, is_ruled}
use Rattle.ownership_agreement.specs.fip_rules.Shapes.{binders, takes}
use Rattle.ownership_agreement.specs.credit_check.Needs.{made, made_all, marked, given, need, need_block, need_clauses}
use Rattle.ownership_agreement.specs.ownership_calculus.Terms.{Item, Own, Credit}
use Rattle.ownership_agreement.specs.ownership_calculus.Terms as C
use Rattle.derivation_check.specs.derivation_trees.declared.derivation.RuleName.{RuleName}
use Rattle.derivation_check.specs.derivation_trees.declared.derivation.RuleName.TheVariants as R
use Rattle.derivation_check.specs.derivation_trees.Trees.{Tree, Branch, Trees, NoTrees, MoreTrees, Entry}
use Rattle.derivation_check.specs.Owned.{owned, is_weaken}
use Rattle.derivation_check.specs.Scopes.{Known, named, parameters, within, within_block}
use Rattle.derivation_check.specs.Calculus.{Choice}
use Rattle.derivation_making.specs.Uses.{occurs_value, occurs_values, occurs, occurs_block, uses}
use Rattle.derivation_making.specs.Made.{those, all_those, numbers, credits, same_from, weakened, node, added, clause_variables, constructor_rule, rule_of, match_rule, params_of, made_value, made_values, made_fields, made_passed, made_expression, made_block, made_clauses, owned_ones, made_instance, made_entries}
use Rattle.derivation_making.specs.Weakening.{LeavesOut, IsLean, AreLean, AllLean}
use Rattle.derivation_making.proofs.Lists.{given_less}
use Rattle.derivation_making.proofs.Credits.{amount_in}
use Rattle.derivation_making.proofs.Arguments.{not_weaken}
use Rattle.derivation_making.proofs.Matches.{greater_left, greater_right}
use Rattle.type_check.proofs.fip_language.Facts.{and_either as and_false, unequal_apart as differ}
use Rattle.derivation_making.proofs.Bodies.{match_not_weaken}

-- ---- something is left out

one_left : (b : Bool) (f : ℕ → Bool) (u : Known) (us : List Known) → f u.binder ≡ b → (b && all_those f us) ≡ false → (all_those f us ≡ false → (y : ℕ) × (C.given y (numbers (those f us)) < C.given y (numbers us))) → (y : ℕ) × (C.given y (numbers (if b then u ∷ those f us else those f us)) < C.given y (numbers (u ∷ us)))
one_left true f u us e h r = let g = r h in (g.0, let l = g.1 in omega arith)
one_left false f u us e h r = (u.number, let l = given_less f us u.number in let o = one_here u.number in omega arith)
  where
    one_here : (x : ℕ) → C.one x x ≡ 1
    one_here x = grind (arith, nat_tests)

variable_left : (f : ℕ → Bool) (us : List Known) → all_those f us ≡ false → (y : ℕ) × (C.given y (numbers (those f us)) < C.given y (numbers us))
variable_left f [] h = absurd (cc)
variable_left f (u ∷ us) h = one_left (f u.binder) f u us refl h (λ e. variable_left f us e)

credit_left : (f g : ℕ → ℕ) (k n : ℕ) → same_from f g k n ≡ false → (j : ℕ) × (k ≤ j) × (j < k + n) × (f j ≡ g j → ⊥)
credit_left f g k zero h = absurd (cc)
credit_left f g k (suc n) h = elim (and_false (f k == g k) (same_from f g (suc k) n) h) [
  | inl e ↦ (k, omega arith, omega arith, differ (f k) (g k) e)
  | inr e ↦ let r = credit_left f g (suc k) n e in (r.0, (let a = r.1 in omega arith), (let a = r.2 in omega arith), r.3)
]

less_of : (x y : ℕ) → x ≤ y → (y ≡ x → ⊥) → x < y
less_of x y l n = elim (same_or y x l) [ inl e ↦ absurd (n e) | inr m ↦ m ]
  where
    same_or : (y x : ℕ) → x ≤ y → (y ≡ x) ⊎ (x < y)
    same_or zero zero l = inl refl
    same_or zero (suc x) l = absurd (omega arith)
    same_or (suc y) zero l = inr (omega arith)
    same_or (suc y) (suc x) l = elim (same_or y x (omega arith)) [ inl e ↦ inl (ap suc e) | inr m ↦ inr (omega arith) ]

left_out : (f : ℕ → Bool) (there : List Known) (have needed : ℕ → ℕ) → ((k : ℕ) → 0 < k → k < 17 → needed k ≤ have k) → (all_those f there && same_from have needed 1 16) ≡ false → (i : Item) × (owned (numbers (those f there)) (credits needed) i < owned (numbers there) (credits have) i)
left_out f there have needed l h = elim (and_false (all_those f there) (same_from have needed 1 16) h) [
  | inl e ↦ let r = variable_left f there e in (Own r.0, r.1)
  | inr e ↦
      let r = credit_left have needed 1 16 e in
      let k = r.0 in
      let a : 0 < k = (let z = r.1 in omega arith) in
      let b : k < 17 = (let z = r.2 in omega arith) in
      (Credit k, let x = amount_in needed k a b in let y = amount_in have k a b in let m = less_of (needed k) (have k) (l k a b) r.3 in omega arith)
]

-- ---- nodes

plain_choice : (b : Bool) (A : Type 0) → b ≡ false → Choice b A (Unit {0})
plain_choice true A e = absurd (cc)
plain_choice false A e = tt

lean_weakened : (b : Bool) (r : RuleName) (f : ℕ → Bool) (there : List Known) (have needed : ℕ → ℕ) (ts : Trees) → is_weaken r ≡ false → AreLean ts → (b ≡ false → (i : Item) × (owned (numbers (those f there)) (credits needed) i < owned (numbers there) (credits have) i)) → IsLean (weakened b there have (Branch r (numbers (those f there)) (credits needed) ts))
lean_weakened true r f there have needed ts w h l = (plain_choice (is_weaken r) (LeavesOut (numbers (those f there)) (credits needed) ts) w, h)
lean_weakened false r f there have needed ts w h l = ((w, l refl), ((plain_choice (is_weaken r) (LeavesOut (numbers (those f there)) (credits needed) ts) w, h), tt))

lean_node : (r : RuleName) (f : ℕ → Bool) (there : List Known) (have needed : ℕ → ℕ) (ts : Trees) → is_weaken r ≡ false → ((k : ℕ) → 0 < k → k < 17 → needed k ≤ have k) → AreLean ts → IsLean (node r f there have needed ts)
lean_node r f there have needed ts w l h = lean_weakened (all_those f there && same_from have needed 1 16) r f there have needed ts w h (left_out f there have needed l)

-- ---- arguments

mutual
  lean_value : (w : World) (vs have : List Known) (a : Argument) → IsLean (made_value w vs have a)
  lean_value w vs have (Variable x n p) = (plain_choice (is_weaken (rule_of w vs (Variable x n p))) (LeavesOut (numbers (those (λ y. occurs_value y (Variable x n p)) have)) [] NoTrees) (not_weaken w vs (Variable x n p)), tt)
  lean_value w vs have (Literal i p) = (tt, tt)
  lean_value w vs have (Constructor t d c n p as') = (
    plain_choice (is_weaken (constructor_rule as')) (LeavesOut (numbers (those (λ x. occurs_values x as') have)) (credits (λ k. made k (Constructor t d c n p as'))) (made_values w vs have as')) (not_weaken w vs (Constructor t d c n p as')),
    lean_values w vs have as',
  )

  lean_values : (w : World) (vs have : List Known) (as' : Arguments) → AreLean (made_values w vs have as')
  lean_values w vs have NoArguments = tt
  lean_values w vs have (MoreArguments a as') = (lean_value w vs have a, lean_values w vs have as')

lean_fields : (w : World) (vs have : List Known) (a : Argument) → AreLean (made_fields w vs have a)
lean_fields w vs have (Variable x n p) = tt
lean_fields w vs have (Literal i p) = tt
lean_fields w vs have (Constructor t d c n p as') = lean_values w vs have as'

one_passed : (b : Bool) (t : Tree) (ts : Trees) → IsLean t → AreLean ts → AreLean (if b then ts else MoreTrees t ts)
one_passed true t ts h g = g
one_passed false t ts h g = (h, g)

lean_passed : (w : World) (vs have : List Known) (ps : List Param) (as' : Arguments) → AreLean (made_passed w vs have ps as')
lean_passed w vs have [] as' = tt
lean_passed w vs have (p ∷ ps) NoArguments = tt
lean_passed w vs have (p ∷ ps) (MoreArguments a as') = one_passed (w.scalar p.ty || p.lent) (made_value w vs have a) (made_passed w vs have ps as') (lean_value w vs have a) (lean_passed w vs have ps as')

-- ---- bodies

mutual
  lean_expression : (p : Program) (f : FunKind) (vs : List Known) (d : ℕ) (there : List Known) (have : ℕ → ℕ) (e : Expression) → ((k : ℕ) → 0 < k → k < 17 → need p k e ≤ have k) → IsLean (made_expression p (world p f) vs d there have e)
  lean_expression p f vs d there have (Give a) h = lean_node (rule_of (world p f) vs a) (λ x. occurs_value x a) there have (λ k. made k a) (made_fields (world p f) vs there a) (not_weaken (world p f) vs a) h (lean_fields (world p f) vs there a)
  lean_expression p f vs d there have (Tuple q as') h = lean_node R.Tuple (λ x. occurs_values x as') there have (λ k. made_all k as') (made_values (world p f) vs there as') refl h (lean_values (world p f) vs there as')
  lean_expression p f vs d there have (Operation o q l r) h = lean_node R.Scalar (λ x. occurs_value x l || occurs_value x r) there have (λ k. made k l + made k r) NoTrees refl h tt
  lean_expression p f vs d there have (Call g n q as') h =
      lean_node R.Call (λ x. occurs_values x as') there have (λ k. need p k (Call g n q as')) (made_passed (world p f) vs there (params_of (slice_get p.instances g)) as') refl h
      (lean_passed (world p f) vs there (params_of (slice_get p.instances g)) as')
  lean_expression p f vs d there have (Match t u q a r body cs) h =
      let w = world p f in
      let own = takes w t u in
      let m = Match t u q a r body cs in
      let got = those (λ x. occurs x m) there in
      let d1 = d + length (binders r) in
      let d2 = d + length (binders r) + within_block body in
      lean_node (match_rule own) (λ x. occurs x m) there have (λ k. need p k m)
      (MoreTrees
      (made_block p w (named d own (binders r) ++ vs) d1 (clause_variables w own a d (binders r) got) (λ k. need p k m + given k own r) body)
      (made_clauses p w vs d2 own a got (λ k. need p k m) cs))
      (match_not_weaken own) h (
        lean_block p f (named d own (binders r) ++ vs) d1 (clause_variables w own a d (binders r) got) (λ k. need p k m + given k own r) body
            (λ k x y. let g : need_block p k body - given k own r ≤ need p k m = greater_left (need_block p k body - given k own r) (need_clauses p k own cs) in omega arith),
        lean_clauses p f vs d2 own a got (λ k. need p k m) cs (λ k. greater_right (need_block p k body - given k own r) (need_clauses p k own cs)),
      )
  lean_expression p f vs d there have (Nested b) h = lean_block p f vs d there have b h

  lean_block : (p : Program) (f : FunKind) (vs : List Known) (d : ℕ) (there : List Known) (have : ℕ → ℕ) (b : Block) → ((k : ℕ) → 0 < k → k < 17 → need_block p k b ≤ have k) → IsLean (made_block p (world p f) vs d there have b)
  lean_block p f vs d there have (Last e) h = lean_expression p f vs d there have e h
  lean_block p f vs d there have (Let bs e rest) h =
      let w = world p f in
      let g : ℕ → Bool = λ x. occurs x e || occurs_block x rest in
      let got = those g there in
      let here = those (λ x. uses w x e) got in
      let left = those (λ x. not (uses w x e)) got ++ added w true d bs in
      lean_node R.Let g there have (λ k. need p k e + need_block p k rest)
      (MoreTrees (made_expression p w vs (d + length bs) here (λ k. need p k e) e)
      (MoreTrees (made_block p w (named d true bs ++ vs) (d + within e + length bs) left (λ k. need_block p k rest) rest) NoTrees))
      refl h (
        lean_expression p f vs (d + length bs) here (λ k. need p k e) e (λ k x y. omega arith),
        (lean_block p f (named d true bs ++ vs) (d + within e + length bs) left (λ k. need_block p k rest) rest (λ k x y. omega arith), tt),
      )

  lean_clauses : (p : Program) (f : FunKind) (vs : List Known) (d : ℕ) (own : Bool) (a : Argument) (got : List Known) (needed : ℕ → ℕ) (cs : Clauses) → ((k : ℕ) → need_clauses p k own cs ≤ needed k) → AreLean (made_clauses p (world p f) vs d own a got needed cs)
  lean_clauses p f vs d own a got needed NoClauses h = tt
  lean_clauses p f vs d own a got needed (MoreClauses r body cs) h = (
    lean_block p f (named d own (binders r) ++ vs) (d + length (binders r)) (clause_variables (world p f) own a d (binders r) got) (λ k. needed k + given k own r) body
        (λ k x y. let g = greater_left (need_block p k body - given k own r) (need_clauses p k own cs) in let j : greater (need_block p k body - given k own r) (need_clauses p k own cs) ≤ needed k = h k in omega arith),
    lean_clauses p f vs (d + length (binders r) + within_block body) own a got needed cs
        (λ k. let g = greater_right (need_block p k body - given k own r) (need_clauses p k own cs) in let j : greater (need_block p k body - given k own r) (need_clauses p k own cs) ≤ needed k = h k in omega arith),
  )

-- ---- programs

pub lean_instance : (p : Program) (d : Instance) → ((k : ℕ) → 0 < k → k < 17 → need_block p k d.body ≤ marked k d.credits) → IsLean (made_instance p (world p d.kind) d)
lean_instance p d h = lean_block p d.kind (parameters 0 d.params) (length d.params) (owned_ones (world p d.kind) (parameters 0 d.params)) (λ k. marked k d.credits) d.body h

abbrev pub EachEnough : Program → List Instance → Type 0
EachEnough p [] = Unit {0}
EachEnough p (d ∷ ds) = (is_ruled d.kind ≡ true → (k : ℕ) → 0 < k → k < 17 → need_block p k d.body ≤ marked k d.credits) × EachEnough p ds

one_lean : (b : Bool) (n : ℕ) (t : Tree) (es : List Entry) → (b ≡ true → IsLean t) → AllLean es → AllLean (if b then record { instance = n; tree = t } ∷ es else es)
one_lean true n t es h r = (h refl, r)
one_lean false n t es h r = r

pub lean_entries : (p : Program) (n : ℕ) (ds : List Instance) → EachEnough p ds → AllLean (made_entries p n ds)
lean_entries p n [] h = tt
lean_entries p n (d ∷ ds) h = one_lean (is_ruled d.kind) n (made_instance p (world p d.kind) d) (made_entries p (n + 1) ds) (λ e. lean_instance p d (h.0 e)) (lean_entries p (n + 1) ds h.1)
