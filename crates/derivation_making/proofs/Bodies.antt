-- What is made for a body derives it.
use Rattle.std.proofs.Common.{◌≡◌, ℕ, ◌<◌, ◌≤◌, ◌+◌, ◌-◌, refl, sym, ap, subst, ◌∙◌, List, [], ◌++◌, length, Option, Some, None, Bool, true, false, not, arith}
use Rattle.std.specs.Prelude.{◌||◌, ◌&&◌, slice_get, if◌then◌else◌}
use Rattle.type_check.specs.fip_language.declared.FunKind.{FunKind}
use Rattle.derivation_check.specs.fip_trees.declared.program.Binder.{Binder}
use Rattle.derivation_check.specs.fip_trees.Sizes.{greater}
use Rattle.derivation_check.specs.fip_trees.Tree.{Program, Instance, Argument, Variable, Literal, Constructor, Arguments, Pattern, Expression, Give, Tuple, Operation, Call, Match, Nested, Block, Last, Let, Clauses, NoClauses, MoreClauses}
use Rattle.ownership_agreement.specs.fip_rules.World.{World, world, is_fip, is_weaker, weaker, weaker_than}
use Rattle.ownership_agreement.specs.fip_rules.Shapes.{Names, following, binders, takes, shape}
use Rattle.ownership_agreement.specs.credit_check.Needs as N
use Rattle.ownership_agreement.specs.credit_check.Needs.{made, made_all, need, need_block, need_clauses}
use Rattle.ownership_agreement.specs.ownership_calculus.Terms as C
use Rattle.ownership_agreement.specs.ownership_calculus.Terms.{Item, Own, Credit, given, charge}
use Rattle.ownership_agreement.specs.ownership_calculus.Rules.{Fits}
use Rattle.ownership_agreement.specs.ownership_calculus.Clean as K
use Rattle.ownership_agreement.specs.ownership_calculus.Clean.{used_up, all_used_up, lent_used_up, asks, asks_lent, Status, after}
use Rattle.ownership_agreement.proofs.ownership_calculus.Fit.{fits_same}
use Rattle.ownership_agreement.specs.Bodies.{Scalars, value, values, passed, variable, variables, entering, inside, past_clause, matched, nodes, term, term_block, clauses, seen}
use Rattle.ownership_agreement.specs.Sized.{SizedHeader, SizedExpression, SizedBlock, SizedClauses}
use Rattle.ownership_agreement.proofs.Amounts.{gives, asks_of, term_need, block_need, gives_given, header_given, header_out}
use Rattle.derivation_check.specs.derivation_trees.declared.derivation.RuleName.TheVariants as R
use Rattle.derivation_check.specs.derivation_trees.declared.derivation.Credit as D
use Rattle.derivation_check.specs.derivation_trees.Trees.{Tree, Branch, NoTrees, MoreTrees}
use Rattle.derivation_check.specs.Owned.{amount, owned, roots, Rising, is_weaken, Under, Leaf}
use Rattle.derivation_check.specs.Scopes.{Known, Scope, named, binding, lending, within, within_block}
use Rattle.derivation_check.specs.Calculus.{Operand, Plain, Calls, IsClause, FirstOf, is_taken, Derives, DerivesBlock, DerivesClauses}
use Rattle.derivation_making.specs.Uses.{occurs_value, occurs_values, occurs, occurs_block, occurs_clauses, uses}
use Rattle.derivation_making.specs.Made.{those, numbers, credits, added, remaining, clause_variables, node, rule_of, match_rule, params_of, made_values, made_fields, made_passed, made_expression, made_block, made_clauses}
use Rattle.derivation_making.specs.Fitting.{FitsCall, FitPassed, FitsScrutinee, Fitting, FittingBlock, FittingClauses}
use Rattle.ownership_agreement.proofs.Basics as B
use Rattle.ownership_agreement.specs.Sized.{AreSizes, SizedArguments}
use Rattle.derivation_making.proofs.Lists as L
use Rattle.derivation_making.proofs.Lists.{tally, EachOf, each_of, none_those, tally_those, rising_those, numbers_append, rising_append, either, not_both}
use Rattle.derivation_making.proofs.Credits.{by_size, amount_in, amount_out, no_credits}
use Rattle.derivation_making.proofs.Nodes.{Has, has_node, under_node}
use Rattle.derivation_making.proofs.Linking.{Linked, inside_linked, next_inside, added_rising}
use Rattle.derivation_making.proofs.Reading.{next_after, next_past, after_linked, past_linked, numbered_at, uses_pos, asked_occurs, block_occurs}
use Rattle.derivation_making.proofs.Arguments.{Holding, each_item, values_in, values_out, values_own, values_owned, values_derive, value_derives, not_weaken}
use Rattle.derivation_making.proofs.Passing.{Passes, plain_apart, passed_well}
use Rattle.derivation_making.proofs.Standing.{Stands, Asks, all_asked, asked_few, asked_kept, asked_there, holding, enter, enter_asks}
use Rattle.derivation_making.proofs.Lets.{bound_asks, rest_asks, bound_stands, rest_stands, let_derives}
use Rattle.derivation_making.proofs.Matches.{Faces, OneFaces, face_last, face_first, face_rest, credits_fit, greater_left, greater_right, Goes, stands_sub, match_is, clause_is}
use Rattle.type_check.proofs.fip_language.Facts.{and_not_false as no_scalar, not_true, or_false_false as neither, or_first, or_last}

-- ---- what is there at the root

mutual
  pub has_expression : (p : Program) (w : World) (vs : List Known) (d : ℕ) (there : List Known) (have : ℕ → ℕ) (e : Expression) → Has there have (made_expression p w vs d there have e)
  has_expression p w vs d there have (Give a) = has_node (rule_of w vs a) (λ x. occurs_value x a) there have (λ k. made k a) (made_fields w vs there a)
  has_expression p w vs d there have (Tuple q as') = has_node R.Tuple (λ x. occurs_values x as') there have (λ k. made_all k as') (made_values w vs there as')
  has_expression p w vs d there have (Operation o q l r) = has_node R.Scalar (λ x. occurs_value x l || occurs_value x r) there have (λ k. made k l + made k r) NoTrees
  has_expression p w vs d there have (Call g n q as') = has_node R.Call (λ x. occurs_values x as') there have (λ k. need p k (Call g n q as')) (made_passed w vs there (params_of (slice_get w.instances g)) as')
  has_expression p w vs d there have (Match t u q a r body cs) =
      has_node (match_rule (takes w t u)) (λ x. occurs x (Match t u q a r body cs)) there have (λ k. need p k (Match t u q a r body cs))
      (MoreTrees
      (made_block p w (named d (takes w t u) (binders r) ++ vs) (d + length (binders r))
      (clause_variables w (takes w t u) a d (binders r) (those (λ x. occurs x (Match t u q a r body cs)) there))
      (λ k. need p k (Match t u q a r body cs) + N.given k (takes w t u) r) body)
      (made_clauses p w vs (d + length (binders r) + within_block body) (takes w t u) a
      (those (λ x. occurs x (Match t u q a r body cs)) there) (λ k. need p k (Match t u q a r body cs)) cs))
  has_expression p w vs d there have (Nested b) = has_block p w vs d there have b

  pub has_block : (p : Program) (w : World) (vs : List Known) (d : ℕ) (there : List Known) (have : ℕ → ℕ) (b : Block) → Has there have (made_block p w vs d there have b)
  has_block p w vs d there have (Last e) = has_expression p w vs d there have e
  has_block p w vs d there have (Let bs e rest) =
      has_node R.Let (λ x. occurs x e || occurs_block x rest) there have (λ k. need p k e + need_block p k rest)
      (MoreTrees
      (made_expression p w vs (d + length bs)
      (those (λ x. uses w x e) (those (λ x. occurs x e || occurs_block x rest) there)) (λ k. need p k e) e)
      (MoreTrees
      (made_block p w (named d true bs ++ vs) (d + within e + length bs)
      (those (λ x. not (uses w x e)) (those (λ x. occurs x e || occurs_block x rest) there)
      ++ added w true d bs) (λ k. need_block p k rest) rest)
      NoTrees))

-- ---- operands

operand_plain : (w : World) (vs : List Known) (a : Argument) → Operand w vs a → Plain w vs a
operand_plain w vs (Variable x n p) h = h
operand_plain w vs (Literal i p) h = tt
operand_plain w vs (Constructor t d c n p as') h = absurd h

operand_made : (w : World) (vs : List Known) (a : Argument) (k : ℕ) → Operand w vs a → made k a ≡ 0
operand_made w vs (Variable x n p) k h = refl
operand_made w vs (Literal i p) k h = refl
operand_made w vs (Constructor t d c n p as') k h = absurd h

operation_is : (w : World) (sp : Scope) (c : Names) (sc : Scalars) (d : ℕ) (there : List Known) (t : Tree) (l r : Argument) → Holding w sp.variables c sc d there → Operand w sp.variables l → Operand w sp.variables r → Under (is_fip w.kind) d t (Branch R.Scalar (numbers (those (λ x. occurs_value x l || occurs_value x r) there)) (credits (λ k. made k l + made k r)) NoTrees) → Leaf (is_fip w.kind) d R.Scalar t
operation_is w sp c sc d there t l r h f g u =
    let none : those (λ x. occurs_value x l || occurs_value x r) there ≡ [] =
    none_those (λ x. occurs_value x l || occurs_value x r) there
    (each_of (λ x. (occurs_value x l || occurs_value x r) ≡ false) there
    (λ x m. neither (occurs_value x l) (occurs_value x r) (plain_apart w sp.variables c sc d there l x h (operand_plain w sp.variables l f) m) (plain_apart w sp.variables c sc d there r x h (operand_plain w sp.variables r g) m))) in
    let free : credits (λ k. made k l + made k r) ≡ [] = no_credits (λ k. made k l + made k r) (λ k a b. let x = operand_made w sp.variables l k f in let y = operand_made w sp.variables r k g in omega arith) in
    subst (λ (us : List Known). Under (is_fip w.kind) d t (Branch R.Scalar (numbers us) [] NoTrees)) none
    (subst (λ (cs : List D.Credit). Under (is_fip w.kind) d t (Branch R.Scalar (numbers (those (λ x. occurs_value x l || occurs_value x r) there)) cs NoTrees)) free u)

-- ---- calls

call_there : (w : World) (vs : List Known) (o : Option Instance) (as' : Arguments) → FitsCall w vs o as' → (e : Instance) × (o ≡ Some e)
call_there w vs None as' h = absurd h
call_there w vs (Some e) as' h = (e, refl)

call_is : (p : Program) (f : FunKind) (sp : Scope) (c : Names) (sc : Scalars) (d : ℕ) (there : List Known) (have : ℕ → ℕ) (s : ℕ → Status) (g : ℕ) (n : List ℕ) (e : Instance) (as' : Arguments) (t : Tree) (needed : ℕ → ℕ) → Linked (world p f) sp.variables c sc → slice_get p.instances g ≡ Some e → FitPassed (world p f) sp.variables e.params as' → SizedArguments p as' → AreSizes e.credits → ((k : ℕ) → 0 < k → k < 17 → needed k ≡ made_all k as' + N.marked k e.credits) → Stands (world p f) sp d there s (λ x. occurs_values x as') → K.CleanPassed s (passed (world p f) sc c.marks g 0 as') → ((x : ℕ) → K.passed_used_up (passed (world p f) sc c.marks g 0 as') (Own x) ≤ tally x there) → is_weaker f e.kind ≡ false → Under (is_fip f) d t (Branch R.Call (numbers (those (λ x. occurs_values x as') there)) (credits needed) (made_passed (world p f) sp.variables there e.params as')) → Calls (world p f) sp d (Some e) as' t
call_is p f sp c sc d there have s g n e as' t needed l is fit sized header amounts h clean asked weak u =
    let w = world p f in
    let ps : Passes w sp c sc d there s s as' (passed w sc c.marks g 0 as') = record {
      holding = holding w sp c sc d there s (λ x. occurs_values x as') l h;
      few = h.few;
      lent = h.lent;
      clean = clean;
      back = λ x k. k;
      asked = asked;
    } in
    let r = passed_well p w sp c sc d there s s g 0 e e.params as' is (λ i. let z : 0 + i ≡ i = omega arith in ap (slice_get e.params) z) ps fit sized in
    let ts = made_passed w sp.variables there e.params as' in
    let own : (y : ℕ) → given y (numbers (those (λ x. occurs_values x as') there)) ≡ charge e.credits (Own y) + roots ts (Own y) = λ y. let z = r.own y in omega arith in
    let sizes : (k : ℕ) → amount k (credits needed) ≡ charge e.credits (Credit k) + roots ts (Credit k) =
    by_size (λ k. amount k (credits needed) ≡ charge e.credits (Credit k) + roots ts (Credit k))
    (λ k a b. let x = amount_in needed k a b in let y = amounts k a b in let z = r.inner k a b in let v = header_given k e.credits in omega arith)
    (λ k o. let x = amount_out needed k o in let z = r.outer k o in let v = header_out k e.credits o header in omega arith) in (
      weak,
      (
        numbers (those (λ x. occurs_values x as') there),
        credits needed,
        ts,
        u,
        r.are_owned,
        each_item (λ i. owned (numbers (those (λ x. occurs_values x as') there)) (credits needed) i ≡ charge e.credits i + roots ts i) own sizes,
        r.derived,
      ),
    )

-- ---- matches

variable_free : (b : Bool) (p : Program) (f : FunKind) (sc : Scalars) (c : Names) (u k : ℕ) (vs : List Known) (a : Argument) (tc : C.Clauses) → FitsScrutinee (world p f) vs u a → asks (Credit k) (matched (world p f) sc c.marks b a tc) ≡ asks_of b k tc
variable_free true p f sc c u k vs (Variable x n q) tc h = first (seen c.marks x)
  where
    first : (o : Option ℕ) → used_up (variable sc o) (Credit k) + K.asks_taken (Credit k) tc ≡ K.asks_taken (Credit k) tc
    first None = omega arith
    first (Some y) = by_test (sc y)
      where
        by_test : (b : Bool) → used_up (if b then C.Scalar else C.Named y) (Credit k) + K.asks_taken (Credit k) tc ≡ K.asks_taken (Credit k) tc
        by_test true = omega arith
        by_test false = omega arith
variable_free false p f sc c u k vs (Variable x n q) tc h = first (seen c.marks x)
  where
    first : (o : Option ℕ) → lent_used_up (variable sc o) (Credit k) + asks_lent (Credit k) tc ≡ asks_lent (Credit k) tc
    first None = omega arith
    first (Some y) = by_test (sc y)
      where
        by_test : (b : Bool) → lent_used_up (if b then C.Scalar else C.Named y) (Credit k) + asks_lent (Credit k) tc ≡ asks_lent (Credit k) tc
        by_test true = omega arith
        by_test false = omega arith
variable_free b p f sc c u k vs (Literal i q) tc h = absurd h
variable_free b p f sc c u k vs (Constructor i j m n q as') tc h = absurd h

-- the first of some clauses' terms
face_head : (p : Program) (f : FunKind) (fip own : Bool) (sc : Scalars) (c : Names) (s : ℕ → Status) (m : ℕ → ℕ) (ys ks : List ℕ) (te : C.Term) (cs : Clauses) → Faces fip own s m (clauses (world p f) sc own c ys ks te cs) → OneFaces fip own s m ys ks te
face_head p f fip own sc c s m ys ks te NoClauses h = face_last fip own s m ys ks te h
face_head p f fip own sc c s m ys ks te (MoreClauses r body cs) h =
    let w = world p f in
    face_first fip own s m ys ks te (clauses w sc own (past_clause w own c r body) (variables w c.next (binders r)) (nodes r) (term_block w (entering w c.next sc (binders r)) (inside w own c (binders r)) body) cs) h

clause_fits : (p : Program) (f : FunKind) (own : Bool) (sc : Scalars) (c : Names) (s : ℕ → Status) (m needed : ℕ → ℕ) (r : Pattern) (body : Block) (sc1 : Scalars) (c1 : Names) (ys : List ℕ) → SizedBlock p body → ((k : ℕ) → 0 < k → k < 17 → m k ≡ needed k) → ((k : ℕ) → need_block p k body - N.given k own r ≤ needed k) → OneFaces (is_fip f) own s m ys (nodes r) (term_block (world p f) sc1 c1 body) → (k : ℕ) → 0 < k → k < 17 → Fits (is_fip f) (needed k + N.given k own r) (need_block p k body)
clause_fits p f own sc c s m needed r body sc1 c1 ys z e l h k a b =
    let x = block_need k a p f sc1 c1 body z in
    let y = gives_given k own r a in
    let t = asks (Credit k) (term_block (world p f) sc1 c1 body) in
    let g = given k (gives own (nodes r)) in
    let i = e k a b in
    credits_fit (is_fip f) (needed k) (N.given k own r) (need_block p k body)
    (λ o. let q = h.alike o k in let q0 : g ≤ t = q.0 in let q1 : t - g ≡ m k = q.1 in (omega arith, omega arith))
    (l k)

rising_clause : (w : World) (own : Bool) (d e : ℕ) (a : Argument) (bs : List Binder) (have : List Known) → Rising 0 d (numbers (remaining own a have)) → d + length bs ≤ e → Rising 0 e (numbers (clause_variables w own a d bs have))
rising_clause w own d e a bs have h l =
    subst (Rising 0 e) (sym (numbers_append (remaining own a have) (added w own d bs)))
    (rising_append 0 d e (numbers (remaining own a have)) (numbers (added w own d bs)) h (added_rising w own d e bs l) (omega arith) (omega arith))

pub match_not_weaken : (b : Bool) → is_weaken (match_rule b) ≡ false
match_not_weaken true = refl
match_not_weaken false = refl

-- ---- bodies

mutual
  pub derive : (p : Program) (f : FunKind) (sp : Scope) (c : Names) (sc : Scalars) (n d : ℕ) (there : List Known) (have : ℕ → ℕ) (s : ℕ → Status) (e : Expression) → Linked (world p f) sp.variables c sc → c.next ≡ n → Fitting (world p f) sp.variables n d e → SizedExpression p e → Stands (world p f) sp d there s (λ x. occurs x e) → Asks (is_fip f) s (term (world p f) sc c e) → ((k : ℕ) → 0 < k → k < 17 → Fits (is_fip f) (have k) (need p k e)) → Derives (world p f) sp n d (made_expression p (world p f) sp.variables d there have e) e
  derive p f sp c sc n d there have s (Give a) l i fit z h m b =
      let w = world p f in
      let o = asked_occurs p f sp.variables c sc n d in
      let t = term w sc c (Give a) in
      let asked = asked_there (is_fip f) w sp d there s (λ x. occurs_value x a) t h m (λ x k. asked_occurs p f sp.variables c sc n d x (Give a) l i fit k) in
      value_derives p w sp.variables c sc d there (made_expression p w sp.variables d there have (Give a)) a (holding w sp c sc d there s (λ x. occurs_value x a) l h) fit z
      (λ x. let g : used_up (value sc c.marks a) (Own x) + 0 ≤ tally x there = asked x in omega arith)
      (under_node (is_fip f) d (rule_of w sp.variables a) (λ x. occurs_value x a) there have (λ k. made k a) (made_fields w sp.variables there a)
      (all_asked (is_fip f) w sp d there s (λ x. occurs_value x a) t h m (λ x k. asked_occurs p f sp.variables c sc n d x (Give a) l i fit k)) b (not_weaken w sp.variables a) h.rising)
  derive p f sp c sc n d there have s (Tuple q as') l i fit z h m b =
      let w = world p f in
      let t = term w sc c (Tuple q as') in
      let ts = made_values w sp.variables there as' in
      let hold = holding w sp c sc d there s (λ x. occurs_values x as') l h in
      let asked : (x : ℕ) → all_used_up (values sc c.marks as') (Own x) ≤ tally x there = asked_there (is_fip f) w sp d there s (λ x. occurs_values x as') t h m (λ x k. asked_occurs p f sp.variables c sc n d x (Tuple q as') l i fit k) in
      let own : (y : ℕ) → given y (numbers (those (λ x. occurs_values x as') there)) ≡ 0 + roots ts (Own y) = λ y. let g = values_own w sp.variables c sc d there as' hold fit asked y in omega arith in
      let sizes : (k : ℕ) → amount k (credits (λ j. made_all j as')) ≡ 0 + roots ts (Credit k) =
      by_size (λ k. amount k (credits (λ j. made_all j as')) ≡ 0 + roots ts (Credit k))
      (λ k x y. let u = amount_in (λ j. made_all j as') k x y in let v = values_in w sp.variables there as' k x y in omega arith)
      (λ k o. let u = amount_out (λ j. made_all j as') k o in let v = values_out w sp.variables there as' k o in omega arith) in (
        numbers (those (λ x. occurs_values x as') there),
        credits (λ k. made_all k as'),
        ts,
        under_node (is_fip f) d R.Tuple (λ x. occurs_values x as') there have (λ k. made_all k as') ts
            (all_asked (is_fip f) w sp d there s (λ x. occurs_values x as') t h m (λ x k. asked_occurs p f sp.variables c sc n d x (Tuple q as') l i fit k)) b refl h.rising,
        values_owned w sp.variables there d as' h.rising,
        each_item (λ j. owned (numbers (those (λ x. occurs_values x as') there)) (credits (λ k. made_all k as')) j ≡ 0 + roots ts j) own sizes,
        values_derive p w sp.variables c sc d there as' hold fit z asked,
      )
  derive p f sp c sc n d there have s (Operation o q a1 a2) l i fit z h m b =
      let w = world p f in
      let t = term w sc c (Operation o q a1 a2) in (
        operation_is w sp c sc d there (made_expression p w sp.variables d there have (Operation o q a1 a2)) a1 a2 (holding w sp c sc d there s (λ x. occurs_value x a1 || occurs_value x a2) l h) fit.0 fit.1
            (under_node (is_fip f) d R.Scalar (λ x. occurs_value x a1 || occurs_value x a2) there have (λ k. made k a1 + made k a2) NoTrees
            (all_asked (is_fip f) w sp d there s (λ x. occurs_value x a1 || occurs_value x a2) t h m (λ x k. asked_occurs p f sp.variables c sc n d x (Operation o q a1 a2) l i fit k)) b refl h.rising),
        fit.0,
        fit.1,
      )
  derive p f sp c sc n d there have s (Call g nm q as') l i fit z h m b =
      let w = world p f in
      let t = term w sc c (Call g nm q as') in
      let needed : ℕ → ℕ = λ k. need p k (Call g nm q as') in
      let e = call_there w sp.variables (slice_get p.instances g) as' fit in
      let is : slice_get p.instances g ≡ Some e.0 = e.1 in
      let asked = asked_there (is_fip f) w sp d there s (λ x. occurs_values x as') t h m (λ x k. asked_occurs p f sp.variables c sc n d x (Call g nm q as') l i fit k) in
      let weak : is_weaker f e.0.kind ≡ false = ap (weaker_than f) (sym is) ∙ not_true (weaker w g) m.clean.0 in
      subst (λ (o : Option Instance). Calls w sp d o as' (node R.Call (λ x. occurs_values x as') there have needed (made_passed w sp.variables there (params_of o) as'))) (sym is)
      (call_is p f sp c sc d there have s g nm e.0 as' (node R.Call (λ x. occurs_values x as') there have needed (made_passed w sp.variables there e.0.params as')) needed l is
      (subst (λ (o : Option Instance). FitsCall w sp.variables o as') is fit) z.0 (subst SizedHeader is z.1)
      (λ k x y. ap (λ (o : Option Instance). made_all k as' + N.asked k o) is)
      h m.clean.1 asked weak
      (under_node (is_fip f) d R.Call (λ x. occurs_values x as') there have needed (made_passed w sp.variables there e.0.params as')
      (all_asked (is_fip f) w sp d there s (λ x. occurs_values x as') t h m (λ x k. asked_occurs p f sp.variables c sc n d x (Call g nm q as') l i fit k)) b refl h.rising))
  derive p f sp c sc n d there have s (Match t u q a r body cs) l i fit z h m b =
      let w = world p f in
      let own = takes w t u in
      let bs = binders r in
      let whole = Match t u q a r body cs in
      let g : ℕ → Bool = λ x. occurs x whole in
      let f1 : ℕ → Bool = λ x. occurs_block x body || occurs_clauses x cs in
      let needed : ℕ → ℕ = λ k. need p k whole in
      let got = those g there in
      let c1 = past_clause w own c r body in
      let te = term_block w (entering w c.next sc bs) (inside w own c bs) body in
      let tc = clauses w sc own c1 (variables w c.next bs) (nodes r) te cs in
      let d1 = d + length bs in
      let d2 = d + length bs + within_block body in
      let first = made_block p w (named d own bs ++ sp.variables) d1 (clause_variables w own a d bs got) (λ k. needed k + N.given k own r) body in
      let others = made_clauses p w sp.variables d2 own a got needed cs in
      let o : (x : ℕ) → 1 ≤ asks (Own x) (term w sc c whole) → g x ≡ true = λ x k. asked_occurs p f sp.variables c sc n d x whole l i fit k in
      let st : Stands w sp d got s g = record {
        are_known = L.known_those w sp.variables g there h.are_known;
        rising = rising_those g 0 d there h.rising;
        few = asked_few w sp d there s g h;
        kept = asked_kept w sp d there s g h;
        lent = h.lent;
      } in
      let same : (k : ℕ) → 0 < k → k < 17 → asks_of own k tc ≡ needed k = λ k x y. sym (variable_free own p f sc c u k sp.variables a tc fit.0) ∙ term_need k x p f sc c whole z in
      let u1 = under_node (is_fip f) d (match_rule own) g there have needed (MoreTrees first others)
      (all_asked (is_fip f) w sp d there s g (term w sc c whole) h m o) b (match_not_weaken own) h.rising in
      match_is w sp c sc own d u a got needed s f1 g tc
      (λ x hv ts. FirstOf ts (λ t us. IsClause w n d x hv t r
      (DerivesBlock w (binding d (is_taken x) (binders r) sp) (n + length (binders r)) (d + length (binders r)) t body)
      × DerivesClauses w sp (n + length (binders r) + within_block body) (d + length (binders r) + within_block body) x hv us cs))
      (node (match_rule own) g there have needed (MoreTrees first others)) (MoreTrees first others) l fit.0 (no_scalar t (w.scalar u))
      (λ x e. or_first (occurs_value x a) (f1 x) e) (λ x e. or_last (occurs_value x a) (f1 x) e) st m u1
      (λ xo s1 go st1 fa.
      let one = face_head p f (is_fip f) own sc c1 s1 (λ k. asks_of own k tc) (variables w c.next bs) (nodes r) te cs fa in
      let fits = clause_fits p f own sc c s1 (λ k. asks_of own k tc) needed r body (entering w c.next sc bs) (inside w own c bs) (variables w c.next bs) z.2 same (λ k. greater_left (need_block p k body - N.given k own r) (need_clauses p k own cs)) one in
      let st2 = enter w own sp c sc d d1 bs (remaining own a got) s1 (λ x. occurs_block x body) l (numbered_at n c.next d bs i fit.1) (stands_sub w sp d d (remaining own a got) s1 (λ x. occurs_block x body) f1 (λ x e. or_first (occurs_block x body) (occurs_clauses x cs) e) (omega arith) st1) (omega arith) in
      let as2 = enter_asks (is_fip f) own (variables w c.next bs) s1 te one.all one.most one.used one.clean one.even in (
        clause_is w sp own xo n d a got needed r body first fit.1 z.1 go
            (has_block p w (named d own bs ++ sp.variables) d1 (clause_variables w own a d bs got) (λ k. needed k + N.given k own r) body)
            (rising_clause w own d d1 a bs got st1.rising (omega arith))
            (derive_block p f (binding d own bs sp) (inside w own c bs) (entering w c.next sc bs) (n + length bs) d1 (clause_variables w own a d bs got) (λ k. needed k + N.given k own r) (K.binding (variables w c.next bs) own s1) body
            (inside_linked w own sp.variables c sc d bs (numbered_at n c.next d bs i fit.1) l) (let e = next_inside w own c bs in omega arith) fit.2 z.2 st2 as2 fits),
        derive_clauses p f sp c1 sc (n + length bs + within_block body) d d2 own xo a got needed s1 (λ k. asks_of own k tc) (variables w c.next bs) (nodes r) te cs
            (past_linked w own sp.variables c sc r body l) (let e = next_past w own c r body in omega arith) fit.3 z.3 go
            (stands_sub w sp d d (remaining own a got) s1 (λ x. occurs_clauses x cs) f1 (λ x e. or_last (occurs_block x body) (occurs_clauses x cs) e) (omega arith) st1) (omega arith) fa same
            (λ k. greater_right (need_block p k body - N.given k own r) (need_clauses p k own cs)),
      ))
  derive p f sp c sc n d there have s (Nested bl) l i fit z h m b = derive_block p f sp c sc n d there have s bl l i fit z h m b

  pub derive_block : (p : Program) (f : FunKind) (sp : Scope) (c : Names) (sc : Scalars) (n d : ℕ) (there : List Known) (have : ℕ → ℕ) (s : ℕ → Status) (bl : Block) → Linked (world p f) sp.variables c sc → c.next ≡ n → FittingBlock (world p f) sp.variables n d bl → SizedBlock p bl → Stands (world p f) sp d there s (λ x. occurs_block x bl) → Asks (is_fip f) s (term_block (world p f) sc c bl) → ((k : ℕ) → 0 < k → k < 17 → Fits (is_fip f) (have k) (need_block p k bl)) → DerivesBlock (world p f) sp n d (made_block p (world p f) sp.variables d there have bl) bl
  derive_block p f sp c sc n d there have s (Last e) l i fit z h m b = derive p f sp c sc n d there have s e l i fit z h m b
  derive_block p f sp c sc n d there have s (Let bs e rest) l i fit z h m b =
      let w = world p f in
      let g : ℕ → Bool = λ x. occurs x e || occurs_block x rest in
      let got = those g there in
      let c1 = following c (shape w c e) in
      let k1 : c1.next ≡ n + within e = (let j = next_after w c e in omega arith) in
      let nb = numbered_at (n + within e) c1.next d bs k1 fit.1 in
      let l1 = after_linked w sp.variables c sc e l in
      let ys = variables w c1.next bs in
      let ta = term w sc c e in
      let tb = term_block w (entering w c1.next sc bs) (inside w true c1 bs) rest in
      let u : ℕ → Bool = λ x. uses w x e in
      let needs_a : ℕ → ℕ = λ k. need p k e in
      let needs_b : ℕ → ℕ = λ k. need_block p k rest in
      let there_a = those u got in
      let there_b = those (λ x. not (u x)) got ++ added w true d bs in
      let d1 = d + within e + length bs in
      let pa = made_expression p w sp.variables (d + length bs) there_a needs_a e in
      let qb = made_block p w (named d true bs ++ sp.variables) d1 there_b needs_b rest in
      let o : (x : ℕ) → 1 ≤ asks (Own x) (term_block w sc c (Let bs e rest)) → g x ≡ true = λ x k. block_occurs p f sp.variables c sc n d x (Let bs e rest) l i fit k in
      let st : Stands w sp d got s g = record {
        are_known = L.known_those w sp.variables g there h.are_known;
        rising = rising_those g 0 d there h.rising;
        few = asked_few w sp d there s g h;
        kept = asked_kept w sp d there s g h;
        lent = h.lent;
      } in
      let up : (x : ℕ) → x < c.next → sc x ≡ false → u x ≡ B.pos (asks (Own x) ta) = λ x b1 b2. uses_pos p f sp.variables c sc n (d + length bs) x e l i fit.2 z.0 (omega arith) b2 in
      let under = under_node (is_fip f) d R.Let g there have (λ k. needs_a k + needs_b k) (MoreTrees pa (MoreTrees qb NoTrees))
      (all_asked (is_fip f) w sp d there s g (term_block w sc c (Let bs e rest)) h m o) b refl h.rising in
      let da = derive p f (lending (numbers got) (numbers there_a) sp) c sc n (d + length bs) there_a needs_a (λ x. K.lent (s x) (asks (Own x) ta)) e l i fit.2 z.0
      (bound_stands w sp c sc d (d + length bs) got s u (λ x. occurs x e) g ta l up (λ x e1. or_first (occurs x e) (occurs_block x rest) e1) st (omega arith))
      (bound_asks (is_fip f) s ys ta tb m) (λ k x y. fits_same (is_fip f) (needs_a k)) in
      let db = derive_block p f (binding d true bs sp) (inside w true c1 bs) (entering w c1.next sc bs) (n + within e + length bs) d1 there_b needs_b (K.binding ys true (λ x. after (s x) (asks (Own x) ta))) rest
      (inside_linked w true sp.variables c1 sc d bs nb l1) (let j = next_inside w true c1 bs in omega arith) fit.3 z.1
      (enter w true sp c1 sc d d1 bs (those (λ x. not (u x)) got) (λ x. after (s x) (asks (Own x) ta)) (λ x. occurs_block x rest) l1 nb
      (rest_stands w sp c sc d got s u (λ x. occurs_block x rest) g ta l up (λ x e1. or_last (occurs x e) (occurs_block x rest) e1) st) (omega arith))
      (rest_asks (is_fip f) s ys ta tb m) (λ k x y. fits_same (is_fip f) (needs_b k)) in
      let_derives w sp n d bs e rest (made_block p w sp.variables d there have (Let bs e rest)) pa qb got u needs_a needs_b under fit.0 fit.1 st.rising
      (has_expression p w sp.variables (d + length bs) there_a needs_a e) (has_block p w (named d true bs ++ sp.variables) d1 there_b needs_b rest) da db

  -- The clauses after the first, whose term is te. The match has these variables and credits.
  pub derive_clauses : (p : Program) (f : FunKind) (sp : Scope) (c : Names) (sc : Scalars) (n d0 d : ℕ) (own : Bool) (xo : Option ℕ) (a : Argument) (got : List Known) (needed : ℕ → ℕ) (s : ℕ → Status) (m : ℕ → ℕ) (ys ks : List ℕ) (te : C.Term) (cs : Clauses) → Linked (world p f) sp.variables c sc → c.next ≡ n → FittingClauses (world p f) sp.variables n d own cs → SizedClauses p cs → Goes own xo a got → Stands (world p f) sp d0 (remaining own a got) s (λ x. occurs_clauses x cs) → d0 ≤ d → Faces (is_fip f) own s m (clauses (world p f) sc own c ys ks te cs) → ((k : ℕ) → 0 < k → k < 17 → m k ≡ needed k) → ((k : ℕ) → need_clauses p k own cs ≤ needed k) → DerivesClauses (world p f) sp n d xo (owned (numbers got) (credits needed)) (made_clauses p (world p f) sp.variables d own a got needed cs) cs
  derive_clauses p f sp c sc n d0 d own xo a got needed s m ys ks te NoClauses l i fit z go st le fa same most = tt
  derive_clauses p f sp c sc n d0 d own xo a got needed s m ys ks te (MoreClauses r body cs) l i fit z go st le fa same most =
      let w = world p f in
      let bs = binders r in
      let c1 = past_clause w own c r body in
      let tb = term_block w (entering w c.next sc bs) (inside w own c bs) body in
      let tc = clauses w sc own c1 (variables w c.next bs) (nodes r) tb cs in
      let d1 = d + length bs in
      let first = made_block p w (named d own bs ++ sp.variables) d1 (clause_variables w own a d bs got) (λ k. needed k + N.given k own r) body in
      let rest = face_rest (is_fip f) own s m ys ks te tc fa in
      let one = face_head p f (is_fip f) own sc c1 s m (variables w c.next bs) (nodes r) tb cs rest in
      let fits = clause_fits p f own sc c s m needed r body (entering w c.next sc bs) (inside w own c bs) (variables w c.next bs) z.1 same
      (λ k. let x = greater_left (need_block p k body - N.given k own r) (need_clauses p k own cs) in let y : greater (need_block p k body - N.given k own r) (need_clauses p k own cs) ≤ needed k = most k in omega arith) one in
      let st1 = stands_sub w sp d0 d (remaining own a got) s (λ x. occurs_block x body) (λ x. occurs_block x body || occurs_clauses x cs) (λ x e. or_first (occurs_block x body) (occurs_clauses x cs) e) le st in
      let st2 = enter w own sp c sc d d1 bs (remaining own a got) s (λ x. occurs_block x body) l (numbered_at n c.next d bs i fit.0) st1 (omega arith) in
      let as2 = enter_asks (is_fip f) own (variables w c.next bs) s tb one.all one.most one.used one.clean one.even in (
        clause_is w sp own xo n d a got needed r body first fit.0 z.0 go
            (has_block p w (named d own bs ++ sp.variables) d1 (clause_variables w own a d bs got) (λ k. needed k + N.given k own r) body)
            (rising_clause w own d d1 a bs got st1.rising (omega arith))
            (derive_block p f (binding d own bs sp) (inside w own c bs) (entering w c.next sc bs) (n + length bs) d1 (clause_variables w own a d bs got) (λ k. needed k + N.given k own r) (K.binding (variables w c.next bs) own s) body
            (inside_linked w own sp.variables c sc d bs (numbered_at n c.next d bs i fit.0) l) (let e = next_inside w own c bs in omega arith) fit.1 z.1 st2 as2 fits),
        derive_clauses p f sp c1 sc (n + length bs + within_block body) d0 (d + length bs + within_block body) own xo a got needed s m (variables w c.next bs) (nodes r) tb cs
            (past_linked w own sp.variables c sc r body l) (let e = next_past w own c r body in omega arith) fit.2 z.2 go
            (stands_sub w sp d0 d0 (remaining own a got) s (λ x. occurs_clauses x cs) (λ x. occurs_block x body || occurs_clauses x cs) (λ x e. or_last (occurs_block x body) (occurs_clauses x cs) e) (omega arith) st) (omega arith) rest same
            (λ k. let x = greater_right (need_block p k body - N.given k own r) (need_clauses p k own cs) in let y : greater (need_block p k body - N.given k own r) (need_clauses p k own cs) ≤ needed k = most k in omega arith),
      )
