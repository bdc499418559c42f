-- How many binders are in a part, as its shape counts them; and where a variable occurs and is used up, as its term
-- counts it.
use Rattle.std.proofs.Common.{◌≡◌, ℕ, zero, suc, ◌<◌, ◌≤◌, ◌+◌, inl, inr, refl, sym, ap, subst, ◌∙◌, List, [], ◌∷◌, ◌++◌, length, Option, Some, None, Bool, true, false, not, arith}
use Rattle.std.specs.Prelude.{◌==◌, ◌||◌, ◌&&◌, max, slice_get, if◌then◌else◌}
use Rattle.type_check.specs.fip_language.declared.FunKind.{FunKind}
use Rattle.type_check.specs.fip_language.declared.Place.{Place}
use Rattle.type_check.specs.fip_language.declared.rule.Rule.TheVariants.{E54, E55}
use Rattle.derivation_check.specs.fip_base.declared.plain.Param.{Param}
use Rattle.derivation_check.specs.fip_trees.declared.program.Binder.{Binder}
use Rattle.derivation_check.specs.fip_trees.Tree.{Name, Argument, Variable, Literal, Constructor, Arguments, NoArguments, MoreArguments}
use Rattle.derivation_check.specs.fip_trees.Tree.{Pattern, Instance, Program, Expression, Give, Tuple, Operation, Call, Match, Nested, Block, Last, Let, Clauses, NoClauses, MoreClauses}
use Rattle.ownership_agreement.specs.fip_rules.Marks.{Mark}
use Rattle.ownership_agreement.specs.fip_rules.Shape as S
use Rattle.ownership_agreement.specs.fip_rules.Rules.{next}
use Rattle.ownership_agreement.specs.fip_rules.World.{World, world, lends, weaker}
use Rattle.ownership_agreement.specs.fip_rules.Shapes as H
use Rattle.ownership_agreement.specs.fip_rules.Shapes.{Names, Bind, binds, following, taking, binders, takes, owning, owning_all, lending, passing, passing_all, called, token, used_at, lent_at, clause_shape, shape, shape_block, shape_clauses}
use Rattle.ownership_agreement.specs.ownership_calculus.Terms as T
use Rattle.ownership_agreement.specs.ownership_calculus.Terms.{Own, one, has, paid, size}
use Rattle.ownership_agreement.specs.ownership_calculus.Clean.{used_up, all_used_up, lent_used_up, passed_used_up, outside, asks, asks_lent, asks_taken}
use Rattle.ownership_agreement.specs.Bodies.{Scalars, variable, value, values, lent_value, passed, variables, entering, inside, past_clause, matched, nodes, term, term_block, clauses}
use Rattle.ownership_agreement.specs.Sized.{SizedArgument, SizedArguments, SizedExpression, SizedBlock, SizedClauses}
use Rattle.ownership_agreement.proofs.Basics.{pos, pos_sum, pos_max, paid_none, var_pos, past, past_inside, not_owned}
use Rattle.derivation_check.specs.Scopes.{Known, known, meant, named, within, within_block, within_clauses}
use Rattle.derivation_check.specs.Scopes as P
use Rattle.ownership_agreement.proofs.Basics as B
use Rattle.derivation_check.specs.Calculus.{IsScalar, Operand}
use Rattle.derivation_making.specs.Uses.{occurs_value, occurs_values, occurs, occurs_block, occurs_clauses, uses_lent, uses_passed, uses, uses_block, uses_clauses}
use Rattle.derivation_making.specs.Fitting.{IsThere, FitsValue, FitValues, FitPassed, FitsCall, IsScrutinised, FitsScrutinee, Fitting, FittingBlock, FittingClauses}
use Rattle.derivation_making.proofs.Linking.{Linked, inside_linked, later_linked, next_inside}
use Rattle.derivation_making.proofs.Lists.{either}
use Rattle.type_check.proofs.fip_language.Facts.{or_false as or_none}
use Rattle.ownership_agreement.proofs.fip_rules.Orders.{next_lending, next_passing}
pub use Rattle.ownership_agreement.proofs.Owning.{both as or_pos}

-- ---- how many binders

used_next : (n : ℕ) (o : Option ℕ) (x : ℕ) (p : Place) (l : Name) → next n (used_at o x p l) ≡ n
used_next n None x p l = refl
used_next n (Some i) x p l = refl

lent_next : (n : ℕ) (o : Option ℕ) (x : ℕ) (p : Place) (l : Name) → next n (lent_at o x p l) ≡ n
lent_next n None x p l = refl
lent_next n (Some i) x p l = refl

mutual
  next_owning : (n : ℕ) (ms : List Mark) (a : Argument) → next n (owning ms a) ≡ n
  next_owning n ms (Variable None l p) = refl
  next_owning n ms (Variable (Some x) l p) = used_next n (H.known ms x) x p l
  next_owning n ms (Literal i p) = refl
  next_owning n ms (Constructor t d c l p as') = next_owning_all n ms as'

  next_owning_all : (n : ℕ) (ms : List Mark) (as' : Arguments) → next n (owning_all ms as') ≡ n
  next_owning_all n ms NoArguments = refl
  next_owning_all n ms (MoreArguments a as') = ap (λ k. next k (owning_all ms as')) (next_owning n ms a) ∙ next_owning_all n ms as'

next_fault : (n : ℕ) (b : Bool) (p : Place) (l : Name) (ms : List Mark) (as' : Arguments) → next n (if b then S.Skip else S.Then (S.Fault E54 (token p l)) (owning_all ms as')) ≡ n
next_fault n true p l ms as' = refl
next_fault n false p l ms as' = next_owning_all n ms as'

pub next_passing_all : (n : ℕ) (w : World) (ms : List Mark) (g j : ℕ) (as' : Arguments) → next n (passing_all w ms g j as') ≡ n
next_passing_all n w ms g j NoArguments = refl
next_passing_all n w ms g j (MoreArguments a as') = ap (λ k. next k (passing_all w ms g (suc j) as')) (next_passing n w ms (lends w g j) a) ∙ next_passing_all n w ms g (suc j) as'

next_called : (n : ℕ) (b : Bool) (p : Place) (l : Name) → next n (if b then S.Fault E55 (token p l) else S.Skip) ≡ n
next_called n true p l = refl
next_called n false p l = refl

next_binds : (n : ℕ) (w : World) (own : Bool) (bs : List Binder) (e : S.Shape) → next n (binds n (taking w own bs) e) ≡ next (past n bs) e
next_binds n w own [] e = refl
next_binds n w own (b ∷ bs) e = next_binds (suc n) w own bs e

next_clause : (w : World) (own : Bool) (c : Names) (bs : List Binder) (body : Block) (m : ℕ) → next (inside w own c bs).next (shape_block w (inside w own c bs) body) ≡ (inside w own c bs).next + m → next c.next (clause_shape c (taking w own bs) (λ d. shape_block w d body)) ≡ c.next + length bs + m
next_clause w own c bs body m h =
    let e = next_inside w own c bs in
    next_binds c.next w own bs (shape_block w (inside w own c bs) body)
    ∙ ap (λ k. next k (shape_block w (inside w own c bs) body)) (sym (past_inside w own c bs))
    ∙ h ∙ ap (λ k. k + m) e

mutual
  pub next_within : (w : World) (c : Names) (e : Expression) → next c.next (shape w c e) ≡ c.next + within e
  next_within w c (Give a) = next_owning c.next c.marks a ∙ (omega arith)
  next_within w c (Tuple p as') = next_owning_all c.next c.marks as' ∙ (omega arith)
  next_within w c (Operation o p l r) = ap (λ k. next k (owning c.marks r)) (next_owning c.next c.marks l) ∙ next_owning c.next c.marks r ∙ (omega arith)
  next_within w c (Call g l p as') = ap (λ k. next k (passing_all w c.marks g 0 as')) (next_called c.next (weaker w g) p l) ∙ next_passing_all c.next w c.marks g 0 as' ∙ (omega arith)
  next_within w c (Match k t p a q body cs) =
      let own = takes w k t in
      let done = clause_shape c (taking w own (binders q)) (λ d. shape_block w d body) in
      let f = next_clause w own c (binders q) body (within_block body) (next_block w (inside w own c (binders q)) body) in
      ap (λ n. next n (shape_clauses w own c done cs)) (next_passing c.next w c.marks (not own) a)
      ∙ next_clauses w own c done cs ∙ ap (λ n. n + within_clauses cs) f ∙ (omega arith)
  next_within w c (Nested b) = next_block w c b

  pub next_block : (w : World) (c : Names) (b : Block) → next c.next (shape_block w c b) ≡ c.next + within_block b
  next_block w c (Last e) = next_within w c e
  next_block w c (Let bs e rest) =
      let f = next_within w c e in
      let r = next_clause w true (following c (shape w c e)) bs rest (within_block rest) (next_block w (inside w true (following c (shape w c e)) bs) rest) in
      r ∙ ap (λ n. n + length bs + within_block rest) f ∙ (omega arith)

  pub next_clauses : (w : World) (own : Bool) (c : Names) (done : S.Shape) (cs : Clauses) → next c.next (shape_clauses w own c done cs) ≡ next c.next done + within_clauses cs
  next_clauses w own c done NoClauses = omega arith
  next_clauses w own c done (MoreClauses q body cs) =
      let d = following c done in
      let more = clause_shape d (taking w own (binders q)) (λ e. shape_block w e body) in
      let f = next_clause w own d (binders q) body (within_block body) (next_block w (inside w own d (binders q)) body) in
      next_clauses w own c (S.Either done more) cs ∙ ap (λ n. n + within_clauses cs) f ∙ (omega arith)

-- after a part, and within binders there
pub next_after : (w : World) (c : Names) (e : Expression) → (following c (shape w c e)).next ≡ c.next + within e
next_after w c e = next_within w c e

pub next_past : (w : World) (own : Bool) (c : Names) (q : Pattern) (body : Block) → (past_clause w own c q body).next ≡ c.next + length (binders q) + within_block body
next_past w own c q body = next_clause w own c (binders q) body (within_block body) (next_block w (inside w own c (binders q)) body)

pub after_linked : (w : World) (vs : List Known) (c : Names) (sc : Scalars) (e : Expression) → Linked w vs c sc → Linked w vs (following c (shape w c e)) sc
after_linked w vs c sc e h = later_linked w vs c (next c.next (shape w c e)) sc (let f = next_within w c e in omega arith) h

pub past_linked : (w : World) (own : Bool) (vs : List Known) (c : Names) (sc : Scalars) (q : Pattern) (body : Block) → Linked w vs c sc → Linked w vs (past_clause w own c q body) sc
past_linked w own vs c sc q body h = later_linked w vs c (past_clause w own c q body).next sc (let f = next_past w own c q body in omega arith) h

-- ---- arguments

pub there_is : (o : Option Known) → IsThere o → (v : Known) × (o ≡ Some v)
there_is None h = absurd h
there_is (Some v) h = (v, refl)

variable_pos : (w : World) (vs : List Known) (c : Names) (sc : Scalars) (x y : ℕ) → Linked w vs c sc → IsThere (known vs y) → sc x ≡ false → (y == x) ≡ pos (used_up (variable sc (H.known c.marks y)) (Own x))
variable_pos w vs c sc x y l h s =
    let v = there_is (known vs y) h in
    var_pos sc x y (sc y) (y == x) refl refl s ∙ ap (λ (o : Option ℕ). pos (used_up (variable sc o) (Own x))) (sym (l y v.0 v.1).0)

mutual
  pub value_pos : (w : World) (vs : List Known) (c : Names) (sc : Scalars) (x : ℕ) (a : Argument) → Linked w vs c sc → FitsValue vs a → sc x ≡ false → occurs_value x a ≡ pos (used_up (value sc c.marks a) (Own x))
  value_pos w vs c sc x (Variable None n p) l f s = absurd f
  value_pos w vs c sc x (Variable (Some y) n p) l f s = variable_pos w vs c sc x y l f s
  value_pos w vs c sc x (Literal i p) l f s = refl
  value_pos w vs c sc x (Constructor t d k n p as') l f s =
      values_pos w vs c sc x as' l f s ∙ ap pos (paid_none (size (values sc c.marks as')) x (all_used_up (values sc c.marks as') (Own x)))

  pub values_pos : (w : World) (vs : List Known) (c : Names) (sc : Scalars) (x : ℕ) (as' : Arguments) → Linked w vs c sc → FitValues vs as' → sc x ≡ false → occurs_values x as' ≡ pos (all_used_up (values sc c.marks as') (Own x))
  values_pos w vs c sc x NoArguments l f s = refl
  values_pos w vs c sc x (MoreArguments a as') l f s =
      or_pos (occurs_value x a) (occurs_values x as') (used_up (value sc c.marks a) (Own x)) (all_used_up (values sc c.marks as') (Own x)) (value_pos w vs c sc x a l f.0 s) (values_pos w vs c sc x as' l f.1 s)

scalar_there : (w : World) (o : Option Known) → IsScalar w o → IsThere o
scalar_there w None h = absurd h
scalar_there w (Some v) h = tt

pub operand_fits : (w : World) (vs : List Known) (a : Argument) → Operand w vs a → FitsValue vs a
operand_fits w vs (Variable x n p) h = scalar_there w (meant vs x) h
operand_fits w vs (Literal i p) h = tt
operand_fits w vs (Constructor t d c n p as') h = absurd h

-- ---- expressions: what is used up

fit_all : (w : World) (vs : List Known) (ps : List Param) (as' : Arguments) → FitPassed w vs ps as' → FitValues vs as'
fit_all w vs [] NoArguments h = tt
fit_all w vs [] (MoreArguments a as') h = absurd h
fit_all w vs (p ∷ ps) NoArguments h = absurd h
fit_all w vs (p ∷ ps) (MoreArguments a as') h = (h.0, fit_all w vs ps as' h.2)

pub call_fits : (w : World) (vs : List Known) (o : Option Instance) (as' : Arguments) → FitsCall w vs o as' → FitValues vs as'
call_fits w vs None as' h = absurd h
call_fits w vs (Some e) as' h = fit_all w vs e.params as' h

pub scrutinised_there : (w : World) (u : ℕ) (o : Option Known) → IsScrutinised w u o → IsThere o
scrutinised_there w u None h = absurd h
scrutinised_there w u (Some v) h = tt

pub scrutinee_fits : (w : World) (vs : List Known) (u : ℕ) (a : Argument) → FitsScrutinee w vs u a → FitsValue vs a
scrutinee_fits w vs u (Variable x n p) h = scrutinised_there w u (meant vs x) h
scrutinee_fits w vs u (Literal i p) h = absurd h
scrutinee_fits w vs u (Constructor t d c n p as') h = absurd h

pub lent_variable : (sc : Scalars) (o : Option ℕ) (i : T.Item) → lent_used_up (variable sc o) i ≡ 0
lent_variable sc None i = refl
lent_variable sc (Some y) i = one_none (sc y)
  where
    one_none : (b : Bool) → lent_used_up (if b then T.Scalar else T.Named y) i ≡ 0
    one_none true = refl
    one_none false = refl

built_pos : (b : Bool) (vs : List Known) (w : World) (c : Names) (sc : Scalars) (x : ℕ) (as' : Arguments) → (b ≡ true → as' ≡ NoArguments) → occurs_values x as' ≡ pos (all_used_up (values sc c.marks as') (Own x)) → occurs_values x as' ≡ pos (lent_used_up (if b then T.Scalar else T.Built (values sc c.marks as')) (Own x))
built_pos true vs w c sc x as' f h = ap (occurs_values x) (f refl)
built_pos false vs w c sc x as' f h = h ∙ ap pos (paid_none (size (values sc c.marks as')) x (all_used_up (values sc c.marks as') (Own x)))

lent_pos : (p : Program) (f : FunKind) (vs : List Known) (c : Names) (sc : Scalars) (x : ℕ) (a : Argument) → Linked (world p f) vs c sc → FitsValue vs a → SizedArgument p a → sc x ≡ false → uses_lent x a ≡ pos (lent_used_up (lent_value (world p f) sc c.marks a) (Own x))
lent_pos p f vs c sc x (Variable y n q) l h g s = ap pos (sym (lent_variable sc (seen_by y) (Own x)))
  where
    seen_by : Option ℕ → Option ℕ
    seen_by None = None
    seen_by (Some z) = H.known c.marks z
lent_pos p f vs c sc x (Literal i q) l h g s = refl
lent_pos p f vs c sc x (Constructor t d k n q as') l h g s = built_pos ((world p f).scalar t) vs (world p f) c sc x as' g.1 (values_pos (world p f) vs c sc x as' l h s)

passed_one : (b : Bool) (w : World) (c : Names) (sc : Scalars) (x : ℕ) (a : Argument) (gs : T.Passed) (r : Bool) → uses_lent x a ≡ pos (lent_used_up (lent_value w sc c.marks a) (Own x)) → occurs_value x a ≡ pos (used_up (value sc c.marks a) (Own x)) → r ≡ pos (passed_used_up gs (Own x)) → ((if b then uses_lent x a else occurs_value x a) || r) ≡ pos (passed_used_up (if b then T.PassLent (lent_value w sc c.marks a) gs else T.PassOwned (value sc c.marks a) gs) (Own x))
passed_one true w c sc x a gs r l v e = or_pos (uses_lent x a) r (lent_used_up (lent_value w sc c.marks a) (Own x)) (passed_used_up gs (Own x)) l e
passed_one false w c sc x a gs r l v e = or_pos (occurs_value x a) r (used_up (value sc c.marks a) (Own x)) (passed_used_up gs (Own x)) v e

passed_pos : (p : Program) (f : FunKind) (vs : List Known) (c : Names) (sc : Scalars) (x g j : ℕ) (as' : Arguments) → Linked (world p f) vs c sc → FitValues vs as' → SizedArguments p as' → sc x ≡ false → uses_passed (world p f) x g j as' ≡ pos (passed_used_up (passed (world p f) sc c.marks g j as') (Own x))
passed_pos p f vs c sc x g j NoArguments l h z s = refl
passed_pos p f vs c sc x g j (MoreArguments a as') l h z s =
    passed_one (lends (world p f) g j) (world p f) c sc x a (passed (world p f) sc c.marks g (suc j) as') (uses_passed (world p f) x g (suc j) as')
    (lent_pos p f vs c sc x a l h.0 z.0 s) (value_pos (world p f) vs c sc x a l h.0 s) (passed_pos p f vs c sc x g (suc j) as' l h.1 z.1 s)

no_more : (m : ℕ) → pos (m + 0) ≡ pos m
no_more m = pos_sum m 0 ∙ or_none (pos m)

matched_pos : (b : Bool) (w : World) (vs : List Known) (u : ℕ) (c : Names) (sc : Scalars) (x : ℕ) (a : Argument) (cs : T.Clauses) (r : Bool) → FitsScrutinee w vs u a → occurs_value x a ≡ pos (used_up (value sc c.marks a) (Own x)) → r ≡ pos (asks_lent (Own x) cs) → ((b && occurs_value x a) || r) ≡ pos (asks (Own x) (matched w sc c.marks b a cs))
matched_pos true w vs u c sc x a cs r h v e = or_pos (occurs_value x a) r (used_up (value sc c.marks a) (Own x)) (asks_taken (Own x) cs) v (e ∙ ap pos (lent_taken x cs))
  where
    lent_taken : (x : ℕ) (cs : T.Clauses) → asks_lent (Own x) cs ≡ asks_taken (Own x) cs
    lent_taken x (T.LastClause ys ks e) = refl
    lent_taken x (T.MoreClauses ys ks e cs) = ap (max _) (lent_taken x cs)
matched_pos false w vs u c sc x (Variable y n p) cs r h v e = e ∙ ap pos (none_first (seen_by y))
  where
    seen_by : Option ℕ → Option ℕ
    seen_by None = None
    seen_by (Some z) = H.known c.marks z

    none_first : (o : Option ℕ) → asks_lent (Own x) cs ≡ lent_used_up (variable sc o) (Own x) + asks_lent (Own x) cs
    none_first o = let z = lent_variable sc o (Own x) in omega arith
matched_pos false w vs u c sc x (Literal i p) cs r h v e = absurd h
matched_pos false w vs u c sc x (Constructor t d k n p as') cs r h v e = absurd h

outside_pos : (h : Bool) (m : ℕ) (r : Bool) → h ≡ false → r ≡ pos m → r ≡ pos (if h then 0 else m)
outside_pos true m r e f = absurd (cc)
outside_pos false m r e f = f

pub numbered_at : (n m d : ℕ) (bs : List Binder) → m ≡ n → P.AreNumbered n d bs → P.AreNumbered m d bs
numbered_at n m d bs e h = subst (λ k. P.AreNumbered k d bs) (sym e) h

mutual
  pub uses_pos : (p : Program) (f : FunKind) (vs : List Known) (c : Names) (sc : Scalars) (n d x : ℕ) (e : Expression) → Linked (world p f) vs c sc → c.next ≡ n → Fitting (world p f) vs n d e → SizedExpression p e → x < n → sc x ≡ false → uses (world p f) x e ≡ pos (asks (Own x) (term (world p f) sc c e))
  uses_pos p f vs c sc n d x (Give a) l i h z b s = value_pos (world p f) vs c sc x a l h s ∙ sym (no_more (used_up (value sc c.marks a) (Own x)))
  uses_pos p f vs c sc n d x (Tuple q as') l i h z b s = values_pos (world p f) vs c sc x as' l h s
  uses_pos p f vs c sc n d x (Operation o q a1 a2) l i h z b s =
      or_pos (occurs_value x a1) (occurs_value x a2) (used_up (value sc c.marks a1) (Own x)) (used_up (value sc c.marks a2) (Own x) + 0)
      (value_pos (world p f) vs c sc x a1 l (operand_fits (world p f) vs a1 h.0) s)
      (value_pos (world p f) vs c sc x a2 l (operand_fits (world p f) vs a2 h.1) s ∙ sym (no_more (used_up (value sc c.marks a2) (Own x))))
  uses_pos p f vs c sc n d x (Call g m q as') l i h z b s = passed_pos p f vs c sc x g 0 as' l (call_fits (world p f) vs (slice_get p.instances g) as' h) z.0 s
  uses_pos p f vs c sc n d x (Match k u q a r body cs) l i h z b s =
      let w = world p f in
      let own = takes w k u in
      let bs = binders r in
      let te = term_block w (entering w c.next sc bs) (inside w own c bs) body in
      let first =
      outside_pos (has (variables w c.next bs) x) (asks (Own x) te) (uses_block w x body) (not_owned w c.next x bs (omega arith))
      (block_pos p f (named d own bs ++ vs) (inside w own c bs) (entering w c.next sc bs) (n + length bs) (d + length bs) x body
      (inside_linked w own vs c sc d bs (numbered_at n c.next d bs i h.1) l)
      (let g = next_inside w own c bs in omega arith) h.2 z.2 (omega arith) (B.not_entered w c.next x sc bs (omega arith) ∙ s)) in
      let all = clauses_pos p f own vs (past_clause w own c r body) sc (n + length bs + within_block body) (d + length bs + within_block body) x (variables w c.next bs) (nodes r) te cs (uses_block w x body)
      (past_linked w own vs c sc r body l) (let e = next_past w own c r body in omega arith) h.3 z.3 (omega arith) s first in
      matched_pos own w vs u c sc x a (clauses w sc own (past_clause w own c r body) (variables w c.next bs) (nodes r) te cs) (uses_block w x body || uses_clauses w x cs) h.0
      (value_pos w vs c sc x a l (scrutinee_fits w vs u a h.0) s) all
  uses_pos p f vs c sc n d x (Nested bl) l i h z b s = block_pos p f vs c sc n d x bl l i h z b s

  pub block_pos : (p : Program) (f : FunKind) (vs : List Known) (c : Names) (sc : Scalars) (n d x : ℕ) (bl : Block) → Linked (world p f) vs c sc → c.next ≡ n → FittingBlock (world p f) vs n d bl → SizedBlock p bl → x < n → sc x ≡ false → uses_block (world p f) x bl ≡ pos (asks (Own x) (term_block (world p f) sc c bl))
  block_pos p f vs c sc n d x (Last e) l i h z b s = uses_pos p f vs c sc n d x e l i h z b s
  block_pos p f vs c sc n d x (Let bs e rest) l i h z b s =
      let w = world p f in
      let c1 = following c (shape w c e) in
      let m : c1.next ≡ n + within e = (let g = next_after w c e in omega arith) in
      let nb = numbered_at (n + within e) c1.next d bs m h.1 in
      let tb = term_block w (entering w c1.next sc bs) (inside w true c1 bs) rest in
      or_pos (uses w x e) (uses_block w x rest) (asks (Own x) (term w sc c e)) (outside (variables w c1.next bs) [] (Own x) (asks (Own x) tb))
      (uses_pos p f vs c sc n (d + length bs) x e l i h.2 z.0 b s)
      (outside_pos (has (variables w c1.next bs) x) (asks (Own x) tb) (uses_block w x rest) (not_owned w c1.next x bs (omega arith))
      (block_pos p f (named d true bs ++ vs) (inside w true c1 bs) (entering w c1.next sc bs) (n + within e + length bs) (d + within e + length bs) x rest
      (inside_linked w true vs c1 sc d bs nb (after_linked w vs c sc e l))
      (let g = next_inside w true c1 bs in omega arith) h.3 z.1 (omega arith) (B.not_entered w c1.next x sc bs (omega arith) ∙ s)))

  clauses_pos : (p : Program) (f : FunKind) (own : Bool) (vs : List Known) (c : Names) (sc : Scalars) (n d x : ℕ) (ys ks : List ℕ) (te : T.Term) (cs : Clauses) (first : Bool) → Linked (world p f) vs c sc → c.next ≡ n → FittingClauses (world p f) vs n d own cs → SizedClauses p cs → x < n → sc x ≡ false → first ≡ pos (outside ys [] (Own x) (asks (Own x) te)) → (first || uses_clauses (world p f) x cs) ≡ pos (asks_lent (Own x) (clauses (world p f) sc own c ys ks te cs))
  clauses_pos p f own vs c sc n d x ys ks te NoClauses first l i h z b s g = or_none first ∙ g
  clauses_pos p f own vs c sc n d x ys ks te (MoreClauses r body cs) first l i h z b s g =
      let w = world p f in
      let bs = binders r in
      let tb = term_block w (entering w c.next sc bs) (inside w own c bs) body in
      let next =
      outside_pos (has (variables w c.next bs) x) (asks (Own x) tb) (uses_block w x body) (not_owned w c.next x bs (omega arith))
      (block_pos p f (named d own bs ++ vs) (inside w own c bs) (entering w c.next sc bs) (n + length bs) (d + length bs) x body
      (inside_linked w own vs c sc d bs (numbered_at n c.next d bs i h.0) l)
      (let k = next_inside w own c bs in omega arith) h.1 z.1 (omega arith) (B.not_entered w c.next x sc bs (omega arith) ∙ s)) in
      let all = clauses_pos p f own vs (past_clause w own c r body) sc (n + length bs + within_block body) (d + length bs + within_block body) x (variables w c.next bs) (nodes r) tb cs (uses_block w x body)
      (past_linked w own vs c sc r body l) (let e = next_past w own c r body in omega arith) h.2 z.2 (omega arith) s next in
      ap (λ t. t || (uses_block w x body || uses_clauses w x cs)) g
      ∙ ap (λ t. pos (outside ys [] (Own x) (asks (Own x) te)) || t) all
      ∙ sym (pos_max (outside ys [] (Own x) (asks (Own x) te)) (asks_lent (Own x) (clauses w sc own (past_clause w own c r body) (variables w c.next bs) (nodes r) tb cs)))

-- ---- what is used up occurs

or_from : (a b : Bool) (m n : ℕ) → (1 ≤ m → a ≡ true) → (1 ≤ n → b ≡ true) → 1 ≤ m + n → (a || b) ≡ true
or_from a b zero n f g h = let e = g (omega arith) in or_last a b e
  where
    or_last : (a b : Bool) → b ≡ true → (a || b) ≡ true
    or_last true b e = refl
    or_last false b e = e
or_from a b (suc m) n f g h = let e = f (omega arith) in rw (e) refl

or_greater : (a b : Bool) (m n : ℕ) → (1 ≤ m → a ≡ true) → (1 ≤ n → b ≡ true) → 1 ≤ max m n → (a || b) ≡ true
or_greater a b m n f g h = or_from a b m n f g (omega arith)

one_is : (b : Bool) (x y : ℕ) → 1 ≤ used_up (if b then T.Scalar else T.Named y) (Own x) → (y == x) ≡ true
one_is true x y h = absurd (omega arith)
one_is false x y h = elim (either (y == x)) [
  | inl e ↦ e
  | inr e ↦ let z : one y x ≡ 0 = rw (e) refl in absurd (omega arith)
]

mutual
  value_occurs : (w : World) (vs : List Known) (c : Names) (sc : Scalars) (x : ℕ) (a : Argument) → Linked w vs c sc → FitsValue vs a → 1 ≤ used_up (value sc c.marks a) (Own x) → occurs_value x a ≡ true
  value_occurs w vs c sc x (Variable None n p) l f h = absurd f
  value_occurs w vs c sc x (Variable (Some y) n p) l f h =
      let v = there_is (known vs y) f in
      one_is (sc y) x y (subst (λ (o : Option ℕ). 1 ≤ used_up (variable sc o) (Own x)) (l y v.0 v.1).0 h)
  value_occurs w vs c sc x (Literal i p) l f h = absurd (omega arith)
  value_occurs w vs c sc x (Constructor t d k n p as') l f h =
      values_occur w vs c sc x as' l f (let e = paid_none (size (values sc c.marks as')) x (all_used_up (values sc c.marks as') (Own x)) in omega arith)

  values_occur : (w : World) (vs : List Known) (c : Names) (sc : Scalars) (x : ℕ) (as' : Arguments) → Linked w vs c sc → FitValues vs as' → 1 ≤ all_used_up (values sc c.marks as') (Own x) → occurs_values x as' ≡ true
  values_occur w vs c sc x NoArguments l f h = absurd (omega arith)
  values_occur w vs c sc x (MoreArguments a as') l f h =
      or_from (occurs_value x a) (occurs_values x as') (used_up (value sc c.marks a) (Own x)) (all_used_up (values sc c.marks as') (Own x)) (value_occurs w vs c sc x a l f.0) (values_occur w vs c sc x as' l f.1) h

built_occurs : (b : Bool) (w : World) (vs : List Known) (c : Names) (sc : Scalars) (x : ℕ) (as' : Arguments) → Linked w vs c sc → FitValues vs as' → 1 ≤ lent_used_up (if b then T.Scalar else T.Built (values sc c.marks as')) (Own x) → occurs_values x as' ≡ true
built_occurs true w vs c sc x as' l f h = absurd (omega arith)
built_occurs false w vs c sc x as' l f h =
    values_occur w vs c sc x as' l f (let e = paid_none (size (values sc c.marks as')) x (all_used_up (values sc c.marks as') (Own x)) in omega arith)

lent_occurs : (w : World) (vs : List Known) (c : Names) (sc : Scalars) (x : ℕ) (a : Argument) → Linked w vs c sc → FitsValue vs a → 1 ≤ lent_used_up (lent_value w sc c.marks a) (Own x) → occurs_value x a ≡ true
lent_occurs w vs c sc x (Variable None n p) l f h = absurd f
lent_occurs w vs c sc x (Variable (Some y) n p) l f h = let z = lent_variable sc (H.known c.marks y) (Own x) in absurd (omega arith)
lent_occurs w vs c sc x (Literal i p) l f h = absurd (omega arith)
lent_occurs w vs c sc x (Constructor t d k n p as') l f h = built_occurs (w.scalar t) w vs c sc x as' l f h

passed_one_occurs : (b : Bool) (w : World) (c : Names) (sc : Scalars) (x : ℕ) (a : Argument) (gs : T.Passed) (r : Bool) → (1 ≤ lent_used_up (lent_value w sc c.marks a) (Own x) → occurs_value x a ≡ true) → (1 ≤ used_up (value sc c.marks a) (Own x) → occurs_value x a ≡ true) → (1 ≤ passed_used_up gs (Own x) → r ≡ true) → 1 ≤ passed_used_up (if b then T.PassLent (lent_value w sc c.marks a) gs else T.PassOwned (value sc c.marks a) gs) (Own x) → (occurs_value x a || r) ≡ true
passed_one_occurs true w c sc x a gs r l v e h = or_from (occurs_value x a) r (lent_used_up (lent_value w sc c.marks a) (Own x)) (passed_used_up gs (Own x)) l e h
passed_one_occurs false w c sc x a gs r l v e h = or_from (occurs_value x a) r (used_up (value sc c.marks a) (Own x)) (passed_used_up gs (Own x)) v e h

passed_occurs : (w : World) (vs : List Known) (c : Names) (sc : Scalars) (x g j : ℕ) (as' : Arguments) → Linked w vs c sc → FitValues vs as' → 1 ≤ passed_used_up (passed w sc c.marks g j as') (Own x) → occurs_values x as' ≡ true
passed_occurs w vs c sc x g j NoArguments l f h = absurd (omega arith)
passed_occurs w vs c sc x g j (MoreArguments a as') l f h =
    passed_one_occurs (lends w g j) w c sc x a (passed w sc c.marks g (suc j) as') (occurs_values x as')
    (lent_occurs w vs c sc x a l f.0) (value_occurs w vs c sc x a l f.0) (passed_occurs w vs c sc x g (suc j) as' l f.1) h

matched_occurs : (b : Bool) (w : World) (c : Names) (sc : Scalars) (x : ℕ) (a : Argument) (cs : T.Clauses) (r : Bool) → (1 ≤ lent_used_up (lent_value w sc c.marks a) (Own x) → occurs_value x a ≡ true) → (1 ≤ used_up (value sc c.marks a) (Own x) → occurs_value x a ≡ true) → (1 ≤ asks_lent (Own x) cs → r ≡ true) → 1 ≤ asks (Own x) (matched w sc c.marks b a cs) → (occurs_value x a || r) ≡ true
matched_occurs true w c sc x a cs r l v e h = or_from (occurs_value x a) r (used_up (value sc c.marks a) (Own x)) (asks_taken (Own x) cs) v (λ g. e (let z = B.lent_taken x cs in omega arith)) h
matched_occurs false w c sc x a cs r l v e h = or_from (occurs_value x a) r (lent_used_up (lent_value w sc c.marks a) (Own x)) (asks_lent (Own x) cs) l e h

from_outside : (b : Bool) (m : ℕ) → 1 ≤ (if b then 0 else m) → 1 ≤ m
from_outside true m h = absurd (omega arith)
from_outside false m h = h

mutual
  pub asked_occurs : (p : Program) (f : FunKind) (vs : List Known) (c : Names) (sc : Scalars) (n d x : ℕ) (e : Expression) → Linked (world p f) vs c sc → c.next ≡ n → Fitting (world p f) vs n d e → 1 ≤ asks (Own x) (term (world p f) sc c e) → occurs x e ≡ true
  asked_occurs p f vs c sc n d x (Give a) l i h m = value_occurs (world p f) vs c sc x a l h (omega arith)
  asked_occurs p f vs c sc n d x (Tuple q as') l i h m = values_occur (world p f) vs c sc x as' l h m
  asked_occurs p f vs c sc n d x (Operation o q a1 a2) l i h m =
      or_from (occurs_value x a1) (occurs_value x a2) (used_up (value sc c.marks a1) (Own x)) (used_up (value sc c.marks a2) (Own x) + 0)
      (value_occurs (world p f) vs c sc x a1 l (operand_fits (world p f) vs a1 h.0))
      (λ k. value_occurs (world p f) vs c sc x a2 l (operand_fits (world p f) vs a2 h.1) (omega arith)) m
  asked_occurs p f vs c sc n d x (Call g k q as') l i h m = passed_occurs (world p f) vs c sc x g 0 as' l (call_fits (world p f) vs (slice_get p.instances g) as' h) m
  asked_occurs p f vs c sc n d x (Match k u q a r body cs) l i h m =
      let w = world p f in
      let own = takes w k u in
      let bs = binders r in
      let te = term_block w (entering w c.next sc bs) (inside w own c bs) body in
      let rest = clauses w sc own (past_clause w own c r body) (variables w c.next bs) (nodes r) te cs in
      matched_occurs own w c sc x a rest (occurs_block x body || occurs_clauses x cs)
      (lent_occurs w vs c sc x a l (scrutinee_fits w vs u a h.0)) (value_occurs w vs c sc x a l (scrutinee_fits w vs u a h.0))
      (clauses_occur p f own vs (past_clause w own c r body) sc (n + length bs + within_block body) (d + length bs + within_block body) x (variables w c.next bs) (nodes r) te cs (occurs_block x body)
      (past_linked w own vs c sc r body l) (let e = next_past w own c r body in omega arith) h.3
      (λ k. block_occurs p f (named d own bs ++ vs) (inside w own c bs) (entering w c.next sc bs) (n + length bs) (d + length bs) x body
      (inside_linked w own vs c sc d bs (numbered_at n c.next d bs i h.1) l)
      (let g = next_inside w own c bs in omega arith) h.2 (from_outside (has (variables w c.next bs) x) (asks (Own x) te) k)))
      m
  asked_occurs p f vs c sc n d x (Nested bl) l i h m = block_occurs p f vs c sc n d x bl l i h m

  pub block_occurs : (p : Program) (f : FunKind) (vs : List Known) (c : Names) (sc : Scalars) (n d x : ℕ) (bl : Block) → Linked (world p f) vs c sc → c.next ≡ n → FittingBlock (world p f) vs n d bl → 1 ≤ asks (Own x) (term_block (world p f) sc c bl) → occurs_block x bl ≡ true
  block_occurs p f vs c sc n d x (Last e) l i h m = asked_occurs p f vs c sc n d x e l i h m
  block_occurs p f vs c sc n d x (Let bs e rest) l i h m =
      let w = world p f in
      let c1 = following c (shape w c e) in
      let k : c1.next ≡ n + within e = (let g = next_after w c e in omega arith) in
      let nb = numbered_at (n + within e) c1.next d bs k h.1 in
      let tb = term_block w (entering w c1.next sc bs) (inside w true c1 bs) rest in
      or_from (occurs x e) (occurs_block x rest) (asks (Own x) (term w sc c e)) (outside (variables w c1.next bs) [] (Own x) (asks (Own x) tb))
      (asked_occurs p f vs c sc n (d + length bs) x e l i h.2)
      (λ j. block_occurs p f (named d true bs ++ vs) (inside w true c1 bs) (entering w c1.next sc bs) (n + within e + length bs) (d + within e + length bs) x rest
      (inside_linked w true vs c1 sc d bs nb (after_linked w vs c sc e l))
      (let g = next_inside w true c1 bs in omega arith) h.3 (from_outside (has (variables w c1.next bs) x) (asks (Own x) tb) j)) m

  clauses_occur : (p : Program) (f : FunKind) (own : Bool) (vs : List Known) (c : Names) (sc : Scalars) (n d x : ℕ) (ys ks : List ℕ) (te : T.Term) (cs : Clauses) (first : Bool) → Linked (world p f) vs c sc → c.next ≡ n → FittingClauses (world p f) vs n d own cs → (1 ≤ outside ys [] (Own x) (asks (Own x) te) → first ≡ true) → 1 ≤ asks_lent (Own x) (clauses (world p f) sc own c ys ks te cs) → (first || occurs_clauses x cs) ≡ true
  clauses_occur p f own vs c sc n d x ys ks te NoClauses first l i h g m = or_none first ∙ g m
  clauses_occur p f own vs c sc n d x ys ks te (MoreClauses r body cs) first l i h g m =
      let w = world p f in
      let bs = binders r in
      let tb = term_block w (entering w c.next sc bs) (inside w own c bs) body in
      let rest = clauses w sc own (past_clause w own c r body) (variables w c.next bs) (nodes r) tb cs in
      or_greater first (occurs_block x body || occurs_clauses x cs) (outside ys [] (Own x) (asks (Own x) te)) (asks_lent (Own x) rest) g
      (clauses_occur p f own vs (past_clause w own c r body) sc (n + length bs + within_block body) (d + length bs + within_block body) x (variables w c.next bs) (nodes r) tb cs (occurs_block x body)
      (past_linked w own vs c sc r body l) (let e = next_past w own c r body in omega arith) h.2
      (λ k. block_occurs p f (named d own bs ++ vs) (inside w own c bs) (entering w c.next sc bs) (n + length bs) (d + length bs) x body
      (inside_linked w own vs c sc d bs (numbered_at n c.next d bs i h.0) l)
      (let j = next_inside w own c bs in omega arith) h.1 (from_outside (has (variables w c.next bs) x) (asks (Own x) tb) k)))
      m
