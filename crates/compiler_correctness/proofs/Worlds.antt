-- A body that has a derivation is the same to the calculus whatever kind of instance it is asked for: only a call reports
-- whether its callee's kind is strong enough, and in a derivation each is.
use Rattle.std.proofs.Common.{◌≡◌, ℕ, suc, Bool, true, false, not, List, [], ◌∷◌, Option, Some, None, slice_get, refl, sym, ap, ◌∙◌, subst}
use Rattle.std.specs.Prelude.{if◌then◌else◌}
use Rattle.lowering_soundness.specs.fip_language.declared.FunKind.{FunKind}
use Rattle.lowering_soundness.specs.fip_language.declared.FunKind.TheVariants.{Fun}
use Rattle.lowering_soundness.specs.fip_base.declared.plain.Param.{Param}
use Rattle.lowering_soundness.specs.fip_trees.declared.program.Binder.{Binder}
use Rattle.lowering_soundness.specs.fip_trees.Tree.{Argument, Variable, Literal, Constructor, Arguments, NoArguments, MoreArguments, Pattern}
use Rattle.lowering_soundness.specs.fip_trees.Tree.{Expression, Give, Tuple, Operation, Call, Match, Nested, Block, Last, Let, Clauses, NoClauses, MoreClauses, Instance, Program}
use Rattle.lowering_soundness.specs.fip_rules.Marks.{Mark}
use Rattle.lowering_soundness.specs.fip_rules.World.{World, world, lends_parameter, lends_to, lends, weaker_than, weaker, ownership}
use Rattle.lowering_soundness.specs.fip_rules.Shapes.{Names, following, within, taking, binders, takes, parameters, no_names, shape}
use Rattle.lowering_soundness.specs.ownership_calculus.Terms as C
use Rattle.lowering_soundness.specs.ownership_calculus.Clean.{Status, Clean, CleanLent, CleanTaken}
use Rattle.lowering_soundness.specs.ownership_calculus.Functions.{Derived}
use Rattle.lowering_soundness.proofs.ownership_calculus.Whole.{is_accepted}
use Rattle.lowering_soundness.specs.ownership_agreement.Bodies.{Scalars, value, lent_value, passed, variables, entering, inside, past_clause, matched, nodes, term, term_block, clauses, entering_parameters, borrowed_parameters, owned_parameters, no_variables, body_term}
use Rattle.lowering_soundness.proofs.derivation_making.Reading.{next_after, next_past}

-- ---- each call of a term that is derived is strong enough

abbrev mutual
  pub AllStrong : C.Term → Type 0
  AllStrong (C.Results as') = Unit {0}
  AllStrong (C.Call strong gs) = strong ≡ true
  AllStrong (C.Let xs a b) = AllStrong a × AllStrong b
  AllStrong (C.Match a cs) = StrongClauses cs
  AllStrong (C.Take a cs) = StrongClauses cs

  pub StrongClauses : C.Clauses → Type 0
  StrongClauses (C.LastClause ys ks e) = AllStrong e
  StrongClauses (C.MoreClauses ys ks e cs) = AllStrong e × StrongClauses cs

module _ (fip : Bool) where
  mutual
    clean_strong : (s : ℕ → Status) (e : C.Term) → Clean fip s e → AllStrong e
    clean_strong s (C.Results as') h = tt
    clean_strong s (C.Call strong gs) h = h.0
    clean_strong s (C.Let xs a b) h = (clean_strong _ a h.0, clean_strong _ b h.2)
    clean_strong s (C.Match a cs) h = lent_strong s cs h.1
    clean_strong s (C.Take a cs) h = taken_strong _ cs h.1

    lent_strong : (s : ℕ → Status) (cs : C.Clauses) → CleanLent fip s cs → StrongClauses cs
    lent_strong s (C.LastClause ys ks e) h = clean_strong _ e h
    lent_strong s (C.MoreClauses ys ks e cs) h = (clean_strong _ e h.0, lent_strong s cs h.1)

    taken_strong : (s : ℕ → Status) (cs : C.Clauses) → CleanTaken fip s cs → StrongClauses cs
    taken_strong s (C.LastClause ys ks e) h = clean_strong _ e h.1
    taken_strong s (C.MoreClauses ys ks e cs) h = (clean_strong _ e h.1, taken_strong s cs h.2)

-- ---- what doesn't ask for the kind

module _ (p : Program) (k : FunKind) where
  abbrev w : World
  w = world p k

  -- no callee is too weak for a plain instance
  abbrev v : World
  v = world p Fun

  lends_same : (o : Option Instance) (j : ℕ) → lends_to v o j ≡ lends_to w o j
  lends_same None j = refl
  lends_same (Some d) j = by (slice_get d.params j)
    where
      by : (o : Option Param) → lends_parameter v o ≡ lends_parameter w o
      by None = refl
      by (Some q) = refl

  lent_same : (sc : Scalars) (ms : List Mark) (a : Argument) → lent_value v sc ms a ≡ lent_value w sc ms a
  lent_same sc ms (Variable x n q) = refl
  lent_same sc ms (Literal i q) = refl
  lent_same sc ms (Constructor t d c n q as') = refl

  passed_same : (sc : Scalars) (ms : List Mark) (g j : ℕ) (as' : Arguments) → passed v sc ms g j as' ≡ passed w sc ms g j as'
  passed_same sc ms g j NoArguments = refl
  passed_same sc ms g j (MoreArguments a as') =
      ap (λ b. if b then C.PassLent (lent_value v sc ms a) (passed v sc ms g (suc j) as') else C.PassOwned (value sc ms a) (passed v sc ms g (suc j) as')) (lends_same (slice_get p.instances g) j)
      ∙ ap (λ x. if lends w g j then C.PassLent x (passed v sc ms g (suc j) as') else C.PassOwned (value sc ms a) (passed v sc ms g (suc j) as')) (lent_same sc ms a)
      ∙ ap (λ r. if lends w g j then C.PassLent (lent_value w sc ms a) r else C.PassOwned (value sc ms a) r) (passed_same sc ms g (suc j) as')

  variables_same : (n : ℕ) (bs : List Binder) → variables v n bs ≡ variables w n bs
  variables_same n [] = refl
  variables_same n (b ∷ bs) = ap (λ r. if w.scalar b.ty then r else n ∷ r) (variables_same (suc n) bs)

  entering_same : (n : ℕ) (sc : Scalars) (bs : List Binder) → entering v n sc bs ≡ entering w n sc bs
  entering_same n sc [] = refl
  entering_same n sc (b ∷ bs) = entering_same (suc n) _ bs

  taking_same : (t : Bool) (bs : List Binder) → taking v t bs ≡ taking w t bs
  taking_same t [] = refl
  taking_same t (b ∷ bs) = ap (λ r. record { ownership = ownership w t b.ty; binder = b } ∷ r) (taking_same t bs)

  inside_same : (t : Bool) (c : Names) (bs : List Binder) → inside v t c bs ≡ inside w t c bs
  inside_same t c bs = ap (within c) (taking_same t bs)

  abbrev from' : Names → ℕ → Names
  from' c n = record { marks = c.marks; next = n }

  after_same : (c : Names) (e : Expression) → following c (shape v c e) ≡ following c (shape w c e)
  after_same c e = ap (from' c) (next_after v c e ∙ sym (next_after w c e))

  past_same : (t : Bool) (c : Names) (q : Pattern) (body : Block) → past_clause v t c q body ≡ past_clause w t c q body
  past_same t c q body = ap (from' c) (next_past v t c q body ∙ sym (next_past w t c q body))

  matched_same : (sc : Scalars) (ms : List Mark) (t : Bool) (a : Argument) (cs ds : C.Clauses) → cs ≡ ds → matched v sc ms t a cs ≡ matched w sc ms t a ds
  matched_same sc ms true a cs ds e = ap (C.Take (value sc ms a)) e
  matched_same sc ms false a cs ds e = ap (λ x. C.Match x cs) (lent_same sc ms a) ∙ ap (C.Match (lent_value w sc ms a)) e

  matched_strong : (sc : Scalars) (ms : List Mark) (t : Bool) (a : Argument) (cs : C.Clauses) → AllStrong (matched w sc ms t a cs) → StrongClauses cs
  matched_strong sc ms true a cs h = h
  matched_strong sc ms false a cs h = h

  -- ---- the body

  strong_to : (o : Option Instance) → not (weaker_than Fun o) ≡ true
  strong_to None = refl
  strong_to (Some d) = refl

  abbrev within_clause : Scalars → Bool → Names → Pattern → Block → C.Term
  within_clause sc own c q body = term_block w (entering w c.next sc (binders q)) (inside w own c (binders q)) body

  head_strong : (sc : Scalars) (own : Bool) (c : Names) (ys ks : List ℕ) (e : C.Term) (cs : Clauses) → StrongClauses (clauses w sc own c ys ks e cs) → AllStrong e
  head_strong sc own c ys ks e NoClauses h = h
  head_strong sc own c ys ks e (MoreClauses q body cs) h = h.0

  -- a block within the scope of binders
  inner_same : (sc : Scalars) (own : Bool) (c : Names) (bs : List Binder) (b : Block) → term_block v (entering w c.next sc bs) (inside w own c bs) b ≡ term_block w (entering w c.next sc bs) (inside w own c bs) b → term_block v (entering v c.next sc bs) (inside v own c bs) b ≡ term_block w (entering w c.next sc bs) (inside w own c bs) b
  inner_same sc own c bs b same =
      ap (λ x. term_block v x (inside v own c bs) b) (entering_same c.next sc bs)
      ∙ ap (λ n. term_block v (entering w c.next sc bs) n b) (inside_same own c bs)
      ∙ same

  -- a first clause, and those after it
  first_same : (sc : Scalars) (own : Bool) (c : Names) (q : Pattern) (body : Block) (cs : Clauses) → term_block v (entering w c.next sc (binders q)) (inside w own c (binders q)) body ≡ within_clause sc own c q body → clauses v sc own (past_clause w own c q body) (variables w c.next (binders q)) (nodes q) (within_clause sc own c q body) cs ≡ clauses w sc own (past_clause w own c q body) (variables w c.next (binders q)) (nodes q) (within_clause sc own c q body) cs → clauses v sc own (past_clause v own c q body) (variables v c.next (binders q)) (nodes q) (term_block v (entering v c.next sc (binders q)) (inside v own c (binders q)) body) cs ≡ clauses w sc own (past_clause w own c q body) (variables w c.next (binders q)) (nodes q) (within_clause sc own c q body) cs
  first_same sc own c q body cs same later =
      let t = term_block v (entering v c.next sc (binders q)) (inside v own c (binders q)) body in
      ap (λ n. clauses v sc own n (variables v c.next (binders q)) (nodes q) t cs) (past_same own c q body)
      ∙ ap (λ xs. clauses v sc own (past_clause w own c q body) xs (nodes q) t cs) (variables_same c.next (binders q))
      ∙ ap (λ x. clauses v sc own (past_clause w own c q body) (variables w c.next (binders q)) (nodes q) x cs) (inner_same sc own c (binders q) body same)
      ∙ later

  mutual
    term_same : (sc : Scalars) (c : Names) (e : Expression) → AllStrong (term w sc c e) → term v sc c e ≡ term w sc c e
    term_same sc c (Give a) h = refl
    term_same sc c (Tuple q as') h = refl
    term_same sc c (Operation o q l r) h = refl
    term_same sc c (Call g n q as') h =
        ap (λ b. C.Call b (passed v sc c.marks g 0 as')) (strong_to (slice_get p.instances g) ∙ sym h)
        ∙ ap (C.Call (not (weaker w g))) (passed_same sc c.marks g 0 as')
    term_same sc c (Match m t q a r body cs) h =
        let own = takes w m t in
        let all = matched_strong sc c.marks own a (clauses w sc own (past_clause w own c r body) (variables w c.next (binders r)) (nodes r) (within_clause sc own c r body) cs) h in
        let one = head_strong sc own (past_clause w own c r body) (variables w c.next (binders r)) (nodes r) (within_clause sc own c r body) cs all in
        matched_same sc c.marks own a _ _
        (first_same sc own c r body cs (block_same (entering w c.next sc (binders r)) (inside w own c (binders r)) body one) (clauses_same sc own (past_clause w own c r body) (variables w c.next (binders r)) (nodes r) (within_clause sc own c r body) cs all))
    term_same sc c (Nested b) h = block_same sc c b h

    block_same : (sc : Scalars) (c : Names) (b : Block) → AllStrong (term_block w sc c b) → term_block v sc c b ≡ term_block w sc c b
    block_same sc c (Last e) h = term_same sc c e h
    block_same sc c (Let bs e rest) h =
        let n = following c (shape w c e) in
        ap (λ n. C.Let (variables v n.next bs) (term v sc c e) (term_block v (entering v n.next sc bs) (inside v true n bs) rest)) (after_same c e)
        ∙ ap (λ xs. C.Let xs (term v sc c e) (term_block v (entering v n.next sc bs) (inside v true n bs) rest)) (variables_same n.next bs)
        ∙ ap (λ x. C.Let (variables w n.next bs) x (term_block v (entering v n.next sc bs) (inside v true n bs) rest)) (term_same sc c e h.0)
        ∙ ap (C.Let (variables w n.next bs) (term w sc c e)) (inner_same sc true n bs rest (block_same (entering w n.next sc bs) (inside w true n bs) rest h.1))

    clauses_same : (sc : Scalars) (own : Bool) (c : Names) (ys ks : List ℕ) (e : C.Term) (cs : Clauses) → StrongClauses (clauses w sc own c ys ks e cs) → clauses v sc own c ys ks e cs ≡ clauses w sc own c ys ks e cs
    clauses_same sc own c ys ks e NoClauses h = refl
    clauses_same sc own c ys ks e (MoreClauses q body cs) h =
        let one = head_strong sc own (past_clause w own c q body) (variables w c.next (binders q)) (nodes q) (within_clause sc own c q body) cs h.1 in
        ap (C.MoreClauses ys ks e) (first_same sc own c q body cs (block_same (entering w c.next sc (binders q)) (inside w own c (binders q)) body one) (clauses_same sc own (past_clause w own c q body) (variables w c.next (binders q)) (nodes q) (within_clause sc own c q body) cs h.1))

  -- ---- an instance

  parameters_same : (ps : List Param) (bs : List Binder) → parameters v ps bs ≡ parameters w ps bs
  parameters_same ps [] = refl
  parameters_same [] (b ∷ bs) = refl
  parameters_same (q ∷ ps) (b ∷ bs) = ap (λ r. record { ownership = ownership w (not q.lent) q.ty; binder = b } ∷ r) (parameters_same ps bs)

  entered_same : (n : ℕ) (sc : Scalars) (ps : List Param) (bs : List Binder) → entering_parameters v n sc ps bs ≡ entering_parameters w n sc ps bs
  entered_same n sc ps [] = refl
  entered_same n sc [] (b ∷ bs) = refl
  entered_same n sc (q ∷ ps) (b ∷ bs) = entered_same (suc n) _ ps bs

  borrowed_same : (n : ℕ) (ps : List Param) (bs : List Binder) → borrowed_parameters v n ps bs ≡ borrowed_parameters w n ps bs
  borrowed_same n ps [] = refl
  borrowed_same n [] (b ∷ bs) = refl
  borrowed_same n (q ∷ ps) (b ∷ bs) = ap (λ r. if w.scalar q.ty then r else (if q.lent then n ∷ r else r)) (borrowed_same (suc n) ps bs)

  owned_same : (n : ℕ) (ps : List Param) (bs : List Binder) → owned_parameters v n ps bs ≡ owned_parameters w n ps bs
  owned_same n ps [] = refl
  owned_same n [] (b ∷ bs) = refl
  owned_same n (q ∷ ps) (b ∷ bs) = ap (λ r. if w.scalar q.ty then r else (if q.lent then r else n ∷ r)) (owned_same (suc n) ps bs)

  body_same : (d : Instance) → AllStrong (body_term w d) → body_term v d ≡ body_term w d
  body_same d h =
      ap (λ x. term_block v x (within no_names (parameters v d.params d.binders)) d.body) (entered_same 0 no_variables d.params d.binders)
      ∙ ap (λ b. term_block v (entering_parameters w 0 no_variables d.params d.binders) (within no_names b) d.body) (parameters_same d.params d.binders)
      ∙ block_same (entering_parameters w 0 no_variables d.params d.binders) (within no_names (parameters w d.params d.binders)) d.body h

  -- what is derived for its own kind is derived for plain
  pub derived_plain : (fip : Bool) (d : Instance) → Derived fip (borrowed_parameters w 0 d.params d.binders) (owned_parameters w 0 d.params d.binders) d.credits (body_term w d) → Derived fip (borrowed_parameters v 0 d.params d.binders) (owned_parameters v 0 d.params d.binders) d.credits (body_term v d)
  derived_plain fip d h =
      let a = is_accepted fip (borrowed_parameters w 0 d.params d.binders) (owned_parameters w 0 d.params d.binders) d.credits (body_term w d) h in
      let strong = clean_strong fip _ (body_term w d) a.0 in
      subst (λ xs. Derived fip xs (owned_parameters v 0 d.params d.binders) d.credits (body_term v d)) (sym (borrowed_same 0 d.params d.binders))
      (subst (λ xs. Derived fip (borrowed_parameters w 0 d.params d.binders) xs d.credits (body_term v d)) (sym (owned_same 0 d.params d.binders))
      (subst (Derived fip (borrowed_parameters w 0 d.params d.binders) (owned_parameters w 0 d.params d.binders) d.credits) (sym (body_same d strong)) h))
