-- What the walk takes of what is there, as it is defined.
use Rattle.std.proofs.Common.{◌≡◌, ℕ, zero, suc, ◌<◌, ◌≤◌, ◌+◌, ◌-◌, ◌⊎◌, inl, inr, refl, sym, ap, ap₂, subst, ◌∙◌, append_assoc, List, [], ◌∷◌, ◌++◌, length, Option, Some, None, Bool, true, false, not, ◌&&◌, ◌||◌, arith}
use Rattle.std.proofs.lemmas.List.{length-append, append-nil}
use Rattle.std.specs.Prelude.{◌==◌, if◌then◌else◌, filter, slice_get}
use Rattle.std.proofs.lemmas.Bool.{eq-eqb, ne_eqb, cases_eq}
use Rattle.tail_groups.specs.fip_base.declared.plain.Param.{Param}
use Rattle.tail_groups.specs.fip_trees.Sizes.{number, no_sizes, minus}
use Rattle.tail_groups.specs.fip_trees.declared.program.Binder.{Binder}
use Rattle.tail_groups.specs.fip_trees.declared.needs.Need.{Need}
use Rattle.tail_groups.specs.fip_trees.Tree.{Program, Argument, Variable, Literal, Constructor, Arguments, NoArguments, MoreArguments, Pattern, BinderPattern, LiteralPattern, ConstructorPattern, Patterns, NoPatterns, MorePatterns, Expression, Give, Tuple, Operation, Call, Match, Nested, Block, Last, Let, Clauses, NoClauses, MoreClauses}
use Rattle.derivation_walk.specs.fip_rules.World.{World}
use Rattle.derivation_walk.specs.fip_rules.Shapes.{binders, binders_all}
use Rattle.derivation_walk.specs.credit_check.Needs.{need, need_block, given, nodes}
use Rattle.derivation_walk.specs.credit_check.Tallies.{sizes, block_sizes, needs, parts_needs, clauses_needs, nodes_from}
use Rattle.derivation_making.specs.ownership_agreement.Sized.{IsVariable}
use Rattle.derivation_walk.specs.derivation_trees.Trees.{Tree, Trees, NoTrees, MoreTrees}
use Rattle.derivation_making.specs.derivation_check.Owned.{IsOwned, AreOwned}
use Rattle.derivation_making.specs.derivation_check.Scopes.{Known, Scope, named}
use Rattle.derivation_making.specs.derivation_check.Calculus.{Choice, FirstOf, Plain, Lends, DerivesValue, DerivesPassed}
use Rattle.derivation_walk.specs.declared.found.Bound.{Bound}
use Rattle.derivation_walk.specs.declared.tables.Uses.{Uses}
use Rattle.derivation_walk.specs.Lookups.{number_at, variable_at, bound_by, is_bound_by}
use Rattle.derivation_making.specs.Uses.{names, occurs_value}
use Rattle.derivation_making.specs.Made.{those, numbers, unscalar, added, remaining, clause_variables, made_value, made_passed}
use Rattle.derivation_walk.specs.Walked.{Guided, Owned, Asked, asked, asked_of, value, passed, bound, bound_all, bound_pattern, bound_patterns, binder_of, is_scrutinee, clause_owned, size, size_parts, size_clauses}
use Rattle.derivation_walk.proofs.credit_check.Amounts.{Long, nodes_long, nodes_at}
use Rattle.derivation_agreement.proofs.Sited.{Piece, piece_get, Sited, AllSited}
use Rattle.derivation_agreement.proofs.Nodes.{Counts, numbers_append, filter_is}
use Rattle.derivation_agreement.proofs.WalkValues.{guide, value_is}

-- ---- what calls pass

passed_step : (b c : Bool) (A B : Type 0) (P : Trees → Type 0) (Q : Tree → Type 0) (d : ℕ) (V Y : Tree) (R X : Trees) → (P R → AreOwned d R → X ≡ R) → (Q V → IsOwned d V → Y ≡ V) → Choice b (A × P (if b || c then R else MoreTrees V R)) (Choice c (B × P (if b || c then R else MoreTrees V R)) (FirstOf (if b || c then R else MoreTrees V R) (λ t us. Q t × P us))) → AreOwned d (if b || c then R else MoreTrees V R) → (if b || c then X else MoreTrees Y X) ≡ (if b || c then R else MoreTrees V R)
passed_step true c A B P Q d V Y R X f g h o = f h.1 o
passed_step false true A B P Q d V Y R X f g h o = f h.1 o
passed_step false false A B P Q d V Y R X f g h o = ap₂ MoreTrees (g h.0 o.0) (f h.1 o.1)

pub passed_is : (w : World) (order : List Bound) (u : Uses) (ns : List Need) (s : Scope) (have : List Known) (d : ℕ) (ps : List Param) (as' : Arguments) → AllSited w order u s.variables → AreOwned d (made_passed w s.variables have ps as') → DerivesPassed w s d ps as' (made_passed w s.variables have ps as') → passed (guide w u ns) ps as' ≡ made_passed w s.variables have ps as'
passed_is w order u ns s have d [] as' h o k = refl
passed_is w order u ns s have d (p ∷ ps) NoArguments h o k = refl
passed_is w order u ns s have d (p ∷ ps) (MoreArguments a as') h o k =
    passed_step (w.scalar p.ty) p.lent (Plain w s.variables a) (Lends w s a) (λ ts. DerivesPassed w s d ps as' ts) (λ t. DerivesValue w s.variables d t a) d (made_value w s.variables have a) (value (guide w u ns) a) (made_passed w s.variables have ps as') (passed (guide w u ns) ps as')
    (λ q r. passed_is w order u ns s have d ps as' h r q) (λ q r. value_is w order u ns s.variables have d h a r q) k o

-- ---- binders

bound_append : (g : Guided) (xs : List ℕ) (bs cs : List Binder) → bound_all g xs (bs ++ cs) ≡ bound_all g (bound_all g xs bs) cs
bound_append g xs [] cs = refl
bound_append g xs (b ∷ bs) cs = bound_append g (bound g xs b.number b.ty) bs cs

mutual
  pattern_bound : (g : Guided) (xs : List ℕ) (q : Pattern) → bound_pattern g xs q ≡ bound_all g xs (binders q)
  pattern_bound g xs (BinderPattern b) = refl
  pattern_bound g xs (LiteralPattern i p) = refl
  pattern_bound g xs (ConstructorPattern t d c n p ps) = patterns_bound g xs ps

  patterns_bound : (g : Guided) (xs : List ℕ) (ps : Patterns) → bound_patterns g xs ps ≡ bound_all g xs (binders_all ps)
  patterns_bound g xs NoPatterns = refl
  patterns_bound g xs (MorePatterns q ps) =
      patterns_bound g (bound_pattern g xs q) ps ∙ ap (λ ys. bound_all g ys (binders_all ps)) (pattern_bound g xs q) ∙ sym (bound_append g xs (binders q) (binders_all ps))

pub bound_is : (w : World) (order : List Bound) (u : Uses) (ns : List Need) (d : ℕ) (xs : List ℕ) (bs : List Binder) → AllSited w order u (named d true bs) → bound_all (guide w u ns) xs bs ≡ xs ++ numbers (unscalar w (named d true bs))
bound_is w order u ns d xs [] h = sym (append-nil xs)
bound_is w order u ns d xs (b ∷ bs) h = by (w.scalar b.ty) (λ ys. bound_is w order u ns (d + 1) ys bs h.1)
  where
    by : (t : Bool) → ((ys : List ℕ) → bound_all (guide w u ns) ys bs ≡ ys ++ numbers (unscalar w (named (d + 1) true bs))) → bound_all (guide w u ns) (if t then xs else xs ++ number_at u b.number ∷ []) bs ≡ xs ++ numbers (if t then unscalar w (named (d + 1) true bs) else record { binder = b.number; number = d; ty = b.ty; owned = true } ∷ unscalar w (named (d + 1) true bs))
    by true r = r xs
    by false r =
        r (xs ++ number_at u b.number ∷ []) ∙ append_assoc xs (number_at u b.number ∷ []) (numbers (unscalar w (named (d + 1) true bs)))
        ∙ ap (λ (n : ℕ). xs ++ n ∷ numbers (unscalar w (named (d + 1) true bs))) h.0.number

-- ---- clauses

turned_test : (m n : ℕ) → (m == n) ≡ (n == m)
turned_test m n = by (cases_eq m n)
  where
    by : (m ≡ n) ⊎ (m ≡ n → ⊥) → (m == n) ≡ (n == m)
    by (inl e) = eq-eqb m n e ∙ sym (eq-eqb n m (sym e))
    by (inr e) = ne_eqb m n e ∙ sym (ne_eqb n m (λ f. e (sym f)))

scrutinee_is : (w : World) (order : List Bound) (u : Uses) (ns : List Need) (a : Argument) (v : Known) → IsVariable a → Sited w order u v → is_scrutinee (guide w u ns) v.number (binder_of a) ≡ occurs_value v.binder a
scrutinee_is w order u ns (Variable None n p) v h s = refl
scrutinee_is w order u ns (Variable (Some x) n p) v h s = ap (λ o. bound_by o x) s.variable ∙ turned_test v.binder x
scrutinee_is w order u ns (Literal i p) v h s = absurd h
scrutinee_is w order u ns (Constructor t d c n p as') v h s = absurd h

pub clause_has : (w : World) (order : List Bound) (u : Uses) (ns : List Need) (taken : Bool) (a : Argument) (d : ℕ) (us : List Known) (o : Owned) (q : Pattern) → IsVariable a → AllSited w order u us → AllSited w order u (named d true (binders q)) → o.variables ≡ numbers us → (clause_owned (guide w u ns) taken (binder_of a) o q).variables ≡ numbers (clause_variables w taken a d (binders q) us)
clause_has w order u ns false a d us o q v h k e = e ∙ ap numbers (sym (append-nil us))
clause_has w order u ns true a d us o q v h k e =
    let f : ℕ → Bool = λ n. not (is_scrutinee (guide w u ns) n (binder_of a)) in
    pattern_bound (guide w u ns) (filter f o.variables) q ∙ bound_is w order u ns d (filter f o.variables) (binders q) k
    ∙ ap (λ xs. xs ++ numbers (unscalar w (named d true (binders q)))) (ap (filter f) e ∙ filter_is w order u f (λ x. not (occurs_value x a)) us h (λ y s. ap not (scrutinee_is w order u ns a y v s)))
    ∙ sym (numbers_append (those (λ x. not (occurs_value x a)) us) (unscalar w (named d true (binders q))))

pub clause_counts : (g : Guided) (taken : Bool) (x : Option ℕ) (o : Owned) (q : Pattern) (f : ℕ → ℕ) → Counts o.credits f → Counts (clause_owned g taken x o q).credits (λ k. f k + given k taken q)
clause_counts g false x o q f h = record { long = h.long; at = λ k l m. h.at k l m ∙ (let e : f k ≡ f k + 0 = omega arith in e) }
clause_counts g true x o q f h = record { long = nodes_long o.credits q h.long; at = λ k l m. nodes_at k l m o.credits q h.long ∙ ap (λ n. n + nodes k q) (h.at k l m) }

-- ---- needs

mutual
  pub needs_many : (p : Program) (e : Expression) → length (needs p e) ≡ size e
  needs_many p (Give a) = refl
  needs_many p (Tuple q as') = refl
  needs_many p (Operation o q l r) = refl
  needs_many p (Call g n q as') = refl
  needs_many p (Match d t q a r body cs) =
      let b = length-append (record { sizes = block_sizes p no_sizes body; span = suc (length (parts_needs p body)) } ∷ parts_needs p body) (clauses_needs p cs) in
      let x = parts_many p body in
      let y = clauses_many p cs in
      omega (arith, b, x, y)
  needs_many p (Nested b) = let x = parts_many p b in omega (arith, x)

  pub parts_many : (p : Program) (b : Block) → length (parts_needs p b) ≡ size_parts b
  parts_many p (Last e) = needs_many p e
  parts_many p (Let bs e rest) =
      let b = length-append (needs p e) (parts_needs p rest) in
      let x = needs_many p e in
      let y = parts_many p rest in
      omega (arith, b, x, y)

  pub clauses_many : (p : Program) (cs : Clauses) → length (clauses_needs p cs) ≡ size_clauses cs
  clauses_many p NoClauses = refl
  clauses_many p (MoreClauses q body cs) =
      let b = length-append (record { sizes = block_sizes p no_sizes body; span = suc (length (parts_needs p body)) } ∷ parts_needs p body) (clauses_needs p cs) in
      let x = parts_many p body in
      let y = clauses_many p cs in
      omega (arith, b, x, y)

first_need : (p : Program) (e : Expression) → (rest : List Need) × (needs p e ≡ record { sizes = sizes p e; span = suc (length rest) } ∷ rest)
first_need p (Give a) = ([], refl)
first_need p (Tuple q as') = ([], refl)
first_need p (Operation o q l r) = ([], refl)
first_need p (Call g n q as') = ([], refl)
first_need p (Match d t q a r body cs) = ((record { sizes = block_sizes p no_sizes body; span = suc (length (parts_needs p body)) } ∷ parts_needs p body) ++ clauses_needs p cs, refl)
first_need p (Nested b) = (parts_needs p b, refl)

-- what an expression asks for
pub asked_is : (p : Program) (w : World) (u : Uses) (ns : List Need) (i : ℕ) (e : Expression) → Piece ns (needs p e) i → asked (guide w u ns) i ≡ record { first = i; end = i + size e; need = sizes p e }
asked_is p w u ns i e h =
    let r = first_need p e in
    let n : Need = record { sizes = sizes p e; span = suc (length r.0) } in
    let g = piece_get ns r.0 n i (subst (λ xs. Piece ns xs i) r.1 h) in
    let k : suc (length r.0) ≡ size e = ap (λ xs. length xs) (sym r.1) ∙ needs_many p e in
    ap (asked_of i) g ∙ ap (λ m. record { first = i; end = i + m; need = sizes p e }) k
