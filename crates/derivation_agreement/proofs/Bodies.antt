-- Expressions and blocks: where a tree derives them, so does the calculus.
use Rattle.std.proofs.Common.{◌≡◌, ◌⊎◌, inl, inr, ℕ, zero, suc, ◌<◌, ◌≤◌, ◌+◌, ◌-◌, refl, sym, ap, ◌∙◌, subst, List, [], ◌∷◌, ◌++◌, length, Option, Some, None, Bool, true, false, not, arith}
use Rattle.std.specs.Prelude.{slice_get, if◌then◌else◌, ◌==◌}
use Rattle.tail_groups.specs.fip_trees.declared.program.Binder.{Binder}
use Rattle.tail_groups.specs.fip_trees.Tree.{Argument, Variable, Literal, Constructor, Arguments, Pattern, BinderPattern, LiteralPattern, ConstructorPattern, Patterns, NoPatterns, MorePatterns, count_patterns, Instance}
use Rattle.tail_groups.specs.fip_trees.Tree.{Expression, Give, Tuple, Operation, Call, Match, Nested, Block, Last, Let, Clauses, NoClauses, MoreClauses}
use Rattle.derivation_walk.specs.fip_rules.Marks.{Mark}
use Rattle.derivation_walk.specs.fip_rules.World.{World, is_fip, weaker, weaker_than, is_weaker}
use Rattle.derivation_walk.specs.fip_rules.Shapes.{Names, following, binders, takes, shape}
use Rattle.derivation_making.specs.ownership_calculus.Terms.{Item, Own, Credit, only, one, given, paid, charge}
use Rattle.derivation_making.specs.ownership_calculus.Terms as T
use Rattle.derivation_making.specs.ownership_calculus.Rules.{Fits, ValueDerivation, VAR, NONE, MORE, Extends, setting, Derivation, TUPLE, CALL, LET, MATCH, TAKE, WEAKEN, LentDerivation, LENT_LAST, LENT_MORE, TakenDerivation, TAKEN_LAST, TAKEN_MORE}
use Rattle.derivation_making.specs.ownership_calculus.Rules as C
use Rattle.derivation_making.specs.ownership_agreement.Bodies.{Scalars, variable, seen, value, values, lent_value, passed, variables, entering, node, nodes, nodes_all, inside, past_clause, matched, term, term_block, clauses}
use Rattle.derivation_walk.specs.derivation_trees.declared.derivation.RuleName.{RuleName}
use Rattle.derivation_walk.specs.derivation_trees.declared.derivation.RuleName.TheVariants as R
use Rattle.derivation_walk.specs.derivation_trees.declared.derivation.Credit as D
use Rattle.derivation_walk.specs.derivation_trees.Trees.{Tree, Missing, Branch, Trees, NoTrees, MoreTrees}
use Rattle.derivation_making.specs.derivation_check.Owned.{owned, root, roots, Rising, IsOwned, Under, UnderPart, Leaf, Splits}
use Rattle.derivation_making.specs.derivation_check.Patterns as N
use Rattle.derivation_making.specs.derivation_check.Scopes.{Known, Scope, known, meant, named, binding, lending, AreNumbered}
use Rattle.derivation_making.specs.derivation_check.Scopes as Q
use Rattle.derivation_making.specs.derivation_check.Calculus.{numbers, bound, gained, own_variables, FirstOf, IsClause, GoesOn, is_taken, Matches, Scrutinised}
use Rattle.derivation_making.specs.derivation_check.Calculus as P
use Rattle.derivation_agreement.proofs.Names.{expr_next, block_next, inside_next, scope_next}
use Rattle.derivation_agreement.proofs.Sharing.{count_of, env, env_sum, env_none, env_fits, nothing, under_fits, fits_same}
use Rattle.derivation_agreement.proofs.Scoping.{Sees, later, sees_lending, sees_open, opens, given_before, given_past, given_below, given_most, numbers_rise, one_same, one_other, one_false, either, same_number}
use Rattle.derivation_agreement.proofs.CalculusValues.{variable_is, env_only, env_same, value_derived, values_derived, operand_derived, lends_lent, charged, passed_derived}

-- ---- nodes

under_owned : (fip : Bool) (d : ℕ) (t u : Tree) → IsOwned d t → Under fip d t u → IsOwned d u
under_owned fip d Missing u o h = absurd h
under_owned fip d (Branch r xs cs ts) u o (inl h) = subst (IsOwned d) h.1 o
under_owned fip d (Branch r xs cs NoTrees) u o (inr h) = absurd h.2
under_owned fip d (Branch r xs cs (MoreTrees t NoTrees)) u o (inr h) = under_owned fip d t u h.2.0 h.2.2
under_owned fip d (Branch r xs cs (MoreTrees t (MoreTrees s ts))) u o (inr h) = absurd h.2

rising_more : (n d e : ℕ) (xs : List ℕ) → d ≤ e → Rising n d xs → Rising n e xs
rising_more n d e [] l h = tt
rising_more n d e (x ∷ xs) l h = (h.0, (let a = h.1 in omega arith), rising_more (x + 1) d e xs l h.2)

owned_more : (d e : ℕ) (t : Tree) → d ≤ e → IsOwned d t → IsOwned e t
owned_more d e Missing l h = absurd h
owned_more d e (Branch r xs cs ts) l h = (rising_more 0 d e xs l h.0, h.1)

weakened : (fip : Bool) (vs : List Known) (d : ℕ) (t u : Tree) (B : ℕ → Bool) (e : T.Term) → Under fip d t u → Derivation fip B (env vs (root u)) e → Derivation fip B (env vs (root t)) e
weakened fip vs d t u B e h g = WEAKEN {P = env vs (root u)} (env_fits fip vs (root t) (root u) (under_fits fip d t u h)) g

leaf_none : (fip : Bool) (vs : List Known) (r : RuleName) (i : Item) → env vs (root (Branch r [] [] NoTrees)) i ≡ 0
leaf_none fip vs r i = env_none vs (root (Branch r [] [] NoTrees)) nothing i

no_more : (O : Item → ℕ) (i : Item) → O i ≡ O i + 0
no_more O i = omega arith

-- ---- the credits of a pattern

given_append : (k : ℕ) (xs ys : List ℕ) → given k (xs ++ ys) ≡ given k xs + given k ys
given_append k [] ys = omega arith
given_append k (x ∷ xs) ys = let h = given_append k xs ys in omega arith

node_paid : (k n : ℕ) → given k (node n) ≡ paid n (Credit k)
node_paid k zero = refl
node_paid k (suc n) = let e : given k (node (suc n)) ≡ one (suc n) k + 0 = refl in omega arith

mutual
  nodes_given : (k : ℕ) (q : Pattern) → N.nodes k q ≡ given k (nodes q)
  nodes_given k (BinderPattern b) = refl
  nodes_given k (LiteralPattern i p) = refl
  nodes_given k (ConstructorPattern t d c n p ps) =
      let a = given_append k (node (count_patterns ps)) (nodes_all ps) in
      let b = node_paid k (count_patterns ps) in
      let e = nodes_all_given k ps in omega arith

  nodes_all_given : (k : ℕ) (ps : Patterns) → N.nodes_all k ps ≡ given k (nodes_all ps)
  nodes_all_given k NoPatterns = refl
  nodes_all_given k (MorePatterns p ps) =
      let a = given_append k (nodes p) (nodes_all ps) in
      let b = nodes_given k p in
      let e = nodes_all_given k ps in omega arith

-- ---- clauses

-- what is in a clause of a match that borrows
lent_opens : (w : World) (s : Scope) (b : ℕ) (c : Names) (d : ℕ) (q : Pattern) (sc : Scalars) (B : ℕ → Bool) (xs : List ℕ) (cs : List D.Credit) (t : Tree) → Sees w s b d c.marks sc B → b ≤ c.next → AreNumbered c.next d (binders q) → Rising 0 d xs → ((i : Item) → root t i ≡ owned xs cs i) → Extends (is_fip w.kind) false (variables w c.next (binders q)) [] (env s.variables (owned xs cs)) (env (named d false (binders q) ++ s.variables) (root t))
lent_opens w s b c d q sc B xs cs t h l a r g =
    opens (is_fip w.kind) w false s b c d (binders q) sc B (owned xs cs) (root t) [] h l a (λ n m. g (Own n)) (λ n m. g (Own n) ∙ given_past 0 d n xs r m) (λ k. (let e = g (Credit k) in omega arith))

-- and in one of a match that uses its scrutinee up
taken_opens : (w : World) (s : Scope) (b : ℕ) (c : Names) (d x : ℕ) (q : Pattern) (sc : Scalars) (B : ℕ → Bool) (xs : List ℕ) (cs : List D.Credit) (t : Tree) → Sees w s b d c.marks sc B → b ≤ c.next → AreNumbered c.next d (binders q) → Rising 0 d xs → x < d → ((i : Item) → root t i + only x i ≡ owned xs cs i + gained w d q i) → Extends (is_fip w.kind) true (variables w c.next (binders q)) (nodes q) (env s.variables (λ i. owned xs cs i - only x i)) (env (named d true (binders q) ++ s.variables) (root t))
taken_opens w s b c d x q sc B xs cs t h l a r y g =
    opens (is_fip w.kind) w true s b c d (binders q) sc B (λ i. owned xs cs i - only x i) (root t) (nodes q) h l a
    (λ n m. (let e = g (Own n) in let z = given_before d (d + length (binders q)) n (numbers w d (binders q)) (numbers_rise w d d (binders q) (omega arith)) m in omega arith))
    (λ n m. (let e = g (Own n) in let z = given_past 0 d n xs r m in let o = one_other x n (λ f. omega arith) in omega arith))
    (λ k. (let e = g (Credit k) in let z = nodes_given k q in omega arith))

-- a match's variable, and the rest
take_rest : (w : World) (s : Scope) (c d : ℕ) (ms : List Mark) (sc : Scalars) (B : ℕ → Bool) (y : ℕ) (v : Known) (xs : List ℕ) (cs : List D.Credit) → Sees w s c d ms sc B → known s.variables y ≡ Some v → given v.number xs ≡ 1 → (i : Item) → env s.variables (owned xs cs) i ≡ only y i + env s.variables (λ i. owned xs cs i - only v.number i) i
take_rest w s c d ms sc B y v xs cs h k g i =
    env_sum s.variables (owned xs cs) (only v.number) (λ i. owned xs cs i - only v.number i) (λ i. split i) i
    ∙ ap (λ m. m + env s.variables (λ i. owned xs cs i - only v.number i) i) (env_only w s c d ms sc B y v h k i)
  where
    split : (i : Item) → owned xs cs i ≡ only v.number i + (owned xs cs i - only v.number i)
    split (Credit k) = omega arith
    split (Own x) = by (either (v.number == x))
      where
        by : ((v.number == x) ≡ true) ⊎ ((v.number == x) ≡ false) → given x xs ≡ one v.number x + (given x xs - one v.number x)
        by (inl e) =
            let f = same_number v.number x e in
            let a = ap (λ n. given n xs) f in
            let o = one_same v.number x f in omega arith
        by (inr e) = let o = one_false v.number x e in omega arith

-- ---- what is within binders

-- a body, in any scope
abbrev Follows : World → Block → Type 0
Follows w body =
    (s : Scope) (d : ℕ) (c : Names) (sc : Scalars) (B : ℕ → Bool) (t : Tree) → Sees w s c.next d c.marks sc B → IsOwned d t → P.DerivesBlock w s c.next d t body → Derivation (is_fip w.kind) B (env s.variables (root t)) (term_block w sc c body)

-- a block within binders
within_derived : (w : World) (own : Bool) (s : Scope) (b d f : ℕ) (c : Names) (sc : Scalars) (B : ℕ → Bool) (bs : List Binder) (t : Tree) (body : Block) → Follows w body → Sees w s b d c.marks sc B → b ≤ c.next → AreNumbered c.next d bs → d + length bs ≤ f → IsOwned f t → P.DerivesBlock w (binding d own bs s) (c.next + length bs) f t body → Derivation (is_fip w.kind) (setting (variables w c.next bs) (not own) B) (env (named d own bs ++ s.variables) (root t)) (term_block w (entering w c.next sc bs) (inside w own c bs) body)
within_derived w own s b d f c sc B bs t body r h l a m o g =
    let z = inside_next w own c bs in
    r (binding d own bs s) f (inside w own c bs) (entering w c.next sc bs) (setting (variables w c.next bs) (not own) B) t
    (sees_open w own s b c d (inside w own c bs).next f bs sc B h l a (omega arith) m) o
    (subst (λ k. P.DerivesBlock w (binding d own bs s) k f t body) (sym z) g)

past_next : (w : World) (t : Bool) (c : Names) (q : Pattern) (body : Block) → (past_clause w t c q body).next ≡ c.next + length (binders q) + Q.within_block body
past_next w t c q body = scope_next w t c (binders q) body (block_next w (inside w t c (binders q)) body)

-- what the calculus requires of a clause
abbrev LentClause : World → Scope → ℕ → Names → Scalars → (ℕ → Bool) → (Item → ℕ) → Pattern → Tree → Block → Type 0
LentClause w s d c sc B O q u body =
    Extends (is_fip w.kind) false (variables w c.next (binders q)) [] (env s.variables O) (env (named d false (binders q) ++ s.variables) (root u))
    × Derivation (is_fip w.kind) (setting (variables w c.next (binders q)) true B) (env (named d false (binders q) ++ s.variables) (root u)) (term_block w (entering w c.next sc (binders q)) (inside w false c (binders q)) body)

lent_clause : (w : World) (s : Scope) (b d : ℕ) (c : Names) (sc : Scalars) (B : ℕ → Bool) (xs : List ℕ) (es : List D.Credit) (q : Pattern) (u : Tree) (body : Block) → Follows w body → Sees w s b d c.marks sc B → b ≤ c.next → Rising 0 d xs → IsClause w c.next d None (owned xs es) u q (P.DerivesBlock w (binding d false (binders q) s) (c.next + length (binders q)) (d + length (binders q)) u body) → LentClause w s d c sc B (owned xs es) q u body
lent_clause w s b d c sc B xs es q u body r h l m g = (
  lent_opens w s b c d q sc B xs es u h l g.0 m g.2,
  within_derived w false s b d (d + length (binders q)) c sc B (binders q) u body r h l g.0 (omega arith) g.1 g.3,
)

abbrev TakenClause : World → Scope → ℕ → Names → Scalars → (ℕ → Bool) → (Item → ℕ) → Pattern → Tree → Block → Type 0
TakenClause w s d c sc B O q u body =
    Extends (is_fip w.kind) true (variables w c.next (binders q)) (nodes q) (env s.variables O) (env (named d true (binders q) ++ s.variables) (root u))
    × Derivation (is_fip w.kind) (setting (variables w c.next (binders q)) false B) (env (named d true (binders q) ++ s.variables) (root u)) (term_block w (entering w c.next sc (binders q)) (inside w true c (binders q)) body)

taken_clause : (w : World) (s : Scope) (b d x : ℕ) (c : Names) (sc : Scalars) (B : ℕ → Bool) (xs : List ℕ) (es : List D.Credit) (q : Pattern) (u : Tree) (body : Block) → Follows w body → Sees w s b d c.marks sc B → b ≤ c.next → Rising 0 d xs → x < d → IsClause w c.next d (Some x) (owned xs es) u q (P.DerivesBlock w (binding d true (binders q) s) (c.next + length (binders q)) (d + length (binders q)) u body) → TakenClause w s d c sc B (λ i. owned xs es i - only x i) q u body
taken_clause w s b d x c sc B xs es q u body r h l m y g = (
  taken_opens w s b c d x q sc B xs es u h l g.0 m y g.2,
  within_derived w true s b d (d + length (binders q)) c sc B (binders q) u body r h l g.0 (omega arith) g.1 g.3,
)

-- after a clause
past_sees : (w : World) (s : Scope) (b d : ℕ) (taken : Bool) (c : Names) (sc : Scalars) (B : ℕ → Bool) (q : Pattern) (body : Block) (x : Option ℕ) (have : Item → ℕ) (us : Trees) (cs : Clauses) → P.DerivesClauses w s (c.next + length (binders q) + Q.within_block body) (d + length (binders q) + Q.within_block body) x have us cs → P.DerivesClauses w s (past_clause w taken c q body).next (d + length (binders q) + Q.within_block body) x have us cs
past_sees w s b d taken c sc B q body x have us cs g = subst (λ k. P.DerivesClauses w s k (d + length (binders q) + Q.within_block body) x have us cs) (sym (past_next w taken c q body)) g

-- a call
call_derived : (w : World) (s : Scope) (d : ℕ) (c : Names) (sc : Scalars) (B : ℕ → Bool) (t : Tree) (g : ℕ) (as' : Arguments) (o : Option Instance) → slice_get w.instances g ≡ o → Sees w s c.next d c.marks sc B → P.Calls w s d o as' t → Derivation (is_fip w.kind) B (env s.variables (root t)) (T.Call (not (weaker w g)) (passed w sc c.marks g 0 as'))
call_derived w s d c sc B t g as' None f h k = absurd k
call_derived w s d c sc B t g as' (Some e) f h (strong, (xs, cs, ts, under, are, sum, more)) =
    weakened (is_fip w.kind) s.variables d t (Branch R.Call xs cs ts) B (T.Call (not (weaker w g)) (passed w sc c.marks g 0 as')) under
    (WEAKEN {P = env s.variables (charged e.credits ts)} (λ i. fits_same (is_fip w.kind) (env s.variables (owned xs cs) i) (env s.variables (charged e.credits ts) i) (env_same s.variables (owned xs cs) (charged e.credits ts) sum i))
    (CALL (ap not (ap (weaker_than w.kind) f ∙ strong)) (passed_derived w s c.next d c.marks sc B g 0 e e.params as' ts h f (λ k. (let z : 0 + k ≡ k = omega arith in ap (slice_get e.params) z)) more)))

-- the scrutinee that a match uses up
taken_value : (w : World) (s : Scope) (c d : ℕ) (ms : List Mark) (sc : Scalars) (B : ℕ → Bool) (y : ℕ) (v : Known) → Sees w s c d ms sc B → known s.variables y ≡ Some v → w.scalar v.ty ≡ false → ValueDerivation (is_fip w.kind) (only y) (variable sc (seen ms (Some y)))
taken_value w s c d ms sc B y v h k e = subst (ValueDerivation (is_fip w.kind) (only y)) (sym (variable_is w s c d ms sc B y v false h k e)) (VAR (λ i. refl))

-- what the rest of a let has
let_opens : (w : World) (s : Scope) (b : ℕ) (c : Names) (d : ℕ) (bs : List Binder) (sc : Scalars) (B : ℕ → Bool) (xs : List ℕ) (es : List D.Credit) (p q : Tree) → Sees w s b d c.marks sc B → b ≤ c.next → AreNumbered c.next d bs → Rising 0 d xs → ((i : Item) → root p i ≤ owned xs es i) → ((i : Item) → owned xs es i + bound w d bs i ≡ root p i + root q i) → Extends (is_fip w.kind) true (variables w c.next bs) [] (env s.variables (λ i. owned xs es i - root p i)) (env (named d true bs ++ s.variables) (root q))
let_opens w s b c d bs sc B xs es p q h l a r f g =
    opens (is_fip w.kind) w true s b c d bs sc B (λ i. owned xs es i - root p i) (root q) [] h l a
    (λ n m. (let e = g (Own n) in let z = given_before d (d + length bs) n (numbers w d bs) (numbers_rise w d d bs (omega arith)) m in omega arith))
    (λ n m. (let e = g (Own n) in let z = given_past 0 d n xs r m in let k = f (Own n) in omega arith))
    (λ k. (let e = g (Credit k) in let z = f (Credit k) in omega arith))

abbrev LentRest : World → Clauses → Type 0
LentRest w cs =
    (s : Scope) (b d : ℕ) (c : Names) (sc : Scalars) (B : ℕ → Bool) (xs : List ℕ) (es : List D.Credit) (ys ks : List ℕ) (e : T.Term) (us : Trees) (O : Item → ℕ) → Sees w s b d c.marks sc B → b ≤ c.next → Rising 0 d xs → Extends (is_fip w.kind) false ys [] (env s.variables (owned xs es)) O → Derivation (is_fip w.kind) (setting ys true B) O e → P.DerivesClauses w s c.next d None (owned xs es) us cs → LentDerivation (is_fip w.kind) B (env s.variables (owned xs es)) (clauses w sc false c ys ks e cs)

abbrev TakenRest : World → Clauses → Type 0
TakenRest w cs =
    (s : Scope) (b d y : ℕ) (c : Names) (sc : Scalars) (B : ℕ → Bool) (xs : List ℕ) (es : List D.Credit) (ys ks : List ℕ) (e : T.Term) (us : Trees) (O : Item → ℕ) → Sees w s b d c.marks sc B → b ≤ c.next → Rising 0 d xs → y < d → Extends (is_fip w.kind) true ys ks (env s.variables (λ i. owned xs es i - only y i)) O → Derivation (is_fip w.kind) (setting ys false B) O e → P.DerivesClauses w s c.next d (Some y) (owned xs es) us cs → TakenDerivation (is_fip w.kind) B (env s.variables (λ i. owned xs es i - only y i)) (clauses w sc true c ys ks e cs)

abbrev All : World → Scope → ℕ → Names → Pattern → Block → Clauses → Option ℕ → (Item → ℕ) → Trees → Type 0
All w s d c q body cs x have ts = FirstOf ts (λ t us. IsClause w c.next d x have t q (P.DerivesBlock w (binding d (is_taken x) (binders q) s) (c.next + length (binders q)) (d + length (binders q)) t body) × P.DerivesClauses w s (c.next + length (binders q) + Q.within_block body) (d + length (binders q) + Q.within_block body) x have us cs)

all_lent : (w : World) (q : Pattern) (body : Block) (cs : Clauses) (s : Scope) (d : ℕ) (c : Names) (sc : Scalars) (B : ℕ → Bool) (xs : List ℕ) (es : List D.Credit) (ts : Trees) → Follows w body → LentRest w cs → Sees w s c.next d c.marks sc B → Rising 0 d xs → All w s d c q body cs None (owned xs es) ts → LentDerivation (is_fip w.kind) B (env s.variables (owned xs es)) (clauses w sc false (past_clause w false c q body) (variables w c.next (binders q)) (nodes q) (term_block w (entering w c.next sc (binders q)) (inside w false c (binders q)) body) cs)
all_lent w q body cs s d c sc B xs es NoTrees f r h m g = absurd g
all_lent w q body cs s d c sc B xs es (MoreTrees u us) f r h m g =
    let k = lent_clause w s c.next d c sc B xs es q u body f h (omega arith) m g.0 in
    let z = past_next w false c q body in
    r s c.next (d + length (binders q) + Q.within_block body) (past_clause w false c q body) sc B xs es (variables w c.next (binders q)) (nodes q) (term_block w (entering w c.next sc (binders q)) (inside w false c (binders q)) body) us (env (named d false (binders q) ++ s.variables) (root u))
    (later w s c.next d c.next (d + length (binders q) + Q.within_block body) c.marks sc B (omega arith) (omega arith) h) (omega arith) (rising_more 0 d (d + length (binders q) + Q.within_block body) xs (omega arith) m) k.0 k.1 (past_sees w s c.next d false c sc B q body None (owned xs es) us cs g.1)

all_taken : (w : World) (q : Pattern) (body : Block) (cs : Clauses) (s : Scope) (d y : ℕ) (c : Names) (sc : Scalars) (B : ℕ → Bool) (xs : List ℕ) (es : List D.Credit) (ts : Trees) → Follows w body → TakenRest w cs → Sees w s c.next d c.marks sc B → Rising 0 d xs → y < d → All w s d c q body cs (Some y) (owned xs es) ts → TakenDerivation (is_fip w.kind) B (env s.variables (λ i. owned xs es i - only y i)) (clauses w sc true (past_clause w true c q body) (variables w c.next (binders q)) (nodes q) (term_block w (entering w c.next sc (binders q)) (inside w true c (binders q)) body) cs)
all_taken w q body cs s d y c sc B xs es NoTrees f r h m v g = absurd g
all_taken w q body cs s d y c sc B xs es (MoreTrees u us) f r h m v g =
    let k = taken_clause w s c.next d y c sc B xs es q u body f h (omega arith) m v g.0 in
    let z = past_next w true c q body in
    r s c.next (d + length (binders q) + Q.within_block body) y (past_clause w true c q body) sc B xs es (variables w c.next (binders q)) (nodes q) (term_block w (entering w c.next sc (binders q)) (inside w true c (binders q)) body) us (env (named d true (binders q) ++ s.variables) (root u))
    (later w s c.next d c.next (d + length (binders q) + Q.within_block body) c.marks sc B (omega arith) (omega arith) h) (omega arith) (rising_more 0 d (d + length (binders q) + Q.within_block body) xs (omega arith) m) (omega arith) k.0 k.1 (past_sees w s c.next d true c sc B q body (Some y) (owned xs es) us cs g.1)

match_derived : (w : World) (b : Bool) (a : Argument) (q : Pattern) (body : Block) (cs : Clauses) (s : Scope) (d : ℕ) (c : Names) (sc : Scalars) (B : ℕ → Bool) (t : Tree) → Sees w s c.next d c.marks sc B → IsOwned d t → Matches w s d b a (All w s d c q body cs) t → Follows w body → LentRest w cs → TakenRest w cs → Derivation (is_fip w.kind) B (env s.variables (root t)) (matched w sc c.marks b a (clauses w sc b (past_clause w b c q body) (variables w c.next (binders q)) (nodes q) (term_block w (entering w c.next sc (binders q)) (inside w b c (binders q)) body) cs))
match_derived w false a q body cs s d c sc B t h o (l, (xs, es, ts, under, more)) f r1 r2 =
    weakened (is_fip w.kind) s.variables d t (Branch R.Match xs es ts) B (T.Match (lent_value w sc c.marks a) (clauses w sc false (past_clause w false c q body) (variables w c.next (binders q)) (nodes q) (term_block w (entering w c.next sc (binders q)) (inside w false c (binders q)) body) cs)) under
    (MATCH (lends_lent w s c.next d c.marks sc B a h l) (all_lent w q body cs s d c sc B xs es ts f r1 h (under_owned (is_fip w.kind) d t (Branch R.Match xs es ts) o under).0 more))
match_derived w true (Literal i p) q body cs s d c sc B t h o g f r1 r2 = absurd g
match_derived w true (Constructor u k j n p as') q body cs s d c sc B t h o g f r1 r2 = absurd g
match_derived w true (Variable None n p) q body cs s d c sc B t h o g f r1 r2 = absurd g
match_derived w true (Variable (Some y) n p) q body cs s d c sc B t h o g f r1 r2 = by (known s.variables y) refl g
  where
    by : (z : Option Known) → known s.variables y ≡ z → Scrutinised w d z (All w s d c q body cs) t → Derivation (is_fip w.kind) B (env s.variables (root t)) (T.Take (value sc c.marks (Variable (Some y) n p)) (clauses w sc true (past_clause w true c q body) (variables w c.next (binders q)) (nodes q) (term_block w (entering w c.next sc (binders q)) (inside w true c (binders q)) body) cs))
    by None e g = absurd g
    by (Some v) e (sv, (xs, es, ts, under, one', more)) =
        let m = (under_owned (is_fip w.kind) d t (Branch R.TakingMatch xs es ts) o under).0 in
        weakened (is_fip w.kind) s.variables d t (Branch R.TakingMatch xs es ts) B (T.Take (variable sc (seen c.marks (Some y))) (clauses w sc true (past_clause w true c q body) (variables w c.next (binders q)) (nodes q) (term_block w (entering w c.next sc (binders q)) (inside w true c (binders q)) body) cs)) under
        (TAKE {P = only y} {Q = env s.variables (λ i. owned xs es i - only v.number i)} (take_rest w s c.next d c.marks sc B y v xs es h e one') (taken_value w s c.next d c.marks sc B y v h e sv)
        (all_taken w q body cs s d v.number c sc B xs es ts f r2 h m (given_below 0 d v.number xs m one') more))

mutual
  pub expr_derived : (w : World) (e : Expression) (s : Scope) (d : ℕ) (c : Names) (sc : Scalars) (B : ℕ → Bool) (t : Tree) → Sees w s c.next d c.marks sc B → IsOwned d t → P.Derives w s c.next d t e → Derivation (is_fip w.kind) B (env s.variables (root t)) (term w sc c e)
  expr_derived w (Give a) s d c sc B t h o g =
      TUPLE (MORE {P = env s.variables (root t)} {Q = λ i. 0} (no_more (env s.variables (root t))) (value_derived w s c.next d c.marks sc B t a h g) (NONE (λ i. refl)))
  expr_derived w (Tuple p as') s d c sc B t h o (xs, cs, ts, under, are, sum, more) =
      weakened (is_fip w.kind) s.variables d t (Branch R.Tuple xs cs ts) B (T.Results (values sc c.marks as')) under
      (WEAKEN {P = env s.variables (roots ts)} (λ i. fits_same (is_fip w.kind) (env s.variables (owned xs cs) i) (env s.variables (roots ts) i) (env_same s.variables (owned xs cs) (roots ts) (λ i. (let z = sum i in omega arith)) i))
      (TUPLE (values_derived w s c.next d c.marks sc B ts as' h more)))
  expr_derived w (Operation o' p l r) s d c sc B t h o g =
      weakened (is_fip w.kind) s.variables d t (Branch R.Scalar [] [] NoTrees) B (T.Results (T.MoreValues (value sc c.marks l) (T.MoreValues (value sc c.marks r) T.NoValues))) g.0
      (TUPLE (MORE {P = λ i. 0} {Q = λ i. 0} (λ i. (let z = leaf_none (is_fip w.kind) s.variables R.Scalar i in omega arith)) (operand_derived w s c.next d c.marks sc B l h g.1)
      (MORE {P = λ i. 0} {Q = λ i. 0} (λ i. refl) (operand_derived w s c.next d c.marks sc B r h g.2) (NONE (λ i. refl)))))
  expr_derived w (Call g n p as') s d c sc B t h o k = call_derived w s d c sc B t g as' (slice_get w.instances g) refl h k
  expr_derived w (Match k u p a q body cs) s d c sc B t h o g = match_derived w (takes w k u) a q body cs s d c sc B t h o g
      (λ s d c sc B t h o g. block_derived w body s d c sc B t h o g)
      (λ s b d c sc B xs es ys ks e us O h l m x f g. lent_derived w cs s b d c sc B xs es ys ks e us O h l m x f g)
      (λ s b d y c sc B xs es ys ks e us O h l m z x f g. taken_derived w cs s b d y c sc B xs es ys ks e us O h l m z x f g)
  expr_derived w (Nested b) s d c sc B t h o g = block_derived w b s d c sc B t h o g

  pub block_derived : (w : World) (b : Block) (s : Scope) (d : ℕ) (c : Names) (sc : Scalars) (B : ℕ → Bool) (t : Tree) → Sees w s c.next d c.marks sc B → IsOwned d t → P.DerivesBlock w s c.next d t b → Derivation (is_fip w.kind) B (env s.variables (root t)) (term_block w sc c b)
  block_derived w (Last e) s d c sc B t h o g = expr_derived w e s d c sc B t h o g
  block_derived w (Let bs e rest) s d c sc B t h o (xs, es, p, q, under, some, numbered, own1, below1, own2, split, body, more) =
      let r : Rising 0 d xs = (under_owned (is_fip w.kind) d t (Branch R.Let xs es (MoreTrees p (MoreTrees q NoTrees))) o under).0 in
      let n = following c (shape w c e) in
      let z = expr_next w c e in
      let a : AreNumbered n.next d bs = subst (λ k. AreNumbered k d bs) (sym z) numbered in
      weakened (is_fip w.kind) s.variables d t (Branch R.Let xs es (MoreTrees p (MoreTrees q NoTrees))) B (term_block w sc c (Let bs e rest)) under
      (LET {O1 = env s.variables (root p)} {O2 = env s.variables (λ i. owned xs es i - root p i)} {Q = env (named d true bs ++ s.variables) (root q)}
      (env_sum s.variables (owned xs es) (root p) (λ i. owned xs es i - root p i) (λ i. (let l = below1 i in omega arith)))
      (let_opens w s c.next n d bs sc B xs es p q h (omega arith) a r below1 split)
      (expr_derived w e (lending xs (own_variables p) s) (d + length bs) c sc (C.lending B (env s.variables (λ i. owned xs es i - root p i))) p (sees_lending w s c.next d (d + length bs) c.marks sc B xs es p h r own1 below1 (omega arith)) (owned_more d (d + length bs) p (omega arith) own1) body)
      (within_derived w true s c.next d (d + Q.within e + length bs) n sc B bs q rest (λ s d c sc B t h o g. block_derived w rest s d c sc B t h o g) h (omega arith) a (omega arith) (owned_more (d + length bs) (d + Q.within e + length bs) q (omega arith) own2) (subst (λ k. P.DerivesBlock w (binding d true bs s) (k + length bs) (d + Q.within e + length bs) q rest) (sym z) more)))

  pub lent_derived : (w : World) (cs : Clauses) (s : Scope) (b d : ℕ) (c : Names) (sc : Scalars) (B : ℕ → Bool) (xs : List ℕ) (es : List D.Credit) (ys ks : List ℕ) (e : T.Term) (us : Trees) (O : Item → ℕ) → Sees w s b d c.marks sc B → b ≤ c.next → Rising 0 d xs → Extends (is_fip w.kind) false ys [] (env s.variables (owned xs es)) O → Derivation (is_fip w.kind) (setting ys true B) O e → P.DerivesClauses w s c.next d None (owned xs es) us cs → LentDerivation (is_fip w.kind) B (env s.variables (owned xs es)) (clauses w sc false c ys ks e cs)
  lent_derived w NoClauses s b d c sc B xs es ys ks e NoTrees O h l m x f g = LENT_LAST {Q = O} x f
  lent_derived w NoClauses s b d c sc B xs es ys ks e (MoreTrees u us) O h l m x f g = absurd g
  lent_derived w (MoreClauses q body cs) s b d c sc B xs es ys ks e NoTrees O h l m x f g = absurd g
  lent_derived w (MoreClauses q body cs) s b d c sc B xs es ys ks e (MoreTrees u us) O h l m x f g =
      let r = lent_clause w s b d c sc B xs es q u body (λ s d c sc B t h o g. block_derived w body s d c sc B t h o g) h l m g.0 in
      let z = past_next w false c q body in
      LENT_MORE {Q = O} x f (lent_derived w cs s b (d + length (binders q) + Q.within_block body) (past_clause w false c q body) sc B xs es (variables w c.next (binders q)) (nodes q) (term_block w (entering w c.next sc (binders q)) (inside w false c (binders q)) body) us (env (named d false (binders q) ++ s.variables) (root u))
      (later w s b d b (d + length (binders q) + Q.within_block body) c.marks sc B (omega arith) (omega arith) h) (omega arith) (rising_more 0 d (d + length (binders q) + Q.within_block body) xs (omega arith) m) r.0 r.1 (past_sees w s b d false c sc B q body None (owned xs es) us cs g.1))

  pub taken_derived : (w : World) (cs : Clauses) (s : Scope) (b d y : ℕ) (c : Names) (sc : Scalars) (B : ℕ → Bool) (xs : List ℕ) (es : List D.Credit) (ys ks : List ℕ) (e : T.Term) (us : Trees) (O : Item → ℕ) → Sees w s b d c.marks sc B → b ≤ c.next → Rising 0 d xs → y < d → Extends (is_fip w.kind) true ys ks (env s.variables (λ i. owned xs es i - only y i)) O → Derivation (is_fip w.kind) (setting ys false B) O e → P.DerivesClauses w s c.next d (Some y) (owned xs es) us cs → TakenDerivation (is_fip w.kind) B (env s.variables (λ i. owned xs es i - only y i)) (clauses w sc true c ys ks e cs)
  taken_derived w NoClauses s b d y c sc B xs es ys ks e NoTrees O h l m v x f g = TAKEN_LAST {Q = O} x f
  taken_derived w NoClauses s b d y c sc B xs es ys ks e (MoreTrees u us) O h l m v x f g = absurd g
  taken_derived w (MoreClauses q body cs) s b d y c sc B xs es ys ks e NoTrees O h l m v x f g = absurd g
  taken_derived w (MoreClauses q body cs) s b d y c sc B xs es ys ks e (MoreTrees u us) O h l m v x f g =
      let r = taken_clause w s b d y c sc B xs es q u body (λ s d c sc B t h o g. block_derived w body s d c sc B t h o g) h l m v g.0 in
      let z = past_next w true c q body in
      TAKEN_MORE {Q = O} x f (taken_derived w cs s b (d + length (binders q) + Q.within_block body) y (past_clause w true c q body) sc B xs es (variables w c.next (binders q)) (nodes q) (term_block w (entering w c.next sc (binders q)) (inside w true c (binders q)) body) us (env (named d true (binders q) ++ s.variables) (root u))
      (later w s b d b (d + length (binders q) + Q.within_block body) c.marks sc B (omega arith) (omega arith) h) (omega arith) (rising_more 0 d (d + length (binders q) + Q.within_block body) xs (omega arith) m) (omega arith) r.0 r.1 (past_sees w s b d true c sc B q body (Some y) (owned xs es) us cs g.1))
