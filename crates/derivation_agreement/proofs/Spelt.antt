-- A derivation of a program that is within what a text can encode is encoded: what the rules require of its nodes is
-- what a text requires of them. The way goes down along the rules. Binders have numbers below 2^32 in a derivation, so
-- those that are in an expression don't lead beyond; and what a node has are variables in scope, each once, and credits
-- by size.
use Rattle.std.proofs.Common.{◌≡◌, inl, inr, ℕ, zero, suc, ◌≤◌, ◌+◌, sym, subst, List, [], ◌∷◌, length, Bool, true, false, Option, Some, None, arith}
use Rattle.std.specs.Prelude.{slice_get}
use Rattle.tail_groups.specs.fip_base.declared.plain.Param.{Param}
use Rattle.tail_groups.specs.fip_trees.declared.program.Binder.{Binder}
use Rattle.tail_groups.specs.fip_trees.Tree.{Argument, Variable, Literal, Constructor, Arguments, NoArguments, MoreArguments, count, Pattern, Expression, Give, Tuple, Operation, Call, Match, Nested, Block, Last, Let, Clauses, NoClauses, MoreClauses, Instance, Program}
use Rattle.derivation_walk.specs.fip_rules.World.{World, world, is_fip, is_ruled}
use Rattle.derivation_walk.specs.fip_rules.Shapes.{binders, takes}
use Rattle.derivation_making.specs.ownership_calculus.Terms.{Item}
use Rattle.derivation_walk.specs.derivation_trees.declared.derivation.RuleName.{RuleName}
use Rattle.derivation_walk.specs.derivation_trees.declared.derivation.RuleName.TheVariants as R
use Rattle.derivation_walk.specs.derivation_trees.declared.derivation.Credit as D
use Rattle.derivation_walk.specs.derivation_trees.Trees.{Tree, Missing, Branch, Trees, NoTrees, MoreTrees, Entry}
use Rattle.derivation_making.specs.derivation_check.Owned.{owned, Rising, RisingSizes, IsOwned, AreOwned, Under, Leaf}
use Rattle.derivation_making.specs.derivation_check.Scopes.{Known, Scope, meant, binding, AreNumbered, within, within_block, within_clauses}
use Rattle.derivation_making.specs.derivation_check.Calculus.{Choice, UsesVariable, Builds, DerivesValue, DerivesValues, DerivesPassed, FirstOf, Calls, IsClause, is_taken, Matches, Scrutinised, Derives, DerivesBlock, DerivesClauses}
use Rattle.derivation_making.specs.derivation_check.Accepted.{DerivesInstance, FirstEntry, AreDerived, header_scope}
use Rattle.derivation_text.specs.ProofText.{AreVariables, AreCredits, IsNode, AreNodes, AreEntries}
use Rattle.derivation_agreement.specs.Within.{AreFew, IsShallow, AreShallow, AreWithin}

-- ---- what a node has

one_on : (n : ℕ) → n + 1 ≡ suc n
one_on n = omega arith

variables_spelt : (n d : ℕ) (xs : List ℕ) → d ≤ 4294967296 → Rising n d xs → AreVariables n xs
variables_spelt n d [] m r = tt
variables_spelt n d (x ∷ xs) m r =
    let a = r.0 in
    let b = r.1 in
    (a, omega (arith, m, b), subst (λ k. AreVariables k xs) (one_on x) (variables_spelt (x + 1) d xs m r.2))

credits_spelt : (n : ℕ) (cs : List D.Credit) → RisingSizes n cs → AreFew cs → AreCredits n cs
credits_spelt n [] r f = tt
credits_spelt n (c ∷ cs) r f =
    let a = r.0 in
    let b = r.1 in
    let e = r.2 in
    (a, omega (arith, b), omega (arith, e), f.0, subst (λ k. AreCredits k cs) (one_on c.size) (credits_spelt (c.size + 1) cs r.3 f.1))

-- among more variables
rising_up : (n d e : ℕ) (xs : List ℕ) → d ≤ e → Rising n d xs → Rising n e xs
rising_up n d e [] l h = tt
rising_up n d e (x ∷ xs) l h = (h.0, (let a = h.1 in omega (arith, a, l)), rising_up (x + 1) d e xs l h.2)

owned_up : (d e : ℕ) (t : Tree) → d ≤ e → IsOwned d t → IsOwned e t
owned_up d e Missing l h = absurd h
owned_up d e (Branch r xs cs ts) l h = (rising_up 0 d e xs l h.0, h.1)

-- a node, by its parts; and one that is below nodes that weaken
node_spelt : (d k : ℕ) (r : RuleName) (xs : List ℕ) (cs : List D.Credit) (ts : Trees) → d ≤ 4294967296 → IsOwned d (Branch r xs cs ts) → IsShallow k (Branch r xs cs ts) → AreNodes (suc k) ts → IsNode k (Branch r xs cs ts)
node_spelt d k r xs cs ts m o f h = (f.0, variables_spelt 0 d xs m o.0, credits_spelt 1 cs o.1 f.1, h)

abbrev Spells : ℕ → Tree → Type 0
Spells d u = (j : ℕ) → IsOwned d u → IsShallow j u → IsNode j u

under_spelt : (fip : Bool) (d k : ℕ) (t u : Tree) → d ≤ 4294967296 → IsOwned d t → IsShallow k t → Under fip d t u → Spells d u → IsNode k t
under_spelt fip d k Missing u m o f h go = absurd h
under_spelt fip d k (Branch r xs cs ts) u m o f (inl h) go = subst (IsNode k) (sym h.1) (go k (subst (IsOwned d) h.1 o) (subst (IsShallow k) h.1 f))
under_spelt fip d k (Branch r xs cs NoTrees) u m o f (inr h) go = absurd h.2
under_spelt fip d k (Branch r xs cs (MoreTrees t NoTrees)) u m o f (inr h) go =
    node_spelt d k r xs cs (MoreTrees t NoTrees) m o f (under_spelt fip d (suc k) t u m h.2.0 f.2.0 h.2.2 go, tt)
under_spelt fip d k (Branch r xs cs (MoreTrees t (MoreTrees s ts))) u m o f (inr h) go = absurd h.2

-- by the parts of the node that doesn't weaken
branch_spelt : (fip : Bool) (d k : ℕ) (t : Tree) (r : RuleName) (xs : List ℕ) (cs : List D.Credit) (ts : Trees) → d ≤ 4294967296 → IsOwned d t → IsShallow k t → Under fip d t (Branch r xs cs ts) → ((j : ℕ) → AreShallow j ts → AreNodes j ts) → IsNode k t
branch_spelt fip d k t r xs cs ts m o f h go = under_spelt fip d k t (Branch r xs cs ts) m o f h (λ j p g. node_spelt d j r xs cs ts m p g (go (suc j) g.2))

bare_spelt : (fip : Bool) (d k : ℕ) (t : Tree) (r : RuleName) (xs : List ℕ) → d ≤ 4294967296 → IsOwned d t → IsShallow k t → Under fip d t (Branch r xs [] NoTrees) → IsNode k t
bare_spelt fip d k t r xs m o f h = branch_spelt fip d k t r xs [] NoTrees m o f h (λ j g. tt)

-- ---- arguments

variable_spelt : (w : World) (d k : ℕ) (v : Option Known) (t : Tree) → d ≤ 4294967296 → IsOwned d t → IsShallow k t → UsesVariable w d v t → IsNode k t
variable_spelt w d k None t m o f h = absurd h
variable_spelt w d k (Some v) t m o f h = by (w.scalar v.ty) h
  where
    by : (b : Bool) → Choice b (Leaf (is_fip w.kind) d R.Scalar t) (Under (is_fip w.kind) d t (Branch R.Variable (v.number ∷ []) [] NoTrees)) → IsNode k t
    by true g = bare_spelt (is_fip w.kind) d k t R.Scalar [] m o f g
    by false g = bare_spelt (is_fip w.kind) d k t R.Variable (v.number ∷ []) m o f g

built_spelt : (w : World) (d k n : ℕ) (P : Trees → Type 0) (t : Tree) → d ≤ 4294967296 → IsOwned d t → IsShallow k t → ((ts : Trees) → P ts → (j : ℕ) → AreOwned d ts → AreShallow j ts → AreNodes j ts) → Builds w d n P t → IsNode k t
built_spelt w d k zero P t m o f go h = bare_spelt (is_fip w.kind) d k t R.Atom [] m o f h
built_spelt w d k (suc n) P t m o f go (xs, cs, ts, under, are, sum, more) = branch_spelt (is_fip w.kind) d k t R.Reuse xs cs ts m o f under (λ j g. go ts more j are g)

mutual
  value_spelt : (w : World) (vs : List Known) (d k : ℕ) (a : Argument) (t : Tree) → d ≤ 4294967296 → IsOwned d t → IsShallow k t → DerivesValue w vs d t a → IsNode k t
  value_spelt w vs d k (Variable x n p) t m o f h = variable_spelt w d k (meant vs x) t m o f h
  value_spelt w vs d k (Literal i p) t m o f h = bare_spelt (is_fip w.kind) d k t R.Scalar [] m o f h
  value_spelt w vs d k (Constructor u g c n p as') t m o f h = built_spelt w d k (count as') (λ ts. DerivesValues w vs d ts as') t m o f (λ ts z j q y. values_spelt w vs d j as' ts m q y z) h

  values_spelt : (w : World) (vs : List Known) (d k : ℕ) (as' : Arguments) (ts : Trees) → d ≤ 4294967296 → AreOwned d ts → AreShallow k ts → DerivesValues w vs d ts as' → AreNodes k ts
  values_spelt w vs d k NoArguments NoTrees m o f h = tt
  values_spelt w vs d k NoArguments (MoreTrees t ts) m o f h = absurd h
  values_spelt w vs d k (MoreArguments a as') NoTrees m o f h = absurd h
  values_spelt w vs d k (MoreArguments a as') (MoreTrees t ts) m o f h = (value_spelt w vs d k a t m o.0 f.0 h.0, values_spelt w vs d k as' ts m o.1 f.1 h.1)

passed_spelt : (w : World) (s : Scope) (d k : ℕ) (ps : List Param) (as' : Arguments) (ts : Trees) → d ≤ 4294967296 → AreOwned d ts → AreShallow k ts → DerivesPassed w s d ps as' ts → AreNodes k ts
passed_spelt w s d k [] NoArguments NoTrees m o f h = tt
passed_spelt w s d k [] NoArguments (MoreTrees t ts) m o f h = absurd h
passed_spelt w s d k (p ∷ ps) NoArguments ts m o f h = absurd h
passed_spelt w s d k [] (MoreArguments a as') ts m o f h = absurd h
passed_spelt w s d k (p ∷ ps) (MoreArguments a as') ts m o f h = by (w.scalar p.ty) _ _ (λ us o f g. passed_spelt w s d k ps as' us m o f g) ts o f h
  where
    given : ((us : Trees) → AreOwned d us → AreShallow k us → DerivesPassed w s d ps as' us → AreNodes k us) → (us : Trees) → AreOwned d us → AreShallow k us → FirstOf us (λ t more. DerivesValue w s.variables d t a × DerivesPassed w s d ps as' more) → AreNodes k us
    given rest NoTrees o f g = absurd g
    given rest (MoreTrees t us) o f g = (value_spelt w s.variables d k a t m o.0 f.0 g.0, rest us o.1 f.1 g.1)

    owning : (b : Bool) (A : Type 0) → ((us : Trees) → AreOwned d us → AreShallow k us → DerivesPassed w s d ps as' us → AreNodes k us) → (us : Trees) → AreOwned d us → AreShallow k us → Choice b (A × DerivesPassed w s d ps as' us) (FirstOf us (λ t more. DerivesValue w s.variables d t a × DerivesPassed w s d ps as' more)) → AreNodes k us
    owning true A rest us o f g = rest us o f g.1
    owning false A rest us o f g = given rest us o f g

    by : (b : Bool) (A B : Type 0) → ((us : Trees) → AreOwned d us → AreShallow k us → DerivesPassed w s d ps as' us → AreNodes k us) → (us : Trees) → AreOwned d us → AreShallow k us → Choice b (A × DerivesPassed w s d ps as' us) (Choice p.lent (B × DerivesPassed w s d ps as' us) (FirstOf us (λ t more. DerivesValue w s.variables d t a × DerivesPassed w s d ps as' more))) → AreNodes k us
    by true A B rest us o f g = rest us o f g.1
    by false A B rest us o f g = owning p.lent B rest us o f g

call_spelt : (w : World) (s : Scope) (d k : ℕ) (e : Option Instance) (as' : Arguments) (t : Tree) → d ≤ 4294967296 → IsOwned d t → IsShallow k t → Calls w s d e as' t → IsNode k t
call_spelt w s d k None as' t m o f h = absurd h
call_spelt w s d k (Some e) as' t m o f (strong, (xs, cs, ts, under, are, sum, more)) =
    branch_spelt (is_fip w.kind) d k t R.Call xs cs ts m o f under (λ j g. passed_spelt w s d j e.params as' ts m are g more)

-- ---- binders

numbered_few : (c d : ℕ) (bs : List Binder) → d ≤ 4294967296 → AreNumbered c d bs → d + length bs ≤ 4294967296
numbered_few c d [] m h = omega (arith, m)
numbered_few c d (b ∷ bs) m h =
    let y = h.1 in
    let r = numbered_few (c + 1) (d + 1) bs (omega (arith, y)) h.2 in
    omega (arith, r)

-- the node of a match, whichever it is
pub match_node : (w : World) (s : Scope) (d : ℕ) (b : Bool) (a : Argument) (P : Option ℕ → (Item → ℕ) → Trees → Type 0) (t : Tree) → Matches w s d b a P t → (r : RuleName) × (xs : List ℕ) × (cs : List D.Credit) × (ts : Trees) × (x : Option ℕ) × Under (is_fip w.kind) d t (Branch r xs cs ts) × P x (owned xs cs) ts
match_node w s d true (Variable x n p) P t h = by (meant s.variables x) h
  where
    by : (v : Option Known) → Scrutinised w d v P t → (r : RuleName) × (xs : List ℕ) × (cs : List D.Credit) × (ts : Trees) × (x : Option ℕ) × Under (is_fip w.kind) d t (Branch r xs cs ts) × P x (owned xs cs) ts
    by None g = absurd g
    by (Some v) (sv, (xs, cs, ts, under, one, more)) = (R.TakingMatch, xs, cs, ts, Some v.number, under, more)
match_node w s d true (Literal i p) P t h = absurd h
match_node w s d true (Constructor u g c n p as') P t h = absurd h
match_node w s d false a P t (l, (xs, cs, ts, under, more)) = (R.Match, xs, cs, ts, None, under, more)

-- The first clause and the others, by what holds of each.
abbrev pub EachClause : World → Scope → ℕ → ℕ → Pattern → Block → Clauses → Option ℕ → (Item → ℕ) → Trees → Type 0
EachClause w s c d q body cs x have ts =
    FirstOf ts (λ t us. IsClause w c d x have t q (DerivesBlock w (binding d (is_taken x) (binders q) s) (c + length (binders q)) (d + length (binders q)) t body) × DerivesClauses w s (c + length (binders q) + within_block body) (d + length (binders q) + within_block body) x have us cs)

-- ---- how many binders there are

abbrev FewBlock : World → Block → Type 0
FewBlock w b = (s : Scope) (c d : ℕ) (t : Tree) → d ≤ 4294967296 → DerivesBlock w s c d t b → d + within_block b ≤ 4294967296

abbrev FewClauses : World → Clauses → Type 0
FewClauses w cs = (s : Scope) (c d : ℕ) (x : Option ℕ) (have : Item → ℕ) (ts : Trees) → d ≤ 4294967296 → DerivesClauses w s c d x have ts cs → d + within_clauses cs ≤ 4294967296

all_few : (w : World) (s : Scope) (c d : ℕ) (q : Pattern) (body : Block) (cs : Clauses) (x : Option ℕ) (have : Item → ℕ) (ts : Trees) → d ≤ 4294967296 → FewBlock w body → FewClauses w cs → EachClause w s c d q body cs x have ts → d + (length (binders q) + within_block body + within_clauses cs) ≤ 4294967296
all_few w s c d q body cs x have NoTrees m fb fc h = absurd h
all_few w s c d q body cs x have (MoreTrees t ts) m fb fc h =
    let a = numbered_few c d (binders q) m h.0.0 in
    let b = fb (binding d (is_taken x) (binders q) s) (c + length (binders q)) (d + length (binders q)) t a h.0.3 in
    let e = fc s (c + length (binders q) + within_block body) (d + length (binders q) + within_block body) x have ts b h.1 in
    omega (arith, e)

mutual
  expression_few : (w : World) (e : Expression) (s : Scope) (c d : ℕ) (t : Tree) → d ≤ 4294967296 → Derives w s c d t e → d + within e ≤ 4294967296
  expression_few w (Give a) s c d t m h = omega (arith, m)
  expression_few w (Tuple p as') s c d t m h = omega (arith, m)
  expression_few w (Operation o p l r) s c d t m h = omega (arith, m)
  expression_few w (Call g n p as') s c d t m h = omega (arith, m)
  expression_few w (Match k u p a q body cs) s c d t m h =
      let z = match_node w s d (takes w k u) a (EachClause w s c d q body cs) t h in
      all_few w s c d q body cs z.4 (owned z.1 z.2) z.3 m (λ s c d t m h. block_few w body s c d t m h) (λ s c d x have ts m h. clauses_few w cs s c d x have ts m h) z.6
  expression_few w (Nested b) s c d t m h = block_few w b s c d t m h

  block_few : (w : World) (b : Block) (s : Scope) (c d : ℕ) (t : Tree) → d ≤ 4294967296 → DerivesBlock w s c d t b → d + within_block b ≤ 4294967296
  block_few w (Last e) s c d t m h = expression_few w e s c d t m h
  block_few w (Let bs e rest) s c d t m (xs, cs, p, q, under, some, numbered, own1, below, own2, split, bound, more) =
      let a = numbered_few (c + within e) d bs m numbered in
      let b = expression_few w e _ c (d + length bs) p a bound in
      let r = block_few w rest _ _ (d + within e + length bs) q (omega (arith, b)) more in
      omega (arith, r)

  clauses_few : (w : World) (cs : Clauses) (s : Scope) (c d : ℕ) (x : Option ℕ) (have : Item → ℕ) (ts : Trees) → d ≤ 4294967296 → DerivesClauses w s c d x have ts cs → d + within_clauses cs ≤ 4294967296
  clauses_few w NoClauses s c d x have ts m h = omega (arith, m)
  clauses_few w (MoreClauses q body cs) s c d x have NoTrees m h = absurd h
  clauses_few w (MoreClauses q body cs) s c d x have (MoreTrees t ts) m h =
      let a = numbered_few c d (binders q) m h.0.0 in
      let b = block_few w body _ _ (d + length (binders q)) t a h.0.3 in
      let e = clauses_few w cs s _ (d + length (binders q) + within_block body) x have ts b h.1 in
      omega (arith, e)

-- ---- expressions

abbrev BlockSpelt : World → Block → Type 0
BlockSpelt w b = (s : Scope) (c d k : ℕ) (t : Tree) → d ≤ 4294967296 → IsOwned d t → IsShallow k t → DerivesBlock w s c d t b → IsNode k t

abbrev ClausesSpelt : World → Clauses → Type 0
ClausesSpelt w cs = (s : Scope) (c d k : ℕ) (x : Option ℕ) (have : Item → ℕ) (ts : Trees) → d ≤ 4294967296 → AreShallow k ts → DerivesClauses w s c d x have ts cs → AreNodes k ts

all_spelt : (w : World) (s : Scope) (c d k : ℕ) (q : Pattern) (body : Block) (cs : Clauses) (x : Option ℕ) (have : Item → ℕ) (ts : Trees) → d ≤ 4294967296 → AreShallow k ts → BlockSpelt w body → ClausesSpelt w cs → EachClause w s c d q body cs x have ts → AreNodes k ts
all_spelt w s c d k q body cs x have NoTrees m f sb sc h = absurd h
all_spelt w s c d k q body cs x have (MoreTrees t ts) m f sb sc h =
    let a = numbered_few c d (binders q) m h.0.0 in
    let b = block_few w body (binding d (is_taken x) (binders q) s) (c + length (binders q)) (d + length (binders q)) t a h.0.3 in (
      sb (binding d (is_taken x) (binders q) s) (c + length (binders q)) (d + length (binders q)) k t a h.0.1 f.0 h.0.3,
      sc s (c + length (binders q) + within_block body) (d + length (binders q) + within_block body) k x have ts b f.1 h.1,
    )

mutual
  expression_spelt : (w : World) (e : Expression) (s : Scope) (c d k : ℕ) (t : Tree) → d ≤ 4294967296 → IsOwned d t → IsShallow k t → Derives w s c d t e → IsNode k t
  expression_spelt w (Give a) s c d k t m o f h = value_spelt w s.variables d k a t m o f h
  expression_spelt w (Tuple p as') s c d k t m o f (xs, cs, ts, under, are, sum, more) =
      branch_spelt (is_fip w.kind) d k t R.Tuple xs cs ts m o f under (λ j g. values_spelt w s.variables d j as' ts m are g more)
  expression_spelt w (Operation o' p l r) s c d k t m o f h = bare_spelt (is_fip w.kind) d k t R.Scalar [] m o f h.0
  expression_spelt w (Call g n p as') s c d k t m o f h = call_spelt w s d k (slice_get w.instances g) as' t m o f h
  expression_spelt w (Match k' u p a q body cs) s c d k t m o f h =
      let z = match_node w s d (takes w k' u) a (EachClause w s c d q body cs) t h in
      branch_spelt (is_fip w.kind) d k t z.0 z.1 z.2 z.3 m o f z.5
      (λ j g. all_spelt w s c d j q body cs z.4 (owned z.1 z.2) z.3 m g (λ s c d k t m o f h. block_spelt w body s c d k t m o f h) (λ s c d k x have ts m f h. clauses_spelt w cs s c d k x have ts m f h) z.6)
  expression_spelt w (Nested b) s c d k t m o f h = block_spelt w b s c d k t m o f h

  block_spelt : (w : World) (b : Block) (s : Scope) (c d k : ℕ) (t : Tree) → d ≤ 4294967296 → IsOwned d t → IsShallow k t → DerivesBlock w s c d t b → IsNode k t
  block_spelt w (Last e) s c d k t m o f h = expression_spelt w e s c d k t m o f h
  block_spelt w (Let bs e rest) s c d k t m o f (xs, cs, p, q, under, some, numbered, own1, below, own2, split, bound, more) =
      let a = numbered_few (c + within e) d bs m numbered in
      let b = expression_few w e _ c (d + length bs) p a bound in
      branch_spelt (is_fip w.kind) d k t R.Let xs cs (MoreTrees p (MoreTrees q NoTrees)) m o f under
      (λ j g. (
        expression_spelt w e _ c (d + length bs) j p a (owned_up d (d + length bs) p (omega arith) own1) g.0 bound,
        (block_spelt w rest _ _ (d + within e + length bs) j q (omega (arith, b)) (owned_up (d + length bs) (d + within e + length bs) q (omega arith) own2) g.1.0 more, tt),
      ))

  clauses_spelt : (w : World) (cs : Clauses) (s : Scope) (c d k : ℕ) (x : Option ℕ) (have : Item → ℕ) (ts : Trees) → d ≤ 4294967296 → AreShallow k ts → DerivesClauses w s c d x have ts cs → AreNodes k ts
  clauses_spelt w NoClauses s c d k x have NoTrees m f h = tt
  clauses_spelt w NoClauses s c d k x have (MoreTrees t ts) m f h = absurd h
  clauses_spelt w (MoreClauses q body cs) s c d k x have NoTrees m f h = absurd h
  clauses_spelt w (MoreClauses q body cs) s c d k x have (MoreTrees t ts) m f h =
      let a = numbered_few c d (binders q) m h.0.0 in
      let b = block_few w body _ _ (d + length (binders q)) t a h.0.3 in (
        block_spelt w body _ _ (d + length (binders q)) k t a h.0.1 f.0 h.0.3,
        clauses_spelt w cs s _ (d + length (binders q) + within_block body) k x have ts b f.1 h.1,
      )

-- ---- instances

instance_spelt : (w : World) (d : Instance) (t : Tree) → IsShallow 1 t → DerivesInstance w d t → IsNode 1 t
instance_spelt w d t f (same, numbered, own, starts, body) =
    let a = numbered_few 0 0 d.binders (omega arith) numbered in
    block_spelt w d.body (header_scope d) (length d.params) (length d.params) 1 t (omega (arith, a, same)) own f body

pub entries_spelt : (p : Program) (n least : ℕ) (ds : List Instance) (es : List Entry) → least ≤ n → AreDerived p n ds es → AreWithin es → AreEntries least es
entries_spelt p n least [] [] l h f = tt
entries_spelt p n least [] (e ∷ es) l h f = absurd h
entries_spelt p n least (d ∷ ds) es l h f = by (λ m es l h f. entries_spelt p (n + 1) m ds es l h f) (is_ruled d.kind) es h f
  where
    by : ((m : ℕ) (es : List Entry) → m ≤ n + 1 → AreDerived p (n + 1) ds es → AreWithin es → AreEntries m es) → (b : Bool) (es : List Entry) → Choice b (FirstEntry es (λ e rest. (e.instance ≡ n) × DerivesInstance (world p d.kind) d e.tree × AreDerived p (n + 1) ds rest)) (AreDerived p (n + 1) ds es) → AreWithin es → AreEntries least es
    by more true [] g f = absurd g
    by more true (e ∷ es) g f =
        let a = g.0 in (
          omega (arith, l, a),
          f.0,
          instance_spelt (world p d.kind) d e.tree f.1 g.1,
          more (suc e.instance) es (omega (arith, a)) g.2 f.2,
        )
    by more false es g f = more least es (omega (arith, l)) g f
