-- What a term requires of the credits of a size is what the expression needs of them.
use Rattle.std.proofs.Common.{◌≡◌, ℕ, zero, suc, ◌+◌, ◌-◌, ◌<◌, ◌≤◌, ◌⊎◌, inl, inr, refl, sym, ap, ◌∙◌, List, [], ◌∷◌, ◌++◌, Option, Some, None, Bool, true, false, arith}
use Rattle.std.specs.Prelude.{max, ◌==◌, slice_get, if◌then◌else◌}
use Rattle.std.proofs.lemmas.Bool.Decides.{nat_tests}
use Rattle.credit_check.specs.fip_language.declared.FunKind.{FunKind}
use Rattle.credit_check.specs.fip_language.Table.{is_scalar}
use Rattle.credit_check.specs.fip_trees.Sizes.{one_if, greater}
use Rattle.credit_check.specs.fip_trees.Tree.{Argument, Variable, Literal, Constructor, Arguments, NoArguments, MoreArguments, count}
use Rattle.credit_check.specs.fip_trees.Tree.{Pattern, BinderPattern, LiteralPattern, ConstructorPattern, Patterns, NoPatterns, MorePatterns, count_patterns, Instance, Program}
use Rattle.credit_check.specs.fip_trees.Tree.{Expression, Give, Tuple, Operation, Call, Match, Nested, Block, Last, Let, Clauses, NoClauses, MoreClauses}
use Rattle.fip_rules.specs.Marks.{Mark}
use Rattle.fip_rules.specs.World.{world, lends}
use Rattle.fip_rules.specs.Shapes.{Names, following, binders, shape}
use Rattle.credit_check.specs.Needs as N
use Rattle.credit_check.specs.Needs.{made, made_all, marked, asked, takes, need, need_block, need_clauses}
use Rattle.ownership_calculus.specs.Terms as T
use Rattle.ownership_calculus.specs.Terms.{Credit, Item, Passed, PassLent, PassOwned, Term, one, size, paid, given}
use Rattle.ownership_calculus.specs.Clean.{used_up, all_used_up, lent_used_up, passed_used_up, asks, asks_lent, asks_taken}
use Rattle.ownership_agreement.specs.Sized.{AreSizes, SizedHeader, IsVariable, SizedArgument, SizedArguments, SizedPattern, SizedPatterns, SizedExpression, SizedBlock, SizedClauses}
use Rattle.ownership_agreement.specs.Bodies.{Scalars, seen, variable, value, values, lent_value, credits_of, passed, variables, entering, node, nodes, nodes_all, inside, past_clause, matched, term, term_block, clauses}
use Rattle.fip_rules.proofs.fip_base.fip_language.Facts.{positive_unequal as no_zero}
use Rattle.credit_check.proofs.Amounts.{greater_none as greater_zero}

-- ---- sizes

if_one : (b : Bool) → (if b then 1 else 0) ≡ one_if b
if_one true = refl
if_one false = refl

pub paid_at : (n k : ℕ) → 0 < k → paid n (Credit k) ≡ one_if (n == k)
paid_at zero k h = let e = no_zero k h in rw (e) refl
paid_at (suc n) k h = if_one (suc n == k)

pub zero_none : (k : ℕ) → 0 < k → one_if (0 == k) + 0 ≡ 0
zero_none k h = let e = no_zero k h in rw (e) refl

-- a number that is no size of a cell
abbrev pub IsOut : ℕ → Type 0
IsOut k = (k ≡ 0) ⊎ (17 ≤ k)

one_out : (n k : ℕ) → 17 ≤ k → n < 17 → one n k ≡ 0
one_out n k h l = grind (arith, nat_tests)

one_zero : (n : ℕ) → one (suc n) 0 ≡ 0
one_zero n = grind (arith, nat_tests)

paid_out : (n k : ℕ) → IsOut k → n < 17 → paid n (Credit k) ≡ 0
paid_out zero k h l = refl
paid_out (suc n) k (inl e) l = ap (λ j. one (suc n) j) e ∙ one_zero n
paid_out (suc n) k (inr g) l = one_out (suc n) k g l

one_apart : (j k : ℕ) → IsOut k → 0 < j → j < 17 → one j k ≡ 0
one_apart j k (inl e) a b = grind (arith, nat_tests)
one_apart j k (inr g) a b = one_out j k g b

none_sum : (m n : ℕ) → m ≡ 0 → n ≡ 0 → m + n ≡ 0
none_sum m n e f = omega arith

same_sum : (m n a b : ℕ) → m ≡ a → n ≡ b → m + n ≡ a + b
same_sum m n a b e f = omega arith

no_more : (m n : ℕ) → m ≡ n → m + 0 ≡ n
no_more m n e = omega arith

pub max_greater : (m n : ℕ) → max m n ≡ greater m n
max_greater m n = grind (arith, nat_tests)

-- ---- headers

pub header_given : (k : ℕ) (ks : List ℕ) → given k ks ≡ marked k ks
header_given k [] = refl
header_given k (j ∷ ks) = same_sum (one j k) (given k ks) (one_if (j == k)) (marked k ks) (if_one (j == k)) (header_given k ks)

pub header_out : (k : ℕ) (ks : List ℕ) → IsOut k → AreSizes ks → given k ks ≡ 0
header_out k [] h s = refl
header_out k (j ∷ ks) h s = none_sum (one j k) (given k ks) (one_apart j k h s.0 s.1) (header_out k ks h s.2)

asked_given : (k : ℕ) (o : Option Instance) → given k (credits_of o) ≡ asked k o
asked_given k None = refl
asked_given k (Some d) = header_given k d.credits

asked_out : (k : ℕ) (o : Option Instance) → IsOut k → SizedHeader o → given k (credits_of o) ≡ 0
asked_out k None h s = refl
asked_out k (Some d) h s = header_out k d.credits h s

-- ---- patterns

pub given_append : (k : ℕ) (xs ys : List ℕ) → given k (xs ++ ys) ≡ given k xs + given k ys
given_append k [] ys = omega arith
given_append k (x ∷ xs) ys = let h = given_append k xs ys in omega arith

node_given : (k n : ℕ) → given k (node n) ≡ paid n (Credit k)
node_given k zero = refl
node_given k (suc n) = omega arith

mutual
  nodes_given : (k : ℕ) → 0 < k → (q : Pattern) → given k (nodes q) ≡ N.nodes k q
  nodes_given k h (BinderPattern b) = refl
  nodes_given k h (LiteralPattern i p) = refl
  nodes_given k h (ConstructorPattern t d c n p ps) = given_append k (node (count_patterns ps)) (nodes_all ps) ∙ same_sum (given k (node (count_patterns ps))) (given k (nodes_all ps)) (one_if (count_patterns ps == k)) (N.nodes_all k ps) (node_given k (count_patterns ps) ∙ paid_at (count_patterns ps) k h) (nodes_all_given k h ps)

  nodes_all_given : (k : ℕ) → 0 < k → (ps : Patterns) → given k (nodes_all ps) ≡ N.nodes_all k ps
  nodes_all_given k h NoPatterns = refl
  nodes_all_given k h (MorePatterns q ps) = given_append k (nodes q) (nodes_all ps) ∙ same_sum (given k (nodes q)) (given k (nodes_all ps)) (N.nodes k q) (N.nodes_all k ps) (nodes_given k h q) (nodes_all_given k h ps)

mutual
  nodes_out : (k : ℕ) → IsOut k → (q : Pattern) → SizedPattern q → given k (nodes q) ≡ 0
  nodes_out k h (BinderPattern b) s = refl
  nodes_out k h (LiteralPattern i p) s = refl
  nodes_out k h (ConstructorPattern t d c n p ps) s = given_append k (node (count_patterns ps)) (nodes_all ps) ∙ none_sum (given k (node (count_patterns ps))) (given k (nodes_all ps)) (node_given k (count_patterns ps) ∙ paid_out (count_patterns ps) k h s.0) (nodes_all_out k h ps s.1)

  nodes_all_out : (k : ℕ) → IsOut k → (ps : Patterns) → SizedPatterns ps → given k (nodes_all ps) ≡ 0
  nodes_all_out k h NoPatterns s = refl
  nodes_all_out k h (MorePatterns q ps) s = given_append k (nodes q) (nodes_all ps) ∙ none_sum (given k (nodes q)) (given k (nodes_all ps)) (nodes_out k h q s.0) (nodes_all_out k h ps s.1)

-- the credits that a clause's pattern gives
abbrev pub gives : Bool → List ℕ → List ℕ
gives true ks = ks
gives false ks = []

pub gives_given : (k : ℕ) (b : Bool) (q : Pattern) → 0 < k → given k (gives b (nodes q)) ≡ N.given k b q
gives_given k true q h = nodes_given k h q
gives_given k false q h = refl

pub gives_out : (k : ℕ) (b : Bool) (q : Pattern) → IsOut k → SizedPattern q → given k (gives b (nodes q)) ≡ 0
gives_out k true q h s = nodes_out k h q s
gives_out k false q h s = refl

-- ---- arguments

size_values : (sc : Scalars) (ms : List Mark) (as' : Arguments) → size (values sc ms as') ≡ count as'
size_values sc ms NoArguments = refl
size_values sc ms (MoreArguments a as') = ap suc (size_values sc ms as')

var_none : (sc : Scalars) (i k : ℕ) (b : Bool) → used_up (if b then T.Scalar else T.Named i) (Credit k) ≡ 0
var_none sc i k true = refl
var_none sc i k false = refl

seen_none : (sc : Scalars) (o : Option ℕ) (k : ℕ) → used_up (variable sc o) (Credit k) ≡ 0
seen_none sc None k = refl
seen_none sc (Some i) k = var_none sc i k (sc i)

mutual
  value_made : (k : ℕ) → 0 < k → (sc : Scalars) (ms : List Mark) (a : Argument) → used_up (value sc ms a) (Credit k) ≡ made k a
  value_made k h sc ms (Variable x n p) = seen_none sc (seen ms x) k
  value_made k h sc ms (Literal i p) = refl
  value_made k h sc ms (Constructor t d c n p as') = same_sum (paid (size (values sc ms as')) (Credit k)) (all_used_up (values sc ms as') (Credit k)) (one_if (count as' == k)) (made_all k as') (ap (λ m. paid m (Credit k)) (size_values sc ms as') ∙ paid_at (count as') k h) (values_made k h sc ms as')

  values_made : (k : ℕ) → 0 < k → (sc : Scalars) (ms : List Mark) (as' : Arguments) → all_used_up (values sc ms as') (Credit k) ≡ made_all k as'
  values_made k h sc ms NoArguments = refl
  values_made k h sc ms (MoreArguments a as') = same_sum (used_up (value sc ms a) (Credit k)) (all_used_up (values sc ms as') (Credit k)) (made k a) (made_all k as') (value_made k h sc ms a) (values_made k h sc ms as')

mutual
  value_out : (k : ℕ) → IsOut k → (p : Program) (sc : Scalars) (ms : List Mark) (a : Argument) → SizedArgument p a → used_up (value sc ms a) (Credit k) ≡ 0
  value_out k h p sc ms (Variable x n q) s = seen_none sc (seen ms x) k
  value_out k h p sc ms (Literal i q) s = refl
  value_out k h p sc ms (Constructor t d c n q as') s = none_sum (paid (size (values sc ms as')) (Credit k)) (all_used_up (values sc ms as') (Credit k)) (ap (λ m. paid m (Credit k)) (size_values sc ms as') ∙ paid_out (count as') k h s.0) (values_out k h p sc ms as' s.2)

  values_out : (k : ℕ) → IsOut k → (p : Program) (sc : Scalars) (ms : List Mark) (as' : Arguments) → SizedArguments p as' → all_used_up (values sc ms as') (Credit k) ≡ 0
  values_out k h p sc ms NoArguments s = refl
  values_out k h p sc ms (MoreArguments a as') s = none_sum (used_up (value sc ms a) (Credit k)) (all_used_up (values sc ms as') (Credit k)) (value_out k h p sc ms a s.0) (values_out k h p sc ms as' s.1)

lent_var_none : (i k : ℕ) (b : Bool) → lent_used_up (if b then T.Scalar else T.Named i) (Credit k) ≡ 0
lent_var_none i k true = refl
lent_var_none i k false = refl

lent_seen_none : (sc : Scalars) (o : Option ℕ) (k : ℕ) → lent_used_up (variable sc o) (Credit k) ≡ 0
lent_seen_none sc None k = refl
lent_seen_none sc (Some i) k = lent_var_none i k (sc i)

-- a constructor in a borrowed position: b reports whether its type is scalar
built_made : (k : ℕ) → 0 < k → (b : Bool) (sc : Scalars) (ms : List Mark) (as' : Arguments) → (b ≡ true → as' ≡ NoArguments) → lent_used_up (if b then T.Scalar else T.Built (values sc ms as')) (Credit k) ≡ one_if (count as' == k) + made_all k as'
built_made k h true sc ms as' f = sym (ap (λ xs. one_if (count xs == k) + made_all k xs) (f refl) ∙ zero_none k h)
built_made k h false sc ms as' f = same_sum (paid (size (values sc ms as')) (Credit k)) (all_used_up (values sc ms as') (Credit k)) (one_if (count as' == k)) (made_all k as') (ap (λ m. paid m (Credit k)) (size_values sc ms as') ∙ paid_at (count as') k h) (values_made k h sc ms as')

built_out : (k : ℕ) → IsOut k → (p : Program) (b : Bool) (sc : Scalars) (ms : List Mark) (as' : Arguments) → count as' < 17 → SizedArguments p as' → lent_used_up (if b then T.Scalar else T.Built (values sc ms as')) (Credit k) ≡ 0
built_out k h p true sc ms as' l s = refl
built_out k h p false sc ms as' l s = none_sum (paid (size (values sc ms as')) (Credit k)) (all_used_up (values sc ms as') (Credit k)) (ap (λ m. paid m (Credit k)) (size_values sc ms as') ∙ paid_out (count as') k h l) (values_out k h p sc ms as' s)

lent_made : (k : ℕ) → 0 < k → (p : Program) (f : FunKind) (sc : Scalars) (ms : List Mark) (a : Argument) → SizedArgument p a → lent_used_up (lent_value (world p f) sc ms a) (Credit k) ≡ made k a
lent_made k h p f sc ms (Variable x n q) s = lent_seen_none sc (seen ms x) k
lent_made k h p f sc ms (Literal i q) s = refl
lent_made k h p f sc ms (Constructor t d c n q as') s = built_made k h (is_scalar p.types t) sc ms as' s.1

lent_out : (k : ℕ) → IsOut k → (p : Program) (f : FunKind) (sc : Scalars) (ms : List Mark) (a : Argument) → SizedArgument p a → lent_used_up (lent_value (world p f) sc ms a) (Credit k) ≡ 0
lent_out k h p f sc ms (Variable x n q) s = lent_seen_none sc (seen ms x) k
lent_out k h p f sc ms (Literal i q) s = refl
lent_out k h p f sc ms (Constructor t d c n q as') s = built_out k h p (is_scalar p.types t) sc ms as' s.0 s.2

one_made : (k : ℕ) → 0 < k → (p : Program) (f : FunKind) (sc : Scalars) (ms : List Mark) (b : Bool) (a : Argument) (gs : Passed) (m n : ℕ) → SizedArgument p a → passed_used_up gs (Credit k) ≡ m + n → passed_used_up (if b then PassLent (lent_value (world p f) sc ms a) gs else PassOwned (value sc ms a) gs) (Credit k) ≡ (made k a + m) + n
one_made k h p f sc ms true a gs m n s e = let l = lent_made k h p f sc ms a s in omega arith
one_made k h p f sc ms false a gs m n s e = let l = value_made k h sc ms a in omega arith

passed_made : (k : ℕ) → 0 < k → (p : Program) (f : FunKind) (sc : Scalars) (ms : List Mark) (g j : ℕ) (as' : Arguments) → SizedArguments p as' → passed_used_up (passed (world p f) sc ms g j as') (Credit k) ≡ made_all k as' + asked k (slice_get p.instances g)
passed_made k h p f sc ms g j NoArguments s = asked_given k (slice_get p.instances g) ∙ (omega arith)
passed_made k h p f sc ms g j (MoreArguments a as') s = one_made k h p f sc ms (lends (world p f) g j) a (passed (world p f) sc ms g (suc j) as') (made_all k as') (asked k (slice_get p.instances g)) s.0 (passed_made k h p f sc ms g (suc j) as' s.1)

one_passed_out : (k : ℕ) → IsOut k → (p : Program) (f : FunKind) (sc : Scalars) (ms : List Mark) (b : Bool) (a : Argument) (gs : Passed) → SizedArgument p a → passed_used_up gs (Credit k) ≡ 0 → passed_used_up (if b then PassLent (lent_value (world p f) sc ms a) gs else PassOwned (value sc ms a) gs) (Credit k) ≡ 0
one_passed_out k h p f sc ms true a gs s e = let l = lent_out k h p f sc ms a s in omega arith
one_passed_out k h p f sc ms false a gs s e = let l = value_out k h p sc ms a s in omega arith

passed_out : (k : ℕ) → IsOut k → (p : Program) (f : FunKind) (sc : Scalars) (ms : List Mark) (g j : ℕ) (as' : Arguments) → SizedArguments p as' → SizedHeader (slice_get p.instances g) → passed_used_up (passed (world p f) sc ms g j as') (Credit k) ≡ 0
passed_out k h p f sc ms g j NoArguments s t = asked_out k (slice_get p.instances g) h t
passed_out k h p f sc ms g j (MoreArguments a as') s t = one_passed_out k h p f sc ms (lends (world p f) g j) a (passed (world p f) sc ms g (suc j) as') s.0 (passed_out k h p f sc ms g (suc j) as' s.1 t)

-- ---- clauses

-- what is required of some clauses beyond what their patterns give
abbrev pub asks_of : Bool → ℕ → T.Clauses → ℕ
asks_of true k cs = asks_taken (Credit k) cs
asks_of false k cs = asks_lent (Credit k) cs

pub asks_last : (b : Bool) (k : ℕ) (ys ks : List ℕ) (e : Term) → asks_of b k (T.LastClause ys ks e) ≡ asks (Credit k) e - given k (gives b ks)
asks_last true k ys ks e = refl
asks_last false k ys ks e = refl

pub asks_more : (b : Bool) (k : ℕ) (ys ks : List ℕ) (e : Term) (cs : T.Clauses) → asks_of b k (T.MoreClauses ys ks e cs) ≡ max (asks (Credit k) e - given k (gives b ks)) (asks_of b k cs)
asks_more true k ys ks e cs = refl
asks_more false k ys ks e cs = refl

variable_none : (k : ℕ) (b : Bool) (p : Program) (f : FunKind) (sc : Scalars) (ms : List Mark) (a : Argument) (cs : T.Clauses) → IsVariable a → asks (Credit k) (matched (world p f) sc ms b a cs) ≡ asks_of b k cs
variable_none k true p f sc ms (Variable x n q) cs v = let z = seen_none sc (seen ms x) k in omega arith
variable_none k false p f sc ms (Variable x n q) cs v = let z = lent_seen_none sc (seen ms x) k in omega arith
variable_none k b p f sc ms (Literal i q) cs v = absurd v
variable_none k b p f sc ms (Constructor t d c n q as') cs v = absurd v

same_left : (m n x y : ℕ) → m ≡ x → n ≡ y → m - n ≡ x - y
same_left m n x y e f = ap (λ j. j - n) e ∙ ap (λ j. x - j) f

none_left : (m n : ℕ) → m ≡ 0 → m - n ≡ 0
none_left m n e = omega arith

none_most : (m n : ℕ) → m ≡ 0 → n ≡ 0 → max m n ≡ 0
none_most m n e f = omega arith

mutual
  pub term_need : (k : ℕ) → 0 < k → (p : Program) (f : FunKind) (sc : Scalars) (c : Names) (e : Expression) → SizedExpression p e → asks (Credit k) (term (world p f) sc c e) ≡ need p k e
  term_need k h p f sc c (Give a) s = no_more (used_up (value sc c.marks a) (Credit k)) (made k a) (value_made k h sc c.marks a)
  term_need k h p f sc c (Tuple q as') s = values_made k h sc c.marks as'
  term_need k h p f sc c (Operation o q a b) s = same_sum (used_up (value sc c.marks a) (Credit k)) (used_up (value sc c.marks b) (Credit k) + 0) (made k a) (made k b) (value_made k h sc c.marks a) (no_more (used_up (value sc c.marks b) (Credit k)) (made k b) (value_made k h sc c.marks b))
  term_need k h p f sc c (Call g n q as') s = passed_made k h p f sc c.marks g 0 as' s.0
  term_need k h p f sc c (Match d t q a r body cs) s =
      let w = world p f in
      let b = takes p d t in
      let e1 = term_block w (entering w c.next sc (binders r)) (inside w b c (binders r)) body in
      variable_none k b p f sc c.marks a (clauses w sc b (past_clause w b c r body) (variables w c.next (binders r)) (nodes r) e1 cs) s.0
      ∙ clauses_need k h p f sc b (past_clause w b c r body) (variables w c.next (binders r)) (nodes r) e1 cs s.3
      ∙ ap (λ m. greater m (need_clauses p k b cs)) (same_left (asks (Credit k) e1) (given k (gives b (nodes r))) (need_block p k body) (N.given k b r) (block_need k h p f (entering w c.next sc (binders r)) (inside w b c (binders r)) body s.2) (gives_given k b r h))
  term_need k h p f sc c (Nested b) s = block_need k h p f sc c b s

  pub block_need : (k : ℕ) → 0 < k → (p : Program) (f : FunKind) (sc : Scalars) (c : Names) (b : Block) → SizedBlock p b → asks (Credit k) (term_block (world p f) sc c b) ≡ need_block p k b
  block_need k h p f sc c (Last e) s = term_need k h p f sc c e s
  block_need k h p f sc c (Let bs e rest) s =
      let w = world p f in
      let d = following c (shape w c e) in
      let l = term_need k h p f sc c e s.0 in
      let r = block_need k h p f (entering w d.next sc bs) (inside w true d bs) rest s.1 in
      omega arith

  clauses_need : (k : ℕ) → 0 < k → (p : Program) (f : FunKind) (sc : Scalars) (b : Bool) (c : Names) (ys ks : List ℕ) (e : Term) (cs : Clauses) → SizedClauses p cs → asks_of b k (clauses (world p f) sc b c ys ks e cs) ≡ greater (asks (Credit k) e - given k (gives b ks)) (need_clauses p k b cs)
  clauses_need k h p f sc b c ys ks e NoClauses s = asks_last b k ys ks e ∙ greater_zero (asks (Credit k) e - given k (gives b ks))
  clauses_need k h p f sc b c ys ks e (MoreClauses r body cs) s =
      let w = world p f in
      let e1 = term_block w (entering w c.next sc (binders r)) (inside w b c (binders r)) body in
      let rest = clauses w sc b (past_clause w b c r body) (variables w c.next (binders r)) (nodes r) e1 cs in
      let m = asks (Credit k) e - given k (gives b ks) in
      asks_more b k ys ks e rest ∙ max_greater m (asks_of b k rest)
      ∙ ap (greater m) (clauses_need k h p f sc b (past_clause w b c r body) (variables w c.next (binders r)) (nodes r) e1 cs s.2
      ∙ ap (λ n. greater n (need_clauses p k b cs)) (same_left (asks (Credit k) e1) (given k (gives b (nodes r))) (need_block p k body) (N.given k b r) (block_need k h p f (entering w c.next sc (binders r)) (inside w b c (binders r)) body s.1) (gives_given k b r h)))

mutual
  pub term_out : (k : ℕ) → IsOut k → (p : Program) (f : FunKind) (sc : Scalars) (c : Names) (e : Expression) → SizedExpression p e → asks (Credit k) (term (world p f) sc c e) ≡ 0
  term_out k h p f sc c (Give a) s = no_more (used_up (value sc c.marks a) (Credit k)) 0 (value_out k h p sc c.marks a s)
  term_out k h p f sc c (Tuple q as') s = values_out k h p sc c.marks as' s
  term_out k h p f sc c (Operation o q a b) s = let l = value_out k h p sc c.marks a s.0 in let r = value_out k h p sc c.marks b s.1 in omega arith
  term_out k h p f sc c (Call g n q as') s = passed_out k h p f sc c.marks g 0 as' s.0 s.1
  term_out k h p f sc c (Match d t q a r body cs) s =
      let w = world p f in
      let b = takes p d t in
      let e1 = term_block w (entering w c.next sc (binders r)) (inside w b c (binders r)) body in
      variable_none k b p f sc c.marks a (clauses w sc b (past_clause w b c r body) (variables w c.next (binders r)) (nodes r) e1 cs) s.0
      ∙ clauses_out k h p f sc b (past_clause w b c r body) (variables w c.next (binders r)) (nodes r) e1 cs s.3 (block_out k h p f (entering w c.next sc (binders r)) (inside w b c (binders r)) body s.2)
  term_out k h p f sc c (Nested b) s = block_out k h p f sc c b s

  pub block_out : (k : ℕ) → IsOut k → (p : Program) (f : FunKind) (sc : Scalars) (c : Names) (b : Block) → SizedBlock p b → asks (Credit k) (term_block (world p f) sc c b) ≡ 0
  block_out k h p f sc c (Last e) s = term_out k h p f sc c e s
  block_out k h p f sc c (Let bs e rest) s =
      let w = world p f in
      let d = following c (shape w c e) in
      let l = term_out k h p f sc c e s.0 in
      let r = block_out k h p f (entering w d.next sc bs) (inside w true d bs) rest s.1 in
      omega arith

  clauses_out : (k : ℕ) → IsOut k → (p : Program) (f : FunKind) (sc : Scalars) (b : Bool) (c : Names) (ys ks : List ℕ) (e : Term) (cs : Clauses) → SizedClauses p cs → asks (Credit k) e ≡ 0 → asks_of b k (clauses (world p f) sc b c ys ks e cs) ≡ 0
  clauses_out k h p f sc b c ys ks e NoClauses s z = asks_last b k ys ks e ∙ none_left (asks (Credit k) e) (given k (gives b ks)) z
  clauses_out k h p f sc b c ys ks e (MoreClauses r body cs) s z =
      let w = world p f in
      let e1 = term_block w (entering w c.next sc (binders r)) (inside w b c (binders r)) body in
      let rest = clauses w sc b (past_clause w b c r body) (variables w c.next (binders r)) (nodes r) e1 cs in
      asks_more b k ys ks e rest ∙ none_most (asks (Credit k) e - given k (gives b ks)) (asks_of b k rest) (none_left (asks (Credit k) e) (given k (gives b ks)) z)
      (clauses_out k h p f sc b (past_clause w b c r body) (variables w c.next (binders r)) (nodes r) e1 cs s.2 (block_out k h p f (entering w c.next sc (binders r)) (inside w b c (binders r)) body s.1))
