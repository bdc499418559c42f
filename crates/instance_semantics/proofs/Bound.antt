-- The bound on calls that are nested doesn't matter, as long as it isn't below the calls left.
-- Two ways to call that agree below so many calls give an expression the same evaluation with that many: a call costs
-- one, and nothing leaves more calls than it was given.
use Rattle.std.proofs.Common.{◌≡◌, ℕ, zero, suc, ◌<◌, ◌≤◌, Bool, true, false, Option, Some, None, slice_get, arith, refl, ap}
use Rattle.fip_trees.specs.fip_language.Values.{Value, Values}
use Rattle.fip_trees.specs.fip_language.Meaning.{Run, entered, counted, Environment, nothing_bound, bind_matched}
use Rattle.fip_trees.proofs.fip_language.Bound.{then_with-same, with_value-same, with_values-same, in_frame-same, if_matches-same}
use Rattle.fip_trees.specs.Tree.{Expression, Give, Tuple, Operation, Call, Match, Nested, Block, Last, Let, Clauses, NoClauses, MoreClauses, Instance, Program}
use Rattle.instance_semantics.specs.Registers.{frame_words}
use Rattle.instance_semantics.specs.Matching.{matching}
use Rattle.instance_semantics.specs.Meaning.{argument_value, argument_values, Calls, eval, eval_block, eval_clauses, bind_binders, body_run, calls_of, evaluate, evaluate_block}
use Rattle.instance_semantics.proofs.Left.{Honest, eval_left, calls_left}

-- two ways to call agree below so many calls
abbrev pub Agree : Calls → Calls → ℕ → Type 0
Agree c c' k = (d i : ℕ) (vs : Values) (j : ℕ) → j < k → c d i vs j ≡ c' d i vs j

counted-same : (k : ℕ) (go go' : ℕ → Run) → ((left : ℕ) → left < k → go left ≡ go' left) → counted k go ≡ counted k go'
counted-same zero go go' h = refl
counted-same (suc k) go go' h = h k (omega arith)

module _ (c c' : Calls) (h : Honest c) (w : ℕ) where
  mutual
    pub eval_same : (e : Expression) (tail : Bool) (d : ℕ) (env : Environment) (k : ℕ) → Agree c c' k → eval c w e tail d env k ≡ eval c' w e tail d env k
    eval_same (Give a) tail d env k agree = refl
    eval_same (Tuple p as') tail d env k agree = refl
    eval_same (Operation o p a b) tail d env k agree = refl
    eval_same (Call g n p as') tail d env k agree =
        with_values-same (argument_values env as') _ _ (λ vs. counted-same k _ _ (λ left lt. in_frame-same tail w d _ _ (λ free. agree free g vs left lt)))
    eval_same (Match ds t p a q body cs) tail d env k agree =
        with_value-same (argument_value env a) _ _ (λ v. if_matches-same (matching q v) _ _ _ _ (λ bs. block_same body tail d (bind_matched env bs) k agree) (clauses_same cs v tail d env k agree))
    eval_same (Nested b) tail d env k agree = block_same b tail d env k agree

    pub block_same : (b : Block) (tail : Bool) (d : ℕ) (env : Environment) (k : ℕ) → Agree c c' k → eval_block c w b tail d env k ≡ eval_block c' w b tail d env k
    block_same (Last e) tail d env k agree = eval_same e tail d env k agree
    block_same (Let bs e rest) tail d env k agree =
        then_with-same k _ _ _ _ (eval_same e false d env k agree) (eval_left c h w e false d env k) (λ vs left le. block_same rest tail d (bind_binders env bs vs) left (λ d' i us j lt. agree d' i us j (omega arith)))

    pub clauses_same : (cs : Clauses) (v : Value) (tail : Bool) (d : ℕ) (env : Environment) (k : ℕ) → Agree c c' k → eval_clauses c w cs v tail d env k ≡ eval_clauses c' w cs v tail d env k
    clauses_same NoClauses v tail d env k agree = refl
    clauses_same (MoreClauses q body cs) v tail d env k agree =
        if_matches-same (matching q v) _ _ _ _ (λ bs. block_same body tail d (bind_matched env bs) k agree) (clauses_same cs v tail d env k agree)

body_same : (c c' : Calls) → Honest c → (d : ℕ) (o : Option Instance) (vs : Values) (k : ℕ) → Agree c c' k → body_run c d o vs k ≡ body_run c' d o vs k
body_same c c' h d None vs k agree = refl
body_same c c' h d (Some f) vs k agree = ap (entered (frame_words f)) (block_same c c' h (frame_words f) f.body true d (bind_binders nothing_bound f.binders vs) k agree)

pub calls_same : (program : Program) (m n : ℕ) (d i : ℕ) (vs : Values) (k : ℕ) → k < m → k < n → calls_of program m d i vs k ≡ calls_of program n d i vs k
calls_same program zero n d i vs k p q = absurd (omega arith)
calls_same program (suc m) zero d i vs k p q = absurd (omega arith)
calls_same program (suc m) (suc n) d i vs k p q =
    body_same (calls_of program m) (calls_of program n) (calls_left program m) d (slice_get program.instances i) vs k (λ d' g ws j lt. calls_same program m n d' g ws j (omega arith) (omega arith))

-- over a bound that isn't below the calls left, it is the evaluation
pub eval_is_evaluate : (program : Program) (m w : ℕ) (e : Expression) (tail : Bool) (d : ℕ) (env : Environment) (k : ℕ) → k ≤ m → eval (calls_of program m) w e tail d env k ≡ evaluate program w e tail d env k
unfolding evaluate
eval_is_evaluate program m w e tail d env k le =
    eval_same (calls_of program m) (calls_of program k) (calls_left program m) w e tail d env k (λ d' i vs j lt. calls_same program m k d' i vs j (omega arith) lt)

pub eval_block_is_evaluate_block : (program : Program) (m w : ℕ) (b : Block) (tail : Bool) (d : ℕ) (env : Environment) (k : ℕ) → k ≤ m → eval_block (calls_of program m) w b tail d env k ≡ evaluate_block program w b tail d env k
unfolding evaluate_block
eval_block_is_evaluate_block program m w b tail d env k le =
    block_same (calls_of program m) (calls_of program k) (calls_left program m) w b tail d env k (λ d' i vs j lt. calls_same program m k d' i vs j (omega arith) lt)
