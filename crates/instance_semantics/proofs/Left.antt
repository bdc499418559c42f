-- No call is made up: an evaluation never leaves more calls than it was given.
use Rattle.std.proofs.Common.{ℕ, zero, suc, List, Bool, true, false, Option, Some, None, slice_get, arith}
use Rattle.fip_trees.specs.fip_language.declared.Place.{Place}
use Rattle.fip_trees.specs.fip_language.declared.Operator.{Operator}
use Rattle.fip_trees.specs.fip_language.Values.{Value, Int, Node, Values}
use Rattle.fip_trees.specs.fip_language.Matching.{Binding}
use Rattle.fip_trees.specs.fip_language.Arithmetic.{Operated, Is, Fails, operate}
use Rattle.fip_trees.specs.fip_language.Meaning.{Run, in_frame, Environment, nothing_bound, bind_matched, with_value, with_values, operated, operation, if_matches}
use Rattle.fip_trees.specs.fip_language.Theorems.{AtMost}
use Rattle.fip_trees.proofs.fip_language.Left.{AtMost-go_on, AtMost-counted}
use Rattle.fip_trees.specs.Tree.{Expression, Give, Tuple, Operation, Call, Match, Nested, Block, Last, Let, Clauses, NoClauses, MoreClauses, Instance, Program}
use Rattle.instance_semantics.specs.Registers.{frame_words}
use Rattle.instance_semantics.specs.Matching.{matching}
use Rattle.instance_semantics.specs.Meaning.{argument_value, argument_values, Calls, eval, eval_block, eval_clauses, bind_binders, body_run, calls_of, evaluate, flat_meaning}

AtMost-with_value : (k : ℕ) (o : Option Value) (go : Value → Run) → ((v : Value) → AtMost k (go v).answer) → AtMost k (with_value o go).answer
AtMost-with_value k None go h = tt
AtMost-with_value k (Some v) go h = h v

AtMost-with_values : (k : ℕ) (o : Option Values) (go : Values → Run) → ((vs : Values) → AtMost k (go vs).answer) → AtMost k (with_values o go).answer
AtMost-with_values k None go h = tt
AtMost-with_values k (Some vs) go h = h vs

AtMost-operated : (k : ℕ) (o : Operated) (p : Place) → AtMost k (operated o p k).answer
AtMost-operated k (Is v) p = omega arith
AtMost-operated k (Fails kind) p = tt

AtMost-operation : (k : ℕ) (o : Operator) (p : Place) (v w : Value) → AtMost k (operation o p k v w).answer
AtMost-operation k o p (Int i) (Int j) = AtMost-operated k (operate o i j) p
AtMost-operation k o p (Int i) (Node c vs) = tt
AtMost-operation k o p (Node c vs) w = tt

AtMost-in_frame : (k : ℕ) (tail : Bool) (w d : ℕ) (go : ℕ → Run) → ((free : ℕ) → AtMost k (go free).answer) → AtMost k (in_frame tail w d go).answer
AtMost-in_frame k true w d go h = h d
AtMost-in_frame k false w zero go h = tt
AtMost-in_frame k false w (suc d) go h = h d

AtMost-if_matches : (k : ℕ) (o : Option (List Binding)) (go : List Binding → Run) (other : Run) → ((bs : List Binding) → AtMost k (go bs).answer) → AtMost k other.answer → AtMost k (if_matches o go other).answer
AtMost-if_matches k None go other h g = g
AtMost-if_matches k (Some bs) go other h g = h bs

-- a way to call that makes up none
abbrev pub Honest : Calls → Type 0
Honest calls = (d i : ℕ) (vs : Values) (k : ℕ) → AtMost k (calls d i vs k).answer

module _ (calls : Calls) (h : Honest calls) (w : ℕ) where
  mutual
    pub eval_left : (e : Expression) (tail : Bool) (d : ℕ) (env : Environment) (k : ℕ) → AtMost k (eval calls w e tail d env k).answer
    eval_left (Give a) tail d env k = AtMost-with_value k (argument_value env a) _ (λ v. omega arith)
    eval_left (Tuple p as') tail d env k = AtMost-with_values k (argument_values env as') _ (λ vs. omega arith)
    eval_left (Operation o p a b) tail d env k =
        AtMost-with_value k (argument_value env a) _ (λ v. AtMost-with_value k (argument_value env b) _ (λ u. AtMost-operation k o p v u))
    eval_left (Call g n p as') tail d env k =
        AtMost-with_values k (argument_values env as') _ (λ vs. AtMost-counted k _ (λ left. AtMost-in_frame left tail w d _ (λ free. h free g vs left)))
    eval_left (Match ds t p a q body cs) tail d env k =
        AtMost-with_value k (argument_value env a) _ (λ v. AtMost-if_matches k (matching q v) _ _ (λ bs. block_left body tail d (bind_matched env bs) k) (clauses_left cs v tail d env k))
    eval_left (Nested b) tail d env k = block_left b tail d env k

    pub block_left : (b : Block) (tail : Bool) (d : ℕ) (env : Environment) (k : ℕ) → AtMost k (eval_block calls w b tail d env k).answer
    block_left (Last e) tail d env k = eval_left e tail d env k
    block_left (Let bs e rest) tail d env k =
        AtMost-go_on k (eval calls w e false d env k).answer _ (eval_left e false d env k) (λ vs left. block_left rest tail d (bind_binders env bs vs) left)

    pub clauses_left : (cs : Clauses) (v : Value) (tail : Bool) (d : ℕ) (env : Environment) (k : ℕ) → AtMost k (eval_clauses calls w cs v tail d env k).answer
    clauses_left NoClauses v tail d env k = tt
    clauses_left (MoreClauses q body cs) v tail d env k =
        AtMost-if_matches k (matching q v) _ _ (λ bs. block_left body tail d (bind_matched env bs) k) (clauses_left cs v tail d env k)

body_left : (calls : Calls) → Honest calls → (d : ℕ) (o : Option Instance) (vs : Values) (k : ℕ) → AtMost k (body_run calls d o vs k).answer
body_left calls h d None vs k = tt
body_left calls h d (Some f) vs k = block_left calls h (frame_words f) f.body true d (bind_binders nothing_bound f.binders vs) k

pub calls_left : (program : Program) (m : ℕ) → Honest (calls_of program m)
calls_left program zero d i vs k = tt
calls_left program (suc m) d i vs k = body_left (calls_of program m) (calls_left program m) d (slice_get program.instances i) vs k

-- the calls left after an expression, and after an instance
pub evaluate_left : (program : Program) (w : ℕ) (e : Expression) (tail : Bool) (d : ℕ) (env : Environment) (k : ℕ) → AtMost k (evaluate program w e tail d env k).answer
unfolding evaluate
evaluate_left program w e tail d env k = eval_left (calls_of program k) (calls_left program k) w e tail d env k

pub meaning_left : (program : Program) (i : ℕ) (vs : Values) (n d : ℕ) → AtMost n (flat_meaning program i vs n d).answer
unfolding flat_meaning
meaning_left program i vs n d = AtMost-counted n _ (λ left. calls_left program n d i vs left)

-- the entry costs one
pub entry_left : (program : Program) (i : ℕ) (vs : Values) (n d : ℕ) → AtMost n (flat_meaning program i vs (suc n) d).answer
unfolding flat_meaning
entry_left program i vs n d = calls_left program (suc n) d i vs n
