-- No call is made up: an evaluation never leaves more calls than it was given.
use Rattle.std.proofs.Common.{◌≡◌, ℕ, zero, suc, ◌≤◌, List, Bool, true, false, Option, Some, None, refl, arith}
use Rattle.fip_language.specs.declared.Place.{Place}
use Rattle.fip_language.specs.declared.Operator.{Operator}
use Rattle.fip_language.specs.Values.{Value, Int, Node, Values}
use Rattle.fip_language.specs.Core.{Name, Expression, Give, Tuple, Operation, Call, Match, Nested, Block, Last, Let, Clauses, NoClauses, MoreClauses, Function, Core}
use Rattle.fip_language.specs.Declarations.{function_of}
use Rattle.fip_language.specs.Matching.{Binding, matching}
use Rattle.fip_language.specs.Arithmetic.{Operated, Is, Fails, operate}
use Rattle.fip_language.specs.Registers.{frame_words}
use Rattle.fip_language.specs.Statics.{Closed, Closeds, ClosedInt, ClosedName, Instance, callee}
use Rattle.fip_language.specs.Meaning.{Answer, Gives, Trap, Out, Deep, Stuck, Run, ends, go_on, counted, in_frame, Environment, nothing_bound, bind_matched, bind_binders, bind_parameters, argument_value, argument_values, with_value, with_values, operated, operation, if_matches, Calls, eval, eval_block, eval_clauses, body_run, function_run, calls_of, evaluate, meaning}
use Rattle.fip_language.specs.Theorems.{AtMost}

pub AtMost-wider : (j k : ℕ) (a : Answer) → j ≤ k → AtMost j a → AtMost k a
AtMost-wider j k (Gives vs left) le h = omega arith
AtMost-wider j k (Trap kind line col) le h = tt
AtMost-wider j k Out le h = tt
AtMost-wider j k Deep le h = tt
AtMost-wider j k Stuck le h = tt

pub AtMost-go_on : (k : ℕ) (a : Answer) (go : Values → ℕ → Run) → AtMost k a → ((vs : Values) (left : ℕ) → AtMost left (go vs left).answer) → AtMost k (go_on a go).answer
AtMost-go_on k (Gives vs left) go h next = AtMost-wider left k (go vs left).answer h (next vs left)
AtMost-go_on k (Trap kind line col) go h next = tt
AtMost-go_on k Out go h next = tt
AtMost-go_on k Deep go h next = tt
AtMost-go_on k Stuck go h next = tt

-- a way to call that makes up none
abbrev pub Honest : Calls → Type 0
Honest calls = (d : ℕ) (f : Closed) (vs : Values) (k : ℕ) → AtMost k (calls d f vs k).answer

AtMost-with_value : (k : ℕ) (o : Option Value) (go : Value → Run) → ((v : Value) → AtMost k (go v).answer) → AtMost k (with_value o go).answer
AtMost-with_value k None go h = tt
AtMost-with_value k (Some v) go h = h v

AtMost-with_values : (k : ℕ) (o : Option Values) (go : Values → Run) → ((vs : Values) → AtMost k (go vs).answer) → AtMost k (with_values o go).answer
AtMost-with_values k None go h = tt
AtMost-with_values k (Some vs) go h = h vs

AtMost-operated : (k : ℕ) (o : Operated) (p : Place) → AtMost k (operated o p k).answer
AtMost-operated k (Is v) p = omega arith
AtMost-operated k (Fails kind) p = tt

AtMost-operation : (k : ℕ) (o : Operator) (p : Place) (v w : Value) → AtMost k (operation o p k v w).answer
AtMost-operation k o p (Int i) (Int j) = AtMost-operated k (operate o i j) p
AtMost-operation k o p (Int i) (Node c vs) = tt
AtMost-operation k o p (Node c vs) w = tt

AtMost-in_frame : (k : ℕ) (tail : Bool) (w d : ℕ) (go : ℕ → Run) → ((free : ℕ) → AtMost k (go free).answer) → AtMost k (in_frame tail w d go).answer
AtMost-in_frame k true w d go h = h d
AtMost-in_frame k false w zero go h = tt
AtMost-in_frame k false w (suc d) go h = h d

pub AtMost-counted : (k : ℕ) (go : ℕ → Run) → ((left : ℕ) → AtMost left (go left).answer) → AtMost k (counted k go).answer
AtMost-counted zero go h = tt
AtMost-counted (suc k) go h = AtMost-wider k (suc k) (go k).answer (omega arith) (h k)

AtMost-if_matches : (k : ℕ) (o : Option (List Binding)) (go : List Binding → Run) (other : Run) → ((bs : List Binding) → AtMost k (go bs).answer) → AtMost k other.answer → AtMost k (if_matches o go other).answer
AtMost-if_matches k None go other h g = g
AtMost-if_matches k (Some bs) go other h g = h bs

mutual
  pub eval_left : (core : Core) (calls : Calls) → Honest calls → (here : Instance) (e : Expression) (tail : Bool) (d : ℕ) (env : Environment) (k : ℕ) → AtMost k (eval core calls here e tail d env k).answer
  eval_left core calls h here (Give a) tail d env k = AtMost-with_value k (argument_value core env a) _ (λ v. omega arith)
  eval_left core calls h here (Tuple p as') tail d env k = AtMost-with_values k (argument_values core env as') _ (λ vs. omega arith)
  eval_left core calls h here (Operation o p a b) tail d env k =
      AtMost-with_value k (argument_value core env a) _ (λ v. AtMost-with_value k (argument_value core env b) _ (λ w. AtMost-operation k o p v w))
  eval_left core calls h here (Call name p statics as') tail d env k =
      AtMost-with_values k (argument_values core env as') _ (λ vs. AtMost-counted k _ (λ left. AtMost-in_frame left tail (frame_words here.function) d _ (λ free. h free (callee core here name statics) vs left)))
  eval_left core calls h here (Match destructive p x clauses) tail d env k =
      AtMost-with_value k (argument_value core env x) _ (λ v. clauses_left core calls h here clauses v tail d env k)
  eval_left core calls h here (Nested block) tail d env k = block_left core calls h here block tail d env k

  pub block_left : (core : Core) (calls : Calls) → Honest calls → (here : Instance) (b : Block) (tail : Bool) (d : ℕ) (env : Environment) (k : ℕ) → AtMost k (eval_block core calls here b tail d env k).answer
  block_left core calls h here (Last e) tail d env k = eval_left core calls h here e tail d env k
  block_left core calls h here (Let binders e rest) tail d env k =
      AtMost-go_on k (eval core calls here e false d env k).answer _ (eval_left core calls h here e false d env k) (λ vs left. block_left core calls h here rest tail d (bind_binders env binders vs) left)

  pub clauses_left : (core : Core) (calls : Calls) → Honest calls → (here : Instance) (cs : Clauses) (v : Value) (tail : Bool) (d : ℕ) (env : Environment) (k : ℕ) → AtMost k (eval_clauses core calls here cs v tail d env k).answer
  clauses_left core calls h here NoClauses v tail d env k = tt
  clauses_left core calls h here (MoreClauses pattern body rest) v tail d env k =
      AtMost-if_matches k (matching core pattern v) _ _ (λ bs. block_left core calls h here body tail d (bind_matched env bs) k) (clauses_left core calls h here rest v tail d env k)

body_left : (core : Core) (calls : Calls) → Honest calls → (d : ℕ) (o : Option Function) (given : Closeds) (vs : Values) (k : ℕ) → AtMost k (body_run core calls d o given vs k).answer
body_left core calls h d None given vs k = tt
body_left core calls h d (Some f) given vs k = block_left core calls h (record { function = f; given = given }) f.body true d (bind_parameters nothing_bound f.parameters vs) k

function_left : (core : Core) (calls : Calls) → Honest calls → (d : ℕ) (f : Closed) (vs : Values) (k : ℕ) → AtMost k (function_run core calls d f vs k).answer
function_left core calls h d ClosedInt vs k = tt
function_left core calls h d (ClosedName name given) vs k = body_left core calls h d (function_of core name) given vs k

pub calls_left : (core : Core) (m : ℕ) → Honest (calls_of core m)
calls_left core zero d f vs k = tt
calls_left core (suc m) d f vs k = function_left core (calls_of core m) (calls_left core m) d f vs k

-- the calls left after an expression, and after a function
pub evaluate_left : (core : Core) (here : Instance) (e : Expression) (tail : Bool) (d : ℕ) (env : Environment) (k : ℕ) → AtMost k (evaluate core here e tail d env k).answer
unfolding evaluate
evaluate_left core here e tail d env k = eval_left core (calls_of core k) (calls_left core k) here e tail d env k

pub meaning_left : (core : Core) (name : Name) (given : Closeds) (vs : Values) (n d : ℕ) → AtMost n (meaning core name given vs n d).answer
unfolding meaning
meaning_left core name given vs n d = AtMost-counted n _ (λ left. calls_left core n d (ClosedName name given) vs left)

-- the entry costs one
pub entry_left : (core : Core) (name : Name) (given : Closeds) (vs : Values) (n d : ℕ) → AtMost n (meaning core name given vs (suc n) d).answer
unfolding meaning
entry_left core name given vs n d = calls_left core (suc n) d (ClosedName name given) vs n

-- no call is left
pub meaning_out : (core : Core) (name : Name) (given : Closeds) (vs : Values) (d : ℕ) → meaning core name given vs zero d ≡ ends Out
unfolding meaning
meaning_out core name given vs d = refl
