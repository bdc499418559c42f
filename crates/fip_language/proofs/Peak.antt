-- The peak: no run holds more frames than were free, and a function that is entered has its own frame.
use Rattle.std.proofs.Common.{◌≡◌, ℕ, zero, suc, ◌≤◌, max, List, Bool, true, false, Option, Some, None, arith, subst}
use Rattle.std.proofs.Math.Nat.{le-max_left}
use Rattle.fip_language.specs.declared.Place.{Place}
use Rattle.fip_language.specs.declared.Operator.{Operator}
use Rattle.fip_language.specs.Values.{Value, Int, Node, Values}
use Rattle.fip_language.specs.Core.{Name, Expression, Give, Tuple, Operation, Call, Match, Nested, Block, Last, Let, Clauses, NoClauses, MoreClauses, Function, Core}
use Rattle.fip_language.specs.Declarations.{function_of}
use Rattle.fip_language.specs.Matching.{Binding, matching}
use Rattle.fip_language.specs.Arithmetic.{Operated, Is, Fails, operate}
use Rattle.fip_language.specs.Registers.{frame_words}
use Rattle.fip_language.specs.Statics.{Closed, Closeds, ClosedInt, ClosedName, Instance, callee}
use Rattle.fip_language.specs.Meaning.{Answer, Gives, Trap, Out, Deep, Stuck, Run, go_on, counted, in_frame, Environment, nothing_bound, bind_matched, bind_binders, bind_parameters, argument_value, argument_values, with_value, with_values, operated, operation, if_matches, Calls, eval, eval_block, eval_clauses, body_run, function_run, calls_of, meaning}
use Rattle.fip_language.proofs.Facts.{max_within}

-- a way to call that holds at most the free frames
abbrev Within : Calls → Type 0
Within calls = (d : ℕ) (f : Closed) (vs : Values) (k : ℕ) → (calls d f vs k).peak.frames ≤ d

within_go_on : (d : ℕ) (a : Answer) (go : Values → ℕ → Run) → ((vs : Values) (left : ℕ) → (go vs left).peak.frames ≤ d) → (go_on a go).peak.frames ≤ d
within_go_on d (Gives vs left) go h = h vs left
within_go_on d (Trap kind line col) go h = omega arith
within_go_on d Out go h = omega arith
within_go_on d Deep go h = omega arith
within_go_on d Stuck go h = omega arith

within_with_value : (d : ℕ) (o : Option Value) (go : Value → Run) → ((v : Value) → (go v).peak.frames ≤ d) → (with_value o go).peak.frames ≤ d
within_with_value d None go h = omega arith
within_with_value d (Some v) go h = h v

within_with_values : (d : ℕ) (o : Option Values) (go : Values → Run) → ((vs : Values) → (go vs).peak.frames ≤ d) → (with_values o go).peak.frames ≤ d
within_with_values d None go h = omega arith
within_with_values d (Some vs) go h = h vs

within_operated : (d k : ℕ) (o : Operated) (p : Place) → (operated o p k).peak.frames ≤ d
within_operated d k (Is v) p = omega arith
within_operated d k (Fails kind) p = omega arith

within_operation : (d k : ℕ) (o : Operator) (p : Place) (v w : Value) → (operation o p k v w).peak.frames ≤ d
within_operation d k o p (Int i) (Int j) = within_operated d k (operate o i j) p
within_operation d k o p (Int i) (Node c vs) = omega arith
within_operation d k o p (Node c vs) w = omega arith

within_frame : (tail : Bool) (w d : ℕ) (go : ℕ → Run) → ((free : ℕ) → (go free).peak.frames ≤ free) → (in_frame tail w d go).peak.frames ≤ d
within_frame true w d go h = h d
within_frame false w zero go h = omega arith
within_frame false w (suc d) go h = let le = h d in omega arith

within_counted : (d k : ℕ) (go : ℕ → Run) → ((left : ℕ) → (go left).peak.frames ≤ d) → (counted k go).peak.frames ≤ d
within_counted d zero go h = omega arith
within_counted d (suc k) go h = h k

within_matches : (d : ℕ) (o : Option (List Binding)) (go : List Binding → Run) (r : Run) → ((bs : List Binding) → (go bs).peak.frames ≤ d) → r.peak.frames ≤ d → (if_matches o go r).peak.frames ≤ d
within_matches d None go r h g = g
within_matches d (Some bs) go r h g = h bs

mutual
  eval_within : (core : Core) (c : Calls) → Within c → (here : Instance) (e : Expression) (tail : Bool) (d : ℕ) (env : Environment) (k : ℕ) → (eval core c here e tail d env k).peak.frames ≤ d
  eval_within core c h here (Give a) tail d env k = within_with_value d (argument_value core env a) _ (λ v. omega arith)
  eval_within core c h here (Tuple p as') tail d env k = within_with_values d (argument_values core env as') _ (λ vs. omega arith)
  eval_within core c h here (Operation o p a b) tail d env k =
      within_with_value d (argument_value core env a) _ (λ v. within_with_value d (argument_value core env b) _ (λ w. within_operation d k o p v w))
  eval_within core c h here (Call name p statics as') tail d env k =
      within_with_values d (argument_values core env as') _ (λ vs. within_counted d k _ (λ left. within_frame tail (frame_words here.function) d _ (λ free. h free (callee core here name statics) vs left)))
  eval_within core c h here (Match destructive p x cs) tail d env k =
      within_with_value d (argument_value core env x) _ (λ v. clauses_within core c h here cs v tail d env k)
  eval_within core c h here (Nested block) tail d env k = block_within core c h here block tail d env k

  block_within : (core : Core) (c : Calls) → Within c → (here : Instance) (b : Block) (tail : Bool) (d : ℕ) (env : Environment) (k : ℕ) → (eval_block core c here b tail d env k).peak.frames ≤ d
  block_within core c h here (Last e) tail d env k = eval_within core c h here e tail d env k
  block_within core c h here (Let binders e rest) tail d env k =
      max_within _ _ d (eval_within core c h here e false d env k) (within_go_on d (eval core c here e false d env k).answer _ (λ vs left. block_within core c h here rest tail d (bind_binders env binders vs) left))

  clauses_within : (core : Core) (c : Calls) → Within c → (here : Instance) (cs : Clauses) (v : Value) (tail : Bool) (d : ℕ) (env : Environment) (k : ℕ) → (eval_clauses core c here cs v tail d env k).peak.frames ≤ d
  clauses_within core c h here NoClauses v tail d env k = omega arith
  clauses_within core c h here (MoreClauses pattern body rest) v tail d env k =
      within_matches d (matching core pattern v) _ _ (λ bs. block_within core c h here body tail d (bind_matched env bs) k) (clauses_within core c h here rest v tail d env k)

body_within : (core : Core) (c : Calls) → Within c → (d : ℕ) (o : Option Function) (given : Closeds) (vs : Values) (k : ℕ) → (body_run core c d o given vs k).peak.frames ≤ d
body_within core c h d None given vs k = omega arith
body_within core c h d (Some f) given vs k = max_within 0 _ d (omega arith) (block_within core c h (record { function = f; given = given }) f.body true d (bind_parameters nothing_bound f.parameters vs) k)

function_within : (core : Core) (c : Calls) → Within c → (d : ℕ) (f : Closed) (vs : Values) (k : ℕ) → (function_run core c d f vs k).peak.frames ≤ d
function_within core c h d ClosedInt vs k = omega arith
function_within core c h d (ClosedName name given) vs k = body_within core c h d (function_of core name) given vs k

calls_within : (core : Core) (m : ℕ) → Within (calls_of core m)
calls_within core zero d f vs k = omega arith
calls_within core (suc m) d f vs k = function_within core (calls_of core m) (calls_within core m) d f vs k

-- no run holds more frames than were free
pub peak_within : (core : Core) (name : Name) (given : Closeds) (vs : Values) (n d : ℕ) → (meaning core name given vs n d).peak.frames ≤ d
unfolding meaning
peak_within core name given vs n d = within_counted d n _ (λ left. calls_within core n d (ClosedName name given) vs left)

has_frame : (core : Core) (n d : ℕ) (o : Option Function) (given : Closeds) (vs : Values) (f : Function) → o ≡ Some f → frame_words f ≤ (body_run core (calls_of core n) d o given vs n).peak.words
has_frame core n d None given vs f e = cc
has_frame core n d (Some g) given vs f e =
    let same : g ≡ f = cc in
    subst (λ x. frame_words x ≤ (body_run core (calls_of core n) d (Some g) given vs n).peak.words) same (le-max_left (frame_words g) _)

-- a function that is entered has its frame
pub peak_of_entry : (core : Core) (name : Name) (given : Closeds) (vs : Values) (n d : ℕ) (f : Function) → function_of core name ≡ Some f → frame_words f ≤ (meaning core name given vs (suc n) d).peak.words
unfolding meaning
peak_of_entry core name given vs n d f e = has_frame core n d (function_of core name) given vs f e
