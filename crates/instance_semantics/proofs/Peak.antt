-- The peak: no run holds more frames than were free, and an instance that is entered has its own frame.
use Rattle.std.proofs.Common.{◌≡◌, ℕ, zero, suc, ◌≤◌, max, List, Bool, true, false, Option, Some, None, slice_get, arith, subst}
use Rattle.std.proofs.Math.Nat.{le-max_left}
use Rattle.fip_trees.specs.fip_language.declared.Place.{Place}
use Rattle.fip_trees.specs.fip_language.declared.Operator.{Operator}
use Rattle.fip_trees.specs.fip_language.Values.{Value, Int, Node, Values}
use Rattle.fip_trees.specs.fip_language.Matching.{Binding}
use Rattle.fip_trees.specs.fip_language.Arithmetic.{Operated, Is, Fails, operate}
use Rattle.fip_trees.specs.fip_language.Meaning.{Answer, Gives, Trap, Out, Deep, Stuck, Run, go_on, counted, in_frame, Environment, nothing_bound, bind_matched, with_value, with_values, operated, operation, if_matches}
use Rattle.fip_trees.specs.Tree.{Expression, Give, Tuple, Operation, Call, Match, Nested, Block, Last, Let, Clauses, NoClauses, MoreClauses, Instance, Program}
use Rattle.instance_semantics.specs.Registers.{frame_words}
use Rattle.instance_semantics.specs.Matching.{matching}
use Rattle.instance_semantics.specs.Meaning.{argument_value, argument_values, Calls, eval, eval_block, eval_clauses, bind_binders, body_run, calls_of, flat_meaning}
use Rattle.fip_trees.proofs.fip_base.fip_language.Facts.{max_within}

-- a way to call that holds at most the free frames
abbrev Within : Calls → Type 0
Within calls = (d i : ℕ) (vs : Values) (k : ℕ) → (calls d i vs k).peak.frames ≤ d

within_go_on : (d : ℕ) (a : Answer) (go : Values → ℕ → Run) → ((vs : Values) (left : ℕ) → (go vs left).peak.frames ≤ d) → (go_on a go).peak.frames ≤ d
within_go_on d (Gives vs left) go h = h vs left
within_go_on d (Trap kind line col) go h = omega arith
within_go_on d Out go h = omega arith
within_go_on d Deep go h = omega arith
within_go_on d Stuck go h = omega arith

within_with_value : (d : ℕ) (o : Option Value) (go : Value → Run) → ((v : Value) → (go v).peak.frames ≤ d) → (with_value o go).peak.frames ≤ d
within_with_value d None go h = omega arith
within_with_value d (Some v) go h = h v

within_with_values : (d : ℕ) (o : Option Values) (go : Values → Run) → ((vs : Values) → (go vs).peak.frames ≤ d) → (with_values o go).peak.frames ≤ d
within_with_values d None go h = omega arith
within_with_values d (Some vs) go h = h vs

within_operated : (d k : ℕ) (o : Operated) (p : Place) → (operated o p k).peak.frames ≤ d
within_operated d k (Is v) p = omega arith
within_operated d k (Fails kind) p = omega arith

within_operation : (d k : ℕ) (o : Operator) (p : Place) (v w : Value) → (operation o p k v w).peak.frames ≤ d
within_operation d k o p (Int i) (Int j) = within_operated d k (operate o i j) p
within_operation d k o p (Int i) (Node c vs) = omega arith
within_operation d k o p (Node c vs) w = omega arith

within_frame : (tail : Bool) (w d : ℕ) (go : ℕ → Run) → ((free : ℕ) → (go free).peak.frames ≤ free) → (in_frame tail w d go).peak.frames ≤ d
within_frame true w d go h = h d
within_frame false w zero go h = omega arith
within_frame false w (suc d) go h = let le = h d in omega arith

within_counted : (d k : ℕ) (go : ℕ → Run) → ((left : ℕ) → (go left).peak.frames ≤ d) → (counted k go).peak.frames ≤ d
within_counted d zero go h = omega arith
within_counted d (suc k) go h = h k

within_matches : (d : ℕ) (o : Option (List Binding)) (go : List Binding → Run) (r : Run) → ((bs : List Binding) → (go bs).peak.frames ≤ d) → r.peak.frames ≤ d → (if_matches o go r).peak.frames ≤ d
within_matches d None go r h g = g
within_matches d (Some bs) go r h g = h bs

module _ (c : Calls) (h : Within c) (w : ℕ) where
  mutual
    eval_within : (e : Expression) (tail : Bool) (d : ℕ) (env : Environment) (k : ℕ) → (eval c w e tail d env k).peak.frames ≤ d
    eval_within (Give a) tail d env k = within_with_value d (argument_value env a) _ (λ v. omega arith)
    eval_within (Tuple p as') tail d env k = within_with_values d (argument_values env as') _ (λ vs. omega arith)
    eval_within (Operation o p a b) tail d env k =
        within_with_value d (argument_value env a) _ (λ v. within_with_value d (argument_value env b) _ (λ u. within_operation d k o p v u))
    eval_within (Call g n p as') tail d env k =
        within_with_values d (argument_values env as') _ (λ vs. within_counted d k _ (λ left. within_frame tail w d _ (λ free. h free g vs left)))
    eval_within (Match ds t p a q body cs) tail d env k =
        within_with_value d (argument_value env a) _ (λ v. within_matches d (matching q v) _ _ (λ bs. block_within body tail d (bind_matched env bs) k) (clauses_within cs v tail d env k))
    eval_within (Nested b) tail d env k = block_within b tail d env k

    block_within : (b : Block) (tail : Bool) (d : ℕ) (env : Environment) (k : ℕ) → (eval_block c w b tail d env k).peak.frames ≤ d
    block_within (Last e) tail d env k = eval_within e tail d env k
    block_within (Let bs e rest) tail d env k =
        max_within _ _ d (eval_within e false d env k) (within_go_on d (eval c w e false d env k).answer _ (λ vs left. block_within rest tail d (bind_binders env bs vs) left))

    clauses_within : (cs : Clauses) (v : Value) (tail : Bool) (d : ℕ) (env : Environment) (k : ℕ) → (eval_clauses c w cs v tail d env k).peak.frames ≤ d
    clauses_within NoClauses v tail d env k = omega arith
    clauses_within (MoreClauses q body cs) v tail d env k =
        within_matches d (matching q v) _ _ (λ bs. block_within body tail d (bind_matched env bs) k) (clauses_within cs v tail d env k)

body_within : (c : Calls) → Within c → (d : ℕ) (o : Option Instance) (vs : Values) (k : ℕ) → (body_run c d o vs k).peak.frames ≤ d
body_within c h d None vs k = omega arith
body_within c h d (Some f) vs k = max_within 0 _ d (omega arith) (block_within c h (frame_words f) f.body true d (bind_binders nothing_bound f.binders vs) k)

calls_within : (program : Program) (m : ℕ) → Within (calls_of program m)
calls_within program zero d i vs k = omega arith
calls_within program (suc m) d i vs k = body_within (calls_of program m) (calls_within program m) d (slice_get program.instances i) vs k

-- no run holds more frames than were free
pub peak_within : (program : Program) (i : ℕ) (vs : Values) (n d : ℕ) → (flat_meaning program i vs n d).peak.frames ≤ d
unfolding flat_meaning
peak_within program i vs n d = within_counted d n _ (λ left. calls_within program n d i vs left)

has_frame : (program : Program) (n d : ℕ) (o : Option Instance) (vs : Values) (f : Instance) → o ≡ Some f → frame_words f ≤ (body_run (calls_of program n) d o vs n).peak.words
has_frame program n d None vs f e = cc
has_frame program n d (Some g) vs f e =
    let same : g ≡ f = cc in
    subst (λ x. frame_words x ≤ (body_run (calls_of program n) d (Some g) vs n).peak.words) same (le-max_left (frame_words g) _)

-- an instance that is entered has its frame
pub peak_of_entry : (program : Program) (i : ℕ) (vs : Values) (n d : ℕ) (f : Instance) → slice_get program.instances i ≡ Some f → frame_words f ≤ (flat_meaning program i vs (suc n) d).peak.words
unfolding flat_meaning
peak_of_entry program i vs n d f e = has_frame program n d (slice_get program.instances i) vs f e
