-- The meaning, one equation for each form.
use Rattle.std.proofs.Common.{◌≡◌, ℕ, zero, suc, List, Bool, true, false, Option, Some, None, slice_get, refl}
use Rattle.fip_trees.specs.fip_language.declared.Place.{Place}
use Rattle.fip_trees.specs.fip_language.declared.Operator.{Operator}
use Rattle.fip_trees.specs.fip_language.Values.{Value, Values, End, More}
use Rattle.fip_trees.specs.fip_language.Meaning.{Gives, Out, Stuck, Run, ends, entered, then_with, counted, in_frame, Environment, nothing_bound, bind_matched, with_value, with_values, operation, if_matches}
use Rattle.fip_trees.proofs.fip_language.Bound.{with_values-same, in_frame-same, then_with-same}
use Rattle.fip_trees.specs.declared.program.Binder.{Binder}
use Rattle.fip_trees.specs.Tree.{Name, Argument, Arguments, Pattern, Expression, Give, Tuple, Operation, Call, Match, Nested, Block, Last, Let, Clauses, NoClauses, MoreClauses, Instance, Program}
use Rattle.instance_semantics.specs.Registers.{frame_words}
use Rattle.instance_semantics.specs.Matching.{matching}
use Rattle.instance_semantics.specs.Meaning.{argument_value, argument_values, bind_binders, body_run, calls_of, evaluate, evaluate_block, evaluate_clauses, flat_meaning}
use Rattle.instance_semantics.proofs.Left.{eval_left, calls_left}
use Rattle.instance_semantics.proofs.Bound.{eval_block_is_evaluate_block}

pub evaluate_give : (program : Program) (w : ℕ) (a : Argument) (tail : Bool) (d : ℕ) (env : Environment) (k : ℕ) → evaluate program w (Give a) tail d env k ≡ with_value (argument_value env a) (λ v. ends (Gives (More v End) k))
unfolding evaluate
evaluate_give program w a tail d env k = refl

pub evaluate_tuple : (program : Program) (w : ℕ) (p : Place) (as' : Arguments) (tail : Bool) (d : ℕ) (env : Environment) (k : ℕ) → evaluate program w (Tuple p as') tail d env k ≡ with_values (argument_values env as') (λ vs. ends (Gives vs k))
unfolding evaluate
evaluate_tuple program w p as' tail d env k = refl

pub evaluate_operation : (program : Program) (w : ℕ) (o : Operator) (p : Place) (a b : Argument) (tail : Bool) (d : ℕ) (env : Environment) (k : ℕ) → evaluate program w (Operation o p a b) tail d env k ≡ with_value (argument_value env a) (λ v. with_value (argument_value env b) (λ u. operation o p k v u))
unfolding evaluate
evaluate_operation program w o p a b tail d env k = refl

-- the body of an instance on these values, where so many calls are left after the call was counted
abbrev pub body_meaning : Program → ℕ → Option Instance → Values → ℕ → Run
body_meaning program d None vs k = ends Stuck
body_meaning program d (Some f) vs k = entered (frame_words f) (evaluate_block program (frame_words f) f.body true d (bind_binders nothing_bound f.binders vs) k)

-- an instance by its number
abbrev pub instance_meaning : Program → ℕ → ℕ → Values → ℕ → Run
instance_meaning program d i vs k = body_meaning program d (slice_get program.instances i) vs k

body_run-meaning : (program : Program) (k d : ℕ) (o : Option Instance) (vs : Values) → body_run (calls_of program k) d o vs k ≡ body_meaning program d o vs k
unfolding evaluate_block
body_run-meaning program k d None vs = refl
body_run-meaning program k d (Some f) vs = refl

pub calls_of-meaning : (program : Program) (k d i : ℕ) (vs : Values) → calls_of program (suc k) d i vs k ≡ instance_meaning program d i vs k
calls_of-meaning program k d i vs = body_run-meaning program k d (slice_get program.instances i) vs

counted_call : (program : Program) (k : ℕ) (tail : Bool) (w d g : ℕ) (vs : Values) → counted k (λ left. in_frame tail w d (λ free. calls_of program k free g vs left)) ≡ counted k (λ left. in_frame tail w d (λ free. instance_meaning program free g vs left))
counted_call program zero tail w d g vs = refl
counted_call program (suc k) tail w d g vs = in_frame-same tail w d _ _ (λ free. calls_of-meaning program k free g vs)

-- a call costs one, holds a frame outside tail position, and is its callee's body
pub evaluate_call : (program : Program) (w g : ℕ) (n : Name) (p : Place) (as' : Arguments) (tail : Bool) (d : ℕ) (env : Environment) (k : ℕ) → evaluate program w (Call g n p as') tail d env k ≡ with_values (argument_values env as') (λ vs. counted k (λ left. in_frame tail w d (λ free. instance_meaning program free g vs left)))
unfolding evaluate
evaluate_call program w g n p as' tail d env k = with_values-same (argument_values env as') _ _ (λ vs. counted_call program k tail w d g vs)

-- the first clause that matches is chosen
pub evaluate_match : (program : Program) (w : ℕ) (destructive : Bool) (t : ℕ) (p : Place) (a : Argument) (q : Pattern) (body : Block) (cs : Clauses) (tail : Bool) (d : ℕ) (env : Environment) (k : ℕ) → evaluate program w (Match destructive t p a q body cs) tail d env k ≡ with_value (argument_value env a) (λ v. evaluate_clauses program w (MoreClauses q body cs) v tail d env k)
unfolding evaluate evaluate_clauses
evaluate_match program w destructive t p a q body cs tail d env k = refl

pub evaluate_nested : (program : Program) (w : ℕ) (b : Block) (tail : Bool) (d : ℕ) (env : Environment) (k : ℕ) → evaluate program w (Nested b) tail d env k ≡ evaluate_block program w b tail d env k
unfolding evaluate evaluate_block
evaluate_nested program w b tail d env k = refl

pub evaluate_last : (program : Program) (w : ℕ) (e : Expression) (tail : Bool) (d : ℕ) (env : Environment) (k : ℕ) → evaluate_block program w (Last e) tail d env k ≡ evaluate program w e tail d env k
unfolding evaluate evaluate_block
evaluate_last program w e tail d env k = refl

-- a let hands the values of its bound expression, and the calls that it left, to the rest
pub evaluate_let : (program : Program) (w : ℕ) (bs : List Binder) (e : Expression) (rest : Block) (tail : Bool) (d : ℕ) (env : Environment) (k : ℕ) → evaluate_block program w (Let bs e rest) tail d env k ≡ then_with (evaluate program w e false d env k) (λ vs left. evaluate_block program w rest tail d (bind_binders env bs vs) left)
unfolding evaluate evaluate_block
evaluate_let program w bs e rest tail d env k =
    then_with-same k _ _ _ _ refl (eval_left (calls_of program k) (calls_left program k) w e false d env k) (λ vs left le. eval_block_is_evaluate_block program k w rest tail d (bind_binders env bs vs) left le)

pub evaluate_no_clause : (program : Program) (w : ℕ) (v : Value) (tail : Bool) (d : ℕ) (env : Environment) (k : ℕ) → evaluate_clauses program w NoClauses v tail d env k ≡ ends Stuck
unfolding evaluate_clauses
evaluate_no_clause program w v tail d env k = refl

pub evaluate_clause : (program : Program) (w : ℕ) (q : Pattern) (body : Block) (cs : Clauses) (v : Value) (tail : Bool) (d : ℕ) (env : Environment) (k : ℕ) → evaluate_clauses program w (MoreClauses q body cs) v tail d env k ≡ if_matches (matching q v) (λ bs. evaluate_block program w body tail d (bind_matched env bs) k) (evaluate_clauses program w cs v tail d env k)
unfolding evaluate_clauses evaluate_block
evaluate_clause program w q body cs v tail d env k = refl

-- the entry costs a call and holds no frame
pub meaning_entry : (program : Program) (i : ℕ) (vs : Values) (n d : ℕ) → flat_meaning program i vs n d ≡ counted n (λ left. instance_meaning program d i vs left)
unfolding flat_meaning
meaning_entry program i vs zero d = refl
meaning_entry program i vs (suc n) d = calls_of-meaning program n d i vs

pub meaning_out : (program : Program) (i : ℕ) (vs : Values) (d : ℕ) → flat_meaning program i vs 0 d ≡ ends Out
unfolding flat_meaning
meaning_out program i vs d = refl
