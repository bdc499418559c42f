-- What a program without static parameters means: the evaluation of its instances, by their numbers, on trees.
-- Calls, frames, tail positions and the peak are counted as in the meaning of a source program. Each entry of an
-- instance costs one call, the entry instance's too; where no call is left, the answer is Out. A call outside tail
-- position holds a frame until it returns; where no frame is free, the answer is Deep. Out is checked before Deep. The
-- body of an instance, the rest of a let and the clauses' bodies are in tail position where the whole is; the bound
-- expression of a let never is. Of a node only numbers are read, never its slot: so a program means the same before it
-- is typed and after it.
-- rev(Cons(1, Nil), Nil) with 5 calls gives Cons(1, Nil) and leaves 3: one was for the entry and one for the call.
use Rattle.std.specs.Prelude.{ℕ, zero, suc, Bool, true, false, List, [], ◌∷◌, Option, Some, None, slice_get}
use Rattle.fip_trees.specs.fip_language.Values.{Value, Int, Node, Values, End, More}
use Rattle.fip_trees.specs.fip_language.Meaning.{Gives, Out, Stuck, Run, ends, entered, then_with, counted, in_frame}
use Rattle.fip_trees.specs.fip_language.Meaning.{Environment, nothing_bound, bind, bind_matched, binder_value, more_of}
use Rattle.fip_trees.specs.fip_language.Meaning.{with_value, with_values, operation, if_matches}
use Rattle.fip_trees.specs.declared.program.Binder.{Binder}
use Rattle.fip_trees.specs.Tree.{Argument, Variable, Literal, Constructor, Arguments, NoArguments, MoreArguments}
use Rattle.fip_trees.specs.Tree.{Expression, Give, Tuple, Operation, Call, Match, Nested, Block, Last, Let}
use Rattle.fip_trees.specs.Tree.{Clauses, NoClauses, MoreClauses, Instance, Program}
use Rattle.instance_semantics.specs.Matching.{matching}
use Rattle.instance_semantics.specs.Registers.{frame_words}

-- the binders of a let, or of the parameters, are bound to values from left to right
abbrev pub bind_binders : Environment → List Binder → Values → Environment
bind_binders env [] vs = env
bind_binders env (b ∷ bs) End = env
bind_binders env (b ∷ bs) (More v vs) = bind_binders (bind env b.number v) bs vs

abbrev pub node_of : ℕ → Option Values → Option Value
node_of c None = None
node_of c (Some vs) = Some (Node c vs)

-- the value of an argument, or none where it isn't well formed
abbrev mutual
  pub argument_value : Environment → Argument → Option Value
  argument_value env (Variable x n p) = binder_value env x
  argument_value env (Literal i p) = Some (Int i)
  argument_value env (Constructor t d c n p as') = node_of c (argument_values env as')

  pub argument_values : Environment → Arguments → Option Values
  argument_values env NoArguments = Some End
  argument_values env (MoreArguments a as') = more_of (argument_value env a) (argument_values env as')

-- what a call gives: the free frames, the instance's number, the arguments' values, and the calls left after it was
-- counted
abbrev pub Calls : Type 0
Calls = ℕ → ℕ → Values → ℕ → Run

-- The evaluation of an expression in an instance whose frame has so many words, over what calls give: the flag reports
-- tail position, d is the number of free frames and k that of the calls left. The first clause that matches is chosen.
abbrev mutual
  pub eval : Calls → ℕ → Expression → Bool → ℕ → Environment → ℕ → Run
  eval calls words (Give a) tail d env k = with_value (argument_value env a) (λ v. ends (Gives (More v End) k))
  eval calls words (Tuple p as') tail d env k = with_values (argument_values env as') (λ vs. ends (Gives vs k))
  eval calls words (Operation o p a b) tail d env k =
      with_value (argument_value env a) (λ v. with_value (argument_value env b) (λ w. operation o p k v w))
  eval calls words (Call g n p as') tail d env k =
      with_values (argument_values env as')
      (λ vs. counted k (λ left. in_frame tail words d (λ free. calls free g vs left)))
  eval calls words (Match destructive t p a q body cs) tail d env k =
      with_value (argument_value env a)
      (λ v. if_matches (matching q v) (λ bs. eval_block calls words body tail d (bind_matched env bs) k)
      (eval_clauses calls words cs v tail d env k))
  eval calls words (Nested b) tail d env k = eval_block calls words b tail d env k

  pub eval_block : Calls → ℕ → Block → Bool → ℕ → Environment → ℕ → Run
  eval_block calls words (Last e) tail d env k = eval calls words e tail d env k
  eval_block calls words (Let binders e rest) tail d env k =
      then_with (eval calls words e false d env k)
      (λ vs left. eval_block calls words rest tail d (bind_binders env binders vs) left)

  pub eval_clauses : Calls → ℕ → Clauses → Value → Bool → ℕ → Environment → ℕ → Run
  eval_clauses calls words NoClauses v tail d env k = ends Stuck
  eval_clauses calls words (MoreClauses q body cs) v tail d env k =
      if_matches (matching q v) (λ bs. eval_block calls words body tail d (bind_matched env bs) k)
      (eval_clauses calls words cs v tail d env k)

-- the body of an instance on these values, over what calls give
abbrev pub body_run : Calls → ℕ → Option Instance → Values → ℕ → Run
body_run calls d None vs k = ends Stuck
body_run calls d (Some f) vs k =
    entered (frame_words f)
    (eval_block calls (frame_words f) f.body true d (bind_binders nothing_bound f.binders vs) k)

-- what a call gives, where at most so many calls are nested
abbrev pub calls_of : Program → ℕ → Calls
calls_of program zero d i vs k = ends Out
calls_of program (suc m) d i vs k = body_run (calls_of program m) d (slice_get program.instances i) vs k

-- The evaluation of an expression, a block and clauses with k calls left, in an instance whose frame has so many words:
-- no more than k calls can be nested.
unfoldable pub evaluate : Program → ℕ → Expression → Bool → ℕ → Environment → ℕ → Run
evaluate program words e tail d env k = eval (calls_of program k) words e tail d env k

unfoldable pub evaluate_block : Program → ℕ → Block → Bool → ℕ → Environment → ℕ → Run
evaluate_block program words b tail d env k = eval_block (calls_of program k) words b tail d env k

unfoldable pub evaluate_clauses : Program → ℕ → Clauses → Value → Bool → ℕ → Environment → ℕ → Run
evaluate_clauses program words cs v tail d env k = eval_clauses (calls_of program k) words cs v tail d env k

-- The meaning of instance i on these values, with n calls and d free frames.
unfoldable pub flat_meaning : Program → ℕ → Values → ℕ → ℕ → Run
flat_meaning program i vs n d = counted n (λ left. calls_of program n d i vs left)
