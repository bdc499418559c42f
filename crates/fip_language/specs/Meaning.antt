-- What a program means: the evaluation of its functions on trees.
-- Each entry of a function costs one call, the entry function's too; where no call is left, the answer is Out. A call
-- outside tail position holds a frame until it returns; where no frame is free, the answer is Deep. Out is checked
-- before Deep. A function's body, the body of a let and the clauses' bodies are in tail position where the whole is;
-- the bound expression of a let never is. The entry function holds no frame.
-- rev(Cons(1, Nil), Nil) with 5 calls gives Cons(1, Nil) and leaves 3: one was for the entry and one for the call.
-- Beside the answer is the peak: the most frames held and the most words of stack over all entries that were
-- reached, whatever the answer is. Stuck is what a program gives that isn't well formed.
use Rattle.std.specs.Prelude.{ℕ, zero, suc, ◌+◌, max, Bool, true, false, List, [], ◌∷◌, Option, Some, None, ◌==◌}
use Rattle.std.specs.Prelude.{if◌then◌else◌}
use Rattle.fip_language.specs.declared.Place.{Place}
use Rattle.fip_language.specs.declared.Operator.{Operator}
use Rattle.fip_language.specs.declared.TrapKind.{TrapKind}
use Rattle.fip_language.specs.Values.{Value, Int, Node, Values, End, More}
use Rattle.fip_language.specs.Core.{Name, Binder, Argument, Variable, Literal, Constructor, Arguments, NoArguments}
use Rattle.fip_language.specs.Core.{MoreArguments, Expression, Give, Tuple, Operation, Call, Match, Nested, Block, Last}
use Rattle.fip_language.specs.Core.{Let, Clauses, NoClauses, MoreClauses, Parameter, Function, Core}
use Rattle.fip_language.specs.Declarations.{Declared, constructor_of, function_of}
use Rattle.fip_language.specs.Matching.{Binding, matching}
use Rattle.fip_language.specs.Arithmetic.{Operated, Is, Fails, operate}
use Rattle.fip_language.specs.Registers.{frame_words}
use Rattle.fip_language.specs.Statics.{Closed, Closeds, ClosedInt, ClosedName, Instance, callee}

pub data Answer : Type 0 where
  Gives : (values : Values) (left : ℕ) → Answer
  Trap : (kind : TrapKind) (line col : ℕ) → Answer
  Out : Answer
  Deep : Answer
  Stuck : Answer

pub record Peak : Type 0 where
  pub frames : ℕ
  pub words : ℕ

-- an evaluation: how it ends, and its peak above the frames that wait
pub record Run : Type 0 where
  pub answer : Answer
  pub peak : Peak

abbrev pub no_peak : Peak
no_peak = record { frames = 0; words = 0 }

abbrev pub higher : Peak → Peak → Peak
higher p q = record { frames = max p.frames q.frames; words = max p.words q.words }

-- what ends without an entry
abbrev pub ends : Answer → Run
ends a = record { answer = a; peak = no_peak }

-- a run after one that had this peak
abbrev pub after : Peak → Run → Run
after p r = record { answer = r.answer; peak = higher p r.peak }

abbrev pub go_on : Answer → (Values → ℕ → Run) → Run
go_on (Gives vs left) go = go vs left
go_on (Trap kind line col) go = ends (Trap kind line col)
go_on Out go = ends Out
go_on Deep go = ends Deep
go_on Stuck go = ends Stuck

-- goes on with the values and the calls that a run left
abbrev pub then_with : Run → (Values → ℕ → Run) → Run
then_with r go = after r.peak (go_on r.answer go)

-- a call costs one
abbrev pub counted : ℕ → (ℕ → Run) → Run
counted zero go = ends Out
counted (suc k) go = go k

-- the run of a callee while its caller's frame of so many words waits
abbrev pub above : ℕ → Run → Run
above w r = record { answer = r.answer; peak = record { frames = suc r.peak.frames; words = w + r.peak.words } }

-- in tail position the callee has all free frames, else the caller holds one
abbrev pub in_frame : Bool → ℕ → ℕ → (ℕ → Run) → Run
in_frame true w d go = go d
in_frame false w zero go = ends Deep
in_frame false w (suc d) go = above w (go d)

-- the entry of a function whose frame has so many words
abbrev pub entered : ℕ → Run → Run
entered w r = after (record { frames = 0; words = w }) r

-- the value that each binder stands for
abbrev pub Environment : Type 0
Environment = ℕ → Option Value

abbrev pub nothing_bound : Environment
nothing_bound x = None

abbrev pub bind : Environment → ℕ → Value → Environment
bind env x v y = if x == y then Some v else env y

abbrev pub bind_matched : Environment → List Binding → Environment
bind_matched env [] = env
bind_matched env (b ∷ bs) = bind_matched (bind env b.binder b.value) bs

abbrev pub bind_binders : Environment → List Binder → Values → Environment
bind_binders env [] vs = env
bind_binders env (b ∷ bs) End = env
bind_binders env (b ∷ bs) (More v vs) = bind_binders (bind env b.number v) bs vs

abbrev pub bind_parameters : Environment → List Parameter → Values → Environment
bind_parameters env [] vs = env
bind_parameters env (p ∷ ps) End = env
bind_parameters env (p ∷ ps) (More v vs) = bind_parameters (bind env p.binder.number v) ps vs

abbrev pub binder_value : Environment → Option ℕ → Option Value
binder_value env None = None
binder_value env (Some x) = env x

abbrev pub node_of : Option Declared → Option Values → Option Value
node_of None o = None
node_of (Some c) None = None
node_of (Some c) (Some vs) = Some (Node c.number vs)

abbrev pub more_of : Option Value → Option Values → Option Values
more_of None o = None
more_of (Some v) None = None
more_of (Some v) (Some vs) = Some (More v vs)

-- the value of an argument, or none where it isn't well formed
abbrev mutual
  pub argument_value : Core → Environment → Argument → Option Value
  argument_value core env (Variable x name p) = binder_value env x
  argument_value core env (Literal i p) = Some (Int i)
  argument_value core env (Constructor name p as') = node_of (constructor_of core name) (argument_values core env as')

  pub argument_values : Core → Environment → Arguments → Option Values
  argument_values core env NoArguments = Some End
  argument_values core env (MoreArguments a as') = more_of (argument_value core env a) (argument_values core env as')

abbrev pub with_value : Option Value → (Value → Run) → Run
with_value None go = ends Stuck
with_value (Some v) go = go v

abbrev pub with_values : Option Values → (Values → Run) → Run
with_values None go = ends Stuck
with_values (Some vs) go = go vs

-- an operator's value, or a trap at its place
abbrev pub operated : Operated → Place → ℕ → Run
operated (Is v) p k = ends (Gives (More v End) k)
operated (Fails kind) p k = ends (Trap kind p.line p.col)

abbrev pub operation : Operator → Place → ℕ → Value → Value → Run
operation o p k (Int i) (Int j) = operated (operate o i j) p k
operation o p k (Int i) (Node c vs) = ends Stuck
operation o p k (Node c vs) w = ends Stuck

-- the first clause that matches is chosen
abbrev pub if_matches : Option (List Binding) → (List Binding → Run) → Run → Run
if_matches None go other = other
if_matches (Some bs) go other = go bs

-- what a call gives: the free frames, the function with its static arguments, the arguments' values, and the calls left
-- after it was counted
abbrev pub Calls : Type 0
Calls = ℕ → Closed → Values → ℕ → Run

-- the evaluation of an expression in an instance, over what calls give: the flag reports tail position, d is the number
-- of free frames and k that of the calls left
abbrev mutual
  pub eval : Core → Calls → Instance → Expression → Bool → ℕ → Environment → ℕ → Run
  eval core calls here (Give a) tail d env k = with_value (argument_value core env a) (λ v. ends (Gives (More v End) k))
  eval core calls here (Tuple p as') tail d env k = with_values (argument_values core env as') (λ vs. ends (Gives vs k))
  eval core calls here (Operation o p a b) tail d env k =
      with_value (argument_value core env a) (λ v. with_value (argument_value core env b) (λ w. operation o p k v w))
  eval core calls here (Call name p statics as') tail d env k =
      with_values (argument_values core env as')
      (λ vs. counted k (λ left. in_frame tail (frame_words here.function) d
      (λ free. calls free (callee core here name statics) vs left)))
  eval core calls here (Match destructive p x clauses) tail d env k =
      with_value (argument_value core env x) (λ v. eval_clauses core calls here clauses v tail d env k)
  eval core calls here (Nested block) tail d env k = eval_block core calls here block tail d env k

  pub eval_block : Core → Calls → Instance → Block → Bool → ℕ → Environment → ℕ → Run
  eval_block core calls here (Last e) tail d env k = eval core calls here e tail d env k
  eval_block core calls here (Let binders e rest) tail d env k =
      then_with (eval core calls here e false d env k)
      (λ vs left. eval_block core calls here rest tail d (bind_binders env binders vs) left)

  pub eval_clauses : Core → Calls → Instance → Clauses → Value → Bool → ℕ → Environment → ℕ → Run
  eval_clauses core calls here NoClauses v tail d env k = ends Stuck
  eval_clauses core calls here (MoreClauses pattern body rest) v tail d env k =
      if_matches (matching core pattern v) (λ bs. eval_block core calls here body tail d (bind_matched env bs) k)
      (eval_clauses core calls here rest v tail d env k)

-- the body of a function on these values, over what calls give
abbrev pub body_run : Core → Calls → ℕ → Option Function → Closeds → Values → ℕ → Run
body_run core calls d None given vs k = ends Stuck
body_run core calls d (Some f) given vs k =
    entered (frame_words f) (eval_block core calls (record { function = f; given = given }) f.body true d
    (bind_parameters nothing_bound f.parameters vs) k)

abbrev pub function_run : Core → Calls → ℕ → Closed → Values → ℕ → Run
function_run core calls d ClosedInt vs k = ends Stuck
function_run core calls d (ClosedName name given) vs k = body_run core calls d (function_of core name) given vs k

-- what a call gives, where at most so many calls are nested
abbrev pub calls_of : Core → ℕ → Calls
calls_of core zero d f vs k = ends Out
calls_of core (suc m) d f vs k = function_run core (calls_of core m) d f vs k

-- The evaluation of an expression, a block and clauses with k calls left: no more than k calls can be nested.
unfoldable pub evaluate : Core → Instance → Expression → Bool → ℕ → Environment → ℕ → Run
evaluate core here e tail d env k = eval core (calls_of core k) here e tail d env k

unfoldable pub evaluate_block : Core → Instance → Block → Bool → ℕ → Environment → ℕ → Run
evaluate_block core here block tail d env k = eval_block core (calls_of core k) here block tail d env k

unfoldable pub evaluate_clauses : Core → Instance → Clauses → Value → Bool → ℕ → Environment → ℕ → Run
evaluate_clauses core here clauses v tail d env k = eval_clauses core (calls_of core k) here clauses v tail d env k

-- The meaning of a function with static arguments on these values, with n calls and d free frames.
unfoldable pub meaning : Core → Name → Closeds → Values → ℕ → ℕ → Run
meaning core name given vs n d = counted n (λ left. calls_of core n d (ClosedName name given) vs left)
