-- More free frames change no evaluation but one that ended for lack of them.
use Rattle.std.proofs.Common.{◌≡◌, ◌≢◌, ℕ, zero, suc, ◌+◌, List, Bool, true, false, Option, Some, None, arith, refl, ap, sym, subst}
use Rattle.fip_language.specs.Values.{Value, Values}
use Rattle.fip_language.specs.Core.{Name, Expression, Give, Tuple, Operation, Call, Match, Nested, Block, Last, Let, Clauses, NoClauses, MoreClauses, Function, Core}
use Rattle.fip_language.specs.Declarations.{function_of}
use Rattle.fip_language.specs.Matching.{Binding, matching}
use Rattle.fip_language.specs.Registers.{frame_words}
use Rattle.fip_language.specs.Statics.{Closed, Closeds, ClosedInt, ClosedName, Instance, callee}
use Rattle.fip_language.specs.Meaning.{Answer, Gives, Trap, Out, Deep, Stuck, Peak, Run, after, above, entered, go_on, then_with, counted, in_frame, Environment, nothing_bound, bind_matched, bind_binders, bind_parameters, argument_value, argument_values, with_value, with_values, if_matches, Calls, eval, eval_block, eval_clauses, body_run, function_run, calls_of, meaning}

-- the same run, unless the first one is Deep
abbrev SameUnless : Answer → Run → Run → Type 0
SameUnless (Gives vs left) r s = s ≡ r
SameUnless (Trap kind line col) r s = s ≡ r
SameUnless Out r s = s ≡ r
SameUnless Deep r s = Unit {0}
SameUnless Stuck r s = s ≡ r

abbrev Same : Run → Run → Type 0
Same r s = SameUnless r.answer r s

same : (a : Answer) (r s : Run) → s ≡ r → SameUnless a r s
same (Gives vs left) r s e = e
same (Trap kind line col) r s e = e
same Out r s e = e
same Deep r s e = tt
same Stuck r s e = e

-- what is done to both keeps them the same
same_under : (g : Run → Run) (a : Answer) (r s : Run) → SameUnless a r s → SameUnless a (g r) (g s)
same_under g (Gives vs left) r s h = ap g h
same_under g (Trap kind line col) r s h = ap g h
same_under g Out r s h = ap g h
same_under g Deep r s h = tt
same_under g Stuck r s h = ap g h

abbrev Roomier : ℕ → Calls → Calls → Type 0
Roomier j c c' = (d : ℕ) (f : Closed) (vs : Values) (k : ℕ) → Same (c d f vs k) (c' (d + j) f vs k)

same_then : (a : Answer) (p : Peak) (s : Run) (go go' : Values → ℕ → Run) → SameUnless a (record { answer = a; peak = p }) s → ((vs : Values) (left : ℕ) → Same (go vs left) (go' vs left)) → Same (after p (go_on a go)) (then_with s go')
same_then (Gives vs left) p s go go' h next =
    subst (λ x. Same (after p (go vs left)) (then_with x go')) (sym h) (same_under (after p) (go vs left).answer (go vs left) (go' vs left) (next vs left))
same_then (Trap kind line col) p s go go' h next = ap (λ x. then_with x go') h
same_then Out p s go go' h next = ap (λ x. then_with x go') h
same_then Deep p s go go' h next = tt
same_then Stuck p s go go' h next = ap (λ x. then_with x go') h

same_with_value : (o : Option Value) (go go' : Value → Run) → ((v : Value) → Same (go v) (go' v)) → Same (with_value o go) (with_value o go')
same_with_value None go go' h = refl
same_with_value (Some v) go go' h = h v

same_with_values : (o : Option Values) (go go' : Values → Run) → ((vs : Values) → Same (go vs) (go' vs)) → Same (with_values o go) (with_values o go')
same_with_values None go go' h = refl
same_with_values (Some vs) go go' h = h vs

same_frame : (j : ℕ) (tail : Bool) (w d : ℕ) (go go' : ℕ → Run) → ((free : ℕ) → Same (go free) (go' (free + j))) → Same (in_frame tail w d go) (in_frame tail w (d + j) go')
same_frame j true w d go go' h = h d
same_frame j false w zero go go' h = tt
same_frame j false w (suc d) go go' h =
    let e : suc (d + j) ≡ suc d + j = omega arith in
    subst (λ n. Same (above w (go d)) (in_frame false w n go')) e (same_under (above w) (go d).answer (go d) (go' (d + j)) (h d))

same_counted : (k : ℕ) (go go' : ℕ → Run) → ((left : ℕ) → Same (go left) (go' left)) → Same (counted k go) (counted k go')
same_counted zero go go' h = refl
same_counted (suc k) go go' h = h k

same_matches : (o : Option (List Binding)) (go go' : List Binding → Run) (r s : Run) → ((bs : List Binding) → Same (go bs) (go' bs)) → Same r s → Same (if_matches o go r) (if_matches o go' s)
same_matches None go go' r s h g = g
same_matches (Some bs) go go' r s h g = h bs

mutual
  eval_roomier : (j : ℕ) (core : Core) (c c' : Calls) → Roomier j c c' → (here : Instance) (e : Expression) (tail : Bool) (d : ℕ) (env : Environment) (k : ℕ) → Same (eval core c here e tail d env k) (eval core c' here e tail (d + j) env k)
  eval_roomier j core c c' h here (Give a) tail d env k = same (eval core c here (Give a) tail d env k).answer _ _ refl
  eval_roomier j core c c' h here (Tuple p as') tail d env k = same (eval core c here (Tuple p as') tail d env k).answer _ _ refl
  eval_roomier j core c c' h here (Operation o p a b) tail d env k = same (eval core c here (Operation o p a b) tail d env k).answer _ _ refl
  eval_roomier j core c c' h here (Call name p statics as') tail d env k =
      same_with_values (argument_values core env as') _ _ (λ vs. same_counted k _ _ (λ left. same_frame j tail (frame_words here.function) d _ _ (λ free. h free (callee core here name statics) vs left)))
  eval_roomier j core c c' h here (Match destructive p x cs) tail d env k =
      same_with_value (argument_value core env x) _ _ (λ v. clauses_roomier j core c c' h here cs v tail d env k)
  eval_roomier j core c c' h here (Nested block) tail d env k = block_roomier j core c c' h here block tail d env k

  block_roomier : (j : ℕ) (core : Core) (c c' : Calls) → Roomier j c c' → (here : Instance) (b : Block) (tail : Bool) (d : ℕ) (env : Environment) (k : ℕ) → Same (eval_block core c here b tail d env k) (eval_block core c' here b tail (d + j) env k)
  block_roomier j core c c' h here (Last e) tail d env k = eval_roomier j core c c' h here e tail d env k
  block_roomier j core c c' h here (Let binders e rest) tail d env k =
      same_then (eval core c here e false d env k).answer (eval core c here e false d env k).peak _ _ _ (eval_roomier j core c c' h here e false d env k) (λ vs left. block_roomier j core c c' h here rest tail d (bind_binders env binders vs) left)

  clauses_roomier : (j : ℕ) (core : Core) (c c' : Calls) → Roomier j c c' → (here : Instance) (cs : Clauses) (v : Value) (tail : Bool) (d : ℕ) (env : Environment) (k : ℕ) → Same (eval_clauses core c here cs v tail d env k) (eval_clauses core c' here cs v tail (d + j) env k)
  clauses_roomier j core c c' h here NoClauses v tail d env k = refl
  clauses_roomier j core c c' h here (MoreClauses pattern body rest) v tail d env k =
      same_matches (matching core pattern v) _ _ _ _ (λ bs. block_roomier j core c c' h here body tail d (bind_matched env bs) k) (clauses_roomier j core c c' h here rest v tail d env k)

body_roomier : (j : ℕ) (core : Core) (c c' : Calls) → Roomier j c c' → (d : ℕ) (o : Option Function) (given : Closeds) (vs : Values) (k : ℕ) → Same (body_run core c d o given vs k) (body_run core c' (d + j) o given vs k)
body_roomier j core c c' h d None given vs k = refl
body_roomier j core c c' h d (Some f) given vs k =
    let here : Instance = record { function = f; given = given } in
    let env : Environment = bind_parameters nothing_bound f.parameters vs in
    same_under (entered (frame_words f)) (eval_block core c here f.body true d env k).answer _ _ (block_roomier j core c c' h here f.body true d env k)

function_roomier : (j : ℕ) (core : Core) (c c' : Calls) → Roomier j c c' → (d : ℕ) (f : Closed) (vs : Values) (k : ℕ) → Same (function_run core c d f vs k) (function_run core c' (d + j) f vs k)
function_roomier j core c c' h d ClosedInt vs k = refl
function_roomier j core c c' h d (ClosedName name given) vs k = body_roomier j core c c' h d (function_of core name) given vs k

calls_roomier : (core : Core) (j m : ℕ) → Roomier j (calls_of core m) (calls_of core m)
calls_roomier core j zero d f vs k = refl
calls_roomier core j (suc m) d f vs k = function_roomier j core (calls_of core m) (calls_of core m) (calls_roomier core j m) d f vs k

from_same : (a : Answer) (r s : Run) → a ≢ Deep → SameUnless a r s → s ≡ r
from_same (Gives vs left) r s ne h = h
from_same (Trap kind line col) r s ne h = h
from_same Out r s ne h = h
from_same Deep r s ne h = absurd (ne refl)
from_same Stuck r s ne h = h

-- more frames change nothing, unless there were too few
pub more_frames : (core : Core) (name : Name) (given : Closeds) (vs : Values) (n d j : ℕ) → (meaning core name given vs n d).answer ≢ Deep → meaning core name given vs n (d + j) ≡ meaning core name given vs n d
unfolding meaning
more_frames core name given vs n d j ne =
    from_same (meaning core name given vs n d).answer _ _ ne (same_counted n _ _ (λ left. calls_roomier core j n d (ClosedName name given) vs left))
