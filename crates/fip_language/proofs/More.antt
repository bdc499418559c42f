-- More calls never change a value: the values and the peak stay the same, and as many more calls are left.
use Rattle.std.proofs.Common.{◌≡◌, ℕ, zero, suc, ◌+◌, List, Bool, true, false, Option, Some, None, arith, refl, ap, sym, ◌∙◌, subst}
use Rattle.fip_language.specs.declared.Place.{Place}
use Rattle.fip_language.specs.declared.Operator.{Operator}
use Rattle.fip_language.specs.Values.{Value, Int, Node, Values}
use Rattle.fip_language.specs.Core.{Name, Expression, Give, Tuple, Operation, Call, Match, Nested, Block, Last, Let, Clauses, NoClauses, MoreClauses, Function, Core}
use Rattle.fip_language.specs.Declarations.{function_of}
use Rattle.fip_language.specs.Matching.{Binding, matching}
use Rattle.fip_language.specs.Arithmetic.{Operated, Is, Fails, operate}
use Rattle.fip_language.specs.Registers.{frame_words}
use Rattle.fip_language.specs.Statics.{Closed, Closeds, ClosedInt, ClosedName, Instance, callee}
use Rattle.fip_language.specs.Meaning.{Answer, Gives, Trap, Out, Deep, Stuck, Peak, Run, higher, after, above, go_on, then_with, counted, in_frame, Environment, nothing_bound, bind_matched, bind_binders, bind_parameters, argument_value, argument_values, with_value, with_values, operated, operation, if_matches, Calls, eval, eval_block, eval_clauses, body_run, function_run, calls_of, meaning}

-- where a run with this answer and peak gives values, the other gives the same, with j more calls left
abbrev GrowsTo : ℕ → Answer → Peak → Run → Type 0
GrowsTo j (Gives vs left) p s = s ≡ record { answer = Gives vs (left + j); peak = p }
GrowsTo j (Trap kind line col) p s = Unit {0}
GrowsTo j Out p s = Unit {0}
GrowsTo j Deep p s = Unit {0}
GrowsTo j Stuck p s = Unit {0}

abbrev Grows : ℕ → Run → Run → Type 0
Grows j r s = GrowsTo j r.answer r.peak s

-- a way to call that gives the same values with j more calls
abbrev Better : ℕ → Calls → Calls → Type 0
Better j c c' = (d : ℕ) (f : Closed) (vs : Values) (k : ℕ) → Grows j (c d f vs k) (c' d f vs (k + j))

grows_after : (j : ℕ) (p : Peak) (a : Answer) (q : Peak) (s : Run) → GrowsTo j a q s → GrowsTo j a (higher p q) (after p s)
grows_after j p (Gives vs left) q s h = ap (after p) h
grows_after j p (Trap kind line col) q s h = tt
grows_after j p Out q s h = tt
grows_after j p Deep q s h = tt
grows_after j p Stuck q s h = tt

grows_above : (j w : ℕ) (a : Answer) (q : Peak) (s : Run) → GrowsTo j a q s → GrowsTo j a (record { frames = suc q.frames; words = w + q.words }) (above w s)
grows_above j w (Gives vs left) q s h = ap (above w) h
grows_above j w (Trap kind line col) q s h = tt
grows_above j w Out q s h = tt
grows_above j w Deep q s h = tt
grows_above j w Stuck q s h = tt

grows_then : (j : ℕ) (a : Answer) (p : Peak) (s : Run) (go go' : Values → ℕ → Run) → GrowsTo j a p s → ((vs : Values) (left : ℕ) → Grows j (go vs left) (go' vs (left + j))) → Grows j (after p (go_on a go)) (then_with s go')
grows_then j (Gives vs left) p s go go' h next =
    subst (λ x. Grows j (after p (go vs left)) (then_with x go')) (sym h) (grows_after j p (go vs left).answer (go vs left).peak (go' vs (left + j)) (next vs left))
grows_then j (Trap kind line col) p s go go' h next = tt
grows_then j Out p s go go' h next = tt
grows_then j Deep p s go go' h next = tt
grows_then j Stuck p s go go' h next = tt

grows_with_value : (j : ℕ) (o : Option Value) (go go' : Value → Run) → ((v : Value) → Grows j (go v) (go' v)) → Grows j (with_value o go) (with_value o go')
grows_with_value j None go go' h = tt
grows_with_value j (Some v) go go' h = h v

grows_with_values : (j : ℕ) (o : Option Values) (go go' : Values → Run) → ((vs : Values) → Grows j (go vs) (go' vs)) → Grows j (with_values o go) (with_values o go')
grows_with_values j None go go' h = tt
grows_with_values j (Some vs) go go' h = h vs

grows_operated : (j k : ℕ) (o : Operated) (p : Place) → Grows j (operated o p k) (operated o p (k + j))
grows_operated j k (Is v) p = refl
grows_operated j k (Fails kind) p = tt

grows_operation : (j k : ℕ) (o : Operator) (p : Place) (v w : Value) → Grows j (operation o p k v w) (operation o p (k + j) v w)
grows_operation j k o p (Int a) (Int b) = grows_operated j k (operate o a b) p
grows_operation j k o p (Int a) (Node c vs) = tt
grows_operation j k o p (Node c vs) w = tt

grows_frame : (j : ℕ) (tail : Bool) (w d : ℕ) (go go' : ℕ → Run) → ((free : ℕ) → Grows j (go free) (go' free)) → Grows j (in_frame tail w d go) (in_frame tail w d go')
grows_frame j true w d go go' h = h d
grows_frame j false w zero go go' h = tt
grows_frame j false w (suc d) go go' h = grows_above j w (go d).answer (go d).peak (go' d) (h d)

grows_counted : (j k : ℕ) (go go' : ℕ → Run) → ((left : ℕ) → Grows j (go left) (go' (left + j))) → Grows j (counted k go) (counted (k + j) go')
grows_counted j zero go go' h = tt
grows_counted j (suc k) go go' h =
    let e : suc (k + j) ≡ suc k + j = omega arith in
    subst (λ n. Grows j (go k) (counted n go')) e (h k)

grows_matches : (j : ℕ) (o : Option (List Binding)) (go go' : List Binding → Run) (r s : Run) → ((bs : List Binding) → Grows j (go bs) (go' bs)) → Grows j r s → Grows j (if_matches o go r) (if_matches o go' s)
grows_matches j None go go' r s h g = g
grows_matches j (Some bs) go go' r s h g = h bs

mutual
  eval_grows : (j : ℕ) (core : Core) (c c' : Calls) → Better j c c' → (here : Instance) (e : Expression) (tail : Bool) (d : ℕ) (env : Environment) (k : ℕ) → Grows j (eval core c here e tail d env k) (eval core c' here e tail d env (k + j))
  eval_grows j core c c' h here (Give a) tail d env k = grows_with_value j (argument_value core env a) _ _ (λ v. refl)
  eval_grows j core c c' h here (Tuple p as') tail d env k = grows_with_values j (argument_values core env as') _ _ (λ vs. refl)
  eval_grows j core c c' h here (Operation o p a b) tail d env k =
      grows_with_value j (argument_value core env a) _ _ (λ v. grows_with_value j (argument_value core env b) _ _ (λ w. grows_operation j k o p v w))
  eval_grows j core c c' h here (Call name p statics as') tail d env k =
      grows_with_values j (argument_values core env as') _ _ (λ vs. grows_counted j k _ _ (λ left. grows_frame j tail (frame_words here.function) d _ _ (λ free. h free (callee core here name statics) vs left)))
  eval_grows j core c c' h here (Match destructive p x cs) tail d env k =
      grows_with_value j (argument_value core env x) _ _ (λ v. clauses_grow j core c c' h here cs v tail d env k)
  eval_grows j core c c' h here (Nested block) tail d env k = block_grows j core c c' h here block tail d env k

  block_grows : (j : ℕ) (core : Core) (c c' : Calls) → Better j c c' → (here : Instance) (b : Block) (tail : Bool) (d : ℕ) (env : Environment) (k : ℕ) → Grows j (eval_block core c here b tail d env k) (eval_block core c' here b tail d env (k + j))
  block_grows j core c c' h here (Last e) tail d env k = eval_grows j core c c' h here e tail d env k
  block_grows j core c c' h here (Let binders e rest) tail d env k =
      grows_then j (eval core c here e false d env k).answer (eval core c here e false d env k).peak _ _ _ (eval_grows j core c c' h here e false d env k) (λ vs left. block_grows j core c c' h here rest tail d (bind_binders env binders vs) left)

  clauses_grow : (j : ℕ) (core : Core) (c c' : Calls) → Better j c c' → (here : Instance) (cs : Clauses) (v : Value) (tail : Bool) (d : ℕ) (env : Environment) (k : ℕ) → Grows j (eval_clauses core c here cs v tail d env k) (eval_clauses core c' here cs v tail d env (k + j))
  clauses_grow j core c c' h here NoClauses v tail d env k = tt
  clauses_grow j core c c' h here (MoreClauses pattern body rest) v tail d env k =
      grows_matches j (matching core pattern v) _ _ _ _ (λ bs. block_grows j core c c' h here body tail d (bind_matched env bs) k) (clauses_grow j core c c' h here rest v tail d env k)

body_grows : (j : ℕ) (core : Core) (c c' : Calls) → Better j c c' → (d : ℕ) (o : Option Function) (given : Closeds) (vs : Values) (k : ℕ) → Grows j (body_run core c d o given vs k) (body_run core c' d o given vs (k + j))
body_grows j core c c' h d None given vs k = tt
body_grows j core c c' h d (Some f) given vs k =
    let here : Instance = record { function = f; given = given } in
    let env : Environment = bind_parameters nothing_bound f.parameters vs in
    let r : Run = eval_block core c here f.body true d env k in
    grows_after j (record { frames = 0; words = frame_words f }) r.answer r.peak _ (block_grows j core c c' h here f.body true d env k)

function_grows : (j : ℕ) (core : Core) (c c' : Calls) → Better j c c' → (d : ℕ) (f : Closed) (vs : Values) (k : ℕ) → Grows j (function_run core c d f vs k) (function_run core c' d f vs (k + j))
function_grows j core c c' h d ClosedInt vs k = tt
function_grows j core c c' h d (ClosedName name given) vs k = body_grows j core c c' h d (function_of core name) given vs k

calls_better : (core : Core) (j m : ℕ) → Better j (calls_of core m) (calls_of core (m + j))
calls_better core j zero d f vs k = tt
calls_better core j (suc m) d f vs k =
    let e : suc (m + j) ≡ suc m + j = omega arith in
    subst (λ n. Grows j (calls_of core (suc m) d f vs k) (calls_of core n d f vs (k + j))) e (function_grows j core (calls_of core m) (calls_of core (m + j)) (calls_better core j m) d f vs k)

from_Grows : (j : ℕ) (a : Answer) (p : Peak) (s : Run) (vs : Values) (left : ℕ) → GrowsTo j a p s → a ≡ Gives vs left → s ≡ record { answer = Gives vs (left + j); peak = p }
from_Grows j (Gives ws more) p s vs left h e = let same : more ≡ left = cc in let values : ws ≡ vs = cc in h ∙ ap (λ x. record { answer = x; peak = p }) (ap (λ n. Gives ws (n + j)) same ∙ ap (λ x. Gives x (left + j)) values)
from_Grows j (Trap kind line col) p s vs left h e = cc
from_Grows j Out p s vs left h e = cc
from_Grows j Deep p s vs left h e = cc
from_Grows j Stuck p s vs left h e = cc

-- more calls change neither the values nor the peak
pub more_calls : (core : Core) (name : Name) (given : Closeds) (vs : Values) (n d j : ℕ) (results : Values) (left : ℕ) → (meaning core name given vs n d).answer ≡ Gives results left → meaning core name given vs (n + j) d ≡ record { answer = Gives results (left + j); peak = (meaning core name given vs n d).peak }
unfolding meaning
more_calls core name given vs n d j results left h =
    from_Grows j (meaning core name given vs n d).answer (meaning core name given vs n d).peak _ results left (grows_counted j n _ _ (λ k. calls_better core j n d (ClosedName name given) vs k)) h
