-- More calls never change a value: the values and the peak stay the same, and as many more calls are left.
use Rattle.std.proofs.Common.{◌≡◌, ℕ, zero, suc, ◌+◌, List, Bool, true, false, Option, Some, None, slice_get, arith, refl, ap, sym, ◌∙◌, subst}
use Rattle.fip_trees.specs.fip_language.declared.Place.{Place}
use Rattle.fip_trees.specs.fip_language.declared.Operator.{Operator}
use Rattle.fip_trees.specs.fip_language.Values.{Value, Int, Node, Values}
use Rattle.fip_trees.specs.fip_language.Matching.{Binding}
use Rattle.fip_trees.specs.fip_language.Arithmetic.{Operated, Is, Fails, operate}
use Rattle.fip_trees.specs.fip_language.Meaning.{Answer, Gives, Trap, Out, Deep, Stuck, Peak, Run, higher, after, above, go_on, then_with, counted, in_frame, Environment, nothing_bound, bind_matched, with_value, with_values, operated, operation, if_matches}
use Rattle.fip_trees.specs.Tree.{Expression, Give, Tuple, Operation, Call, Match, Nested, Block, Last, Let, Clauses, NoClauses, MoreClauses, Instance, Program}
use Rattle.instance_semantics.specs.Registers.{frame_words}
use Rattle.instance_semantics.specs.Matching.{matching}
use Rattle.instance_semantics.specs.Meaning.{argument_value, argument_values, Calls, eval, eval_block, eval_clauses, bind_binders, body_run, calls_of, flat_meaning}

-- where a run with this answer and peak gives values, the other gives the same, with j more calls left
abbrev GrowsTo : ℕ → Answer → Peak → Run → Type 0
GrowsTo j (Gives vs left) p s = s ≡ record { answer = Gives vs (left + j); peak = p }
GrowsTo j (Trap kind line col) p s = Unit {0}
GrowsTo j Out p s = Unit {0}
GrowsTo j Deep p s = Unit {0}
GrowsTo j Stuck p s = Unit {0}

abbrev Grows : ℕ → Run → Run → Type 0
Grows j r s = GrowsTo j r.answer r.peak s

-- a way to call that gives the same values with j more calls
abbrev Better : ℕ → Calls → Calls → Type 0
Better j c c' = (d i : ℕ) (vs : Values) (k : ℕ) → Grows j (c d i vs k) (c' d i vs (k + j))

grows_after : (j : ℕ) (p : Peak) (a : Answer) (q : Peak) (s : Run) → GrowsTo j a q s → GrowsTo j a (higher p q) (after p s)
grows_after j p (Gives vs left) q s h = ap (after p) h
grows_after j p (Trap kind line col) q s h = tt
grows_after j p Out q s h = tt
grows_after j p Deep q s h = tt
grows_after j p Stuck q s h = tt

grows_above : (j w : ℕ) (a : Answer) (q : Peak) (s : Run) → GrowsTo j a q s → GrowsTo j a (record { frames = suc q.frames; words = w + q.words }) (above w s)
grows_above j w (Gives vs left) q s h = ap (above w) h
grows_above j w (Trap kind line col) q s h = tt
grows_above j w Out q s h = tt
grows_above j w Deep q s h = tt
grows_above j w Stuck q s h = tt

grows_then : (j : ℕ) (a : Answer) (p : Peak) (s : Run) (go go' : Values → ℕ → Run) → GrowsTo j a p s → ((vs : Values) (left : ℕ) → Grows j (go vs left) (go' vs (left + j))) → Grows j (after p (go_on a go)) (then_with s go')
grows_then j (Gives vs left) p s go go' h next =
    subst (λ x. Grows j (after p (go vs left)) (then_with x go')) (sym h) (grows_after j p (go vs left).answer (go vs left).peak (go' vs (left + j)) (next vs left))
grows_then j (Trap kind line col) p s go go' h next = tt
grows_then j Out p s go go' h next = tt
grows_then j Deep p s go go' h next = tt
grows_then j Stuck p s go go' h next = tt

grows_with_value : (j : ℕ) (o : Option Value) (go go' : Value → Run) → ((v : Value) → Grows j (go v) (go' v)) → Grows j (with_value o go) (with_value o go')
grows_with_value j None go go' h = tt
grows_with_value j (Some v) go go' h = h v

grows_with_values : (j : ℕ) (o : Option Values) (go go' : Values → Run) → ((vs : Values) → Grows j (go vs) (go' vs)) → Grows j (with_values o go) (with_values o go')
grows_with_values j None go go' h = tt
grows_with_values j (Some vs) go go' h = h vs

grows_operated : (j k : ℕ) (o : Operated) (p : Place) → Grows j (operated o p k) (operated o p (k + j))
grows_operated j k (Is v) p = refl
grows_operated j k (Fails kind) p = tt

grows_operation : (j k : ℕ) (o : Operator) (p : Place) (v w : Value) → Grows j (operation o p k v w) (operation o p (k + j) v w)
grows_operation j k o p (Int a) (Int b) = grows_operated j k (operate o a b) p
grows_operation j k o p (Int a) (Node c vs) = tt
grows_operation j k o p (Node c vs) w = tt

grows_frame : (j : ℕ) (tail : Bool) (w d : ℕ) (go go' : ℕ → Run) → ((free : ℕ) → Grows j (go free) (go' free)) → Grows j (in_frame tail w d go) (in_frame tail w d go')
grows_frame j true w d go go' h = h d
grows_frame j false w zero go go' h = tt
grows_frame j false w (suc d) go go' h = grows_above j w (go d).answer (go d).peak (go' d) (h d)

grows_counted : (j k : ℕ) (go go' : ℕ → Run) → ((left : ℕ) → Grows j (go left) (go' (left + j))) → Grows j (counted k go) (counted (k + j) go')
grows_counted j zero go go' h = tt
grows_counted j (suc k) go go' h =
    let e : suc (k + j) ≡ suc k + j = omega arith in
    subst (λ n. Grows j (go k) (counted n go')) e (h k)

grows_matches : (j : ℕ) (o : Option (List Binding)) (go go' : List Binding → Run) (r s : Run) → ((bs : List Binding) → Grows j (go bs) (go' bs)) → Grows j r s → Grows j (if_matches o go r) (if_matches o go' s)
grows_matches j None go go' r s h g = g
grows_matches j (Some bs) go go' r s h g = h bs

module _ (j : ℕ) (c c' : Calls) (h : Better j c c') (w : ℕ) where
  mutual
    eval_grows : (e : Expression) (tail : Bool) (d : ℕ) (env : Environment) (k : ℕ) → Grows j (eval c w e tail d env k) (eval c' w e tail d env (k + j))
    eval_grows (Give a) tail d env k = grows_with_value j (argument_value env a) _ _ (λ v. refl)
    eval_grows (Tuple p as') tail d env k = grows_with_values j (argument_values env as') _ _ (λ vs. refl)
    eval_grows (Operation o p a b) tail d env k =
        grows_with_value j (argument_value env a) _ _ (λ v. grows_with_value j (argument_value env b) _ _ (λ u. grows_operation j k o p v u))
    eval_grows (Call g n p as') tail d env k =
        grows_with_values j (argument_values env as') _ _ (λ vs. grows_counted j k _ _ (λ left. grows_frame j tail w d _ _ (λ free. h free g vs left)))
    eval_grows (Match ds t p a q body cs) tail d env k =
        grows_with_value j (argument_value env a) _ _ (λ v. grows_matches j (matching q v) _ _ _ _ (λ bs. block_grows body tail d (bind_matched env bs) k) (clauses_grow cs v tail d env k))
    eval_grows (Nested b) tail d env k = block_grows b tail d env k

    block_grows : (b : Block) (tail : Bool) (d : ℕ) (env : Environment) (k : ℕ) → Grows j (eval_block c w b tail d env k) (eval_block c' w b tail d env (k + j))
    block_grows (Last e) tail d env k = eval_grows e tail d env k
    block_grows (Let bs e rest) tail d env k =
        grows_then j (eval c w e false d env k).answer (eval c w e false d env k).peak _ _ _ (eval_grows e false d env k) (λ vs left. block_grows rest tail d (bind_binders env bs vs) left)

    clauses_grow : (cs : Clauses) (v : Value) (tail : Bool) (d : ℕ) (env : Environment) (k : ℕ) → Grows j (eval_clauses c w cs v tail d env k) (eval_clauses c' w cs v tail d env (k + j))
    clauses_grow NoClauses v tail d env k = tt
    clauses_grow (MoreClauses q body cs) v tail d env k =
        grows_matches j (matching q v) _ _ _ _ (λ bs. block_grows body tail d (bind_matched env bs) k) (clauses_grow cs v tail d env k)

body_grows : (j : ℕ) (c c' : Calls) → Better j c c' → (d : ℕ) (o : Option Instance) (vs : Values) (k : ℕ) → Grows j (body_run c d o vs k) (body_run c' d o vs (k + j))
body_grows j c c' h d None vs k = tt
body_grows j c c' h d (Some f) vs k =
    let env : Environment = bind_binders nothing_bound f.binders vs in
    let r : Run = eval_block c (frame_words f) f.body true d env k in
    grows_after j (record { frames = 0; words = frame_words f }) r.answer r.peak _ (block_grows j c c' h (frame_words f) f.body true d env k)

calls_better : (program : Program) (j m : ℕ) → Better j (calls_of program m) (calls_of program (m + j))
calls_better program j zero d i vs k = tt
calls_better program j (suc m) d i vs k =
    let e : suc (m + j) ≡ suc m + j = omega arith in
    subst (λ n. Grows j (calls_of program (suc m) d i vs k) (calls_of program n d i vs (k + j))) e (body_grows j (calls_of program m) (calls_of program (m + j)) (calls_better program j m) d (slice_get program.instances i) vs k)

from_Grows : (j : ℕ) (a : Answer) (p : Peak) (s : Run) (vs : Values) (left : ℕ) → GrowsTo j a p s → a ≡ Gives vs left → s ≡ record { answer = Gives vs (left + j); peak = p }
from_Grows j (Gives ws more) p s vs left h e = let same : more ≡ left = cc in let values : ws ≡ vs = cc in h ∙ ap (λ x. record { answer = x; peak = p }) (ap (λ n. Gives ws (n + j)) same ∙ ap (λ x. Gives x (left + j)) values)
from_Grows j (Trap kind line col) p s vs left h e = cc
from_Grows j Out p s vs left h e = cc
from_Grows j Deep p s vs left h e = cc
from_Grows j Stuck p s vs left h e = cc

-- more calls change neither the values nor the peak
pub more_calls : (program : Program) (i : ℕ) (vs : Values) (n d j : ℕ) (results : Values) (left : ℕ) → (flat_meaning program i vs n d).answer ≡ Gives results left → flat_meaning program i vs (n + j) d ≡ record { answer = Gives results (left + j); peak = (flat_meaning program i vs n d).peak }
unfolding flat_meaning
more_calls program i vs n d j results left h =
    from_Grows j (flat_meaning program i vs n d).answer (flat_meaning program i vs n d).peak _ results left (grows_counted j n _ _ (λ k. calls_better program j n d i vs k)) h
