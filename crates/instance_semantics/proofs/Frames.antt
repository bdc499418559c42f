-- More free frames change no evaluation but one that ended for lack of them.
use Rattle.std.proofs.Common.{◌≡◌, ◌≢◌, ℕ, zero, suc, ◌+◌, List, Bool, true, false, Option, Some, None, slice_get, arith, refl, ap, sym, subst}
use Rattle.fip_trees.specs.fip_language.Values.{Value, Values}
use Rattle.fip_trees.specs.fip_language.Matching.{Binding}
use Rattle.fip_trees.specs.fip_language.Meaning.{Answer, Gives, Trap, Out, Deep, Stuck, Peak, Run, after, above, entered, go_on, then_with, counted, in_frame, Environment, nothing_bound, bind_matched, with_value, with_values, if_matches}
use Rattle.fip_trees.specs.Tree.{Expression, Give, Tuple, Operation, Call, Match, Nested, Block, Last, Let, Clauses, NoClauses, MoreClauses, Instance, Program}
use Rattle.instance_semantics.specs.Registers.{frame_words}
use Rattle.instance_semantics.specs.Matching.{matching}
use Rattle.instance_semantics.specs.Meaning.{argument_value, argument_values, Calls, eval, eval_block, eval_clauses, bind_binders, body_run, calls_of, flat_meaning}

-- the same run, unless the first one is Deep
abbrev SameUnless : Answer → Run → Run → Type 0
SameUnless (Gives vs left) r s = s ≡ r
SameUnless (Trap kind line col) r s = s ≡ r
SameUnless Out r s = s ≡ r
SameUnless Deep r s = Unit {0}
SameUnless Stuck r s = s ≡ r

abbrev Same : Run → Run → Type 0
Same r s = SameUnless r.answer r s

same : (a : Answer) (r s : Run) → s ≡ r → SameUnless a r s
same (Gives vs left) r s e = e
same (Trap kind line col) r s e = e
same Out r s e = e
same Deep r s e = tt
same Stuck r s e = e

-- what is done to both keeps them the same
same_under : (g : Run → Run) (a : Answer) (r s : Run) → SameUnless a r s → SameUnless a (g r) (g s)
same_under g (Gives vs left) r s h = ap g h
same_under g (Trap kind line col) r s h = ap g h
same_under g Out r s h = ap g h
same_under g Deep r s h = tt
same_under g Stuck r s h = ap g h

abbrev Roomier : ℕ → Calls → Calls → Type 0
Roomier j c c' = (d i : ℕ) (vs : Values) (k : ℕ) → Same (c d i vs k) (c' (d + j) i vs k)

same_then : (a : Answer) (p : Peak) (s : Run) (go go' : Values → ℕ → Run) → SameUnless a (record { answer = a; peak = p }) s → ((vs : Values) (left : ℕ) → Same (go vs left) (go' vs left)) → Same (after p (go_on a go)) (then_with s go')
same_then (Gives vs left) p s go go' h next =
    subst (λ x. Same (after p (go vs left)) (then_with x go')) (sym h) (same_under (after p) (go vs left).answer (go vs left) (go' vs left) (next vs left))
same_then (Trap kind line col) p s go go' h next = ap (λ x. then_with x go') h
same_then Out p s go go' h next = ap (λ x. then_with x go') h
same_then Deep p s go go' h next = tt
same_then Stuck p s go go' h next = ap (λ x. then_with x go') h

same_with_value : (o : Option Value) (go go' : Value → Run) → ((v : Value) → Same (go v) (go' v)) → Same (with_value o go) (with_value o go')
same_with_value None go go' h = refl
same_with_value (Some v) go go' h = h v

same_with_values : (o : Option Values) (go go' : Values → Run) → ((vs : Values) → Same (go vs) (go' vs)) → Same (with_values o go) (with_values o go')
same_with_values None go go' h = refl
same_with_values (Some vs) go go' h = h vs

same_frame : (j : ℕ) (tail : Bool) (w d : ℕ) (go go' : ℕ → Run) → ((free : ℕ) → Same (go free) (go' (free + j))) → Same (in_frame tail w d go) (in_frame tail w (d + j) go')
same_frame j true w d go go' h = h d
same_frame j false w zero go go' h = tt
same_frame j false w (suc d) go go' h =
    let e : suc (d + j) ≡ suc d + j = omega arith in
    subst (λ n. Same (above w (go d)) (in_frame false w n go')) e (same_under (above w) (go d).answer (go d) (go' (d + j)) (h d))

same_counted : (k : ℕ) (go go' : ℕ → Run) → ((left : ℕ) → Same (go left) (go' left)) → Same (counted k go) (counted k go')
same_counted zero go go' h = refl
same_counted (suc k) go go' h = h k

same_matches : (o : Option (List Binding)) (go go' : List Binding → Run) (r s : Run) → ((bs : List Binding) → Same (go bs) (go' bs)) → Same r s → Same (if_matches o go r) (if_matches o go' s)
same_matches None go go' r s h g = g
same_matches (Some bs) go go' r s h g = h bs

module _ (j : ℕ) (c c' : Calls) (h : Roomier j c c') (w : ℕ) where
  mutual
    eval_roomier : (e : Expression) (tail : Bool) (d : ℕ) (env : Environment) (k : ℕ) → Same (eval c w e tail d env k) (eval c' w e tail (d + j) env k)
    eval_roomier (Give a) tail d env k = same (eval c w (Give a) tail d env k).answer _ _ refl
    eval_roomier (Tuple p as') tail d env k = same (eval c w (Tuple p as') tail d env k).answer _ _ refl
    eval_roomier (Operation o p a b) tail d env k = same (eval c w (Operation o p a b) tail d env k).answer _ _ refl
    eval_roomier (Call g n p as') tail d env k =
        same_with_values (argument_values env as') _ _ (λ vs. same_counted k _ _ (λ left. same_frame j tail w d _ _ (λ free. h free g vs left)))
    eval_roomier (Match ds t p a q body cs) tail d env k =
        same_with_value (argument_value env a) _ _ (λ v. same_matches (matching q v) _ _ _ _ (λ bs. block_roomier body tail d (bind_matched env bs) k) (clauses_roomier cs v tail d env k))
    eval_roomier (Nested b) tail d env k = block_roomier b tail d env k

    block_roomier : (b : Block) (tail : Bool) (d : ℕ) (env : Environment) (k : ℕ) → Same (eval_block c w b tail d env k) (eval_block c' w b tail (d + j) env k)
    block_roomier (Last e) tail d env k = eval_roomier e tail d env k
    block_roomier (Let bs e rest) tail d env k =
        same_then (eval c w e false d env k).answer (eval c w e false d env k).peak _ _ _ (eval_roomier e false d env k) (λ vs left. block_roomier rest tail d (bind_binders env bs vs) left)

    clauses_roomier : (cs : Clauses) (v : Value) (tail : Bool) (d : ℕ) (env : Environment) (k : ℕ) → Same (eval_clauses c w cs v tail d env k) (eval_clauses c' w cs v tail (d + j) env k)
    clauses_roomier NoClauses v tail d env k = refl
    clauses_roomier (MoreClauses q body cs) v tail d env k =
        same_matches (matching q v) _ _ _ _ (λ bs. block_roomier body tail d (bind_matched env bs) k) (clauses_roomier cs v tail d env k)

body_roomier : (j : ℕ) (c c' : Calls) → Roomier j c c' → (d : ℕ) (o : Option Instance) (vs : Values) (k : ℕ) → Same (body_run c d o vs k) (body_run c' (d + j) o vs k)
body_roomier j c c' h d None vs k = refl
body_roomier j c c' h d (Some f) vs k =
    let env : Environment = bind_binders nothing_bound f.binders vs in
    same_under (entered (frame_words f)) (eval_block c (frame_words f) f.body true d env k).answer _ _ (block_roomier j c c' h (frame_words f) f.body true d env k)

calls_roomier : (program : Program) (j m : ℕ) → Roomier j (calls_of program m) (calls_of program m)
calls_roomier program j zero d i vs k = refl
calls_roomier program j (suc m) d i vs k = body_roomier j (calls_of program m) (calls_of program m) (calls_roomier program j m) d (slice_get program.instances i) vs k

from_same : (a : Answer) (r s : Run) → a ≢ Deep → SameUnless a r s → s ≡ r
from_same (Gives vs left) r s ne h = h
from_same (Trap kind line col) r s ne h = h
from_same Out r s ne h = h
from_same Deep r s ne h = absurd (ne refl)
from_same Stuck r s ne h = h

-- more frames change nothing, unless there were too few
pub more_frames : (program : Program) (i : ℕ) (vs : Values) (n d j : ℕ) → (flat_meaning program i vs n d).answer ≢ Deep → flat_meaning program i vs n (d + j) ≡ flat_meaning program i vs n d
unfolding flat_meaning
more_frames program i vs n d j ne =
    from_same (flat_meaning program i vs n d).answer _ _ ne (same_counted n _ _ (λ left. calls_roomier program j n d i vs left))
