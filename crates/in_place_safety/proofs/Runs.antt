-- Runs within numbers of frames and words: by induction on the trees, where for each call the numbers of what is called
-- are within those of the caller, beside its own frame where it waits.
use Rattle.std.proofs.Common.{◌≤◌, ℕ, zero, suc, ◌+◌, Bool, true, false, List, [], ◌∷◌, ◌++◌, Option, Some, None, arith}
use Rattle.tail_groups.specs.fip_language.declared.Place.{Place}
use Rattle.tail_groups.specs.fip_language.declared.Operator.{Operator}
use Rattle.tail_groups.specs.fip_language.Values.{Value, Int, Node, Values}
use Rattle.tail_groups.specs.fip_language.Matching.{Binding}
use Rattle.tail_groups.specs.fip_language.Arithmetic.{Operated, Is, Fails, operate}
use Rattle.tail_groups.specs.fip_language.Meaning.{Answer, Gives, Trap, Out, Deep, Stuck, Peak, Run, ends, after, entered, go_on, then_with, counted, in_frame, Environment, bind_matched, with_value, with_values, operated, operation, if_matches}
use Rattle.tail_groups.specs.fip_trees.Tree.{Expression, Give, Tuple, Operation, Call, Match, Nested, Block, Last, Let, Clauses, NoClauses, MoreClauses}
use Rattle.tail_groups.specs.Sites.{Site, sites, block_sites, clauses_sites}
use Rattle.type_safety.specs.instance_semantics.Matching.{matching}
use Rattle.type_safety.specs.instance_semantics.Meaning.{argument_value, argument_values, Calls, eval, eval_block, eval_clauses, bind_binders}

abbrev pub NotDeep : Answer → Type 0
NotDeep (Gives vs left) = Unit {0}
NotDeep (Trap kind line col) = Unit {0}
NotDeep Out = Unit {0}
NotDeep Deep = ⊥
NotDeep Stuck = Unit {0}

pub record Fits (frames words free : ℕ) (r : Run) : Type 0 where
  pub frames_in : r.peak.frames ≤ frames
  pub words_in : r.peak.words ≤ words
  pub enough : frames ≤ free → NotDeep r.answer

-- what ends without an entry
pub at_rest : (f w d : ℕ) (a : Answer) → NotDeep a → Fits f w d (ends a)
at_rest f w d a h = record { frames_in = omega arith; words_in = omega arith; enough = λ l. h }

goes_on : (f w d : ℕ) (a : Answer) (go : Values → ℕ → Run) → (f ≤ d → NotDeep a) → ((vs : Values) (left : ℕ) → Fits f w d (go vs left)) → Fits f w d (go_on a go)
goes_on f w d (Gives vs left) go n h = h vs left
goes_on f w d (Trap kind line col) go n h = at_rest f w d (Trap kind line col) tt
goes_on f w d Out go n h = at_rest f w d Out tt
goes_on f w d Deep go n h = record { frames_in = omega arith; words_in = omega arith; enough = n }
goes_on f w d Stuck go n h = at_rest f w d Stuck tt

afterwards : (f w d : ℕ) (p : Peak) (r : Run) → p.frames ≤ f → p.words ≤ w → Fits f w d r → Fits f w d (after p r)
afterwards f w d p r l m h =
    let a = h.frames_in in
    let b = h.words_in in
    record { frames_in = omega arith; words_in = omega arith; enough = h.enough }

then_fits : (f w d : ℕ) (r : Run) (go : Values → ℕ → Run) → Fits f w d r → ((vs : Values) (left : ℕ) → Fits f w d (go vs left)) → Fits f w d (then_with r go)
then_fits f w d r go h n = afterwards f w d r.peak (go_on r.answer go) h.frames_in h.words_in (goes_on f w d r.answer go h.enough n)

with_value_fits : (f w d : ℕ) (o : Option Value) (go : Value → Run) → ((v : Value) → Fits f w d (go v)) → Fits f w d (with_value o go)
with_value_fits f w d None go h = at_rest f w d Stuck tt
with_value_fits f w d (Some v) go h = h v

with_values_fits : (f w d : ℕ) (o : Option Values) (go : Values → Run) → ((vs : Values) → Fits f w d (go vs)) → Fits f w d (with_values o go)
with_values_fits f w d None go h = at_rest f w d Stuck tt
with_values_fits f w d (Some vs) go h = h vs

operated_fits : (f w d : ℕ) (o : Operated) (p : Place) (k : ℕ) → Fits f w d (operated o p k)
operated_fits f w d (Is v) p k = at_rest f w d _ tt
operated_fits f w d (Fails kind) p k = at_rest f w d _ tt

operation_fits : (f w d : ℕ) (o : Operator) (p : Place) (k : ℕ) (v u : Value) → Fits f w d (operation o p k v u)
operation_fits f w d o p k (Int i) (Int j) = operated_fits f w d (operate o i j) p k
operation_fits f w d o p k (Int i) (Node c vs) = at_rest f w d Stuck tt
operation_fits f w d o p k (Node c vs) u = at_rest f w d Stuck tt

counted_fits : (f w d k : ℕ) (go : ℕ → Run) → ((left : ℕ) → Fits f w d (go left)) → Fits f w d (counted k go)
counted_fits f w d zero go h = at_rest f w d Out tt
counted_fits f w d (suc k) go h = h k

matches_fit : (f w d : ℕ) (o : Option (List Binding)) (go : List Binding → Run) (other : Run) → ((bs : List Binding) → Fits f w d (go bs)) → Fits f w d other → Fits f w d (if_matches o go other)
matches_fit f w d None go other h g = g
matches_fit f w d (Some bs) go other h g = h bs

-- ---- calls

-- the numbers of what is called at a site, against those of the caller, whose frame has so many words
abbrev pub SiteFits : (ℕ → ℕ) → (ℕ → ℕ) → ℕ → ℕ → ℕ → Bool → ℕ → Type 0
SiteFits frames words f w own true g = (frames g ≤ f) × (words g ≤ w)
SiteFits frames words f w own false g = (suc (frames g) ≤ f) × (own + words g ≤ w)

-- with the callee's numbers, in tail position and outside of it
framed_fits : (frames words : ℕ → ℕ) (f w own d g : ℕ) (tail : Bool) (go : ℕ → Run) → SiteFits frames words f w own tail g → ((free : ℕ) → Fits (frames g) (words g) free (go free)) → Fits f w d (in_frame tail own d go)
framed_fits frames words f w own d g true go s h =
    let r = h d in
    let a = r.frames_in in
    let b = r.words_in in
    let l = s.0 in
    let m = s.1 in
    record { frames_in = omega arith; words_in = omega arith; enough = λ z. r.enough (omega arith) }
framed_fits frames words f w own zero g false go s h =
    let l = s.0 in record { frames_in = omega arith; words_in = omega arith; enough = λ z. absurd (omega arith) }
framed_fits frames words f w own (suc d) g false go s h =
    let r = h d in
    let a = r.frames_in in
    let b = r.words_in in
    let l = s.0 in
    let m = s.1 in
    record { frames_in = omega arith; words_in = omega arith; enough = λ z. r.enough (omega arith) }

-- what holds of each site
abbrev pub AllSites : (Site → Type 0) → List Site → Type 0
AllSites P [] = Unit {0}
AllSites P (s ∷ ss) = P s × AllSites P ss

split_sites : (P : Site → Type 0) (ss rs : List Site) → AllSites P (ss ++ rs) → AllSites P ss × AllSites P rs
split_sites P [] rs h = (tt, h)
split_sites P (s ∷ ss) rs h = let r = split_sites P ss rs h.1 in ((h.0, r.0), r.1)

-- a site whose callee's calls fit its numbers
pub record IsFit (calls : Calls) (frames words : ℕ → ℕ) (f w own : ℕ) (s : Site) : Type 0 where
  pub numbers : SiteFits frames words f w own s.is_tail s.callee
  pub runs : (d : ℕ) (vs : Values) (k : ℕ) → Fits (frames s.callee) (words s.callee) d (calls d s.callee vs k)

module _ (calls : Calls) (frames words : ℕ → ℕ) (f w own : ℕ) where
  abbrev Fine : Site → Type 0
  Fine = IsFit calls frames words f w own

  mutual
    expression_fits : (e : Expression) (tail : Bool) (d : ℕ) (env : Environment) (k : ℕ) → AllSites Fine (sites tail e) → Fits f w d (eval calls own e tail d env k)
    expression_fits (Give a) tail d env k h = with_value_fits f w d (argument_value env a) _ (λ v. at_rest f w d _ tt)
    expression_fits (Tuple p as') tail d env k h = with_values_fits f w d (argument_values env as') _ (λ vs. at_rest f w d _ tt)
    expression_fits (Operation o p l r) tail d env k h =
        with_value_fits f w d (argument_value env l) _ (λ v. with_value_fits f w d (argument_value env r) _ (λ u. operation_fits f w d o p k v u))
    expression_fits (Call g n p as') tail d env k h =
        with_values_fits f w d (argument_values env as') _ (λ vs. counted_fits f w d k _ (λ left. framed_fits frames words f w own d g tail _ h.0.numbers (λ free. h.0.runs free vs left)))
    expression_fits (Match ds t p a q body cs) tail d env k h =
        let two = split_sites Fine (block_sites tail body) (clauses_sites tail cs) h in
        with_value_fits f w d (argument_value env a) _ (λ v. matches_fit f w d (matching q v) _ _ (λ bs. block_fits body tail d (bind_matched env bs) k two.0) (clauses_fit cs v tail d env k two.1))
    expression_fits (Nested b) tail d env k h = block_fits b tail d env k h

    pub block_fits : (b : Block) (tail : Bool) (d : ℕ) (env : Environment) (k : ℕ) → AllSites Fine (block_sites tail b) → Fits f w d (eval_block calls own b tail d env k)
    block_fits (Last e) tail d env k h = expression_fits e tail d env k h
    block_fits (Let bs e rest) tail d env k h =
        let two = split_sites Fine (sites false e) (block_sites tail rest) h in
        then_fits f w d (eval calls own e false d env k) _ (expression_fits e false d env k two.0) (λ vs left. block_fits rest tail d (bind_binders env bs vs) left two.1)

    clauses_fit : (cs : Clauses) (v : Value) (tail : Bool) (d : ℕ) (env : Environment) (k : ℕ) → AllSites Fine (clauses_sites tail cs) → Fits f w d (eval_clauses calls own cs v tail d env k)
    clauses_fit NoClauses v tail d env k h = at_rest f w d Stuck tt
    clauses_fit (MoreClauses q body cs) v tail d env k h =
        let two = split_sites Fine (block_sites tail body) (clauses_sites tail cs) h in
        matches_fit f w d (matching q v) _ _ (λ bs. block_fits body tail d (bind_matched env bs) k two.0) (clauses_fit cs v tail d env k two.1)

pub entered_fits : (f w d own : ℕ) (r : Run) → own ≤ w → Fits f w d r → Fits f w d (entered own r)
entered_fits f w d own r l h = afterwards f w d (record { frames = 0; words = own }) r (omega arith) l h

pub counted_within : (f w d k : ℕ) (go : ℕ → Run) → ((left : ℕ) → Fits f w d (go left)) → Fits f w d (counted k go)
counted_within f w d k go h = counted_fits f w d k go h
