-- Each step leads to the same answer.
use Rattle.std.proofs.Common.{◌≡◌, ◌≢◌, ◌⊎◌, inl, inr, ℕ, suc, ◌+◌, ◌*◌, ◌<◌, ◌≤◌, Bool, true, false, List, [], ◌∷◌, ◌++◌, map, length, Option, Some, None, refl, sym, ap, ◌∙◌, subst, arith}
use Rattle.std.specs.Prelude.{slice_get, ℤ, Result, Ok, Err, OnOk, ◌==◌}
use Rattle.std.proofs.lemmas.Bool.{eqb-true}
use Rattle.std.specs.Borrow.{Bor}
use Rattle.fip_trees.specs.fip_language.declared.Place.{Place}
use Rattle.fip_trees.specs.fip_language.declared.Operator.{Operator}
use Rattle.fip_trees.specs.fip_language.declared.TrapKind.{TrapKind}
use Rattle.fip_trees.specs.fip_language.Arithmetic.{Operated, Is, Fails, operate}
use Rattle.fip_trees.specs.fip_language.Matching.{Binding as Bound}
use Rattle.fip_trees.specs.fip_language.Values.{Value as Tree, Int, Node, Values, End, More as Further}
use Rattle.fip_trees.specs.fip_language.Meaning.{Answer, Gives, Trap, Out, Deep, Stuck, Run, ends, operated, operation, with_value, with_values, if_matches, then_with, counted, in_frame, Environment, nothing_bound, bind, bind_matched}
use Rattle.fip_trees.specs.Tree as T
use Rattle.fip_trees.specs.TreeView.{block}
use Rattle.fip_trees.specs.declared.program.Block.{Block}
use Rattle.fip_trees.specs.declared.program.Binder.{Binder}
use Rattle.instance_semantics.specs.Matching.{matching}
use Rattle.instance_semantics.specs.Meaning.{argument_value, argument_values, bind_binders, evaluate, evaluate_block, evaluate_clauses, flat_meaning}
use Rattle.instance_semantics.proofs.Equations.{evaluate_clause, evaluate_no_clause, evaluate_let, evaluate_last}
use Rattle.plain_eval.specs.Instances.{body_meaning, instance_meaning}
use Rattle.plain_eval.proofs.InstanceCalls.{meaning_entry}
use Rattle.instance_semantics.specs.Registers.{frame_words}
use Rattle.std.proofs.lemmas.List.{map-append}
use Rattle.plain_rows.specs.declared.store.Value.{Value}
use Rattle.plain_rows.specs.declared.store.Value.TheVariants as V
use Rattle.plain_rows.specs.declared.store.Store.{Store}
use Rattle.plain_rows.specs.Rows.{Stands, StandAll, More}
use Rattle.plain_rows.proofs.Standing.{more_on}
use Rattle.plain_eval.specs.declared.variables.Variables.{Variables}
use Rattle.plain_eval.specs.declared.evaluate.Waiting.{Waiting}
use Rattle.plain_eval.specs.declared.evaluate.Evaluation.{Evaluation}
use Rattle.plain_eval.specs.Operating.{IsPlain, IsOutcome}
use Rattle.plain_eval.specs.Slots.{StandsAt, Covers, CoversNow, Keeps, KeepsAll}
use Rattle.plain_eval.specs.Giving.{GivesOne, GivesAll}
use Rattle.plain_eval.specs.Choosing.{Tries, Chooses, by_match}
use Rattle.plain_eval.specs.Machine.{rest_of, Held, waiting_of, resume, last_end, AllHeld, Waits, Leads, Hands, LeadsIn, waiting_size}
use Rattle.plain_eval.proofs.Slots.{kept_all, kept_more}
use Rattle.plain_eval.proofs.Waiting.{not_stuck, resume_trap, resume_push, resume_none, held_some, held_push, held_pop, last_held, last_push, last_none, none_held, let_answer, rest_start}

-- another way to write what is evaluated
pub leads_as : (p : T.Program) (e : Evaluation) (run run' : Environment → ℕ → Run) (a : Answer) → ((env : Environment) (w : ℕ) → run env w ≡ run' env w) → Leads p e run a → Leads p e run' a
leads_as p e run run' a f h = record {
  waits = h.waits;
  env = h.env;
  words = h.words;
  covers = h.covers;
  following = h.following;
  given = h.given;
  means = ap (λ (r : Run). resume p (h.waits).hs r.answer) (sym (f h.env h.words)) ∙ h.means;
}

-- what waits stays, where rows are added
pub waits_more : (e e' : Evaluation) (hs : List Held) → e'.variables.values.items ≡ e.variables.values.items → More e.store e'.store → AllHeld e.store e.variables.values.items 0 hs → AllHeld e'.store e'.variables.values.items 0 hs
waits_more e e' hs v m h =
    held_some e.store e'.store e.variables.values.items e'.variables.values.items 0 hs (λ i t l k. subst (λ us. StandsAt e'.store us i t) (sym v) (kept_more e.store e'.store e.variables.values.items m i t k)) h

one_given : (s : Store) (given new : List Value) (w : Value) (v : Tree) → given ≡ [] → new ≡ given ++ w ∷ [] → Stands s w v → StandAll s new (Further v End)
one_given s given new w v e f h = subst (λ l. StandAll s l (Further v End)) (sym (f ∙ ap (λ l. l ++ w ∷ []) e)) (h, tt)

-- an argument is given
pub gives_one : (p : T.Program) (e e' : Evaluation) (x : T.Argument) (a : Answer) → a ≢ Stuck → e'.waiting ≡ e.waiting → e'.variables ≡ e.variables → e'.calls ≡ e.calls → More e.store e'.store → ((env : Environment) → CoversNow e.store e.variables env → GivesOne (argument_value env x) e.given.items e'.store e'.given.items) → Leads p e (λ env words. with_value (argument_value env x) (λ v. ends (Gives (Further v End) e.calls))) a → Hands p e' (λ vs. Gives vs e'.calls) a
gives_one p e e' x a n w v c m f h = by (argument_value h.env x) (f h.env h.covers) h.means where
  by : (o : Option Tree) → GivesOne o e.given.items e'.store e'.given.items → resume p (h.waits).hs (with_value o (λ v. ends (Gives (Further v End) e.calls))).answer ≡ a → Hands p e' (λ vs. Gives vs e'.calls) a
  by None g q = absurd (not_stuck p (h.waits).hs a n q)
  by (Some t) g q = record {
    waits = record {
      hs = (h.waits).hs;
      waiting = (h.waits).waiting ∙ ap (λ x. x.items) (sym w);
      held = waits_more e e' (h.waits).hs (ap (λ x. x.values.items) v) m (h.waits).held;
    };
    vs = Further t End;
    stand = one_given e'.store e.given.items e'.given.items g.0 t h.given g.1 g.2;
    means = ap (λ k. resume p (h.waits).hs (Gives (Further t End) k)) c ∙ q;
  }

-- arguments are given, and something is done with them
pub gives_all : (p : T.Program) (e e' : Evaluation) (xs : T.Arguments) (go : ℕ → Values → Run) (a : Answer) → a ≢ Stuck → e'.waiting ≡ e.waiting → e'.variables ≡ e.variables → More e.store e'.store → ((env : Environment) → CoversNow e.store e.variables env → GivesAll (argument_values env xs) e.given.items e'.store e'.given.items) → Leads p e (λ env words. with_values (argument_values env xs) (go words)) a → (words : ℕ) × Hands p e' (λ vs. (go words vs).answer) a
gives_all p e e' xs go a n w v m f h = by (argument_values h.env xs) (f h.env h.covers) h.means where
  by : (o : Option Values) → GivesAll o e.given.items e'.store e'.given.items → resume p (h.waits).hs (with_values o (go h.words)).answer ≡ a → (words : ℕ) × Hands p e' (λ vs. (go words vs).answer) a
  by None g q = absurd (not_stuck p (h.waits).hs a n q)
  by (Some ts) g q = (
    h.words,
    record {
      waits = record {
        hs = (h.waits).hs;
        waiting = (h.waits).waiting ∙ ap (λ x. x.items) (sym w);
        held = waits_more e e' (h.waits).hs (ap (λ x. x.values.items) v) m (h.waits).held;
      };
      vs = ts;
      stand = subst (λ l. StandAll e'.store l ts) (sym (g.1 ∙ ap (λ l. l ++ g.0) h.given)) g.2;
      means = q;
    },
  )

-- ---- clauses

pub chosen_some : (cs : T.Clauses) (v : Tree) (env : Environment) (s : Store) (vars : Variables) (b : Bor Block) → Chooses cs v env s vars (Some b) → (env' : Environment) × CoversNow s vars env' × ((p : T.Program) (w : ℕ) (tail : Bool) (d k : ℕ) → evaluate_clauses p w cs v tail d env k ≡ evaluate_block p w (block b.now) tail d env' k)
chosen_some T.NoClauses v env s vars b h = cc
chosen_some (T.MoreClauses q body cs) v env s vars b h = by (matching q v) refl h (chosen_some cs v env s vars b) where
  by : (o : Option (List Bound)) → matching q v ≡ o → by_match o (λ bs. Tries (Some bs) body env s vars (Some b)) (Chooses cs v env s vars (Some b)) → (Chooses cs v env s vars (Some b) → (env' : Environment) × CoversNow s vars env' × ((p : T.Program) (w : ℕ) (tail : Bool) (d k : ℕ) → evaluate_clauses p w cs v tail d env k ≡ evaluate_block p w (block b.now) tail d env' k)) → (env' : Environment) × CoversNow s vars env' × ((p : T.Program) (w : ℕ) (tail : Bool) (d k : ℕ) → evaluate_clauses p w (T.MoreClauses q body cs) v tail d env k ≡ evaluate_block p w (block b.now) tail d env' k)
  by None e t rec =
      let r = rec t in
      (r.0, r.1, λ p w tail d k. evaluate_clause p w q body cs v tail d env k ∙ ap (λ o. if_matches o (λ bs. evaluate_block p w body tail d (bind_matched env bs) k) (evaluate_clauses p w cs v tail d env k)) e ∙ r.2 p w tail d k)
  by (Some bs) e t rec =
      let same : t.0 ≡ b = let z = t.1 in cc in
      let body_is : block b.now ≡ body = ap (λ (x : Bor Block). block x.now) (sym same) ∙ t.2 in
      (bind_matched env bs, t.3, λ p w tail d k. evaluate_clause p w q body cs v tail d env k ∙ ap (λ o. if_matches o (λ bs. evaluate_block p w body tail d (bind_matched env bs) k) (evaluate_clauses p w cs v tail d env k)) e ∙ ap (λ x. evaluate_block p w x tail d (bind_matched env bs) k) (sym body_is))

pub chosen_none : (cs : T.Clauses) (v : Tree) (env : Environment) (s : Store) (vars : Variables) → Chooses cs v env s vars None → (p : T.Program) (w : ℕ) (tail : Bool) (d k : ℕ) → evaluate_clauses p w cs v tail d env k ≡ ends Stuck
chosen_none T.NoClauses v env s vars h p w tail d k = evaluate_no_clause p w v tail d env k
chosen_none (T.MoreClauses q body cs) v env s vars h p w tail d k = by (matching q v) refl h (λ x. chosen_none cs v env s vars x p w tail d k) where
  by : (o : Option (List Bound)) → matching q v ≡ o → by_match o (λ bs. Tries (Some bs) body env s vars None) (Chooses cs v env s vars None) → (Chooses cs v env s vars None → evaluate_clauses p w cs v tail d env k ≡ ends Stuck) → evaluate_clauses p w (T.MoreClauses q body cs) v tail d env k ≡ ends Stuck
  by None e t rec = evaluate_clause p w q body cs v tail d env k ∙ ap (λ o. if_matches o (λ bs. evaluate_block p w body tail d (bind_matched env bs) k) (evaluate_clauses p w cs v tail d env k)) e ∙ rec t
  by (Some bs) e t rec = let z = t.1 in cc

-- ---- binders

-- what is left to bind, and what comes of all once it is bound
pub record BindLeft (s : Store) (env : Environment) (all : List Binder) (vs : Values) (bs : List Binder) (ws : List Value) (vars : Variables) : Type 0 where
  pub now : Environment
  pub us : Values
  pub covers : CoversNow s vars now
  pub stand : StandAll s ws us
  pub same : bind_binders now bs us ≡ bind_binders env all vs

pub binds_init : (s : Store) (env : Environment) (all bs : List Binder) (vs : Values) (us ws : List Value) (vars : Variables) → bs ≡ all → us ≡ ws → CoversNow s vars env → StandAll s ws vs → BindLeft s env all vs bs us vars
binds_init s env all bs vs us ws vars e f h a = record { now = env; us = vs; covers = h; stand = subst (λ l. StandAll s l vs) (sym f) a; same = ap (λ l. bind_binders env l vs) e }

pub binds_step : (s : Store) (env : Environment) (all : List Binder) (vs : Values) (b : Binder) (bs : List Binder) (w : Value) (ws : List Value) (vars vars' : Variables) → BindLeft s env all vs (b ∷ bs) (w ∷ ws) vars → ((env : Environment) (v : Tree) → CoversNow s vars env → Stands s w v → CoversNow s vars' (bind env b.number v)) → BindLeft s env all vs bs ws vars'
binds_step s env all vs b bs w ws vars vars' h f = by h.us h.stand h.same where
  by : (us : Values) → StandAll s (w ∷ ws) us → bind_binders h.now (b ∷ bs) us ≡ bind_binders env all vs → BindLeft s env all vs bs ws vars'
  by End a e = absurd a
  by (Further u us) a e = record { now = bind h.now b.number u; us = us; covers = f h.now u h.covers a.0; stand = a.1; same = e }

pub binds_end : (s : Store) (env : Environment) (all : List Binder) (vs : Values) (bs : List Binder) (ws : List Value) (vars : Variables) → BindLeft s env all vs bs ws vars → (length bs ≡ 0) ⊎ (length ws ≡ 0) → CoversNow s vars (bind_binders env all vs)
binds_end s env all vs bs ws vars h o = subst (CoversNow s vars) (sym (none bs ws h.us h.stand o) ∙ h.same) h.covers where
  none : (bs : List Binder) (ws : List Value) (us : Values) → StandAll s ws us → (length bs ≡ 0) ⊎ (length ws ≡ 0) → bind_binders h.now bs us ≡ h.now
  none [] ws us a o = refl
  none (b ∷ bs) ws End a o = refl
  none (b ∷ bs) [] (Further u us) a o = absurd a
  none (b ∷ bs) (w ∷ ws) (Further u us) a (inl e) = absurd (omega arith)
  none (b ∷ bs) (w ∷ ws) (Further u us) a (inr e) = absurd (omega arith)

-- ---- values are handed on

pub hand_value : (p : T.Program) (e : Evaluation) (a : Answer) → e.waiting.items ≡ [] → Hands p e (λ vs. Gives vs e.calls) a → (vs : Values) × (left : ℕ) × (a ≡ Gives vs left) × StandAll e.store e.given.items vs
hand_value p e a w h =
    let none = none_held (h.waits).hs ((h.waits).waiting ∙ w) in
    (h.vs, e.calls, sym h.means ∙ ap (λ l. resume p l (Gives h.vs e.calls)) none ∙ resume_none p (Gives h.vs e.calls), h.stand)

pub hand_leads : (p : T.Program) (e e' : Evaluation) (w : Waiting) (a : Answer) → e.waiting.items ≡ e'.waiting.items ++ w ∷ [] → e'.is_tail ≡ w.is_tail → e'.frames ≡ w.frames → e'.calls ≡ e.calls → e'.given.items ≡ [] → Keeps w.end e.store e.variables.values.items e'.store e'.variables.values.items → ((env : Environment) (vs : Values) → Covers e.store e.variables.values.items w.base w.end env → StandAll e.store e.given.items vs → CoversNow e'.store e'.variables (bind_binders env w.binders.now vs)) → w.end ≤ e'.variables.end → Hands p e (λ vs. Gives vs e.calls) a → Leads p e' (λ env words. evaluate_block p words (rest_of w.block.now w.next) e'.is_tail e'.frames env e'.calls) a
hand_leads p e e' w a items tail frames calls given keeps covers following h =
    let k = last_held (h.waits).hs e'.waiting.items w ((h.waits).waiting ∙ items) in
    let gs = k.0 in
    let g = k.1 in
    let pop = held_pop e.store e.variables.values.items 0 gs g (subst (AllHeld e.store e.variables.values.items 0) k.2 (h.waits).held) in
    let end_is : g.waiting.end ≡ w.end = ap (λ (x : Waiting). x.end) k.4 in
    let low = pop.1 in
    let last_is : last_end 0 (map waiting_of gs) ≡ last_end 0 e'.waiting.items = ap (last_end 0) k.3 in
    let run = λ (x : Waiting). (evaluate_block p g.words (rest_of x.block.now x.next) x.is_tail x.frames (bind_binders g.env x.binders.now h.vs) e.calls).answer in
    let body = rest_of w.block.now w.next in
    let bound = bind_binders g.env w.binders.now h.vs in
    record {
      waits = record {
        hs = gs;
        waiting = k.3;
        held = held_some e.store e'.store e.variables.values.items e'.variables.values.items 0 gs (λ i t l s. keeps i t (omega (arith, l, low, end_is)) s) pop.0;
      };
      env = bound;
      words = g.words;
      covers = covers g.env h.vs (subst (λ (x : Waiting). Covers e.store e.variables.values.items x.base x.end g.env) k.4 pop.2) h.stand;
      following = omega (arith, following, low, end_is, last_is);
      given = given;
      means =
          ap (resume p gs) (ap (λ t. (evaluate_block p g.words body t e'.frames bound e'.calls).answer) tail ∙ ap (λ d. (evaluate_block p g.words body w.is_tail d bound e'.calls).answer) frames ∙ ap (λ c. (evaluate_block p g.words body w.is_tail w.frames bound c).answer) calls ∙ ap run (sym k.4)) ∙ sym (resume_push p gs g (Gives h.vs e.calls)) ∙ ap (λ l. resume p l (Gives h.vs e.calls)) (sym k.2) ∙ h.means;
    }

pub hand_less : (most b s s' : ℕ) → s' ≡ s + suc b → most + (suc b + s) ≤ most + (0 + s')
hand_less most b s s' e = omega (arith, e)

pub no_items : (ws : List Waiting) → length ws ≡ 0 → ws ≡ []
no_items [] e = refl
no_items (w ∷ ws) e = absurd (omega arith)

-- ---- a match

-- a clause is chosen for the value of the scrutinee
pub chooses_leads : (p : T.Program) (e e' : Evaluation) (s : Store) (x : T.Argument) (cs : T.Clauses) (value : Value) (given : List Value) (b : Bor Block) (a : Answer) → a ≢ Stuck → e'.waiting ≡ e.waiting → e'.calls ≡ e.calls → e'.frames ≡ e.frames → e'.is_tail ≡ e.is_tail → e'.store ≡ s → More e.store s → e'.given.items ≡ [] → e.variables.end ≤ e'.variables.end → KeepsAll s e.variables.values.items s e'.variables.values.items → ((env : Environment) → CoversNow e.store e.variables env → GivesOne (argument_value env x) e.given.items s given) → ((w : Value) → slice_get given 0 ≡ Some w → value ≡ w) → ((env : Environment) (v : Tree) → CoversNow s e.variables env → Stands s value v → Chooses cs v env s e'.variables (Some b)) → Leads p e (λ env words. with_value (argument_value env x) (λ v. evaluate_clauses p words cs v e.is_tail e.frames env e.calls)) a → Leads p e' (λ env words. evaluate_block p words (block b.now) e'.is_tail e'.frames env e'.calls) a
chooses_leads p e e' s x cs value given b a n w c d t st m g l k f first choose h = by (argument_value h.env x) (f h.env h.covers) h.means where
  by : (o : Option Tree) → GivesOne o e.given.items s given → resume p (h.waits).hs (with_value o (λ v. evaluate_clauses p h.words cs v e.is_tail e.frames h.env e.calls)).answer ≡ a → Leads p e' (λ env words. evaluate_block p words (block b.now) e'.is_tail e'.frames env e'.calls) a
  by None z q = absurd (not_stuck p (h.waits).hs a n q)
  by (Some v) z q =
      let covers = kept_all e.store s e.variables.values.items e.variables.values.items e.variables.base e.variables.end h.env (kept_more e.store s e.variables.values.items m) h.covers in
      let value_is : value ≡ z.0 = first z.0 (ap (λ l. slice_get l 0) (z.1 ∙ ap (λ l. l ++ z.0 ∷ []) h.given)) in
      let r = chosen_some cs v h.env s e'.variables b (choose h.env v covers (subst (λ w. Stands s w v) (sym value_is) z.2)) in
      record {
        waits = record {
          hs = (h.waits).hs;
          waiting = (h.waits).waiting ∙ ap (λ x. x.items) (sym w);
          held = held_some e.store e'.store e.variables.values.items e'.variables.values.items 0 (h.waits).hs (λ i u l y. subst (λ s. StandsAt s e'.variables.values.items i u) (sym st) (k i u (kept_more e.store s e.variables.values.items m i u y))) (h.waits).held;
        };
        env = r.0;
        words = h.words;
        covers = subst (λ s. CoversNow s e'.variables r.0) (sym st) r.1;
        following = (let y = h.following in let z : last_end 0 e'.waiting.items ≡ last_end 0 e.waiting.items = ap (λ x. last_end 0 x.items) w in omega (arith, y, z, l));
        given = g;
        means =
            ap (resume p (h.waits).hs) (ap (λ t. (evaluate_block p h.words (block b.now) t e'.frames r.0 e'.calls).answer) t ∙ ap (λ d. (evaluate_block p h.words (block b.now) e.is_tail d r.0 e'.calls).answer) d ∙ ap (λ c. (evaluate_block p h.words (block b.now) e.is_tail e.frames r.0 c).answer) c ∙ ap (λ (r : Run). r.answer) (sym (r.2 p h.words e.is_tail e.frames e.calls))) ∙ q;
      }

-- no clause is chosen
pub chooses_none : (p : T.Program) (e : Evaluation) (s : Store) (vars : Variables) (x : T.Argument) (cs : T.Clauses) (value : Value) (given : List Value) (a : Answer) → a ≢ Stuck → More e.store s → ((env : Environment) → CoversNow e.store e.variables env → GivesOne (argument_value env x) e.given.items s given) → ((w : Value) → slice_get given 0 ≡ Some w → value ≡ w) → ((env : Environment) (v : Tree) → CoversNow s e.variables env → Stands s value v → Chooses cs v env s vars None) → Leads p e (λ env words. with_value (argument_value env x) (λ v. evaluate_clauses p words cs v e.is_tail e.frames env e.calls)) a → ⊥
chooses_none p e s vars x cs value given a n m f first choose h = by (argument_value h.env x) (f h.env h.covers) h.means where
  by : (o : Option Tree) → GivesOne o e.given.items s given → resume p (h.waits).hs (with_value o (λ v. evaluate_clauses p h.words cs v e.is_tail e.frames h.env e.calls)).answer ≡ a → ⊥
  by None z q = not_stuck p (h.waits).hs a n q
  by (Some v) z q =
      let covers = kept_all e.store s e.variables.values.items e.variables.values.items e.variables.base e.variables.end h.env (kept_more e.store s e.variables.values.items m) h.covers in
      let value_is : value ≡ z.0 = first z.0 (ap (λ l. slice_get l 0) (z.1 ∙ ap (λ l. l ++ z.0 ∷ []) h.given)) in
      let r = chosen_none cs v h.env s vars (choose h.env v covers (subst (λ w. Stands s w v) (sym value_is) z.2)) p h.words e.is_tail e.frames e.calls in
      not_stuck p (h.waits).hs a n (ap (λ (r : Run). resume p (h.waits).hs r.answer) (sym r) ∙ q)

-- ---- an operation

int_value : (s : Store) (w : Value) (i : ℤ) → Stands s w (Int i) → w ≡ V.Int i
int_value s w i h = h

plain_stands : (s : Store) (w : Value) (v : Tree) → IsPlain v w → Stands s w v
plain_stands s w (Int i) h = h
plain_stands s w (Node c End) h = h
plain_stands s w (Node c (Further v vs)) h = absurd h

-- the values of the operands, where the operation isn't stuck
pub record Operands (p : T.Program) (e : Evaluation) (o : Operator) (place : Place) (s : Store) (given : List Value) (a : Answer) : Type 0 where
  pub waits : Waits e
  pub more : More e.store s
  pub i : ℤ
  pub j : ℤ
  pub left : slice_get given 0 ≡ Some (V.Int i)
  pub right : slice_get given 1 ≡ Some (V.Int j)
  pub means : resume p waits.hs (operated (operate o i j) place e.calls).answer ≡ a

pub operands : (p : T.Program) (e : Evaluation) (o : Operator) (place : Place) (x y : T.Argument) (s t : Store) (mid given : List Value) (a : Answer) → a ≢ Stuck → More e.store s → More s t → ((env : Environment) → CoversNow e.store e.variables env → GivesOne (argument_value env x) e.given.items s mid) → ((env : Environment) → CoversNow s e.variables env → GivesOne (argument_value env y) mid t given) → Leads p e (λ env words. with_value (argument_value env x) (λ v. with_value (argument_value env y) (λ w. operation o place e.calls v w))) a → Operands p e o place t given a
operands p e o place x y s t mid given a n m m' f g h = by (argument_value h.env x) (argument_value h.env y) (f h.env h.covers) (g h.env covers) h.means where
  covers : CoversNow s e.variables h.env
  covers = kept_all e.store s e.variables.values.items e.variables.values.items e.variables.base e.variables.end h.env (kept_more e.store s e.variables.values.items m) h.covers

  ints : (v w : Tree) → (l : GivesOne (Some v) e.given.items s mid) → (r : GivesOne (Some w) mid t given) → resume p (h.waits).hs (operation o place e.calls v w).answer ≡ a → Operands p e o place t given a
  ints (Node c vs) w l r q = absurd (not_stuck p (h.waits).hs a n q)
  ints (Int i) (Node c vs) l r q = absurd (not_stuck p (h.waits).hs a n q)
  ints (Int i) (Int j) l r q =
      let both : given ≡ l.0 ∷ r.0 ∷ [] = r.1 ∙ ap (λ u. u ++ r.0 ∷ []) (l.1 ∙ ap (λ u. u ++ l.0 ∷ []) h.given) in
      let left : l.0 ≡ V.Int i = l.2 in
      let right : r.0 ≡ V.Int j = r.2 in
      record {
        waits = h.waits;
        more = more_on e.store s t m m';
        i = i;
        j = j;
        left = ap (λ u. slice_get u 0) both ∙ ap Some left;
        right = ap (λ u. slice_get u 1) both ∙ ap Some right;
        means = q;
      }

  by : (u v : Option Tree) → GivesOne u e.given.items s mid → GivesOne v mid t given → resume p (h.waits).hs (with_value u (λ v'. with_value v (λ w. operation o place e.calls v' w))).answer ≡ a → Operands p e o place t given a
  by None v l r q = absurd (not_stuck p (h.waits).hs a n q)
  by (Some u) None l r q = absurd (not_stuck p (h.waits).hs a n q)
  by (Some u) (Some v) l r q = ints u v l r q

pub operation_gives : (p : T.Program) (e e' : Evaluation) (o : Operator) (place : Place) (s : Store) (given : List Value) (w : Value) (a : Answer) (h : Operands p e o place s given a) → IsOutcome (operate o h.i h.j) (Ok w) → e'.waiting ≡ e.waiting → e'.variables ≡ e.variables → e'.calls ≡ e.calls → e'.store ≡ s → e'.given.items ≡ w ∷ [] → Hands p e' (λ vs. Gives vs e'.calls) a
operation_gives p e e' o place s given w a h out wt v c st g = by (operate o h.i h.j) out h.means where
  by : (x : Operated) → IsOutcome x (Ok w) → resume p (h.waits).hs (operated x place e.calls).answer ≡ a → Hands p e' (λ vs. Gives vs e'.calls) a
  by (Fails k) i q = absurd i
  by (Is t) i q = record {
    waits = record {
      hs = (h.waits).hs;
      waiting = (h.waits).waiting ∙ ap (λ x. x.items) (sym wt);
      held = waits_more e e' (h.waits).hs (ap (λ x. x.values.items) v) (subst (More e.store) (sym st) h.more) (h.waits).held;
    };
    vs = Further t End;
    stand = subst (λ l. StandAll e'.store l (Further t End)) (sym g) (plain_stands e'.store w t i, tt);
    means = ap (λ k. resume p (h.waits).hs (Gives (Further t End) k)) c ∙ q;
  }

pub operation_traps : (p : T.Program) (e : Evaluation) (o : Operator) (place : Place) (s : Store) (given : List Value) (kind : TrapKind) (a : Answer) (h : Operands p e o place s given a) → IsOutcome (operate o h.i h.j) (Err kind) → a ≡ Trap kind place.line place.col
operation_traps p e o place s given kind a h out = by (operate o h.i h.j) out h.means where
  by : (x : Operated) → IsOutcome x (Err kind) → resume p (h.waits).hs (operated x place e.calls).answer ≡ a → a ≡ Trap kind place.line place.col
  by (Is t) i q = absurd i
  by (Fails k) i q = sym q ∙ resume_trap p (h.waits).hs (Trap k place.line place.col) (λ h. refl) ∙ ap (λ k. Trap k place.line place.col) (sym i)

-- ---- a block

pub block_last : (p : T.Program) (e : Evaluation) (b : Block) (n : ℕ) (x : T.Expression) (a : Answer) → rest_of b n ≡ T.Last x → Leads p e (λ env words. evaluate_block p words (rest_of b n) e.is_tail e.frames env e.calls) a → Leads p e (λ env words. evaluate p words x e.is_tail e.frames env e.calls) a
block_last p e b n x a q h = leads_as p e _ (λ env words. evaluate p words x e.is_tail e.frames env e.calls) a (λ env w. ap (λ r. evaluate_block p w r e.is_tail e.frames env e.calls) q ∙ evaluate_last p w x e.is_tail e.frames env e.calls) h

pub block_let : (p : T.Program) (e e' : Evaluation) (b : Block) (n : ℕ) (w : Waiting) (x : T.Expression) (a : Answer) → rest_of b n ≡ T.Let w.binders.now x (rest_of w.block.now w.next) → e'.waiting.items ≡ e.waiting.items ++ w ∷ [] → e'.store ≡ e.store → e'.variables ≡ e.variables → e'.given ≡ e.given → e'.calls ≡ e.calls → e'.frames ≡ e.frames → e'.is_tail ≡ false → w.is_tail ≡ e.is_tail → w.frames ≡ e.frames → w.base ≡ e.variables.base → w.end ≡ e.variables.end → Leads p e (λ env words. evaluate_block p words (rest_of b n) e.is_tail e.frames env e.calls) a → Leads p e' (λ env words. evaluate p words x e'.is_tail e'.frames env e'.calls) a
block_let p e e' b n w x a q items st va gi ca fr ta wt wf wb we h =
    let g : Held = record { waiting = w; words = h.words; env = h.env } in
    let hs = (h.waits).hs in
    let ws = e.variables.values.items in
    let low : last_end 0 (map waiting_of hs) ≡ last_end 0 e.waiting.items = ap (last_end 0) (h.waits).waiting in
    let following = h.following in
    let held = held_push e.store ws 0 hs g (h.waits).held (omega (arith, low, following, we)) (subst (λ n. Covers e.store ws n w.end h.env) (sym wb) (subst (λ n. Covers e.store ws e.variables.base n h.env) (sym we) h.covers)) in
    let rest = rest_of w.block.now w.next in
    let go = λ (t : Bool) (d : ℕ). λ (vs : Values) (left : ℕ). evaluate_block p h.words rest t d (bind_binders h.env w.binders.now vs) left in
    let run = evaluate p h.words x false e.frames h.env e.calls in
    let last : last_end 0 e'.waiting.items ≡ w.end = ap (last_end 0) items ∙ last_push 0 e.waiting.items w in
    let vend : e'.variables.end ≡ e.variables.end = ap (λ v. v.end) va in
    record {
      waits = record {
        hs = hs ++ g ∷ [];
        waiting = map-append waiting_of hs (g ∷ []) ∙ ap (λ l. l ++ w ∷ []) (h.waits).waiting ∙ sym items;
        held = subst (λ s. AllHeld s e'.variables.values.items 0 (hs ++ g ∷ [])) (sym st) (subst (λ (v : Variables). AllHeld e.store v.values.items 0 (hs ++ g ∷ [])) (sym va) held);
      };
      env = h.env;
      words = h.words;
      covers = subst (λ s. CoversNow s e'.variables h.env) (sym st) (subst (λ v. CoversNow e.store v h.env) (sym va) h.covers);
      following = omega (arith, last, vend, we);
      given = ap (λ v. v.items) gi ∙ h.given;
      means =
          ap (λ t. resume p (hs ++ g ∷ []) (evaluate p h.words x t e'.frames h.env e'.calls).answer) ta ∙ ap (λ d. resume p (hs ++ g ∷ []) (evaluate p h.words x false d h.env e'.calls).answer) fr ∙ ap (λ k. resume p (hs ++ g ∷ []) (evaluate p h.words x false e.frames h.env k).answer) ca ∙ resume_push p hs g run.answer ∙ ap (resume p hs) (sym (let_answer p g run (go w.is_tail w.frames) (λ vs left. refl))) ∙ ap (λ t. resume p hs (then_with run (go t w.frames)).answer) wt ∙ ap (λ d. resume p hs (then_with run (go e.is_tail d)).answer) wf ∙ ap (λ (r : Run). resume p hs r.answer) (sym (ap (λ r. evaluate_block p h.words r e.is_tail e.frames h.env e.calls) q ∙ evaluate_let p h.words w.binders.now x rest e.is_tail e.frames h.env e.calls)) ∙ h.means;
    }

pub let_less : (most x r s s' : ℕ) → s' ≡ s + suc r → most + (suc x + s') ≤ most + (suc (suc (x + r)) + s)
let_less most x r s s' e = omega (arith, e)

-- ---- a call

abbrev pub call_run : T.Program → Evaluation → ℕ → ℕ → Values → Run
call_run p e g words vs = counted e.calls (λ left. in_frame e.is_tail words e.frames (λ free. instance_meaning p free g vs left))

pub call_out : (p : T.Program) (e : Evaluation) (g : ℕ) (a : Answer) → e.calls ≡ 0 → LeadsIn p e g a → a ≡ Out
call_out p e g a z h = sym h.1.means ∙ ap (λ k. resume p h.1.waits.hs (counted k (λ left. in_frame e.is_tail h.0 e.frames (λ free. instance_meaning p free g h.1.vs left))).answer) z ∙ resume_trap p h.1.waits.hs Out (λ h. refl)

counted_some : (k left : ℕ) (go : ℕ → Run) → k ≡ suc left → counted k go ≡ go left
counted_some k left go e = ap (λ k. counted k go) e

pub call_deep : (p : T.Program) (e : Evaluation) (g left : ℕ) (a : Answer) → e.calls ≡ suc left → ((words : ℕ) (go : ℕ → Run) → in_frame e.is_tail words e.frames go ≡ ends Deep) → LeadsIn p e g a → a ≡ Deep
call_deep p e g left a z f h = sym h.1.means ∙ ap (λ (r : Run). resume p h.1.waits.hs r.answer) (counted_some e.calls left (λ left. in_frame e.is_tail h.0 e.frames (λ free. instance_meaning p free g h.1.vs left)) z ∙ f h.0 (λ free. instance_meaning p free g h.1.vs left)) ∙ resume_trap p h.1.waits.hs Deep (λ h. refl)

-- a call that is made is its callee's body
pub call_body : (p : T.Program) (e : Evaluation) (g left free : ℕ) (a : Answer) → e.calls ≡ suc left → ((words : ℕ) (go : ℕ → Run) → (in_frame e.is_tail words e.frames go).answer ≡ (go free).answer) → (h : LeadsIn p e g a) → resume p h.1.waits.hs (body_meaning p free (slice_get p.instances g) h.1.vs left).answer ≡ a
call_body p e g left free a z f h = ap (resume p h.1.waits.hs) (sym (ap (λ (r : Run). r.answer) (counted_some e.calls left (λ left. in_frame e.is_tail h.0 e.frames (λ free. instance_meaning p free g h.1.vs left)) z) ∙ f h.0 (λ free. instance_meaning p free g h.1.vs left))) ∙ h.1.means

pub call_none : (p : T.Program) (e : Evaluation) (g left free : ℕ) (a : Answer) → a ≢ Stuck → e.calls ≡ suc left → ((words : ℕ) (go : ℕ → Run) → (in_frame e.is_tail words e.frames go).answer ≡ (go free).answer) → slice_get p.instances g ≡ None → LeadsIn p e g a → ⊥
call_none p e g left free a n z f o h = not_stuck p h.1.waits.hs a n (ap (λ o. resume p h.1.waits.hs (body_meaning p free o h.1.vs left).answer) (sym o) ∙ call_body p e g left free a z f h)

pub call_leads : (p : T.Program) (e e' : Evaluation) (g left free : ℕ) (d : T.Instance) (b : Block) (a : Answer) → e.calls ≡ suc left → ((words : ℕ) (go : ℕ → Run) → (in_frame e.is_tail words e.frames go).answer ≡ (go free).answer) → slice_get p.instances g ≡ Some d → d.body ≡ block b → e'.waiting ≡ e.waiting → e'.calls ≡ left → e'.frames ≡ free → e'.is_tail ≡ true → e'.given.items ≡ [] → last_end 0 e.waiting.items ≤ e'.variables.end → Keeps (last_end 0 e.waiting.items) e.store e.variables.values.items e'.store e'.variables.values.items → ((vs : Values) → StandAll e.store e.given.items vs → CoversNow e'.store e'.variables (bind_binders nothing_bound d.binders vs)) → LeadsIn p e g a → Leads p e' (λ env words. evaluate_block p words (rest_of b 0) e'.is_tail e'.frames env e'.calls) a
call_leads p e e' g left free d b a z f o body wt ca fr ta gi end keeps covers h =
    let hs = h.1.waits.hs in
    let low : last_end 0 (map waiting_of hs) ≡ last_end 0 e.waiting.items = ap (last_end 0) h.1.waits.waiting in
    let env = bind_binders nothing_bound d.binders h.1.vs in
    let words = frame_words d in
    let same : last_end 0 e'.waiting.items ≡ last_end 0 e.waiting.items = ap (λ x. last_end 0 x.items) wt in
    record {
      waits = record {
        hs = hs;
        waiting = h.1.waits.waiting ∙ ap (λ x. x.items) (sym wt);
        held = held_some e.store e'.store e.variables.values.items e'.variables.values.items 0 hs (λ i t l s. keeps i t (omega (arith, l, low)) s) h.1.waits.held;
      };
      env = env;
      words = words;
      covers = covers h.1.vs h.1.stand;
      following = omega (arith, end, same);
      given = gi;
      means =
          ap (resume p hs) (ap (λ r. (evaluate_block p words r e'.is_tail e'.frames env e'.calls).answer) (rest_start b ∙ sym body) ∙ ap (λ t. (evaluate_block p words d.body t e'.frames env e'.calls).answer) ta ∙ ap (λ q. (evaluate_block p words d.body true q env e'.calls).answer) fr ∙ ap (λ k. (evaluate_block p words d.body true free env k).answer) ca) ∙ ap (λ o. resume p hs (body_meaning p free o h.1.vs left).answer) (sym o) ∙ call_body p e g left free a z f h;
    }

-- ---- what calls answer

pub empty_end : (ws : List Waiting) (b : Bool) → b ≡ (length ws == 0) → b ≡ true → 0 ≡ last_end 0 ws
empty_end ws b e f = sym (ap (last_end 0) (no_items ws (eqb-true (length ws) 0 (sym e ∙ f))) ∙ last_none 0)

pub some_items : (ws : List Waiting) (b : Bool) → b ≡ (length ws == 0) → b ≡ false → ws ≡ [] → ⊥
some_items [] b e f g = cc
some_items (w ∷ ws) b e f g = cc

pub on_three : {A E P P' P'' Q : Type 0} (r : Result A E) → (P → P' → P'' → Q) → OnOk r P → OnOk r P' → OnOk r P'' → OnOk r Q
on_three (Ok a) f h k l = f h k l
on_three (Err e) f h k l = tt

pub moved_covers : (s t : Store) (ws us : List Value) (base end base' end' : ℕ) (env : Environment) → base' ≡ base → end' ≡ end → KeepsAll s ws t us → Covers s ws base end env → Covers t us base' end' env
moved_covers s t ws us base end base' end' env f g k h = subst (λ n. Covers t us n end' env) (sym f) (subst (λ n. Covers t us base n env) (sym g) (kept_all s t ws us base end env k h))

pub keeps_through : (n m : ℕ) (s t : Store) (ws us vs : List Value) → m ≡ n → Keeps n s ws s us → KeepsAll s us t vs → Keeps m s ws t vs
keeps_through n m s t ws us vs e k l i v b h = l i v (k i v (omega (arith, b, e)) h)

pub all_through : (s t : Store) (us vs zs : List Value) → KeepsAll s us s vs → KeepsAll s vs t zs → KeepsAll s us t zs
all_through s t us vs zs k l i v h = l i v (k i v h)

-- ---- the entry

none_waits : (s : Store) (ws : List Value) → AllHeld s ws 0 []
unfolding AllHeld
none_waits s ws = tt

pub entry_leads : (p : T.Program) (e : Evaluation) (f : ℕ) (vs : Values) (a : Answer) → e.waiting.items ≡ [] → e.is_tail ≡ true → StandAll e.store e.given.items vs → a ≡ (flat_meaning p f vs e.calls e.frames).answer → LeadsIn p e f a
entry_leads p e f vs a w t h m = (
  0,
  record {
    waits = record { hs = []; waiting = sym w; held = none_waits e.store e.variables.values.items };
    vs = vs;
    stand = h;
    means = resume_none p (call_run p e f 0 vs).answer ∙ ap (λ t. (counted e.calls (λ left. in_frame t 0 e.frames (λ free. instance_meaning p free f vs left))).answer) t ∙ ap (λ (r : Run). r.answer) (sym (meaning_entry p f vs e.calls e.frames)) ∙ sym m;
  },
)

pub step_less : (most calls calls' x y : ℕ) (ws ws' : List Waiting) (z : ℕ) → z ≡ suc y → (1 + most) * calls' + (x + waiting_size ws') ≤ (1 + most) * calls + (y + waiting_size ws) → (1 + most) * calls' + (x + waiting_size ws') < (1 + most) * calls + (z + waiting_size ws)
step_less most calls calls' x y ws ws' z e h = omega (arith, e, h)
