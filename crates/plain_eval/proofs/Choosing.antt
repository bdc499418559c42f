-- Patterns and clauses.
use Rattle.std.proofs.Common.{◌≡◌, ◌≢◌, ◌⊎◌, inl, inr, ℕ, suc, ◌==◌, Bool, true, false, List, [], ◌∷◌, ◌++◌, length, Option, Some, None, refl, sym, ap, ◌∙◌, subst, arith}
use Rattle.std.specs.Prelude.{if◌then◌else◌, ℤ, Result, Ok, Err, IfOk}
use Rattle.std.proofs.Common.{Vec, Global}
use Rattle.std.specs.Borrow.{Bor}
use Rattle.fip_trees.specs.fip_language.Values.{Value as Tree, Int, Node, Values, End, More as Further}
use Rattle.fip_trees.specs.fip_language.Matching.{Binding, both}
use Rattle.fip_trees.specs.fip_language.Meaning.{Environment, bind, bind_matched}
use Rattle.fip_trees.specs.declared.program.Pattern.{Pattern as CodePattern}
use Rattle.fip_trees.specs.declared.program.Block.{Block as CodeBlock}
use Rattle.fip_trees.specs.Tree.{Pattern, Block, Clauses, MoreClauses}
use Rattle.fip_trees.specs.TreeView.{Case, pattern, patterns, block}
use Rattle.fip_trees.specs.fip_language.declared.Place.{Place}
use Rattle.fip_trees.specs.declared.program.Pattern.TheVariants as PV
use Rattle.fip_trees.specs.Tree.{Name, ConstructorPattern, BinderPattern}
use Rattle.fip_trees.specs.declared.program.Binder.{Binder}
use Rattle.fip_trees.specs.declared.program.Pattern.TheOpen as PO
use Rattle.fip_trees.specs.declared.program.Pattern.TheFolds.{fold-roll-Pattern}
use Rattle.fip_trees.specs.TreeView.{pattern_step}
use Rattle.fip_trees.proofs.TreeViews.{pattern_constructor}
use Rattle.instance_semantics.specs.Matching.{matching, matching_all}
use Rattle.plain_rows.specs.declared.store.Value.{Value}
use Rattle.plain_rows.specs.declared.store.Value.TheVariants as V
use Rattle.plain_rows.specs.declared.store.Store.{Store}
use Rattle.plain_rows.specs.Rows.{count_rows, IsRow, HoldAll, Stands, StandAll}
use Rattle.plain_rows.proofs.Standing.{wide_all}
use Rattle.plain_eval.specs.declared.variables.Variables.{Variables}
use Rattle.plain_eval.specs.Slots.{CoversNow}
use Rattle.plain_eval.specs.Choosing.{Matches, Tries, Chooses, by_match}

-- ---- the constructor and the fields of a value

pub row_fields : (s : Store) (r c : ℕ) (vs : Values) → Stands s (V.Row r) (Node c vs) → (xs : List Value) × IsRow s r c xs × StandAll s xs vs
row_fields s r c End h = cc
row_fields s r c (Further v vs) h =
    let same : h.0 ≡ r = let z = h.2 in cc in
    (h.1, subst (λ r. IsRow s r c h.1) same h.4, wide_all s h.0 (count_rows s) h.1 (Further v vs) (let l = h.3 in omega (arith, l)) h.5)

pub bare_node : (s : Store) (n c : ℕ) (vs : Values) → Stands s (V.Bare n) (Node c vs) → (n ≡ c) × (vs ≡ End)
bare_node s n c End h = (let z = h in cc, refl)
bare_node s n c (Further v vs) h = let z = h.2 in cc

pub other_node : (s : Store) (w : Value) (c : ℕ) (vs : Values) → Stands s w (Node c vs) → ((n : ℕ) → w ≡ V.Bare n → ⊥) → ((r : ℕ) → w ≡ V.Row r → ⊥) → ⊥
other_node s w c End h f g = f c h
other_node s w c (Further v vs) h f g = g h.0 h.2

-- ---- many patterns

bind_append : (env : Environment) (bs cs : List Binding) → bind_matched env (bs ++ cs) ≡ bind_matched (bind_matched env bs) cs
bind_append env [] cs = refl
bind_append env (b ∷ bs) cs = bind_append (bind env b.binder b.value) bs cs

-- the first matched, and the others did or didn't
pub both_match : (o p : Option (List Binding)) (env : Environment) (s : Store) (vars vars' : Variables) (b : Bool) → Matches o env s vars true → ((env' : Environment) → CoversNow s vars env' → Matches p env' s vars' b) → Matches (both o p) env s vars' b
both_match None p env s vars vars' b h f = cc
both_match (Some bs) None env s vars vars' b h f = f (bind_matched env bs) h.1
both_match (Some bs) (Some cs) env s vars vars' b h f = let k = f (bind_matched env bs) h.1 in (k.0, subst (λ e. CoversNow s vars' e) (sym (bind_append env bs cs)) k.1)

pub first_fails : (o p : Option (List Binding)) (env : Environment) (s : Store) (vars vars' : Variables) → Matches o env s vars false → Matches (both o p) env s vars' false
first_fails None p env s vars vars' h = refl
first_fails (Some bs) p env s vars vars' h = cc

both_none : (o : Option (List Binding)) → both o None ≡ None
both_none None = refl
both_none (Some bs) = refl

pub lengths_differ : (ps : List CodePattern) (s : Store) (n : ℕ) (ws : List Value) (vs : Values) → length ps ≢ length ws → HoldAll s n ws vs → matching_all (patterns ps) vs ≡ None
lengths_differ [] s n [] End d h = absurd (d refl)
lengths_differ [] s n [] (Further v vs) d h = absurd h
lengths_differ [] s n (w ∷ ws) End d h = absurd h
lengths_differ [] s n (w ∷ ws) (Further v vs) d h = refl
lengths_differ (p ∷ ps) s n ws End d h = refl
lengths_differ (p ∷ ps) s n [] (Further v vs) d h = absurd h
lengths_differ (p ∷ ps) s n (w ∷ ws) (Further v vs) d h = ap (both (matching (pattern p) v)) (lengths_differ ps s n ws vs (λ e. d (ap suc e)) h.1) ∙ both_none (matching (pattern p) v)

-- what is left to match, and what comes of all once it has come of that
pub record AreLeft (s : Store) (all ps : List CodePattern) (ws : List Value) (vs : Values) (env : Environment) (vars : Variables) : Type 0 where
  pub now : Environment
  pub trees : Values
  pub covers : CoversNow s vars now
  pub stand : StandAll s ws trees
  pub same : length ps ≡ length ws
  pub then' : (b : Bool) (vars' : Variables) → Matches (matching_all (patterns ps) trees) now s vars' b → Matches (matching_all (patterns all) vs) env s vars' b

pub left_matched : (s : Store) (all ps : List CodePattern) (p : CodePattern) (ws : List Value) (w : Value) (vs : Values) (env : Environment) (vars vars' : Variables) → AreLeft s all (p ∷ ps) (w ∷ ws) vs env vars → ((env : Environment) (v : Tree) → CoversNow s vars env → Stands s w v → Matches (matching (pattern p) v) env s vars' true) → AreLeft s all ps ws vs env vars'
left_matched s all ps p ws w vs env vars vars' h f = by h.trees h.stand h.then' where
  by : (us : Values) → StandAll s (w ∷ ws) us → ((b : Bool) (vars' : Variables) → Matches (matching_all (patterns (p ∷ ps)) us) h.now s vars' b → Matches (matching_all (patterns all) vs) env s vars' b) → AreLeft s all ps ws vs env vars'
  by End a t = absurd a
  by (Further u us) a t = opt (matching (pattern p) u) refl (f h.now u h.covers a.0) where
    opt : (o : Option (List Binding)) → matching (pattern p) u ≡ o → Matches o h.now s vars' true → AreLeft s all ps ws vs env vars'
    opt None e m = cc
    opt (Some bs) e m = record {
      now = bind_matched h.now bs;
      trees = us;
      covers = m.1;
      stand = a.1;
      same = (let z = h.same in omega (arith, z));
      then' = λ b vars'' k. t b vars'' (subst (λ o. Matches (both o (matching_all (patterns ps) us)) h.now s vars'' b) (sym e) (after (matching_all (patterns ps) us) b vars'' k));
    } where
      after : (q : Option (List Binding)) (b : Bool) (vars'' : Variables) → Matches q (bind_matched h.now bs) s vars'' b → Matches (both (Some bs) q) h.now s vars'' b
      after None b vars'' k = k
      after (Some cs) b vars'' k = (k.0, subst (λ e. CoversNow s vars'' e) (sym (bind_append h.now bs cs)) k.1)

pub left_fails : (s : Store) (all ps : List CodePattern) (p : CodePattern) (ws : List Value) (w : Value) (vs : Values) (env : Environment) (vars vars' : Variables) → AreLeft s all (p ∷ ps) (w ∷ ws) vs env vars → ((env : Environment) (v : Tree) → CoversNow s vars env → Stands s w v → Matches (matching (pattern p) v) env s vars' false) → Matches (matching_all (patterns all) vs) env s vars' false
left_fails s all ps p ws w vs env vars vars' h f = by h.trees h.stand h.then' where
  by : (us : Values) → StandAll s (w ∷ ws) us → ((b : Bool) (vars' : Variables) → Matches (matching_all (patterns (p ∷ ps)) us) h.now s vars' b → Matches (matching_all (patterns all) vs) env s vars' b) → Matches (matching_all (patterns all) vs) env s vars' false
  by End a t = absurd a
  by (Further u us) a t = t false vars' (first_fails (matching (pattern p) u) (matching_all (patterns ps) us) h.now s vars' vars' (f h.now u h.covers a.0))

pub left_none : (s : Store) (all ps : List CodePattern) (ws : List Value) (vs : Values) (env : Environment) (vars : Variables) → AreLeft s all ps ws vs env vars → (length ps ≡ 0) ⊎ (length ws ≡ 0) → Matches (matching_all (patterns all) vs) env s vars true
left_none s all ps ws vs env vars h o = by ps ws h.trees h.stand h.same h.then' o where
  by : (ps : List CodePattern) (ws : List Value) (us : Values) → StandAll s ws us → length ps ≡ length ws → ((b : Bool) (vars' : Variables) → Matches (matching_all (patterns ps) us) h.now s vars' b → Matches (matching_all (patterns all) vs) env s vars' b) → (length ps ≡ 0) ⊎ (length ws ≡ 0) → Matches (matching_all (patterns all) vs) env s vars true
  by [] [] End a n t o = t true vars (refl, h.covers)
  by [] [] (Further u us) a n t o = absurd a
  by [] (w ∷ ws) us a n t o = absurd (omega arith)
  by (p ∷ ps) [] us a n t o = absurd (omega arith)
  by (p ∷ ps) (w ∷ ws) us a n t (inl e) = absurd (omega arith)
  by (p ∷ ps) (w ∷ ws) us a n t (inr e) = absurd (omega arith)

-- ---- clauses

abbrev pub Choice : Option (List Binding) → Clauses → Block → Environment → Tree → Store → Variables → Option (Bor CodeBlock) → Type 0
Choice o cs body env v s vars b = by_match o (λ bs. Tries (Some bs) body env s vars b) (Chooses cs v env s vars b)

pub tried_some : (q : Pattern) (body : Block) (cs : Clauses) (env : Environment) (v : Tree) (s : Store) (vars : Variables) (b : Bor CodeBlock) → Tries (matching q v) body env s vars (Some b) → Chooses (MoreClauses q body cs) v env s vars (Some b)
tried_some q body cs env v s vars b h = by (matching q v) refl h where
  by : (o : Option (List Binding)) → matching q v ≡ o → Tries o body env s vars (Some b) → Chooses (MoreClauses q body cs) v env s vars (Some b)
  by None e t = let z = t.0 in cc
  by (Some bs) e t = subst (λ o. Choice o cs body env v s vars (Some b)) (sym e) t

-- the clause doesn't match, and the variables are those of before
pub tried_none : (q : Pattern) (body : Block) (cs : Clauses) (env : Environment) (v : Tree) (s : Store) (vars : Variables) → Tries (matching q v) body env s vars None → CoversNow s vars env × ((vars' : Variables) (o : Option (Bor CodeBlock)) → Chooses cs v env s vars' o → Chooses (MoreClauses q body cs) v env s vars' o)
tried_none q body cs env v s vars h = by (matching q v) refl h where
  by : (o : Option (List Binding)) → matching q v ≡ o → Tries o body env s vars None → CoversNow s vars env × ((vars' : Variables) (o : Option (Bor CodeBlock)) → Chooses cs v env s vars' o → Chooses (MoreClauses q body cs) v env s vars' o)
  by None e t = (t.1, λ vars' o k. subst (λ p. Choice p cs body env v s vars' o) (sym e) k)
  by (Some bs) e t = let z = t.1 in cc

-- whether the pattern matched
pub tried : (o : Option (List Binding)) (body : Block) (env : Environment) (s : Store) (vars vars' : Variables) (b : Bor CodeBlock) → block b.now ≡ body → Matches o env s vars true → Tries o body env s vars (Some b)
tried None body env s vars vars' b e h = cc
tried (Some bs) body env s vars vars' b e h = (b, refl, e, h.1)

pub not_tried : (o : Option (List Binding)) (body : Block) (env : Environment) (s : Store) (vars vars' : Variables) → Matches o env s vars false → CoversNow s vars' env → Tries o body env s vars' None
not_tried None body env s vars vars' h k = (refl, k)
not_tried (Some bs) body env s vars vars' h k = cc

pub tried_case : (k : Case) (q : Pattern) (body : Block) (env : Environment) (v : Tree) (s : Store) (vars : Variables) (b : Bor CodeBlock) → k ≡ record { pattern = q; body = body } → block b.now ≡ body → Matches (matching q v) env s vars true → Tries (matching k.pattern v) k.body env s vars (Some b)
tried_case k q body env v s vars b e f h = subst (λ (k : Case). Tries (matching k.pattern v) k.body env s vars (Some b)) (sym e) (tried (matching q v) body env s vars vars b f h)

-- ---- one pattern

pub node_result : {E : Type 0} (s : Store) (old new : Variables) (value : Value) (w : CodePattern) (t d k : ℕ) (n : Name) (p : Place) (xs : Vec CodePattern Global) (ps : List CodePattern) (fields : List Value) (tagged : Bool) (r : Result Bool E) → w ≡ PV.Constructor t d k n p xs → ps ≡ xs.items → tagged ≡ true → ((i : ℤ) → Stands s value (Int i) → tagged ≡ false) → ((c : ℕ) (vs : Values) → Stands s value (Node c vs) → tagged ≡ (k == c)) → ((c : ℕ) (vs : Values) → Stands s value (Node c vs) → StandAll s fields vs) → IfOk r (λ b. (env : Environment) (vs : Values) → CoversNow s old env → StandAll s fields vs → Matches (matching_all (patterns ps) vs) env s new b) → IfOk r (λ b. (env : Environment) (v : Tree) → CoversNow s old env → Stands s value v → Matches (matching (pattern w) v) env s new b)
node_result s old new value w t d k n p xs ps fields tagged (Err x) e f g int node all h = tt
node_result s old new value w t d k n p xs ps fields tagged (Ok b) e f g int node all h = λ env v a m. by env v a m where
  view : pattern w ≡ ConstructorPattern t d k n p (patterns ps)
  view = ap pattern e ∙ pattern_constructor t d k n p xs ∙ ap (λ l. ConstructorPattern t d k n p (patterns l)) (sym f)

  by : (env : Environment) (v : Tree) → CoversNow s old env → Stands s value v → Matches (matching (pattern w) v) env s new b
  by env (Int i) a m = let y = int i m in cc
  by env (Node c vs) a m =
      let y : (k == c) ≡ true = sym (node c vs m) ∙ g in
      subst (λ q. Matches (matching q (Node c vs)) env s new b) (sym view) (subst (λ (z : Bool). Matches (if z then matching_all (patterns ps) vs else None) env s new b) (sym y) (h env vs a (all c vs m)))

pub left_init : (s : Store) (all ps : List CodePattern) (us ws : List Value) (vs : Values) (env : Environment) (vars : Variables) → ps ≡ all → us ≡ ws → length all ≡ length ws → CoversNow s vars env → StandAll s ws vs → AreLeft s all ps us vs env vars
left_init s all ps us ws vs env vars e f n h a = record {
  now = env;
  trees = vs;
  covers = h;
  stand = subst (λ l. StandAll s l vs) (sym f) a;
  same = ap length e ∙ n ∙ sym (ap length f);
  then' = λ b vars' k. subst (λ l. Matches (matching_all (patterns l) vs) env s vars' b) e k;
}

pub binder_view : (b : Binder) → pattern (PV.Binder b) ≡ BinderPattern b
binder_view b = ap pattern (sym (PV.rolls-Binder b)) ∙ fold-roll-Pattern Pattern pattern_step (PO.Binder b)
