use Rattle.std.proofs.Common.{rules, ◌≡◌, ◌∙◌, refl, sym, ap, List, map}
use Rattle.fip_trees.specs.TreeView.{binding, block, block_of, expression, clause, clauses}
use Rattle.fip_trees.specs.declared.program.Block.{Block, out-Block}
use Rattle.fip_trees.specs.declared.program.Binding.{Binding, out-Binding}
use Rattle.fip_trees.proofs.TreeViews.{block_is}
use Rattle.type_check.proofs.Halves.{clauses_step, clauses_noted, clauses_done, block_step, block_found, block_noted}
use Rattle.type_check.proofs.Scopes.{keeping}
use Rattle.std.proofs.Common.{ℕ, ◌++◌, Option, None, Bool, true, get_or, subst, append_assoc, Vec, Global}
use Rattle.std.specs.Vec.{with_items}
use Rattle.std.proofs.lemmas.List.{with_items_is}
use Rattle.fip_language.specs.declared.Place.{Place}
use Rattle.fip_trees.specs.declared.program.Binder.{Binder}
use Rattle.type_check.specs.Found.{slot, wanted_next}
use Rattle.type_check.specs.Binders.{all_annotated, annotations}
use Rattle.type_check.specs.Bound.{bound_faults}
use Rattle.fip_trees.specs.Least.{after}
use Rattle.fip_trees.specs.Tree as T
use Rattle.fip_trees.specs.TreeView.{argument, pattern, Case, BoundPart, is_destructive}
use Rattle.fip_trees.specs.declared.least.Violation.{Violation}
use Rattle.fip_trees.specs.declared.program.Clause.{Clause, out-Clause}
use Rattle.fip_trees.proofs.Leasts.{after-append}
use Rattle.fip_trees.proofs.TreeViews.{clause_body, block_last, rolled_bindings, binding_is, clause_is, block_made, expression_match}
use Rattle.type_check.specs.World.{World}
use Rattle.type_check.specs.Scope.{Scope, Keeps}
use Rattle.type_check.specs.Typing.{bound_by}
use Rattle.type_check.specs.Faults.{found_argument, found, found_block, argument_faults, pattern_faults, faults, block_faults, binders_faults, clauses_faults, fill_argument, fill_pattern, fill, fill_block, fill_clauses}
use Rattle.type_check.proofs.Halves.{take_front, Filled_case, case_faults, block_done, left_none}
use Rattle.type_check.proofs.Scopes.{keeps_more, keeps_trans}
use Rattle.type_check.proofs.expressions.+expression.Goals as goal

block_first : (d : Block) (xs : List Binding) → xs ≡ (out-Block d).bindings.items → block d ≡ block_of (map binding xs) (expression (out-Block d).last)
block_first d xs e = block_is d ∙ sym (ap (λ q. block_of (map binding q) (expression (out-Block d).last)) e)

clause_filled : (w : World) (t : Option ℕ) (ts : List (Option ℕ)) (c d : Case) (s r : Scope) → s ≡ r → c.pattern ≡ fill_pattern w t d.pattern → c.body ≡ fill_block w (s ++ bound_by w t d.pattern) true ts d.body → Filled_case w r t ts c d
clause_filled w t ts c d s r e h g = (h, g ∙ ap (λ s. fill_block w (s ++ bound_by w t d.pattern) true ts d.body) e)

-- one clause
clause_faults : (w : World) (k : ℕ) (s r : Scope) (t : Option ℕ) (b : Bool) (ts : List (Option ℕ)) (c : Case) (q : T.Pattern) (body : T.Block) (l m n : Option Violation) → c ≡ record { pattern = q; body = body } → r ≡ s ++ bound_by w t q → m ≡ after l (pattern_faults w k t q) → n ≡ after m (block_faults w k r b ts body) → n ≡ after l (case_faults w k s t b ts c)
clause_faults w k s r t b ts c q body l m n e f g h =
    h ∙ ap (λ r. after m (block_faults w k r b ts body)) f
    ∙ ap (λ m. after m (block_faults w k (s ++ bound_by w t q) b ts body)) g
    ∙ sym (after-append l (pattern_faults w k t q) (block_faults w k (s ++ bound_by w t q) b ts body))
    ∙ sym (ap (λ c. after l (case_faults w k s t b ts c)) e)

-- a let
binding_faults : (w : World) (k : ℕ) (s : Scope) (d : BoundPart) (bs : List Binder) (e : T.Expression) (b : Bool) (ts fs : List (Option ℕ)) (l m n : Option Violation) → d ≡ record { binders = bs; bound = e } → b ≡ all_annotated bs → ts ≡ annotations bs → m ≡ after l (faults w k s b ts e) → fs ≡ found w s b ts e → n ≡ after m (binders_faults k b bs fs) → n ≡ after l (bound_faults w k s d)
binding_faults w k s d bs e b ts fs l m n h1 h2 h3 h4 h5 h6 =
    let x = after-append l (faults w k s (all_annotated bs) (annotations bs) e) (binders_faults k (all_annotated bs) bs (found w s (all_annotated bs) (annotations bs) e)) in
    let y : n ≡ after l (faults w k s (all_annotated bs) (annotations bs) e ++ binders_faults k (all_annotated bs) bs (found w s (all_annotated bs) (annotations bs) e)) = cc in
    y ∙ sym (ap (λ d. after l (bound_faults w k s d)) h1)

match_tree : (w : World) (s r : Scope) (b : Bool) (ts : List (Option ℕ)) (kd kd' : Bool) (u u' : ℕ) (p p' : Place) (a a' : T.Argument) (c c' : Case) (cs cs' : T.Clauses) (t : Option ℕ) (types next : List (Option ℕ)) →
    kd' ≡ kd → p' ≡ p → t ≡ found_argument w s None a → u' ≡ slot t → a' ≡ fill_argument w None a → c'.pattern ≡ fill_pattern w t c.pattern → c'.body ≡ fill_block w (s ++ bound_by w t c.pattern) b ts c.body → types ≡ found_block w (s ++ bound_by w t c.pattern) b ts c.body → next ≡ wanted_next b ts types → r ≡ s → cs' ≡ fill_clauses w r t next cs →
    T.Match kd' u' p' a' c'.pattern c'.body cs' ≡ fill w s b ts (T.Match kd u p a c.pattern c.body cs)
match_tree w s r b ts kd kd' u u' p p' a a' c c' cs cs' t types next h1 h2 h3 h4 h5 h6 h7 h8 h9 h10 h11 = cc

-- what a match keeps
untouched : (kd kd' : Bool) (u : ℕ) (p p' : Place) (a : T.Argument) (c : Case) (cs cs' : T.Clauses) → kd' ≡ kd → p' ≡ p → cs' ≡ cs → T.Match kd' u p' a c.pattern c.body cs' ≡ T.Match kd u p a c.pattern c.body cs
untouched kd kd' u p p' a c cs cs' h g f = cc

match_noted : (w : World) (k : ℕ) (s r : Scope) (b : Bool) (ts : List (Option ℕ)) (kd : Bool) (u : ℕ) (p : Place) (a : T.Argument) (c : Case) (cs : T.Clauses) (t : Option ℕ) (types next : List (Option ℕ)) (l m n o : Option Violation) →
    t ≡ found_argument w s None a → types ≡ found_block w (s ++ bound_by w t c.pattern) b ts c.body → next ≡ wanted_next b ts types → r ≡ s → m ≡ after l (argument_faults w k s None a) → n ≡ after m (case_faults w k s t b ts c) → o ≡ after n (clauses_faults w k r t next cs) →
    o ≡ after l (faults w k s b ts (T.Match kd u p a c.pattern c.body cs))
match_noted w k s r b ts kd u p a c cs t types next l m n o h1 h2 h3 h4 h5 h6 h7 =
    let q = found_argument w s None a in
    let g = s ++ bound_by w q c.pattern in
    let rest = clauses_faults w k s q (wanted_next b ts (found_block w g b ts c.body)) cs in
    let x = after-append l (argument_faults w k s None a) (pattern_faults w k q c.pattern ++ (block_faults w k g b ts c.body ++ rest)) in
    let y = sym (append_assoc (pattern_faults w k q c.pattern) (block_faults w k g b ts c.body) rest) in
    let z = after-append m (case_faults w k s q b ts c) rest in cc

keeps_on : (s r q e : Scope) → Keeps s r → q ≡ r ++ e → Keeps s q
keeps_on s r q e h g = subst (Keeps s) (sym g) (keeps_trans s r (r ++ e) h (keeps_more r e))

pub check_clauses-loop-clause-preserved : goal.check_clauses-loop-clause-preserved
check_clauses-loop-clause-preserved t c = record {
  unvisited = search rules;
  scope = search rules;
  tree = clauses_step c.args.walk.now.tables.now c.args.scope.now c.args.ty c.args.types.now c.loop-clause.clauses c.loop-clause.clause-index c.check_clause.new.clause c.clause-item.result (search rules) (clause_filled c.args.walk.now.tables.now c.args.ty c.args.types.now (clause c.check_clause.new.clause) (clause (get_or c.loop-clause.clauses c.loop-clause.clause-index c.clause-item.result)) c.loop-clause.scope c.args.scope.now c.loop-clause.invariant.scope c.in_ok-check_clause.ensures.pattern c.in_ok-check_clause.ensures.body) ∙ c.loop-clause.invariant.tree;
  faults = clauses_noted c.args.walk.now.tables.now c.args.walk.now.instance c.args.scope.now c.args.ty c.args.types.now c.loop-clause.clauses c.loop-clause.clause-index c.check_clause.new.clause c.clause-item.result c.loop-clause.least c.check_clause.new.least (search rules) (c.in_ok-check_clause.ensures.faults ∙ ap (λ s. after c.loop-clause.least (case_faults c.args.walk.now.tables.now c.args.walk.now.instance s c.args.ty true c.args.types.now (clause (get_or c.loop-clause.clauses c.loop-clause.clause-index c.clause-item.result)))) c.loop-clause.invariant.scope) ∙ c.loop-clause.invariant.faults;
}

pub check_clauses-returns-clause-tree : goal.check_clauses-returns-clause-tree
check_clauses-returns-clause-tree t c = sym (clauses_done c.args.walk.now.tables.now c.args.scope.now c.args.ty c.args.types.now c.loop-clause.clauses c.loop-clause.clause-index (search rules)) ∙ c.loop-clause.invariant.tree

pub check_block-loop-binding-init : goal.check_block-loop-binding-init
check_block-loop-binding-init t c = record {
  unvisited = search rules;
  kept = search (rules, keeping);
  tree = sym (ap (fill_block c.args.walk.now.tables.now c.args.scope.now c.args.results.expected c.args.results.types.now) (block_first c.args.block.now c.deref_mut-binding-items.result.now c.deref_mut-binding-items.ensures.value));
  found = sym (ap (found_block c.args.walk.now.tables.now c.args.scope.now c.args.results.expected c.args.results.types.now) (block_first c.args.block.now c.deref_mut-binding-items.result.now c.deref_mut-binding-items.ensures.value));
  faults = sym (ap (λ d. after c.args.least.now (block_faults c.args.walk.now.tables.now c.args.walk.now.instance c.args.scope.now c.args.results.expected c.args.results.types.now d)) (block_first c.args.block.now c.deref_mut-binding-items.result.now c.deref_mut-binding-items.ensures.value));
}

pub check_block-loop-binding-preserved : goal.check_block-loop-binding-preserved
check_block-loop-binding-preserved t c = record {
  unvisited = search rules;
  kept = keeps_on c.args.scope.now c.loop-binding.scope c.check_binding.new.scope _ c.loop-binding.invariant.kept c.in_ok-check_binding.ensures.scope;
  tree = block_step c.args.walk.now.tables.now c.loop-binding.scope c.check_binding.new.scope c.args.results.expected c.args.results.types.now c.loop-binding.binding-items (expression (out-Block c.args.block.now).last) c.loop-binding.binding-index c.check_binding.new.binding c.binding-item.result (search rules) c.in_ok-check_binding.ensures.scope (c.in_ok-check_binding.ensures.binders, c.in_ok-check_binding.ensures.bound) ∙ c.loop-binding.invariant.tree;
  found = block_found c.args.walk.now.tables.now c.loop-binding.scope c.check_binding.new.scope c.args.results.expected c.args.results.types.now c.loop-binding.binding-items (expression (out-Block c.args.block.now).last) c.loop-binding.binding-index c.check_binding.new.binding c.binding-item.result (search rules) c.in_ok-check_binding.ensures.scope ∙ c.loop-binding.invariant.found;
  faults = block_noted c.args.walk.now.tables.now c.args.walk.now.instance c.loop-binding.scope c.check_binding.new.scope c.args.results.expected c.args.results.types.now c.loop-binding.binding-items (expression (out-Block c.args.block.now).last) c.loop-binding.binding-index c.check_binding.new.binding c.binding-item.result c.loop-binding.least c.check_binding.new.least (search rules) c.in_ok-check_binding.ensures.scope c.in_ok-check_binding.ensures.faults ∙ c.loop-binding.invariant.faults;
}

pub check_clause-returns-clause-faults : goal.check_clause-returns-clause-faults
check_clause-returns-clause-faults t c = clause_faults c.args.walk.now.tables.now c.args.walk.now.instance c.args.scope.now c.check_pattern.new.scope c.args.ty c.args.results.expected c.args.results.types.now (clause c.args.clause.now) (pattern (out-Clause c.args.clause.now).pattern) (block (out-Clause c.args.clause.now).body) c.args.least.now c.check_pattern.new.least c.check_block.new.least (clause_is c.args.clause.now) c.in_ok-check_pattern.ensures.scope c.in_ok-check_pattern.ensures.faults (c.in_ok-types.ensures.faults ∙ ap (λ d. after c.check_pattern.new.least (block_faults c.args.walk.now.tables.now c.args.walk.now.instance c.check_pattern.new.scope c.args.results.expected c.args.results.types.now (block d))) (clause_body c.check_pattern.new.pattern (out-Clause c.args.clause.now).body))

pub check_binding-returns-clause-faults : goal.check_binding-returns-clause-faults
check_binding-returns-clause-faults t c = binding_faults c.args.walk.now.tables.now c.args.walk.now.instance c.args.scope.now (binding c.args.binding.now) (out-Binding c.args.binding.now).binders.items (expression (out-Binding c.args.binding.now).bound) c.all_annotated-expected.result c.in_ok-types.types.items c.in_ok-found.found.items c.args.least.now c.check_expression.new.least c.enter_binders.new.least (binding_is c.args.binding.now) (search rules) (search rules) (search rules) (search rules) (search rules)

pub check_block-returns-clause-tree : goal.check_block-returns-clause-tree
check_block-returns-clause-tree t c =
    block_made _ c.check_expression.new.expression
    ∙ ap (λ (xs : List BoundPart). block_of xs (expression c.check_expression.new.expression)) (rolled_bindings (with_items (out-Block c.args.block.now).bindings c.loop-binding.binding-items) (out-Block c.args.block.now).last)
    ∙ ap (λ (xs : List Binding). block_of (map binding xs) (expression c.check_expression.new.expression)) (with_items_is (out-Block c.args.block.now).bindings c.loop-binding.binding-items (search rules))
    ∙ sym (block_done c.args.walk.now.tables.now c.loop-binding.scope c.args.results.expected c.args.results.types.now c.loop-binding.binding-items (expression (out-Block c.args.block.now).last) (expression c.check_expression.new.expression) c.loop-binding.binding-index (search rules) (c.in_ok-types.ensures.tree ∙ ap (λ e. fill c.args.walk.now.tables.now c.loop-binding.scope c.args.results.expected c.args.results.types.now (expression e)) (block_last (with_items (out-Block c.args.block.now).bindings c.loop-binding.binding-items) (out-Block c.args.block.now).last)))
    ∙ c.loop-binding.invariant.tree

pub check_block-returns-clause-found : goal.check_block-returns-clause-found
check_block-returns-clause-found t c =
    let e : c.in_ok-types.types.items ≡ found c.args.walk.now.tables.now c.loop-binding.scope c.args.results.expected c.args.results.types.now (expression (out-Block c.args.block.now).last) = c.in_ok-types.ensures.found ∙ ap (λ e. found c.args.walk.now.tables.now c.loop-binding.scope c.args.results.expected c.args.results.types.now (expression e)) (block_last (with_items (out-Block c.args.block.now).bindings c.loop-binding.binding-items) (out-Block c.args.block.now).last) in
    e ∙ sym (ap (found_block c.args.walk.now.tables.now c.loop-binding.scope c.args.results.expected c.args.results.types.now) (left_none c.loop-binding.binding-items (expression (out-Block c.args.block.now).last) c.loop-binding.binding-index (search rules))) ∙ c.loop-binding.invariant.found

pub check_block-returns-clause-faults : goal.check_block-returns-clause-faults
check_block-returns-clause-faults t c =
    let e : c.check_expression.new.least ≡ after c.loop-binding.least (faults c.args.walk.now.tables.now c.args.walk.now.instance c.loop-binding.scope c.args.results.expected c.args.results.types.now (expression (out-Block c.args.block.now).last)) = c.in_ok-types.ensures.faults ∙ ap (λ e. after c.loop-binding.least (faults c.args.walk.now.tables.now c.args.walk.now.instance c.loop-binding.scope c.args.results.expected c.args.results.types.now (expression e))) (block_last (with_items (out-Block c.args.block.now).bindings c.loop-binding.binding-items) (out-Block c.args.block.now).last) in
    e ∙ sym (ap (λ d. after c.loop-binding.least (block_faults c.args.walk.now.tables.now c.args.walk.now.instance c.loop-binding.scope c.args.results.expected c.args.results.types.now d)) (left_none c.loop-binding.binding-items (expression (out-Block c.args.block.now).last) c.loop-binding.binding-index (search rules))) ∙ c.loop-binding.invariant.faults

pub check_expression-returns-in_ok-check_clauses-in-Match-clause-tree : goal.check_expression-returns-in_ok-check_clauses-in-Match-clause-tree
check_expression-returns-in_ok-check_clauses-in-Match-clause-tree t c =
    let m = match_tree c.args.walk.now.tables.now c.args.scope.now c.check_clause.new.scope c.args.results.expected c.args.results.types.now (is_destructive c.in-Match.kind) (is_destructive c.in-Match.kind) c.in-Match.ty c.slot.result c.in-Match.place c.in-Match.place (argument c.in-Match.scrutinee) (argument c.check_argument.new.argument) (clause c.in-Match.first.value) (clause c.check_clause.new.clause) (clauses c.in-Match.others.items) (clauses c.check_clauses.new.clauses) c.in_ok-found-in-Match.found c.in_ok-types-in-Match.types.items c.types_after-following.result.now refl refl (search rules) (search rules) (search rules) (search rules) (search rules) (search rules) (search rules) (search rules) (search rules) in
    expression_match _ _ _ _ _ _
    ∙ untouched (is_destructive c.in-Match.kind) _ c.slot.result c.in-Match.place _ (argument c.check_argument.new.argument) (clause c.check_clause.new.clause) (clauses c.check_clauses.new.clauses) _ (ap is_destructive c.in-Match.kind-is) c.in-Match.place-is (ap clauses (take_front c.check_clauses.new.clauses _ _ (ap (λ (v : Vec Clause Global). v.len) c.in-Match.others-is ∙ (search rules))))
    ∙ m ∙ sym (ap (fill c.args.walk.now.tables.now c.args.scope.now c.args.results.expected c.args.results.types.now) (ap expression c.in-Match.is ∙ (expression_match c.in-Match.kind c.in-Match.ty c.in-Match.place c.in-Match.scrutinee c.in-Match.first c.in-Match.others)))

pub check_expression-returns-in_ok-check_clauses-in-Match-clause-faults : goal.check_expression-returns-in_ok-check_clauses-in-Match-clause-faults
check_expression-returns-in_ok-check_clauses-in-Match-clause-faults t c =
    match_noted c.args.walk.now.tables.now c.args.walk.now.instance c.args.scope.now c.check_clause.new.scope c.args.results.expected c.args.results.types.now (is_destructive c.in-Match.kind) c.in-Match.ty c.in-Match.place (argument c.in-Match.scrutinee) (clause c.in-Match.first.value) (clauses c.in-Match.others.items) c.in_ok-found-in-Match.found c.in_ok-types-in-Match.types.items c.types_after-following.result.now c.args.least.now c.check_argument.new.least c.check_clause.new.least c.check_clauses.new.least (search rules) (search rules) (search rules) (search rules) (search rules) (search rules) (search rules)
    ∙ sym (ap (λ e. after c.args.least.now (faults c.args.walk.now.tables.now c.args.walk.now.instance c.args.scope.now c.args.results.expected c.args.results.types.now e)) (ap expression c.in-Match.is ∙ (expression_match c.in-Match.kind c.in-Match.ty c.in-Match.place c.in-Match.scrutinee c.in-Match.first c.in-Match.others)))
