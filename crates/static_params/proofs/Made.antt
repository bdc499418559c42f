-- Rows of arguments, patterns and clauses, and the lets of a block, as lists; and the trees that are made of them.
use Rattle.std.proofs.Common.{◌≡◌, ℕ, ◌+◌, ◌<◌, ◌≤◌, List, [], ◌∷◌, ◌++◌, map, drop, get_or, length, refl, ap, sym, ◌∙◌, append_assoc, append-nil, drop_of_length-le, Vec, Global}
use Rattle.std.proofs.lemmas.List.{map-append}
use Rattle.fip_language.specs.Core as C
use Rattle.fip_base.specs.CoreView as V
use Rattle.fip_base.specs.declared.core_form.Block as CBlock
use Rattle.fip_base.specs.declared.core_form.Binding as CBinding
use Rattle.fip_base.specs.declared.core_form.Clause as CClause
use Rattle.fip_trees.specs.Tree as T
use Rattle.fip_trees.specs.TreeView as W
use Rattle.fip_trees.specs.declared.program.Expression.{Expression}
use Rattle.fip_trees.specs.declared.program.Block.{Block, roll-Block}
use Rattle.fip_trees.specs.declared.program.Binder.{Binder}
use Rattle.fip_trees.specs.declared.program.Binding.{Binding, roll-Binding}
use Rattle.fip_trees.specs.declared.program.Clause.{roll-Clause}
use Rattle.fip_trees.specs.declared.program.Pattern.{Pattern}
use Rattle.fip_trees.proofs.TreeViews.{binding_made, block_made, clause_made}
use Rattle.static_params.specs.FlatProgram.{flat_argument, flat_arguments}
use Rattle.static_params.specs.FlatView.{IsMaking, Making, Stays, binder_in, block_in, bound_in, case_in, clauses_in, expression_in, pattern_in, patterns_in}
use Rattle.static_params.specs.declared.flatten.Flattening.{Flattening}
use Rattle.reached_instances.specs.closed_types.Source.{Source}
use Rattle.reached_instances.proofs.closed_types.Growing.{grows_same, grows_more}
use Rattle.reached_instances.proofs.closed_types.Hearing.{binding_is, block_is, clause_is}
use Rattle.reached_instances.proofs.closed_types.Lists.{drop_item}

-- ---- rows

pub argument_row : (s : Source) (as' : List C.Argument) → flat_arguments s (V.arguments_of as') ≡ W.arguments_of (map (flat_argument s) as')
argument_row s [] = refl
argument_row s (a ∷ as') = ap (T.MoreArguments (flat_argument s a)) (argument_row s as')

pub pattern_row : (m : Making) (ps : List C.Pattern) → patterns_in m (V.patterns_of ps) ≡ W.patterns_of (map (pattern_in m) ps)
pattern_row m [] = refl
pattern_row m (p ∷ ps) = ap (T.MorePatterns (pattern_in m p)) (pattern_row m ps)

pub clause_row : (m : Making) (cs : List V.Case) → clauses_in m (V.clauses_of cs) ≡ W.clauses_of (map (case_in m) cs)
clause_row m [] = refl
clause_row m (c ∷ cs) = ap (T.MoreClauses (pattern_in m c.pattern) (block_in m c.body)) (clause_row m cs)

pub block_row : (m : Making) (bs : List V.BoundPart) (e : C.Expression) → block_in m (V.block_of bs e) ≡ W.block_of (map (bound_in m) bs) (expression_in m e)
block_row m [] e = refl
block_row m (b ∷ bs) e = ap (T.Let (bound_in m b).binders (bound_in m b).bound) (block_row m bs e)

-- ---- a walk that makes a row

pub row_goes : {A B C D : Type 0} (view : A → B) (f : C → B) (from : D → C) (out out2 : List A) (list : List D) (i : ℕ) (x : D) (y : A) (whole : List B) → i < length list → x ≡ get_or list i x → out2 ≡ out ++ y ∷ [] → view y ≡ f (from x) → map view out ++ map f (map from (drop i list)) ≡ whole → map view out2 ++ map f (map from (drop (i + 1) list)) ≡ whole
row_goes view f from out out2 list i x y whole h e push made before =
    let rest = map f (map from (drop (i + 1) list)) in
    ap (λ l. map view l ++ rest) push
    ∙ ap (λ l. l ++ rest) (map-append view out (y ∷ []))
    ∙ append_assoc (map view out) (view y ∷ []) rest
    ∙ ap (λ b. map view out ++ b ∷ rest) made
    ∙ ap (λ l. map view out ++ map f (map from l)) (sym (drop_item list i x h e))
    ∙ before

pub row_done : {A B C D : Type 0} (view : A → B) (f : C → B) (from : D → C) (out : List A) (list : List D) (i : ℕ) (whole : List B) → length list ≤ i → map view out ++ map f (map from (drop i list)) ≡ whole → map view out ≡ whole
row_done view f from out list i whole h e =
    sym (append-nil (map view out)) ∙ ap (λ l. map view out ++ map f (map from l)) (sym (drop_of_length-le list h)) ∙ e

-- the same of items that are what they stand for
pub items_goes : {B C D : Type 0} (f : C → B) (from : D → C) (out out2 : List B) (list : List D) (i : ℕ) (x : D) (y : B) (whole : List B) → i < length list → x ≡ get_or list i x → out2 ≡ out ++ y ∷ [] → y ≡ f (from x) → out ++ map f (map from (drop i list)) ≡ whole → out2 ++ map f (map from (drop (i + 1) list)) ≡ whole
items_goes f from out out2 list i x y whole h e push made before =
    let rest = map f (map from (drop (i + 1) list)) in
    ap (λ l. l ++ rest) push
    ∙ append_assoc out (y ∷ []) rest
    ∙ ap (λ b. out ++ b ∷ rest) made
    ∙ ap (λ l. out ++ map f (map from l)) (sym (drop_item list i x h e))
    ∙ before

pub items_done : {B C D : Type 0} (f : C → B) (from : D → C) (out : List B) (list : List D) (i : ℕ) (whole : List B) → length list ≤ i → out ++ map f (map from (drop i list)) ≡ whole → out ≡ whole
items_done f from out list i whole h e =
    sym (append-nil out) ∙ ap (λ l. out ++ map f (map from l)) (sym (drop_of_length-le list h)) ∙ e

-- one after another
pub stays_same : (f : Flattening) → IsMaking f → Stays f f
stays_same f m = record { ready = m; grows = grows_same f.shared.branches; same = refl }

pub stays_more : (f g h : Flattening) → Stays f g → Stays g h → Stays f h
stays_more f g h s t = record {
  ready = t.ready;
  grows = grows_more f.shared.branches g.shared.branches h.shared.branches s.grows t.grows;
  same = t.same ∙ s.same;
}

-- ---- what is made

pub made_block : (m : Making) (b : CBlock.Block) (bs : Vec Binding Global) (e : Expression) → map W.binding bs.items ≡ map (bound_in m) (map V.binding (CBlock.out-Block b).bindings.items) → W.expression e ≡ expression_in m (V.expression (CBlock.out-Block b).last) → W.block (roll-Block (record { bindings = bs; last = e })) ≡ block_in m (V.block b)
made_block m b bs e h g =
    block_made bs e
    ∙ ap (λ l. W.block_of l (W.expression e)) h
    ∙ ap (W.block_of (map (bound_in m) (map V.binding (CBlock.out-Block b).bindings.items))) g
    ∙ sym (block_row m (map V.binding (CBlock.out-Block b).bindings.items) (V.expression (CBlock.out-Block b).last))
    ∙ ap (block_in m) (sym (block_is b))

pub made_clause : (m : Making) (k : CClause.Clause) (q : Pattern) (d : Block) → W.pattern q ≡ pattern_in m (V.pattern (CClause.out-Clause k).pattern) → W.block d ≡ block_in m (V.block (CClause.out-Clause k).body) → W.clause (roll-Clause (record { pattern = q; body = d })) ≡ case_in m (V.clause k)
made_clause m k q d p b =
    clause_made q d
    ∙ (λ i. record { pattern = p i; body = b i })
    ∙ ap (case_in m) (sym (clause_is k))

pub made_binding : (m : Making) (k : CBinding.Binding) (bs : Vec Binder Global) (e : Expression) → bs.items ≡ map (binder_in m) (map V.binder (CBinding.out-Binding k).binders.items) → W.expression e ≡ expression_in m (V.expression (CBinding.out-Binding k).bound) → W.binding (roll-Binding (record { binders = bs; bound = e })) ≡ bound_in m (V.binding k)
made_binding m k bs e p b =
    binding_made bs e
    ∙ (λ i. record { binders = p i; bound = b i })
    ∙ ap (bound_in m) (sym (binding_is k))
