-- What the walk makes of a body is what is defined, where that is a derivation of it.
use Rattle.std.proofs.Common.{◌≡◌, ℕ, zero, suc, ◌<◌, ◌≤◌, ◌+◌, ◌-◌, ◌⊎◌, inl, inr, refl, sym, ap, ap₂, subst, ◌∙◌, List, [], ◌∷◌, ◌++◌, length, Option, Some, None, Bool, true, false, not, ◌&&◌, ◌||◌, arith}
use Rattle.std.specs.Prelude.{◌==◌, if◌then◌else◌, slice_get}
use Rattle.tail_groups.specs.fip_base.declared.plain.Param.{Param}
use Rattle.tail_groups.specs.fip_trees.Sizes.{number, no_sizes, minus}
use Rattle.tail_groups.specs.fip_trees.declared.program.Binder.{Binder}
use Rattle.tail_groups.specs.fip_trees.declared.needs.Need.{Need}
use Rattle.tail_groups.specs.fip_trees.Tree.{Program, Argument, Variable, Literal, Constructor, Arguments, NoArguments, MoreArguments, count, Pattern, Expression, Give, Tuple, Operation, Call, Match, Nested, Block, Last, Let, Clauses, NoClauses, MoreClauses, Instance}
use Rattle.derivation_walk.specs.fip_rules.World.{World, is_fip}
use Rattle.derivation_walk.specs.fip_rules.Shapes.{binders, takes}
use Rattle.derivation_walk.specs.credit_check.Needs.{made, need, need_block, given}
use Rattle.derivation_walk.specs.credit_check.Tallies.{sizes, block_sizes, needs, parts_needs, clauses_needs, block_needs}
use Rattle.derivation_making.specs.ownership_agreement.Sized.{IsVariable, SizedExpression, SizedBlock, SizedClauses}
use Rattle.derivation_making.specs.ownership_calculus.Terms.{Item}
use Rattle.derivation_walk.specs.derivation_trees.declared.derivation.RuleName.{RuleName}
use Rattle.derivation_walk.specs.derivation_trees.declared.derivation.RuleName.TheVariants as R
use Rattle.derivation_walk.specs.derivation_trees.declared.derivation.Credit as D
use Rattle.derivation_walk.specs.derivation_trees.Trees.{Tree, Branch, Trees, NoTrees, MoreTrees}
use Rattle.derivation_making.specs.derivation_check.Owned.{owned, root, roots, IsOwned, AreOwned, is_weaken, Under, Splits}
use Rattle.derivation_making.specs.derivation_check.Scopes.{Known, Scope, known, meant, named, binding, lending, within, within_block, AreNumbered}
use Rattle.derivation_making.specs.derivation_check.Calculus.{Choice, UsesVariable, DerivesValue, DerivesValues, DerivesPassed, FirstOf, Calls, GoesOn, IsClause, is_taken, own_variables, Scrutinised, Matches, Lends, Derives, DerivesBlock, DerivesClauses}
use Rattle.derivation_walk.specs.declared.found.Bound.{Bound}
use Rattle.derivation_walk.specs.declared.found.Occurrence.{Occurrence}
use Rattle.derivation_walk.specs.declared.tables.Uses.{Uses}
use Rattle.derivation_walk.specs.Tables.{rows, rows_from, empty_rows, has_within, row_at}
use Rattle.derivation_walk.specs.Lookups.{variable_at, occurs_at, uses_at, within_of}
use Rattle.derivation_making.specs.Uses.{occurs_value, occurs_values, occurs, occurs_block, occurs_clauses, uses}
use Rattle.derivation_making.specs.Made as M
use Rattle.derivation_making.specs.Made.{those, numbers, unscalar, added, clause_variables, rule_of, made_value, made_values, made_fields, made_passed, made_expression, made_block, made_clauses}
use Rattle.derivation_walk.specs.Walked as W
use Rattle.derivation_walk.specs.Walked.{Guided, Owned, Asked, asked, following, bound_owned, rest_owned, clause_owned, binder_of, values, fields, passed, size, size_parts, size_clauses, walked, walked_parts, walked_block, walked_clauses}
use Rattle.derivation_walk.proofs.credit_check.Amounts.{Long, none_long, both_long, both_at, sizes_long, sizes_at, block_long, block_at}
use Rattle.derivation_agreement.proofs.Seeing.{slots, slots_in, slots_parts, slots_clauses, passed_value, marks, marks_parts, marks_clauses}
use Rattle.derivation_agreement.proofs.Hitting.{hits, Between, between_append, between_wider, occurs_hits, occurs_parts, uses_hits, passed_between, marks_between, parts_between, clauses_between, Part, part_first, part_second, table_hits}
use Rattle.derivation_agreement.proofs.Sited.{Piece, piece_first, piece_second, Sited, AllSited, IsTable, all_append, named_sited, slots_length, in_length, parts_length}
use Rattle.derivation_agreement.proofs.Nodes.{Counts, numbers_append, filter_is, those_sited, unscalar_sited, node_is, under_is}
use Rattle.derivation_agreement.proofs.WalkValues.{guide, rule_there, values_is}
use Rattle.derivation_agreement.proofs.Parts.{passed_is, bound_is, clause_has, clause_counts, needs_many, parts_many, asked_is}
use Rattle.derivation_making.proofs.Arguments.{not_weaken as rule_weaken}

-- the same occurrences, from later on
tighter : (whole os : List Occurrence) (f g e : ℕ) → f ≤ g → Between g e os → Part whole os f e → Part whole os g e
tighter whole os f g e l b h = record { end = h.end; before = h.before; following = h.following; is = h.is; early = between_wider 0 f 0 g h.before (omega arith) l h.early; here = b; late = h.late }

two_same : (a b c d : Tree) → MoreTrees a (MoreTrees b NoTrees) ≡ MoreTrees c (MoreTrees d NoTrees) → (a ≡ c) × (b ≡ d)
two_same a b c d e = ((let k : a ≡ c = cc in k), (let k : b ≡ d = cc in k))

first_same : (a b : Tree) (ts us : Trees) → MoreTrees a ts ≡ MoreTrees b us → (a ≡ b) × (ts ≡ us)
first_same a b ts us e = ((let k : a ≡ b = cc in k), (let k : ts ≡ us = cc in k))

match_weaken : (b : Bool) → is_weaken (M.match_rule b) ≡ false
match_weaken true = refl
match_weaken false = refl

same_rule : (b : Bool) → W.match_rule b ≡ M.match_rule b
same_rule true = refl
same_rule false = refl

-- what a match's parts are derived with
pub record Parted (w : World) (s : Scope) (c d : ℕ) (b : Bool) (q : Pattern) (bl : Block) (cs : Clauses) (t : Tree) (ts : Trees) : Type 0 where
  pub taken : Option ℕ
  pub is : is_taken taken ≡ b
  pub body : DerivesBlock w (binding d (is_taken taken) (binders q) s) (c + length (binders q)) (d + length (binders q)) t bl
  pub have : Item → ℕ
  pub numbered : AreNumbered c d (binders q)
  pub clauses : DerivesClauses w s (c + length (binders q) + within_block bl) (d + length (binders q) + within_block bl) taken have ts cs

module _ (p : Program) (w : World) (order : List Bound) (u : Uses) (ns : List Need) (os : List Occurrence) (table : IsTable order u) (occurring : rows u.occurring.items ≡ rows_from true (empty_rows (length order)) os) (using : rows u.used.items ≡ rows_from false (empty_rows (length order)) os) where
  occurs_is : (v : Known) (ms : List Occurrence) (f e : ℕ) (h : ℕ → Bool) → Sited w order u v → Part os ms f e → ((x : ℕ) → hits true x ms ≡ h x) → occurs_at u v.number f e ≡ h v.binder
  occurs_is v ms f e h s g k =
      ap (within_of (rows u.occurring.items) f e) s.variable
      ∙ table_hits true (length order) f e v.binder (rows u.occurring.items) os ms s.few occurring g ∙ k v.binder

  uses_is : (v : Known) (ms : List Occurrence) (f e : ℕ) (h : ℕ → Bool) → Sited w order u v → Part os ms f e → ((x : ℕ) → hits false x ms ≡ h x) → uses_at u v.number f e ≡ h v.binder
  uses_is v ms f e h s g k =
      ap (within_of (rows u.used.items) f e) s.variable
      ∙ table_hits false (length order) f e v.binder (rows u.used.items) os ms s.few using g ∙ k v.binder

  those_is : (a : Asked) (ms : List Occurrence) (f e : ℕ) (h : ℕ → Bool) (us : List Known) (xs : List ℕ) → a.first ≡ f → a.end ≡ e → Part os ms f e → ((x : ℕ) → hits true x ms ≡ h x) → AllSited w order u us → xs ≡ numbers us → W.those (guide w u ns) a xs ≡ numbers (those h us)
  those_is a ms f e h us xs ef ee g k st ex =
      ap (W.those (guide w u ns) a) ex
      ∙ filter_is w order u (λ n. occurs_at u n a.first a.end) h us st
      (λ v s. ap₂ (λ m n. occurs_at u v.number m n) ef ee ∙ occurs_is v ms f e h s g k)

  used_is : (a : Asked) (ms : List Occurrence) (f e : ℕ) (h : ℕ → Bool) (us : List Known) (xs : List ℕ) → a.first ≡ f → a.end ≡ e → Part os ms f e → ((x : ℕ) → hits false x ms ≡ h x) → AllSited w order u us → xs ≡ numbers us → W.used (guide w u ns) a xs ≡ numbers (those h us)
  used_is a ms f e h us xs ef ee g k st ex =
      ap (W.used (guide w u ns) a) ex
      ∙ filter_is w order u (λ n. uses_at u n a.first a.end) h us st
      (λ v s. ap₂ (λ m n. uses_at u v.number m n) ef ee ∙ uses_is v ms f e h s g k)

  unused_is : (a : Asked) (ms : List Occurrence) (f e : ℕ) (h : ℕ → Bool) (us : List Known) (xs : List ℕ) → a.first ≡ f → a.end ≡ e → Part os ms f e → ((x : ℕ) → hits false x ms ≡ h x) → AllSited w order u us → xs ≡ numbers us → W.unused (guide w u ns) a xs ≡ numbers (those (λ x. not (h x)) us)
  unused_is a ms f e h us xs ef ee g k st ex =
      ap (W.unused (guide w u ns) a) ex
      ∙ filter_is w order u (λ n. not (uses_at u n a.first a.end)) (λ x. not (h x)) us st
      (λ v s. ap not (ap₂ (λ m n. uses_at u v.number m n) ef ee ∙ uses_is v ms f e h s g k))

  sizes_count : (e : Expression) → Counts (sizes p e) (λ k. need p k e)
  sizes_count e = record { long = sizes_long p e; at = λ k l m. sizes_at p k l m e }

  -- the node of an expression
  expression_node : (i : ℕ) (e : Expression) (r q : RuleName) (there : List Known) (have : ℕ → ℕ) (o : Owned) (ts us : Trees) → r ≡ q → ts ≡ us → Piece ns (needs p e) i → Part os (marks w i e) i (i + size e) → AllSited w order u there → o.variables ≡ numbers there → Counts o.credits have → W.node r o (W.those (guide w u ns) (asked (guide w u ns) i) o.variables) (asked (guide w u ns) i).need ts ≡ M.node q (λ x. occurs x e) there have (λ k. need p k e) us
  expression_node i e r q there have o ts us er et n g st ev ec =
      let a = asked_is p w u ns i e n in
      ap₂ (λ z y. W.node z o (W.those (guide w u ns) (asked (guide w u ns) i) o.variables) (asked (guide w u ns) i).need y) er et
      ∙ node_is q (λ x. occurs x e) there have (λ k. need p k e) o (W.those (guide w u ns) (asked (guide w u ns) i) o.variables) (asked (guide w u ns) i).need us ev ec
      (those_is (asked (guide w u ns) i) (marks w i e) i (i + size e) (λ x. occurs x e) there o.variables (ap (λ (z : Asked). z.first) a) (ap (λ (z : Asked). z.end) a) g (λ x. occurs_hits w x i e) st ev)
      (subst (λ (z : Asked). Counts z.need (λ k. need p k e)) (sym a) (sizes_count e))

  -- an argument as a result
  give_is : (s : Scope) (d : ℕ) (there : List Known) (t : Tree) (have : ℕ → ℕ) (a : Argument) → AllSited w order u s.variables → t ≡ M.node (rule_of w s.variables a) (λ x. occurs_value x a) there have (λ k. made k a) (made_fields w s.variables there a) → DerivesValue w s.variables d t a → (W.rule_of (guide w u ns) a ≡ rule_of w s.variables a) × (fields (guide w u ns) a ≡ made_fields w s.variables there a)
  give_is s d there t have (Variable x n q) st e h = (rule_there w order u ns s.variables d x t st h, refl)
  give_is s d there t have (Literal i q) st e h = (refl, refl)
  give_is s d there t have (Constructor y z c n q NoArguments) st e h = (refl, refl)
  give_is s d there t have (Constructor y z c n q (MoreArguments a as')) st e h =
      let A = Constructor y z c n q (MoreArguments a as') in
      let v = subst (λ z. Under (is_fip w.kind) d z (Branch R.Reuse h.0 h.1 h.2)) e h.3 in
      let k = under_is (is_fip w.kind) d R.Reuse R.Reuse (λ x. occurs_value x A) there have (λ k. made k A) (made_values w s.variables there (MoreArguments a as')) h.2 h.0 h.1 refl v refl in
      (refl, values_is w order u ns s.variables there d st (MoreArguments a as') (subst (AreOwned d) k.parts h.4) (subst (λ ts. DerivesValues w s.variables d ts (MoreArguments a as')) k.parts h.6))

  tuple_is : (s : Scope) (d : ℕ) (there : List Known) (have : ℕ → ℕ) (as' : Arguments) (k' : ℕ → ℕ) → AllSited w order u s.variables → Splits (is_fip w.kind) d R.Tuple (λ i. 0) (λ ts. DerivesValues w s.variables d ts as') (M.node R.Tuple (λ x. occurs_values x as') there have k' (made_values w s.variables there as')) → values (guide w u ns) as' ≡ made_values w s.variables there as'
  tuple_is s d there have as' k' st h =
      let k = under_is (is_fip w.kind) d R.Tuple R.Tuple (λ x. occurs_values x as') there have k' (made_values w s.variables there as') h.2 h.0 h.1 refl h.3 refl in
      values_is w order u ns s.variables there d st as' (subst (AreOwned d) k.parts h.4) (subst (λ ts. DerivesValues w s.variables d ts as') k.parts h.6)

  call_is : (s : Scope) (d : ℕ) (there : List Known) (have k' : ℕ → ℕ) (z : Option Instance) (as' : Arguments) → AllSited w order u s.variables → Calls w s d z as' (M.node R.Call (λ x. occurs_values x as') there have k' (made_passed w s.variables there (M.params_of z) as')) → passed (guide w u ns) (W.params_of z) as' ≡ made_passed w s.variables there (M.params_of z) as'
  call_is s d there have k' None as' st h = absurd h
  call_is s d there have k' (Some e) as' st h =
      let y = h.1 in
      let k = under_is (is_fip w.kind) d R.Call R.Call (λ x. occurs_values x as') there have k' (made_passed w s.variables there e.params as') y.2 y.0 y.1 refl y.3 refl in
      passed_is w order u ns s there d e.params as' st (subst (AreOwned d) k.parts y.4) (subst (λ ts. DerivesPassed w s d e.params as' ts) k.parts y.6)

  match_parts : (s : Scope) (c d : ℕ) (b : Bool) (a : Argument) (q : Pattern) (body : Block) (cs : Clauses) (there : List Known) (have needed : ℕ → ℕ) (h : ℕ → Bool) (T : Tree) (TS : Trees)
      → Matches w s d b a (λ x have ts. FirstOf ts (λ t us. IsClause w c d x have t q (DerivesBlock w (binding d (is_taken x) (binders q) s) (c + length (binders q)) (d + length (binders q)) t body) × DerivesClauses w s (c + length (binders q) + within_block body) (d + length (binders q) + within_block body) x have us cs)) (M.node (M.match_rule b) h there have needed (MoreTrees T TS))
      → Parted w s c d b q body cs T TS
  match_parts s c d true (Variable x n y) q body cs there have needed h T TS m = taken (meant s.variables x) m
    where
      taken : (o : Option Known) → Scrutinised w d o (λ x have ts. FirstOf ts (λ t us. IsClause w c d x have t q (DerivesBlock w (binding d (is_taken x) (binders q) s) (c + length (binders q)) (d + length (binders q)) t body) × DerivesClauses w s (c + length (binders q) + within_block body) (d + length (binders q) + within_block body) x have us cs)) (M.node R.TakingMatch h there have needed (MoreTrees T TS)) → Parted w s c d true q body cs T TS
      taken None m = absurd m
      taken (Some v) m =
          let z = m.1 in
          let k = under_is (is_fip w.kind) d R.TakingMatch R.TakingMatch h there have needed (MoreTrees T TS) z.2 z.0 z.1 refl z.3 refl in
          let f = subst (λ ts. FirstOf ts (λ t us. IsClause w c d (Some v.number) (owned z.0 z.1) t q (DerivesBlock w (binding d true (binders q) s) (c + length (binders q)) (d + length (binders q)) t body) × DerivesClauses w s (c + length (binders q) + within_block body) (d + length (binders q) + within_block body) (Some v.number) (owned z.0 z.1) us cs)) k.parts z.5 in
          record { taken = Some v.number; is = refl; body = f.0.3; have = owned z.0 z.1; numbered = f.0.0; clauses = f.1 }
  match_parts s c d true (Literal i y) q body cs there have needed h T TS m = absurd m
  match_parts s c d true (Constructor e f g n y as') q body cs there have needed h T TS m = absurd m
  match_parts s c d false a q body cs there have needed h T TS m =
      let z = m.1 in
      let k = under_is (is_fip w.kind) d R.Match R.Match h there have needed (MoreTrees T TS) z.2 z.0 z.1 refl z.3 refl in
      let f = subst (λ ts. FirstOf ts (λ t us. IsClause w c d None (owned z.0 z.1) t q (DerivesBlock w (binding d false (binders q) s) (c + length (binders q)) (d + length (binders q)) t body) × DerivesClauses w s (c + length (binders q) + within_block body) (d + length (binders q) + within_block body) None (owned z.0 z.1) us cs)) k.parts z.4 in
      record { taken = None; is = refl; body = f.0.3; have = owned z.0 z.1; numbered = f.0.0; clauses = f.1 }

  -- a clause's body has its own scope, and what the walk gives it
  clause_in : (s : Scope) (d j : ℕ) (b : Bool) (a : Argument) (own : List Known) (needed : ℕ → ℕ) (o : Owned) (r : Pattern) (body : Block) → IsVariable a → AllSited w order u s.variables → AllSited w order u own → o.variables ≡ numbers own → Counts o.credits needed → Piece order (slots w (binders r)) d
      → (AllSited w order u (named d b (binders r) ++ s.variables)) × (AllSited w order u (clause_variables w b a d (binders r) own)) × ((clause_owned (guide w u ns) b (binder_of a) o r).variables ≡ numbers (clause_variables w b a d (binders r) own)) × Counts (clause_owned (guide w u ns) b (binder_of a) o r).credits (λ k. needed k + given k b r)
  clause_in s d j b a own needed o r body v sv so ev ec po =
      let true_sited = named_sited w order u d true (binders r) table po in (
        all_append w order u (named d b (binders r)) s.variables (named_sited w order u d b (binders r) table po) sv,
        left b true_sited,
        clause_has w order u ns b a d own o r v so true_sited ev,
        clause_counts (guide w u ns) b (binder_of a) o r needed ec,
      )
    where
      remains : (t : Bool) → AllSited w order u (M.remaining t a own)
      remains true = those_sited w order u (λ x. not (occurs_value x a)) own so
      remains false = so

      comes : (t : Bool) → AllSited w order u (named d true (binders r)) → AllSited w order u (added w t d (binders r))
      comes true h = unscalar_sited w order u (named d true (binders r)) h
      comes false h = tt

      left : (t : Bool) → AllSited w order u (named d true (binders r)) → AllSited w order u (clause_variables w t a d (binders r) own)
      left t h = all_append w order u (M.remaining t a own) (added w t d (binders r)) (remains t) (comes t h)

  -- what the block of number j asks for
  pub block_asked : (j : ℕ) (b : Block) → Piece ns (block_needs p b) j → ((asked (guide w u ns) j).first ≡ j) × ((asked (guide w u ns) j).end ≡ j + 1 + size_parts b) × Counts (asked (guide w u ns) j).need (λ k. need_block p k b)
  block_asked j b n =
      let a = asked_is p w u ns j (Nested b) n in (
        ap (λ (z : Asked). z.first) a,
        ap (λ (z : Asked). z.end) a ∙ (let e : j + (size_parts b + 1) ≡ j + 1 + size_parts b = omega arith in e),
        subst (λ (z : Asked). Counts z.need (λ k. need_block p k b)) (sym a) (sizes_count (Nested b)),
      )

  pub inner_needs : (j k : ℕ) (b : Block) → k ≡ j + 1 → Piece ns (block_needs p b) j → Piece ns (parts_needs p b) k
  inner_needs j k b e h = piece_second ns (record { sizes = block_sizes p no_sizes b; span = suc (length (parts_needs p b)) } ∷ []) (parts_needs p b) j k e h

  less_counts : (xs ys : List ℕ) (f g : ℕ → ℕ) → Counts xs (λ k. f k + g k) → Counts ys f → Counts (minus xs ys) g
  less_counts xs ys f g h k = record {
    long = both_long (λ m n. m - n) xs ys h.long k.long;
    at = λ i l m. both_at (λ a b. a - b) i xs ys m h.long k.long ∙ ap₂ (λ a b. a - b) (h.at i l m) (k.at i l m) ∙ (let e : f i + g i - f i ≡ g i = omega arith in e);
  }

  mutual
    pub walked_is : (s : Scope) (c d i : ℕ) (there : List Known) (have : ℕ → ℕ) (o : Owned) (e : Expression) → AllSited w order u s.variables → AllSited w order u there → o.variables ≡ numbers there → Counts o.credits have → Piece order (slots_in w e) d → Part os (marks w i e) i (i + size e) → Piece ns (needs p e) i → SizedExpression p e → Derives w s c d (made_expression p w s.variables d there have e) e → walked (guide w u ns) i o e ≡ made_expression p w s.variables d there have e
    walked_is s c d i there have o (Give a) sv st ev ec po pm pn z h =
        let g = give_is s d there (made_expression p w s.variables d there have (Give a)) have a sv refl h in
        expression_node i (Give a) (W.rule_of (guide w u ns) a) (rule_of w s.variables a) there have o (fields (guide w u ns) a) (made_fields w s.variables there a) g.0 g.1 pn pm st ev ec
    walked_is s c d i there have o (Tuple q as') sv st ev ec po pm pn z h =
        expression_node i (Tuple q as') R.Tuple R.Tuple there have o (values (guide w u ns) as') (made_values w s.variables there as') refl (tuple_is s d there have as' (λ k. need p k (Tuple q as')) sv h) pn pm st ev ec
    walked_is s c d i there have o (Operation y q l r) sv st ev ec po pm pn z h =
        expression_node i (Operation y q l r) R.Scalar R.Scalar there have o NoTrees NoTrees refl refl pn pm st ev ec
    walked_is s c d i there have o (Call f n q as') sv st ev ec po pm pn z h =
        expression_node i (Call f n q as') R.Call R.Call there have o (passed (guide w u ns) (W.params_of (slice_get w.instances f)) as') (made_passed w s.variables there (M.params_of (slice_get w.instances f)) as') refl
        (call_is s d there have (λ k. need p k (Call f n q as')) (slice_get w.instances f) as' sv h) pn pm st ev ec
    walked_is s c d i there have o (Match t y q a r body cs) sv st ev ec po pm pn z h =
        let E = Match t y q a r body cs in
        let b = takes w t y in
        let l = length (binders r) in
        let n = size_parts body in
        let m = size_clauses cs in
        let own = those (λ x. occurs x E) there in
        let N : ℕ → ℕ = λ k. need p k E in
        let A = asked (guide w u ns) i in
        let ea = asked_is p w u ns i E pn in
        let xs = W.those (guide w u ns) A o.variables in
        let O : Owned = record { variables = xs; credits = A.need } in
        let ex : xs ≡ numbers own = those_is A (marks w i E) i (i + size E) (λ x. occurs x E) there o.variables (ap (λ (v : Asked). v.first) ea) (ap (λ (v : Asked). v.end) ea) pm (λ x. occurs_hits w x i E) st ev in
        let eN : Counts A.need N = subst (λ (v : Asked). Counts v.need N) (sym ea) (sizes_count E) in
        let so = those_sited w order u (λ x. occurs x E) there st in
        let T = made_block p w (named d b (binders r) ++ s.variables) (d + l) (clause_variables w b a d (binders r) own) (λ k. N k + given k b r) body in
        let TS = made_clauses p w s.variables (d + l + within_block body) b a own N cs in
        let k = match_parts s c d b a r body cs there have N (λ x. occurs x E) T TS h in
        let po1 = piece_first order (slots w (binders r)) (slots_parts w body ++ slots_clauses w cs) d po in
        let po23 = piece_second order (slots w (binders r)) (slots_parts w body ++ slots_clauses w cs) d (d + l) (ap (λ v. d + v) (sym (slots_length w (binders r)))) po in
        let po2 = piece_first order (slots_parts w body) (slots_clauses w cs) (d + l) po23 in
        let po3 = piece_second order (slots_parts w body) (slots_clauses w cs) (d + l) (d + l + within_block body) (ap (λ v. d + l + v) (sym (parts_length w body))) po23 in
        let P0 = passed_value i (not b) a in
        let P1 = marks_parts w (i + 1 + 1) body in
        let P2 = marks_clauses w (i + 1 + (n + 1)) cs in
        let e = i + size E in
        let b0 = passed_between i (not b) a in
        let b1 : Between (i + 1) (i + 1 + (n + 1)) P1 = between_wider (i + 1 + 1) (i + 1 + 1 + n) (i + 1) (i + 1 + (n + 1)) P1 (omega arith) (omega arith) (parts_between w (i + 1 + 1) body) in
        let b2 : Between (i + 1 + (n + 1)) e P2 = between_wider (i + 1 + (n + 1)) (i + 1 + (n + 1) + m) (i + 1 + (n + 1)) e P2 (omega arith) (omega arith) (clauses_between w (i + 1 + (n + 1)) cs) in
        let b12 : Between (i + 1) e (P1 ++ P2) = between_append (i + 1) e P1 P2 (between_wider (i + 1) (i + 1 + (n + 1)) (i + 1) e P1 (omega arith) (omega arith) b1) (between_wider (i + 1 + (n + 1)) e (i + 1) e P2 (omega arith) (omega arith) b2) in
        let pm12 = part_second os P0 (P1 ++ P2) i (i + 1) e (omega arith) pm b0 b12 in
        let pm1 = part_first os P1 P2 (i + 1) (i + 1 + (n + 1)) e (omega arith) pm12 b1 b2 in
        let pm1e : Part os P1 (i + 1) (i + 1 + 1 + n) = subst (λ v. Part os P1 (i + 1) v) (let v : i + 1 + (n + 1) ≡ i + 1 + 1 + n = omega arith in v) pm1 in
        let pm2 = part_second os P1 P2 (i + 1) (i + 1 + (n + 1)) e (omega arith) pm12 b1 b2 in
        let pm2e : Part os P2 (i + 1 + (n + 1)) (i + 1 + (n + 1) + m) = subst (λ v. Part os P2 (i + 1 + (n + 1)) v) (let v : e ≡ i + 1 + (n + 1) + m = omega arith in v) pm2 in
        let pn12 = piece_second ns (record { sizes = sizes p E; span = suc (length (block_needs p body ++ clauses_needs p cs)) } ∷ []) (block_needs p body ++ clauses_needs p cs) i (i + 1) refl pn in
        let pn1 = piece_first ns (block_needs p body) (clauses_needs p cs) (i + 1) pn12 in
        let bn : length (block_needs p body) ≡ n + 1 = needs_many p (Nested body) in
        let pn2 = piece_second ns (block_needs p body) (clauses_needs p cs) (i + 1) (i + 1 + (n + 1)) (ap (λ v. i + 1 + v) (sym bn)) pn12 in
        let ci = clause_in s d (i + 1) b a own N O r body z.0 sv so ex eN po1 in
        let qa = block_asked (i + 1) body pn1 in
        let db = subst (λ v. DerivesBlock w (binding d v (binders r) s) (c + l) (d + l) T body) k.is k.body in
        let one = parts_is (binding d b (binders r) s) (c + l) (d + l) (i + 1) (i + 1 + 1) (clause_variables w b a d (binders r) own) (λ v. N v + given v b r) (clause_owned (guide w u ns) b (binder_of a) O r) (asked (guide w u ns) (i + 1)) body ci.0 ci.1 ci.2 ci.3 po2 (omega arith) qa.0 qa.1 qa.2 pm1e (inner_needs (i + 1) (i + 1 + 1) body refl pn1) z.2 db in
        let rest = clauses_is s (c + l + within_block body) (d + l + within_block body) (i + 1 + (n + 1)) b a own N O k.taken k.have cs z.0 k.is sv so ex eN po3 pm2e pn2 z.3 k.clauses in
        expression_node i E (W.match_rule b) (M.match_rule b) there have o (MoreTrees (walked_parts (guide w u ns) (i + 1 + 1) (clause_owned (guide w u ns) b (binder_of a) O r) (asked (guide w u ns) (i + 1)) body) (walked_clauses (guide w u ns) (i + 1 + (n + 1)) b (binder_of a) O cs)) (MoreTrees T TS) (same_rule b) (ap₂ MoreTrees one rest) pn pm st ev ec
    walked_is s c d i there have o (Nested b) sv st ev ec po pm pn z h =
        let qa = block_asked i b pn in
        let pm1 : Part os (marks_parts w (i + 1) b) i (i + 1 + size_parts b) = subst (λ v. Part os (marks_parts w (i + 1) b) i v) (let v : i + (size_parts b + 1) ≡ i + 1 + size_parts b = omega arith in v) pm in
        parts_is s c d i (i + 1) there have o (asked (guide w u ns) i) b sv st ev ec po (omega arith) qa.0 qa.1 qa.2 pm1 (inner_needs i (i + 1) b refl pn) z h

    pub parts_is : (s : Scope) (c d f i : ℕ) (there : List Known) (have : ℕ → ℕ) (o : Owned) (A : Asked) (b : Block) → AllSited w order u s.variables → AllSited w order u there → o.variables ≡ numbers there → Counts o.credits have → Piece order (slots_parts w b) d → f ≤ i → A.first ≡ f → A.end ≡ i + size_parts b → Counts A.need (λ k. need_block p k b) → Part os (marks_parts w i b) f (i + size_parts b) → Piece ns (parts_needs p b) i → SizedBlock p b → DerivesBlock w s c d (made_block p w s.variables d there have b) b → walked_parts (guide w u ns) i o A b ≡ made_block p w s.variables d there have b
    parts_is s c d f i there have o A (Last e) sv st ev ec po fi ef ee eA pm pn z h =
        walked_is s c d i there have o e sv st ev ec po (tighter os (marks w i e) f i (i + size e) fi (marks_between w i e) pm) pn z h
    parts_is s c d f i there have o A (Let bs e rest) sv st ev ec po fi ef ee eA pm pn z h =
        let l = length bs in
        let n = size e in
        let m = size_parts rest in
        let V : ℕ → Bool = λ x. occurs x e || occurs_block x rest in
        let own = those V there in
        let G = guide w u ns in
        let B = asked G i in
        let D : ℕ → ℕ = λ k. need p k e + need_block p k rest in
        let T = made_expression p w s.variables (d + l) (those (λ x. uses w x e) own) (λ k. need p k e) e in
        let U = those (λ x. not (uses w x e)) own ++ added w true d bs in
        let S = made_block p w (named d true bs ++ s.variables) (d + within e + l) U (λ k. need_block p k rest) rest in
        let k = under_is (is_fip w.kind) d R.Let R.Let V there have D (MoreTrees T (MoreTrees S NoTrees)) (MoreTrees h.2 (MoreTrees h.3 NoTrees)) h.0 h.1 refl h.4 refl in
        let two = two_same h.2 h.3 T S k.parts in
        let d1 = subst (λ t. Derives w (lending h.0 (own_variables h.2) s) c (d + l) t e) two.0 h.11 in
        let d2 = subst (λ t. DerivesBlock w (binding d true bs s) (c + within e + l) (d + within e + l) t rest) two.1 h.12 in
        let po1 = piece_first order (slots w bs) (slots_in w e ++ slots_parts w rest) d po in
        let po23 = piece_second order (slots w bs) (slots_in w e ++ slots_parts w rest) d (d + l) (ap (λ v. d + v) (sym (slots_length w bs))) po in
        let po2 = piece_first order (slots_in w e) (slots_parts w rest) (d + l) po23 in
        let il = in_length w e in
        let po3 = piece_second order (slots_in w e) (slots_parts w rest) (d + l) (d + within e + l) (omega (arith, il)) po23 in
        let b1 = marks_between w i e in
        let b2 : Between (i + n) (i + (n + m)) (marks_parts w (i + n) rest) = between_wider (i + n) (i + n + m) (i + n) (i + (n + m)) (marks_parts w (i + n) rest) (omega arith) (omega arith) (parts_between w (i + n) rest) in
        let b1f = between_wider i (i + n) f (i + n) (marks w i e) fi (omega arith) b1 in
        let pm1 = part_first os (marks w i e) (marks_parts w (i + n) rest) f (i + n) (i + (n + m)) (omega arith) pm b1f b2 in
        let pm1e = tighter os (marks w i e) f i (i + n) fi b1 pm1 in
        let pm2 = part_second os (marks w i e) (marks_parts w (i + n) rest) f (i + n) (i + (n + m)) (omega arith) pm b1f b2 in
        let pm2e : Part os (marks_parts w (i + n) rest) (i + n) (i + n + m) = subst (λ v. Part os (marks_parts w (i + n) rest) (i + n) v) (let v : i + (n + m) ≡ i + n + m = omega arith in v) pm2 in
        let pn1 = piece_first ns (needs p e) (parts_needs p rest) i pn in
        let pn2 = piece_second ns (needs p e) (parts_needs p rest) i (i + n) (ap (λ v. i + v) (sym (needs_many p e))) pn in
        let ea = asked_is p w u ns i e pn1 in
        let bf = ap (λ (v : Asked). v.first) ea in
        let be = ap (λ (v : Asked). v.end) ea in
        let eB : Counts B.need (λ v. need p v e) = subst (λ (v : Asked). Counts v.need (λ y. need p y e)) (sym ea) (sizes_count e) in
        let xs = W.those G A o.variables in
        let ex : xs ≡ numbers own = those_is A (marks_parts w i (Let bs e rest)) f (i + (n + m)) V there o.variables ef ee pm (λ x. occurs_parts w x i (Let bs e rest)) st ev in
        let so = those_sited w order u V there st in
        let eu : W.used G B xs ≡ numbers (those (λ x. uses w x e) own) = used_is B (marks w i e) i (i + n) (λ x. uses w x e) own xs bf be pm1e (λ x. uses_hits p w x i e z.0) so ex in
        let en : W.unused G B xs ≡ numbers (those (λ x. not (uses w x e)) own) = unused_is B (marks w i e) i (i + n) (λ x. uses w x e) own xs bf be pm1e (λ x. uses_hits p w x i e z.0) so ex in
        let ns1 = named_sited w order u d true bs table po1 in
        let eb : W.bound_all G (W.unused G B xs) bs ≡ numbers U = bound_is w order u ns d (W.unused G B xs) bs ns1 ∙ ap (λ v. v ++ numbers (unscalar w (named d true bs))) en ∙ sym (numbers_append (those (λ x. not (uses w x e)) own) (unscalar w (named d true bs))) in
        let eC : Counts (minus A.need B.need) (λ v. need_block p v rest) = less_counts A.need B.need (λ v. need p v e) (λ v. need_block p v rest) eA eB in
        let su = all_append w order u (those (λ x. not (uses w x e)) own) (added w true d bs) (those_sited w order u (λ x. not (uses w x e)) own so) (unscalar_sited w order u (named d true bs) ns1) in
        let one = walked_is (lending h.0 (own_variables h.2) s) c (d + l) i (those (λ x. uses w x e) own) (λ v. need p v e) (bound_owned G A B o) e sv (those_sited w order u (λ x. uses w x e) own so) eu eB po2 pm1e pn1 z.0 d1 in
        let other = parts_is (binding d true bs s) (c + within e + l) (d + within e + l) (i + n) (i + n) U (λ v. need_block p v rest) (rest_owned G A B o bs) (following A B) rest (all_append w order u (named d true bs) s.variables ns1 sv) su eb eC po3 (omega arith) be (ee ∙ (let v : i + (n + m) ≡ i + n + m = omega arith in v)) eC pm2e pn2 z.1 d2 in
        ap₂ (λ x y. W.node R.Let o xs A.need (MoreTrees x (MoreTrees y NoTrees))) one other
        ∙ node_is R.Let V there have D o xs A.need (MoreTrees T (MoreTrees S NoTrees)) ev ec ex eA

    clauses_is : (s : Scope) (c d i : ℕ) (b : Bool) (a : Argument) (own : List Known) (N : ℕ → ℕ) (O : Owned) (x : Option ℕ) (got : Item → ℕ) (cs : Clauses) → IsVariable a → is_taken x ≡ b → AllSited w order u s.variables → AllSited w order u own → O.variables ≡ numbers own → Counts O.credits N → Piece order (slots_clauses w cs) d → Part os (marks_clauses w i cs) i (i + size_clauses cs) → Piece ns (clauses_needs p cs) i → SizedClauses p cs → DerivesClauses w s c d x got (made_clauses p w s.variables d b a own N cs) cs → walked_clauses (guide w u ns) i b (binder_of a) O cs ≡ made_clauses p w s.variables d b a own N cs
    clauses_is s c d i b a own N O x got NoClauses v t sv so ex eN po pm pn z h = refl
    clauses_is s c d i b a own N O x got (MoreClauses r body cs) v t sv so ex eN po pm pn z h =
        let l = length (binders r) in
        let n = size_parts body in
        let m = size_clauses cs in
        let T = made_block p w (named d b (binders r) ++ s.variables) (d + l) (clause_variables w b a d (binders r) own) (λ k. N k + given k b r) body in
        let po1 = piece_first order (slots w (binders r)) (slots_parts w body ++ slots_clauses w cs) d po in
        let po23 = piece_second order (slots w (binders r)) (slots_parts w body ++ slots_clauses w cs) d (d + l) (ap (λ k. d + k) (sym (slots_length w (binders r)))) po in
        let po2 = piece_first order (slots_parts w body) (slots_clauses w cs) (d + l) po23 in
        let po3 = piece_second order (slots_parts w body) (slots_clauses w cs) (d + l) (d + l + within_block body) (ap (λ k. d + l + k) (sym (parts_length w body))) po23 in
        let P1 = marks_parts w (i + 1) body in
        let P2 = marks_clauses w (i + (n + 1)) cs in
        let e = i + (n + 1 + m) in
        let b1 : Between i (i + (n + 1)) P1 = between_wider (i + 1) (i + 1 + n) i (i + (n + 1)) P1 (omega arith) (omega arith) (parts_between w (i + 1) body) in
        let b2 : Between (i + (n + 1)) e P2 = between_wider (i + (n + 1)) (i + (n + 1) + m) (i + (n + 1)) e P2 (omega arith) (omega arith) (clauses_between w (i + (n + 1)) cs) in
        let pm1 = part_first os P1 P2 i (i + (n + 1)) e (omega arith) pm b1 b2 in
        let pm1e : Part os P1 i (i + 1 + n) = subst (λ k. Part os P1 i k) (let k : i + (n + 1) ≡ i + 1 + n = omega arith in k) pm1 in
        let pm2 = part_second os P1 P2 i (i + (n + 1)) e (omega arith) pm b1 b2 in
        let pm2e : Part os P2 (i + (n + 1)) (i + (n + 1) + m) = subst (λ k. Part os P2 (i + (n + 1)) k) (let k : e ≡ i + (n + 1) + m = omega arith in k) pm2 in
        let pn1 = piece_first ns (block_needs p body) (clauses_needs p cs) i pn in
        let bn : length (block_needs p body) ≡ n + 1 = needs_many p (Nested body) in
        let pn2 = piece_second ns (block_needs p body) (clauses_needs p cs) i (i + (n + 1)) (ap (λ k. i + k) (sym bn)) pn in
        let ci = clause_in s d i b a own N O r body v sv so ex eN po1 in
        let qa = block_asked i body pn1 in
        let db = subst (λ k. DerivesBlock w (binding d k (binders r) s) (c + l) (d + l) T body) t h.0.3 in
        ap₂ MoreTrees
        (parts_is (binding d b (binders r) s) (c + l) (d + l) i (i + 1) (clause_variables w b a d (binders r) own) (λ k. N k + given k b r) (clause_owned (guide w u ns) b (binder_of a) O r) (asked (guide w u ns) i) body ci.0 ci.1 ci.2 ci.3 po2 (omega arith) qa.0 qa.1 qa.2 pm1e (inner_needs i (i + 1) body refl pn1) z.1 db)
        (clauses_is s (c + l + within_block body) (d + l + within_block body) (i + (n + 1)) b a own N O x got cs v t sv so ex eN po3 pm2e pn2 z.2 h.1)
