-- What the calculus of ownership requires of a typed program of a source: scrutinees are variables, no constructor has
-- more than 16 fields, one of a scalar type has none, and credits have sizes from 1 to 16.
use Rattle.std.proofs.Common.{◌≡◌, ◌≤◌, ◌<◌, ◌==◌, ◌||◌, ◌&&◌, inl, inr, ℕ, zero, suc, Bool, true, false, nat_lt, List, [], ◌∷◌, ◌++◌, length, map, Option, Some, None, slice_get, if◌then◌else◌, refl, sym, ap, subst, arith}
use Rattle.std.proofs.lemmas.Bool.Decides.{nat_tests}
use Rattle.cell_lower.proofs.fip_language.Words.{map_at}
use Rattle.cell_lower.specs.fip_language.declared.limits.TheConstants.{MOST_FIELDS}
use Rattle.cell_lower.specs.fip_language.declared.rule.Rule.TheVariants.{E14}
use Rattle.cell_lower.specs.fip_language.Core as C
use Rattle.cell_lower.specs.fip_language.Core.{Core, Data, DataConstructor, Function, Written}
use Rattle.cell_lower.specs.fip_language.Declarations.{data_types, bool_type}
use Rattle.cell_lower.specs.fip_language.Every.{Every, Among}
use Rattle.cell_lower.specs.fip_language.Mentions.{all_of}
use Rattle.cell_lower.specs.fip_language.Table.{Shape, shapes, is_scalar, all_bare, no_fields}
use Rattle.cell_lower.specs.fip_base.CoreView.{writtens_of}
use Rattle.cell_lower.specs.fip_base.TableView.{fields_at}
use Rattle.cell_lower.specs.fip_trees.declared.least.Violation.{Violation}
use Rattle.cell_lower.specs.fip_trees.Least.{In}
use Rattle.cell_lower.proofs.fip_trees.Leasts.{in_left, in_right}
use Rattle.cell_lower.specs.fip_trees.Tree as T
use Rattle.cell_lower.specs.fip_trees.Tree.{Program, count, count_patterns}
use Rattle.static_params.specs.data_types.Answers as Declaring
use Rattle.static_params.specs.data_types.Declarations.{declarations, declared_names, data_scope, constructor_fields}
use Rattle.static_params.specs.data_types.Faults.{broken, when, size_faults, data_faults, all_data_faults, all_function_faults, name_faults, repeats, type_name_mentions, field_faults}
use Rattle.static_params.specs.reached_instances.closed_types.declared.closed.Head.TheVariants as H
use Rattle.static_params.specs.reached_instances.closed_types.Closed as Z
use Rattle.static_params.specs.reached_instances.closed_types.Closed.{Closed, Closeds, Applied, NoClosed, MoreClosed}
use Rattle.static_params.specs.reached_instances.closed_types.Source.{Instance}
use Rattle.static_params.specs.reached_instances.closed_types.TypeInstances.{field_types}
use Rattle.static_params.specs.FlatProgram.{Numbers, numbers_of, flat_constructor, credit_size, flat_argument, flat_block, flat_expression, flat_clauses, instance_if, instances_of, flat_program}
use Rattle.lowering_simulation.proofs.type_check.Exact.{filled_right}
use Rattle.lowering_simulation.specs.type_check.Scope.{Scope}
use Rattle.lowering_simulation.specs.type_check.Found.{wanted_next}
use Rattle.lowering_simulation.specs.type_check.Binders.{all_annotated, annotations, entries}
use Rattle.lowering_simulation.specs.type_check.Faults.{fill, fill_block, fill_clauses, fill_argument, fill_instance, filled, found, found_block, found_argument}
use Rattle.lowering_simulation.specs.type_check.Typing as Y
use Rattle.lowering_simulation.specs.type_check.Typing.{bound_by, parameter_scope}
use Rattle.lowering_simulation.specs.type_check.World.{World, world, fields_of}
use Rattle.ownership_agreement.specs.Sized.{AreSizes, SizedHeader, IsVariable, SizedArgument, SizedArguments, SizedPattern, SizedPatterns, SizedExpression, SizedBlock, SizedClauses}
use Rattle.ownership_agreement.specs.Agreement.{AreSized}
use Rattle.static_params.specs.FlatSource.{flat_source, fields, constructor, declared}
use Rattle.source_report.specs.Report.{IsFlat, IsTyped}
use Rattle.static_params.proofs.GoodTypes.{all_of_have}
use Rattle.static_params.proofs.HeaderCredits.{in_of, in_when, header_credits}
use Rattle.static_params.proofs.TableRows.{shapes_below, row_there}
use Rattle.source_report.proofs.Scrutinees as Q
use Rattle.source_report.proofs.Scrutinees.{core_asks}
use Rattle.static_params.proofs.TypeRows.{there_among}
use Rattle.cell_lower.proofs.fip_language.Facts.{map_length}
use Rattle.source_report.proofs.Filling.{from_map}

-- ---- declarations: E14

sizes_from : (ks : List ℕ) → ((i n : ℕ) → slice_get ks i ≡ Some n → (1 ≤ n) × (n ≤ MOST_FIELDS)) → AreSizes ks
sizes_from [] h = tt
sizes_from (k ∷ ks) h = let here = h 0 k refl in (here.0, (let b = here.1 in omega (arith, b)), sizes_from ks (λ i n e. h (suc i) n e))

module _ (core : Core) (unbroken : (v : Violation) → Declaring.Violates core v → ⊥) where
  many_fields : (d : Data) (k : DataConstructor) → Among d core.types → Among k d.constructors → nat_lt MOST_FIELDS (length k.fields) ≡ true → ⊥
  many_fields d k a b e =
      let v : Violation = broken E14 k.place k.name in
      let one : In v (size_faults d.constructors) = in_of (λ (k : DataConstructor). when (nat_lt MOST_FIELDS (length k.fields)) (broken E14 k.place k.name)) k v d.constructors b (in_when (nat_lt MOST_FIELDS (length k.fields)) v e) in
      let here : In v (data_faults (declared_names core) d) =
      in_right v (repeats [] (type_name_mentions d.parameters)) (field_faults (data_scope (declared_names core) d) d.constructors ++ size_faults d.constructors)
      (in_right v (field_faults (data_scope (declared_names core) d) d.constructors) (size_faults d.constructors) one) in
      let all : In v (all_data_faults (declared_names core) core.types) = in_of (data_faults (declared_names core)) d v core.types a here in
      unbroken v (inl (in_right v (name_faults core) (all_data_faults (declared_names core) core.types ++ all_function_faults (declared_names core) core.functions)
      (in_left v (all_data_faults (declared_names core) core.types) (all_function_faults (declared_names core) core.functions) all)))

  not_many : (n : ℕ) → (nat_lt MOST_FIELDS n ≡ true → ⊥) → n < suc MOST_FIELDS
  not_many n h = by (nat_lt MOST_FIELDS n) refl
    where
      by : (b : Bool) → nat_lt MOST_FIELDS n ≡ b → n < suc MOST_FIELDS
      by true e = absurd (h e)
      by false e = grind (arith, nat_tests)

  bool_few : (k : DataConstructor) → Among k bool_type.constructors → length k.fields < suc MOST_FIELDS
  bool_few k (inl e) = subst (λ (k : DataConstructor). length k.fields < suc MOST_FIELDS) (sym e) (omega arith)
  bool_few k (inr (inl e)) = subst (λ (k : DataConstructor). length k.fields < suc MOST_FIELDS) (sym e) (omega arith)
  bool_few k (inr (inr n)) = absurd n

  fields_few : (d : Data) (k : DataConstructor) → Among d (data_types core) → Among k d.constructors → length k.fields < suc MOST_FIELDS
  fields_few d k (inl e) b = bool_few k (subst (λ (d : Data). Among k d.constructors) e b)
  fields_few d k (inr a) b = not_many (length k.fields) (many_fields d k a b)

  credits_good : (f : Function) → Among f core.functions → AreSizes (map credit_size f.credits)
  credits_good f a = sizes_from (map credit_size f.credits) (header_credits core unbroken f a).sized

-- ---- scrutinees of instances

abbrev mutual
  Asked : T.Expression → Type 0
  Asked (T.Give a) = Unit {0}
  Asked (T.Tuple q as') = Unit {0}
  Asked (T.Operation o q l r) = Unit {0}
  Asked (T.Call g n q as') = Unit {0}
  Asked (T.Match d u q a r b cs) = IsVariable a × AskedBlock b × AskedClauses cs
  Asked (T.Nested b) = AskedBlock b

  AskedBlock : T.Block → Type 0
  AskedBlock (T.Last e) = Asked e
  AskedBlock (T.Let bs e rest) = Asked e × AskedBlock rest

  AskedClauses : T.Clauses → Type 0
  AskedClauses T.NoClauses = Unit {0}
  AskedClauses (T.MoreClauses r b cs) = AskedBlock b × AskedClauses cs

module _ (s : _) (ns : Numbers) where
  flat_variable : (a : C.Argument) → Q.IsVariable a → IsVariable (flat_argument s a)
  flat_variable (C.Variable b x p) h = tt
  flat_variable (C.Literal i p) h = absurd h
  flat_variable (C.Constructor x p as') h = absurd h

  mutual
    flat_asked : (here : Instance) (e : C.Expression) → Q.Asks e → Asked (flat_expression s ns here e)
    flat_asked here (C.Give a) h = tt
    flat_asked here (C.Tuple p as') h = tt
    flat_asked here (C.Operation o p a b) h = tt
    flat_asked here (C.Call x p ws as') h = tt
    flat_asked here (C.Match d p a C.NoClauses) h = tt
    flat_asked here (C.Match d p a (C.MoreClauses q b cs)) h = (flat_variable a h.0, flat_block_asked here b h.1.0, flat_clauses_asked here cs h.1.1)
    flat_asked here (C.Nested b) h = flat_block_asked here b h

    flat_block_asked : (here : Instance) (b : C.Block) → Q.AsksBlock b → AskedBlock (flat_block s ns here b)
    flat_block_asked here (C.Last e) h = flat_asked here e h
    flat_block_asked here (C.Let bs e rest) h = (flat_asked here e h.0, flat_block_asked here rest h.1)

    flat_clauses_asked : (here : Instance) (cs : C.Clauses) → Q.AskClauses cs → AskedClauses (flat_clauses s ns here cs)
    flat_clauses_asked here C.NoClauses h = tt
    flat_clauses_asked here (C.MoreClauses q b cs) h = (flat_block_asked here b h.0, flat_clauses_asked here cs h.1)

module _ (w : World) where
  fill_variable : (a : T.Argument) → IsVariable a → IsVariable (fill_argument w None a)
  fill_variable (T.Variable x n p) h = tt
  fill_variable (T.Literal i p) h = absurd h
  fill_variable (T.Constructor t d c n p as') h = absurd h

  mutual
    fill_asked : (s : Scope) (b : Bool) (ts : List (Option ℕ)) (e : T.Expression) → Asked e → Asked (fill w s b ts e)
    fill_asked s b ts (T.Give a) h = tt
    fill_asked s b ts (T.Tuple l as') h = tt
    fill_asked s b ts (T.Operation o l x y) h = tt
    fill_asked s b ts (T.Call g n l as') h = tt
    fill_asked s b ts (T.Match k u l a r body cs) h = (
      fill_variable a h.0,
      fill_block_asked (s ++ bound_by w (found_argument w s None a) r) b ts body h.1,
      fill_clauses_asked s (found_argument w s None a) (wanted_next b ts (found_block w (s ++ bound_by w (found_argument w s None a) r) b ts body)) cs h.2,
    )
    fill_asked s b ts (T.Nested d) h = fill_block_asked s b ts d h

    fill_block_asked : (s : Scope) (b : Bool) (ts : List (Option ℕ)) (d : T.Block) → AskedBlock d → AskedBlock (fill_block w s b ts d)
    fill_block_asked s b ts (T.Last e) h = fill_asked s b ts e h
    fill_block_asked s b ts (T.Let bs e rest) h = (
      fill_asked s (all_annotated bs) (annotations bs) e h.0,
      fill_block_asked (s ++ entries bs (found w s (all_annotated bs) (annotations bs) e)) b ts rest h.1,
    )

    fill_clauses_asked : (s : Scope) (t : Option ℕ) (ts : List (Option ℕ)) (cs : T.Clauses) → AskedClauses cs → AskedClauses (fill_clauses w s t ts cs)
    fill_clauses_asked s t ts T.NoClauses h = tt
    fill_clauses_asked s t ts (T.MoreClauses r body cs) h = (fill_block_asked (s ++ bound_by w t r) true ts body h.0, fill_clauses_asked s t ts cs h.1)

-- ---- what is typed by its slots is sized

abbrev IsNarrow : Program → Type 0
IsNarrow p = (t c : ℕ) (s : Shape) → slice_get (shapes p.types t) c ≡ Some s → length s.fields < suc MOST_FIELDS

narrow_at : (ss : List Shape) (c : ℕ) → ((d : ℕ) (s : Shape) → slice_get ss d ≡ Some s → length s.fields < suc MOST_FIELDS) → length (fields_at ss c) < suc MOST_FIELDS
narrow_at [] c h = omega arith
narrow_at (s ∷ ss) zero h = h 0 s refl
narrow_at (s ∷ ss) (suc c) h = narrow_at ss c (λ d r e. h (suc d) r e)

bare_at : (ss : List Shape) (c : ℕ) → all_bare ss ≡ true → fields_at ss c ≡ []
bare_at [] c h = refl
bare_at (s ∷ ss) zero h = bare_fields s.fields (left_true (no_fields s.fields) (all_bare ss) h)
  where
    left_true : (a b : Bool) → (a && b) ≡ true → a ≡ true
    left_true true b e = refl
    left_true false b e = absurd (cc)

    bare_fields : (ks : List ℕ) → no_fields ks ≡ true → ks ≡ []
    bare_fields [] e = refl
    bare_fields (k ∷ ks) e = absurd (cc)
bare_at (s ∷ ss) (suc c) h = bare_at ss c (right_true (no_fields s.fields) (all_bare ss) h)
  where
    right_true : (a b : Bool) → (a && b) ≡ true → b ≡ true
    right_true true b e = e
    right_true false b e = absurd (cc)

module _ (p : Program) (narrow : IsNarrow p) (headers : (g : ℕ) → SizedHeader (slice_get p.instances g)) where
  fields_narrow : (t c : ℕ) → length (fields_of (world p) t c) < suc MOST_FIELDS
  fields_narrow zero c = omega arith
  fields_narrow (suc t) c = narrow_at (shapes p.types t) c (λ d s e. narrow t d s e)

  scalar_bare : (t c : ℕ) → is_scalar p.types t ≡ true → fields_of (world p) t c ≡ []
  scalar_bare zero c e = refl
  scalar_bare (suc t) c e = bare_at (shapes p.types t) c e

  counted : (s : Scope) (b : Bool) (as' : T.Arguments) (ts : List ℕ) → Y.HaveTypes true (world p) s b as' ts → count as' ≡ length ts
  counted s b T.NoArguments [] h = refl
  counted s b T.NoArguments (t ∷ ts) h = absurd h
  counted s b (T.MoreArguments a as') [] h = absurd h
  counted s b (T.MoreArguments a as') (t ∷ ts) h = ap suc (counted s b as' ts h.1)

  none_given : (s : Scope) (b : Bool) (as' : T.Arguments) (ts : List ℕ) → ts ≡ [] → Y.HaveTypes true (world p) s b as' ts → as' ≡ T.NoArguments
  none_given s b T.NoArguments ts e h = refl
  none_given s b (T.MoreArguments a as') [] e h = absurd h
  none_given s b (T.MoreArguments a as') (t ∷ ts) e h = absurd (cc)

  mutual
    argument_sized : (s : Scope) (b : Bool) (a : T.Argument) (t : ℕ) → Y.HasType true (world p) s b a t → SizedArgument p a
    argument_sized s b (T.Variable x n q) t h = tt
    argument_sized s b (T.Literal i q) t h = tt
    argument_sized s b (T.Constructor u d c n q as') t h =
        let few = fields_narrow t c in
        let size = counted s true as' (fields_of (world p) t c) h.2 in (
          (omega (arith, few, size)),
          (λ e. none_given s true as' (fields_of (world p) t c) (scalar_bare t c (subst (λ u. is_scalar p.types u ≡ true) h.0 e)) h.2),
          arguments_sized s true as' (fields_of (world p) t c) h.2,
        )

    arguments_sized : (s : Scope) (b : Bool) (as' : T.Arguments) (ts : List ℕ) → Y.HaveTypes true (world p) s b as' ts → SizedArguments p as'
    arguments_sized s b T.NoArguments ts h = tt
    arguments_sized s b (T.MoreArguments a as') [] h = absurd h
    arguments_sized s b (T.MoreArguments a as') (t ∷ ts) h = (argument_sized s b a t h.0, arguments_sized s b as' ts h.1)

  counted_patterns : (ts : List ℕ) (qs : T.Patterns) → Y.ArePatterns true (world p) ts qs → count_patterns qs ≡ length ts
  counted_patterns [] T.NoPatterns h = refl
  counted_patterns [] (T.MorePatterns q qs) h = absurd h
  counted_patterns (t ∷ ts) T.NoPatterns h = absurd h
  counted_patterns (t ∷ ts) (T.MorePatterns q qs) h = ap suc (counted_patterns ts qs h.1)

  mutual
    pattern_sized : (t : ℕ) (q : T.Pattern) → Y.IsPattern true (world p) t q → SizedPattern q
    pattern_sized t (T.BinderPattern b) h = tt
    pattern_sized t (T.LiteralPattern i q) h = tt
    pattern_sized t (T.ConstructorPattern u d c n q qs) h =
        let few = fields_narrow t c in
        let size = counted_patterns (fields_of (world p) t c) qs h.2 in
        ((omega (arith, few, size)), patterns_sized (fields_of (world p) t c) qs h.2)

    patterns_sized : (ts : List ℕ) (qs : T.Patterns) → Y.ArePatterns true (world p) ts qs → SizedPatterns qs
    patterns_sized ts T.NoPatterns h = tt
    patterns_sized [] (T.MorePatterns q qs) h = absurd h
    patterns_sized (t ∷ ts) (T.MorePatterns q qs) h = (pattern_sized t q h.0, patterns_sized ts qs h.1)

  mutual
    expression_sized : (s : Scope) (b : Bool) (e : T.Expression) (ts : List ℕ) → Y.Types true (world p) s b e ts → Asked e → SizedExpression p e
    expression_sized s b (T.Give a) ts h k = argument_sized s b a h.0 h.2
    expression_sized s b (T.Tuple q as') ts h k = arguments_sized s b as' ts h.1
    expression_sized s b (T.Operation o q l r) ts h k = (argument_sized s true l 0 h.1, argument_sized s true r 0 h.2)
    expression_sized s b (T.Call g n q as') ts h k = (arguments_sized s true as' _ h.1, headers g)
    expression_sized s b (T.Match d u q a r body cs) ts h k =
        (k.0, pattern_sized h.0 r h.3, block_sized (s ++ bound_by (world p) (Some h.0) r) b body ts h.4 k.1, clauses_sized s h.0 cs ts h.5 k.2)
    expression_sized s b (T.Nested d) ts h k = block_sized s b d ts h k

    block_sized : (s : Scope) (b : Bool) (d : T.Block) (ts : List ℕ) → Y.TypesBlock true (world p) s b d ts → AskedBlock d → SizedBlock p d
    block_sized s b (T.Last e) ts h k = expression_sized s b e ts h k
    block_sized s b (T.Let bs e rest) ts h k =
        (expression_sized s (all_annotated bs) e h.0 h.1 k.0, block_sized (s ++ entries bs (map Some h.0)) b rest ts h.3 k.1)

    clauses_sized : (s : Scope) (t : ℕ) (cs : T.Clauses) (ts : List ℕ) → Y.TypesClauses true (world p) s t cs ts → AskedClauses cs → SizedClauses p cs
    clauses_sized s t T.NoClauses ts h k = tt
    clauses_sized s t (T.MoreClauses r body cs) ts h k =
        (pattern_sized t r h.0, block_sized (s ++ bound_by (world p) (Some t) r) true body ts h.1 k.0, clauses_sized s t cs ts h.2 k.1)

  instances_sized : (ds : List T.Instance) → Y.AllTyped true (world p) ds → ((d : T.Instance) → Among d ds → AreSizes d.credits × AskedBlock d.body) → AreSized p ds
  instances_sized [] h k = tt
  instances_sized (d ∷ ds) h k =
      let here = k d (inl refl) in
      (record { header = here.0; body = block_sized (parameter_scope d) true d.body d.results h.0.3 here.1 }, instances_sized ds h.1 (λ e a. k e (inr a)))

-- ---- of a source

header_by : (ds : List T.Instance) → ((d : T.Instance) → Among d ds → AreSizes d.credits) → (g : ℕ) → SizedHeader (slice_get ds g)
header_by [] h g = tt
header_by (d ∷ ds) h zero = h d (inl refl)
header_by (d ∷ ds) h (suc g) = header_by ds (λ e a. h e (inr a)) g

numbers_length : (ns : Numbers) (cs : Closeds) (s : _) (ws : List Written) → length (numbers_of ns (field_types cs (fields (Rattle.static_params.specs.data_types.Declarations.all_looked_up s (writtens_of ws))))) ≡ length ws
numbers_length ns cs s [] = refl
numbers_length ns cs s (w ∷ ws) = ap suc (numbers_length ns cs s ws)

module _ (source : List ℕ) (q : Program) (flat : IsFlat source q) where
  abbrev core : Core
  core = flat.core

  flat_narrow : IsNarrow (flat_program (flat_source core) flat.numbers)
  flat_narrow t c s e =
      let few = flat.few in
      let r = row_there core flat.numbers few.passed few.instances.instances few.given few.types t (shapes_below (flat_program (flat_source core) flat.numbers).types t c s e) in
      let at = map_at (flat_constructor flat.numbers r.arguments) (declared (declared_names core) r.«data»).constructors c s (subst (λ ss. slice_get ss c ≡ Some s) r.row e) in
      let from = map_at (constructor (data_scope (declared_names core) r.«data»)) r.«data».constructors c at.0 at.1 in
      let size = numbers_length flat.numbers r.arguments (data_scope (declared_names core) r.«data») from.0.fields in
      let small = fields_few core flat.declared.unbroken r.«data» from.0 (there_among (data_types core) r.number r.«data» r.there) (there_among r.«data».constructors c from.0 from.1) in
      let one : length (flat_constructor flat.numbers r.arguments (constructor (data_scope (declared_names core) r.«data») from.0)).fields < suc MOST_FIELDS = omega (arith, small, size) in
      subst (λ (s : Shape). length s.fields < suc MOST_FIELDS) at.2 (subst (λ k. length (flat_constructor flat.numbers r.arguments k).fields < suc MOST_FIELDS) from.2 one)

  abbrev IsFine : T.Instance → Type 0
  IsFine d = AreSizes d.credits × AskedBlock d.body

  among_at : (fs : List Function) (n : ℕ) (f : Function) → slice_get fs n ≡ Some f → Among f fs
  among_at fs n f e = there_among fs n f e

  every_at : (fs : List Function) (f : Function) → Every (λ (f : Function). Q.AsksBlock f.body) fs → Among f fs → Q.AsksBlock f.body
  every_at [] f h a = absurd a
  every_at (g ∷ fs) f h (inl e) = subst (λ (f : Function). Q.AsksBlock f.body) (sym e) h.0
  every_at (g ∷ fs) f h (inr a) = every_at fs f h.1 a

  all_ask : Every (λ (f : Function). Q.AsksBlock f.body) core.functions
  all_ask = subst (λ (c : Core). Every (λ (f : Function). Q.AsksBlock f.body) c.functions) (sym flat.declared.parsed.is) (core_asks flat.declared.parsed.tree)

  option_fine : (here : Instance) (o : Option Function) → ((f : Function) → o ≡ Some f → Among f core.functions) → (d : T.Instance) → Among d (instance_if (flat_source core) flat.numbers here o) → IsFine d
  option_fine here None h d a = absurd a
  option_fine here (Some f) h d (inl e) =
      subst IsFine (sym e) (credits_good core flat.declared.unbroken f (h f refl), flat_block_asked (flat_source core) flat.numbers here f.body (every_at core.functions f all_ask (h f refl)))
  option_fine here (Some f) h d (inr n) = absurd n

  closed_fine : (c : Closed) (d : T.Instance) → Among d (instances_of (flat_source core) flat.numbers c) → IsFine d
  closed_fine Z.Int d a = absurd a
  closed_fine (Applied (H.«Type» n) cs) d a = absurd a
  closed_fine (Applied (H.Function f) cs) d a =
      option_fine (record { function = f; given = cs }) (slice_get core.functions f) (λ g e. among_at core.functions f g e) d a

  flat_fine : (d : T.Instance) → Among d q.instances → IsFine d
  flat_fine d a =
      all_of_have IsFine (instances_of (flat_source core) flat.numbers) flat.numbers.instances (λ c b e f. closed_fine c e f) d
      (subst (λ (p : Program). Among d p.instances) flat.is a)

pub typed_filled : (source : List ℕ) (p : Program) → IsTyped source p → Y.IsFilled p
typed_filled source p h = subst Y.IsFilled (sym h.is) (filled_right h.untyped h.typed)

filled_sized : (source : List ℕ) (q : Program) → IsFlat source q → Y.IsFilled (filled q) → AreSized (filled q) (filled q).instances
filled_sized source q flat y =
    let fine = flat_fine source q flat in
    let all = from_map (λ (d : T.Instance). AreSizes d.credits × AskedBlock d.body) (fill_instance (world q)) q.instances
    (λ d a. ((fine d a).0, fill_block_asked (world q) (parameter_scope d) true (map Some d.results) d.body (fine d a).1)) in
    instances_sized (filled q) (subst IsNarrow (sym flat.is) (flat_narrow source q flat)) (header_by (filled q).instances (λ d a. (all d a).0)) (filled q).instances y all

pub typed_sized : (source : List ℕ) (p : Program) → IsTyped source p → AreSized p p.instances
typed_sized source p h =
    let y = typed_filled source p h in
    subst (λ (p : Program). AreSized p p.instances) (sym h.is) (filled_sized source h.untyped h.flat (subst Y.IsFilled h.is y))
