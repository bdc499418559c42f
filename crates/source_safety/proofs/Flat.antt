-- The flat program of an accepted source: its literals have 64 bits, the constructors that it names are those of their
-- data types, its instances have as many binders as parameters, and its first type is bool.
use Rattle.std.proofs.Common.{◌≡◌, ◌<◌, inl, inr, ℕ, zero, suc, Bool, true, false, List, [], ◌∷◌, ◌++◌, length, map, Option, Some, None, slice_get, if◌then◌else◌, refl, sym, ap, ◌∙◌, subst, arith}
use Rattle.std.specs.List.{list_any}
use Rattle.in_place_safety.specs.fip_language.Core as C
use Rattle.in_place_safety.specs.fip_language.Core.{Name, Core, Data, Function}
use Rattle.in_place_safety.specs.fip_language.Declarations.{bool_type, data_types}
use Rattle.in_place_safety.specs.fip_language.Every.{Every, Among}
use Rattle.in_place_safety.specs.fip_language.Mentions.{all_of}
use Rattle.in_place_safety.specs.fip_language.Table.{Shape, shapes}
use Rattle.in_place_safety.specs.fip_trees.Names.{meaning}
use Rattle.in_place_safety.specs.fip_trees.Tree as T
use Rattle.in_place_safety.specs.fip_trees.declared.decls.ConstructorId.{ConstructorId}
use Rattle.specialisation_correctness.specs.data_types.Declarations.{data_scope, declared_names, written_names}
use Rattle.specialisation_correctness.specs.reached_instances.closed_types.declared.closed.Head.TheVariants as H
use Rattle.specialisation_correctness.specs.reached_instances.closed_types.Closed as Z
use Rattle.specialisation_correctness.specs.reached_instances.closed_types.Closed.{Closed, Closeds, Applied, NoClosed, same_closed}
use Rattle.specialisation_correctness.specs.reached_instances.closed_types.Source.{Instance}
use Rattle.specialisation_correctness.specs.reached_instances.closed_types.Numbering.{with_new, with_all}
use Rattle.specialisation_correctness.specs.reached_instances.closed_types.TypeInstances.{AreTypes, type_roots, parts_of}
use Rattle.specialisation_correctness.specs.static_params.FlatProgram.{Numbers, declared_or_bool, constructor_of, flat_binder, flat_parameter, flat_argument, flat_arguments, flat_expression, flat_block, flat_clauses, flat_instance, instance_if, instances_of, flat_constructor, declaring_of, number_if, flat_program}
use Rattle.specialisation_correctness.specs.static_params.Answers.{AreFew}
use Rattle.specialisation_correctness.specs.static_params.FlatSource.{flat_source, constructor, declared}
use Rattle.specialisation_correctness.specs.source_report.WellFormed.{IsWellFormed}
use Rattle.specialisation_correctness.proofs.static_params.GoodTypes.{all_of_have, below}
use Rattle.specialisation_correctness.proofs.static_params.TableRows.{row_there}
use Rattle.specialisation_correctness.proofs.static_params.Meanings.{IsConstructor, constructor_there}
use Rattle.specialisation_correctness.proofs.static_params.TypeRows.{one_at, row_of, has_declaring}
use Rattle.specialisation_correctness.proofs.static_params.TypeValues.{good, applied}
use Rattle.in_place_safety.specs.type_safety.Formed.{IsBare}
use Rattle.source_safety.proofs.Arguments.{IsRowOf, Sound, AllSound, SoundExpression, SoundBlock, SoundClauses, SoundInstance}
use Rattle.source_safety.proofs.CoreArguments.{FitsArgument, FitArguments, Fits, FitsBlock, FitClauses, CoreFits}
use Rattle.in_place_safety.proofs.type_safety.type_check.fip_language.Facts.{map_length}

-- the first of what is numbered stays the first
new_keeps : (xs : List Closed) (x y : Closed) (b : Bool) → slice_get xs 0 ≡ Some x → slice_get (if b then xs else xs ++ y ∷ []) 0 ≡ Some x
new_keeps [] x y b h = absurd (cc)
new_keeps (z ∷ xs) x y true h = h
new_keeps (z ∷ xs) x y false h = h

all_keep : (xs ys : List Closed) (x : Closed) → slice_get xs 0 ≡ Some x → slice_get (with_all same_closed xs ys) 0 ≡ Some x
all_keep xs [] x h = h
all_keep xs (y ∷ ys) x h = all_keep (with_new same_closed xs y) ys x (new_keeps xs x y (list_any (λ z. same_closed y z) xs) h)

module _ (core : Core) (ns : Numbers) (few : AreFew (flat_source core) ns) (formed : IsWellFormed (flat_program (flat_source core) ns)) where
  abbrev p : T.Program
  p = flat_program (flat_source core) ns

  abbrev Types : Type 0
  Types = AreTypes (flat_source core) ns.instances few.passed ns.types

  one_number : (c : Closed) → Among c ns.types → (n : ℕ) × (declaring_of (flat_source core) c ≡ n ∷ [])
  one_number c a =
      has_declaring core c (good core ns few.passed few.instances.instances few.given few.types c a) (applied core ns few.passed few.instances.instances few.given few.types c a)

  -- ---- constructors

  constructor_is : (o : Option ConstructorId) → ((k : ConstructorId) → o ≡ Some k → IsConstructor (data_types core) k) → IsConstructor (data_types core) (declared_or_bool o)
  constructor_is None h = (0, bool_type, refl, refl, omega arith)
  constructor_is (Some k) h = h k refl

  named_constructor : (x : Name) → IsConstructor (data_types core) (constructor_of (flat_source core) x)
  named_constructor x = constructor_is (meaning x (written_names core).constructors) (λ k e. constructor_there core x k e)

  same_suc : (m n : ℕ) → suc m ≡ suc n → m ≡ n
  same_suc m n e = omega (arith, e)

  row_has : (k : ConstructorId) → IsConstructor (data_types core) k → IsRowOf p k.«data» k.number
  row_has k h t e =
      let small : t < length p.types = (let b = below p.declaring t k.«data» e in let f = formed.declared in omega (arith, b, f)) in
      let r = row_there core ns few.passed few.instances.instances few.given few.types t small in
      let number : slice_get p.declaring t ≡ Some (suc r.number) =
      one_at (declaring_of (flat_source core)) ns.types one_number t (Applied (H.«Type» (suc r.number)) r.arguments) (suc r.number) r.at (ap (number_if (suc r.number)) r.declared) in
      let same : h.0 ≡ r.number = same_suc h.0 r.number (let f : suc h.0 ≡ suc r.number = (let g : Some k.«data» ≡ Some (suc r.number) = sym e ∙ number in let q : k.«data» ≡ suc r.number = cc in sym h.2 ∙ q) in f) in
      let one : Some h.1 ≡ Some r.«data» = sym h.3 ∙ ap (slice_get (data_types core)) same ∙ r.there in
      let it : h.1 ≡ r.«data» = cc in
      let size : length (shapes p.types t) ≡ length h.1.constructors =
      ap length r.row ∙ map_length (flat_constructor ns r.arguments) (declared (declared_names core) r.«data»).constructors ∙
      map_length (constructor (data_scope (declared_names core) r.«data»)) r.«data».constructors ∙ ap (λ (d : Data). length d.constructors) (sym it) in
      let fewer = h.4 in
      omega (arith, fewer, size)

  -- ---- arguments

  mutual
    argument_sound : (a : C.Argument) → FitsArgument a → Sound p (flat_argument (flat_source core) a)
    argument_sound (C.Variable b x l) h = tt
    argument_sound (C.Literal i l) h = h
    argument_sound (C.Constructor x l as') h = (row_has (constructor_of (flat_source core) x) (named_constructor x), arguments_sound as' h)

    arguments_sound : (as' : C.Arguments) → FitArguments as' → AllSound p (flat_arguments (flat_source core) as')
    arguments_sound C.NoArguments h = tt
    arguments_sound (C.MoreArguments a as') h = (argument_sound a h.0, arguments_sound as' h.1)

  mutual
    expression_sound : (here : Instance) (e : C.Expression) → Fits e → SoundExpression p (flat_expression (flat_source core) ns here e)
    expression_sound here (C.Give a) h = argument_sound a h
    expression_sound here (C.Tuple l as') h = arguments_sound as' h
    expression_sound here (C.Operation o l a b) h = (argument_sound a h.0, argument_sound b h.1)
    expression_sound here (C.Call x l ws as') h = arguments_sound as' h
    expression_sound here (C.Match d l a C.NoClauses) h = argument_sound a h.0
    expression_sound here (C.Match d l a (C.MoreClauses r b cs)) h = (argument_sound a h.0, block_sound here b h.2.0, clauses_sound here cs h.2.1)
    expression_sound here (C.Nested b) h = block_sound here b h

    block_sound : (here : Instance) (b : C.Block) → FitsBlock b → SoundBlock p (flat_block (flat_source core) ns here b)
    block_sound here (C.Last e) h = expression_sound here e h
    block_sound here (C.Let bs e rest) h = (expression_sound here e h.0, block_sound here rest h.1)

    clauses_sound : (here : Instance) (cs : C.Clauses) → FitClauses cs → SoundClauses p (flat_clauses (flat_source core) ns here cs)
    clauses_sound here C.NoClauses h = tt
    clauses_sound here (C.MoreClauses r b cs) h = (block_sound here b h.0, clauses_sound here cs h.1)

  -- ---- instances

  instance_sound : (here : Instance) (f : Function) → FitsBlock f.body → SoundInstance p (flat_instance (flat_source core) ns here f)
  instance_sound here f h =
      record {
        binders = map_length (λ (x : C.Parameter). flat_binder (flat_source core) ns here x.binder) f.parameters ∙ sym (map_length (flat_parameter (flat_source core) ns here) f.parameters);
        body = block_sound here f.body h;
      }

  fits_at : (fs : List Function) (n : ℕ) (f : Function) → Every (λ (f : Function). FitsBlock f.body) fs → slice_get fs n ≡ Some f → FitsBlock f.body
  fits_at [] n f h e = absurd (cc)
  fits_at (g ∷ fs) zero f h e = let same : g ≡ f = cc in subst (λ (f : Function). FitsBlock f.body) same h.0
  fits_at (g ∷ fs) (suc n) f h e = fits_at fs n f h.1 e

  option_sound : (here : Instance) (o : Option Function) → ((f : Function) → o ≡ Some f → FitsBlock f.body) → (d : T.Instance) → Among d (instance_if (flat_source core) ns here o) → SoundInstance p d
  option_sound here None h d a = absurd a
  option_sound here (Some f) h d (inl e) = subst (SoundInstance p) (sym e) (instance_sound here f (h f refl))
  option_sound here (Some f) h d (inr n) = absurd n

  closed_sound : CoreFits core → (c : Closed) (d : T.Instance) → Among d (instances_of (flat_source core) ns c) → SoundInstance p d
  closed_sound h Z.Int d a = absurd a
  closed_sound h (Applied (H.«Type» n) cs) d a = absurd a
  closed_sound h (Applied (H.Function f) cs) d a =
      option_sound (record { function = f; given = cs }) (slice_get core.functions f) (λ g e. fits_at core.functions f g h e) d a

  pub all_sound : CoreFits core → (d : T.Instance) → Among d p.instances → SoundInstance p d
  all_sound h d a = all_of_have (SoundInstance p) (instances_of (flat_source core) ns) ns.instances (λ c b e f. closed_sound h c e f) d a

  -- ---- bool

  first_type : slice_get ns.types 0 ≡ Some (Applied (H.«Type» 1) NoClosed)
  first_type =
      ap (λ l. slice_get l 0) few.types.ordered ∙
      all_keep (Applied (H.«Type» 1) NoClosed ∷ []) ((all_of (Rattle.specialisation_correctness.specs.reached_instances.closed_types.TypeInstances.types_of_instance (flat_source core)) ns.instances ++ all_of Rattle.specialisation_correctness.specs.reached_instances.closed_types.TypeInstances.types_given few.passed) ++ all_of (parts_of (flat_source core)) ns.types) (Applied (H.«Type» 1) NoClosed) refl

  abbrev Bare : List Shape → ℕ → Type 0
  Bare ss c = (s : Shape) × (slice_get ss c ≡ Some s) × (s.fields ≡ [])

  false_of : (cs : Closeds) → Bare (row_of core ns bool_type cs) 0
  false_of cs = (_, refl, refl)

  true_of : (cs : Closeds) → Bare (row_of core ns bool_type cs) 1
  true_of cs = (_, refl, refl)

  first_number : (n : ℕ) (cs : Closeds) → slice_get ns.types 0 ≡ Some (Applied (H.«Type» (suc n)) cs) → n ≡ 0
  first_number n cs e =
      let f : Some (Applied (H.«Type» 1) NoClosed) ≡ Some (Applied (H.«Type» (suc n)) cs) = sym first_type ∙ e in
      let g : ◌≡◌ {A = ℕ} 1 (suc n) = cc in
      omega (arith, g)

  first_row : (cs : Closeds) × (shapes p.types 0 ≡ row_of core ns bool_type cs)
  first_row =
      let r = row_there core ns few.passed few.instances.instances few.given few.types 0 formed.bool in
      let zeroth = first_number r.number r.arguments r.at in
      let at : Some bool_type ≡ Some r.«data» = sym (ap (slice_get (data_types core)) zeroth) ∙ r.there in
      let same : bool_type ≡ r.«data» = cc in
      (r.arguments, r.row ∙ ap (λ d. row_of core ns d r.arguments) (sym same))

  pub false_bare : IsBare p.types 1 0
  false_bare = subst (λ ss. Bare ss 0) (sym first_row.1) (false_of first_row.0)

  pub true_bare : IsBare p.types 1 1
  true_bare = subst (λ ss. Bare ss 1) (sym first_row.1) (true_of first_row.0)
