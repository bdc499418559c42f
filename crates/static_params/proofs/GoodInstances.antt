-- All instances that are reached are good functions, and all types that are numbered are good types.
use Rattle.std.proofs.Common.{◌≡◌, ◌≤◌, ◌<◌, ◌+◌, ◌==◌, ◌⊎◌, inl, inr, ℕ, zero, suc, Bool, true, false, List, [], ◌∷◌, ◌++◌, length, map, Option, Some, None, slice_get, nat_eq, if◌then◌else◌, refl, sym, ap, ◌∙◌, subst, arith}
use Rattle.fip_language.proofs.Search.{slice_get_there}
use Rattle.fip_language.specs.Core.{Data, Static, TypeParameter, FunctionParameter, Function, Core, Written, Block}
use Rattle.fip_language.specs.Declarations.{data_types}
use Rattle.fip_language.specs.Every.{Among}
use Rattle.fip_language.specs.Mentions.{Mention, all_of, constructors_in_block}
use Rattle.fip_trees.specs.Names.{meaning}
use Rattle.fip_trees.specs.declared.decls.ConstructorId.{ConstructorId}
use Rattle.data_types.specs.Types as D
use Rattle.data_types.specs.Declarations.{data_scope, declared_names, written_names, constructor_fields}
use Rattle.fip_base.specs.CoreView.{writtens_of}
use Rattle.reached_instances.specs.closed_types.declared.closed.Head.TheVariants as H
use Rattle.reached_instances.specs.closed_types.Closed.{Closed, Closeds, Int, Applied, NoClosed, MoreClosed}
use Rattle.reached_instances.specs.closed_types.Source as S
use Rattle.reached_instances.specs.closed_types.Source.{Source, Instance, statics_at, statics_or_none, declared_at}
use Rattle.reached_instances.specs.closed_types.Uses.{closed_function, declared_type}
use Rattle.reached_instances.specs.closed_types.Instances.{roots, roots_from, root_if, calls_from, calls_in, if_there, calls, AreInstances, functions_among, passed_to, ArePassed}
use Rattle.reached_instances.specs.closed_types.TypeInstances.{unless_int, types_written, plain_number, numbers_named, types_named, types_in, types_of_instance, types_among, types_given, type_roots, pick, field_type, field_types, unless_ints, fields_of, parts_of, arity, AreTypes, written_in_header, annotations_in_block}
use Rattle.static_params.specs.FlatSource.{flat_source, field, fields, constructor, declared}
use Rattle.static_params.proofs.Meanings.{IsConstructor, constructor_there, IsSoundTy, AreSoundTys, all_looked_up_sound}
use Rattle.static_params.proofs.GoodTypes.{among_either, all_of_have, firsts_among, reached_have, get_map, below, IsNumber, IsGood, AreGood, IsGoodFunction, AreGiven, IsHere, closed_function_good, declared_type_good}

module _ (core : Core) where
  abbrev here_of : ℕ → Closeds → Instance
  here_of f cs = record { function = f; given = cs }

  -- ---- instances

  root_good : (xs : List Static) (i : ℕ) → i < length core.functions → (c : Closed) → Among c (root_if xs i) → IsGoodFunction core c
  root_good [] i h c (inl e) = subst (IsGoodFunction core) (sym e) (h, tt)
  root_good [] i h c (inr n) = absurd n
  root_good (x ∷ xs) i h c a = absurd a

  roots_good_from : (i : ℕ) (fs : List Function) → i + length fs ≤ length core.functions → (c : Closed) → Among c (roots_from i fs) → IsGoodFunction core c
  roots_good_from i [] h c a = absurd a
  roots_good_from i (f ∷ fs) h c a = by (among_either c (root_if f.statics i) (roots_from (suc i) fs) a) (roots_good_from (suc i) fs (omega (arith, h)) c)
    where
      by : Among c (root_if f.statics i) ⊎ Among c (roots_from (suc i) fs) → (Among c (roots_from (suc i) fs) → IsGoodFunction core c) → IsGoodFunction core c
      by (inl b) k = root_good f.statics i (omega (arith, h)) c b
      by (inr b) k = k b

  roots_good : (c : Closed) → Among c (roots (flat_source core)) → IsGoodFunction core c
  roots_good c a = roots_good_from 0 core.functions (omega arith) c a

  there_good : {P : Closed → Type 0} (o : Option Closed) → ((c : Closed) → o ≡ Some c → P c) → (c : Closed) → Among c (if_there o) → P c
  there_good {P = P} None h c a = absurd a
  there_good {P = P} (Some d) h c (inl e) = subst P (sym e) (h d refl)
  there_good {P = P} (Some d) h c (inr n) = absurd n

  calls_good : (here : Instance) (o : Option Function) → IsHere core here → (c : Closed) → Among c (calls_in (flat_source core) here o) → IsGoodFunction core c
  calls_good here None h c a = absurd a
  calls_good here (Some f) h c a =
      all_of_have (IsGoodFunction core) (λ (u : Written). if_there (closed_function (flat_source core) here u)) (calls f)
      (λ u b d e. there_good {P = IsGoodFunction core} (closed_function (flat_source core) here u) (λ d k. closed_function_good core here u d h k) d e) c a

  next_good : (x y : Closed) → IsGoodFunction core x → Among y (calls_from (flat_source core) x) → IsGoodFunction core y
  next_good Int y h a = absurd a
  next_good (Applied (H.«Type» n) cs) y h a = absurd a
  next_good (Applied (H.Function f) cs) y h a = calls_good (here_of f cs) (slice_get core.functions f) h.1 y a

  pub instances_good : (cs : List Closed) → AreInstances (flat_source core) cs → (c : Closed) → Among c cs → IsGoodFunction core c
  instances_good cs h c a = reached_have (IsGoodFunction core) (roots (flat_source core)) (calls_from (flat_source core)) roots_good next_good c (h.reached c a)

  functions_among_good : (xs : List Static) (cs : Closeds) → AreGiven core xs cs → (c : Closed) → Among c (functions_among cs) → IsGoodFunction core c
  functions_among_good xs NoClosed h c a = absurd a
  functions_among_good [] (MoreClosed d cs) h c a = absurd h
  functions_among_good (TypeParameter n p ∷ xs) (MoreClosed Int cs) h c a = functions_among_good xs cs h.1 c a
  functions_among_good (TypeParameter n p ∷ xs) (MoreClosed (Applied (H.«Type» m) ds) cs) h c a = functions_among_good xs cs h.1 c a
  functions_among_good (TypeParameter n p ∷ xs) (MoreClosed (Applied (H.Function f) ds) cs) h c a = absurd h.0
  functions_among_good (FunctionParameter n p ps r ∷ xs) (MoreClosed Int cs) h c a = functions_among_good xs cs h.1 c a
  functions_among_good (FunctionParameter n p ps r ∷ xs) (MoreClosed (Applied (H.«Type» m) ds) cs) h c a = functions_among_good xs cs h.1 c a
  functions_among_good (FunctionParameter n p ps r ∷ xs) (MoreClosed (Applied (H.Function f) ds) cs) h c (inl e) = subst (IsGoodFunction core) (sym e) h.0
  functions_among_good (FunctionParameter n p ps r ∷ xs) (MoreClosed (Applied (H.Function f) ds) cs) h c (inr a) = functions_among_good xs cs h.1 c a

  passed_next : (x y : Closed) → IsGoodFunction core x → Among y (passed_to x) → IsGoodFunction core y
  passed_next Int y h a = absurd a
  passed_next (Applied (H.«Type» n) cs) y h a = absurd h
  passed_next (Applied (H.Function f) cs) y h a = functions_among_good (statics_at (flat_source core) f) cs h.1 y a

  pub passed_good : (is cs : List Closed) → AreInstances (flat_source core) is → ArePassed is cs → (c : Closed) → Among c cs → IsGoodFunction core c
  passed_good is cs i h c a = reached_have (IsGoodFunction core) is passed_to (λ x b. instances_good is i x b) passed_next c (h.reached c a)

  -- ---- types

  unless_good : (d : Closed) → IsGood core d → (c : Closed) → Among c (unless_int d) → IsGood core c
  unless_good Int h c a = absurd a
  unless_good (Applied x ds) h c (inl e) = subst (IsGood core) (sym e) h
  unless_good (Applied x ds) h c (inr n) = absurd n

  written_good : (here : Instance) (ws : List Written) → IsHere core here → (c : Closed) → Among c (types_written (flat_source core) here ws) → IsGood core c
  written_good here ws h c a =
      all_of_have (IsGood core) (λ (w : Written). unless_int (declared_type (flat_source core) here w)) ws
      (λ w b d e. unless_good (declared_type (flat_source core) here w) (declared_type_good core here w h) d e) c a

  number_good : (n : ℕ) → IsNumber core n → IsGood core (Applied (H.«Type» n) NoClosed)
  number_good n h = (h, tt)

  constructor_number : (k : ConstructorId) → IsConstructor (data_types core) k → IsNumber core k.«data»
  constructor_number k h = (h.0, h.2, below (data_types core) h.0 h.1 h.3)

  plain_good : (o : Option ConstructorId) → ((k : ConstructorId) → o ≡ Some k → IsConstructor (data_types core) k) → (n : ℕ) → Among n (plain_number (flat_source core) o) → IsNumber core n
  plain_good None h n a = absurd a
  plain_good (Some k) h n a = by (arity (flat_source core) k.«data» == 0) a
    where
      by : (b : Bool) → Among n (if b then k.«data» ∷ [] else []) → IsNumber core n
      by true (inl e) = subst (IsNumber core) (sym e) (constructor_number k (h k refl))
      by true (inr f) = absurd f
      by false f = absurd f

  map_have : {A B : Type 0} (P : A → Type 0) (Q : B → Type 0) (f : A → B) (xs : List A) → ((x : A) → P x → Q (f x)) → ((x : A) → Among x xs → P x) → (y : B) → Among y (map f xs) → Q y
  map_have P Q f [] g h y a = absurd a
  map_have P Q f (x ∷ xs) g h y (inl e) = subst Q (sym e) (g x (h x (inl refl)))
  map_have P Q f (x ∷ xs) g h y (inr a) = map_have P Q f xs g (λ z b. h z (inr b)) y a

  numbers_good : (b : Block) (n : ℕ) → Among n (numbers_named (flat_source core) b) → IsNumber core n
  numbers_good b n a =
      all_of_have (IsNumber core) (λ (m : Mention). plain_number (flat_source core) (meaning m.name (written_names core).constructors)) (constructors_in_block b)
      (λ m i k e. plain_good (meaning m.name (written_names core).constructors) (λ x f. constructor_there core m.name x f) k e) n
      (firsts_among nat_eq (all_of (λ (m : Mention). plain_number (flat_source core) (meaning m.name (written_names core).constructors)) (constructors_in_block b)) n a)

  named_types_good : (b : Block) (c : Closed) → Among c (types_named (flat_source core) b) → IsGood core c
  named_types_good b c a = map_have (IsNumber core) (IsGood core) (λ n. Applied (H.«Type» n) NoClosed) (numbers_named (flat_source core) b) number_good (numbers_good b) c a

  types_in_good : (here : Instance) (o : Option Function) → IsHere core here → (c : Closed) → Among c (types_in (flat_source core) here o) → IsGood core c
  types_in_good here None h c a = absurd a
  types_in_good here (Some f) h c a =
      first (among_either c (types_written (flat_source core) here (written_in_header f)) (types_written (flat_source core) here (annotations_in_block f.body) ++ types_named (flat_source core) f.body) a)
    where
      second : Among c (types_written (flat_source core) here (annotations_in_block f.body)) ⊎ Among c (types_named (flat_source core) f.body) → IsGood core c
      second (inl b) = written_good here (annotations_in_block f.body) h c b
      second (inr b) = named_types_good f.body c b

      first : Among c (types_written (flat_source core) here (written_in_header f)) ⊎ Among c (types_written (flat_source core) here (annotations_in_block f.body) ++ types_named (flat_source core) f.body) → IsGood core c
      first (inl b) = written_good here (written_in_header f) h c b
      first (inr b) = second (among_either c (types_written (flat_source core) here (annotations_in_block f.body)) (types_named (flat_source core) f.body) b)

  of_instance_good : (x : Closed) → IsGoodFunction core x → (c : Closed) → Among c (types_of_instance (flat_source core) x) → IsGood core c
  of_instance_good Int h c a = absurd a
  of_instance_good (Applied (H.«Type» n) cs) h c a = absurd h
  of_instance_good (Applied (H.Function f) cs) h c a = types_in_good (here_of f cs) (slice_get core.functions f) h.1 c a

  types_among_good : (xs : List Static) (cs : Closeds) → AreGiven core xs cs → (c : Closed) → Among c (types_among cs) → IsGood core c
  types_among_good xs NoClosed h c a = absurd a
  types_among_good [] (MoreClosed d cs) h c a = absurd h
  types_among_good (TypeParameter n p ∷ xs) (MoreClosed Int cs) h c a = types_among_good xs cs h.1 c a
  types_among_good (TypeParameter n p ∷ xs) (MoreClosed (Applied (H.«Type» m) ds) cs) h c (inl e) = subst (IsGood core) (sym e) h.0
  types_among_good (TypeParameter n p ∷ xs) (MoreClosed (Applied (H.«Type» m) ds) cs) h c (inr a) = types_among_good xs cs h.1 c a
  types_among_good (TypeParameter n p ∷ xs) (MoreClosed (Applied (H.Function f) ds) cs) h c a = absurd h.0
  types_among_good (FunctionParameter n p ps r ∷ xs) (MoreClosed Int cs) h c a = types_among_good xs cs h.1 c a
  types_among_good (FunctionParameter n p ps r ∷ xs) (MoreClosed (Applied (H.«Type» m) ds) cs) h c a = absurd h.0
  types_among_good (FunctionParameter n p ps r ∷ xs) (MoreClosed (Applied (H.Function f) ds) cs) h c a = types_among_good xs cs h.1 c a

  given_types_good : (x : Closed) → IsGoodFunction core x → (c : Closed) → Among c (types_given x) → IsGood core c
  given_types_good Int h c a = absurd a
  given_types_good (Applied (H.«Type» n) cs) h c a = absurd h
  given_types_good (Applied (H.Function f) cs) h c a = types_among_good (statics_at (flat_source core) f) cs h.1 c a

  type_roots_good : (is ps : List Closed) → AreInstances (flat_source core) is → ArePassed is ps → (c : Closed) → Among c (type_roots (flat_source core) is ps) → IsGood core c
  type_roots_good is ps i p c (inl e) = subst (IsGood core) (sym e) ((0, refl, omega arith), tt)
  type_roots_good is ps i p c (inr a) = by (among_either c (all_of (types_of_instance (flat_source core)) is) (all_of types_given ps) a)
    where
      by : Among c (all_of (types_of_instance (flat_source core)) is) ⊎ Among c (all_of types_given ps) → IsGood core c
      by (inl b) = all_of_have (IsGood core) (types_of_instance (flat_source core)) is (λ x k d e. of_instance_good x (instances_good is i x k) d e) c b
      by (inr b) = all_of_have (IsGood core) types_given ps (λ x k d e. given_types_good x (passed_good is ps i p x k) d e) c b

  -- ---- fields

  pick_good : (cs : Closeds) (k : ℕ) → AreGood core cs → IsGood core (pick cs k)
  pick_good NoClosed k h = tt
  pick_good (MoreClosed c cs) zero h = h.0
  pick_good (MoreClosed c cs) (suc k) h = pick_good cs k h.1

  mutual
    pub field_good : (n : ℕ) (cs : Closeds) (t : D.Ty) → AreGood core cs → IsSoundTy (length (data_types core)) n t → IsGood core (field_type cs (field t))
    field_good n cs D.Given h s = tt
    field_good n cs (D.Parameter k) h s = pick_good cs k h
    field_good n cs (D.Applied t ts) h s = ((t, refl, s.0), fields_good n cs ts h s.1)

    pub fields_good : (n : ℕ) (cs : Closeds) (ts : D.Tys) → AreGood core cs → AreSoundTys (length (data_types core)) n ts → AreGood core (field_types cs (fields ts))
    fields_good n cs D.NoTys h s = tt
    fields_good n cs (D.MoreTys t ts) h s = (field_good n cs t h s.0, fields_good n cs ts h s.1)

  unless_ints_good : (cs : Closeds) → AreGood core cs → (c : Closed) → Among c (unless_ints cs) → IsGood core c
  unless_ints_good NoClosed h c a = absurd a
  unless_ints_good (MoreClosed d cs) h c a = by (among_either c (unless_int d) (unless_ints cs) a) (unless_ints_good cs h.1 c)
    where
      by : Among c (unless_int d) ⊎ Among c (unless_ints cs) → (Among c (unless_ints cs) → IsGood core c) → IsGood core c
      by (inl b) k = unless_good d h.0 c b
      by (inr b) k = k b

  -- a data type, as it is declared
  pub declared_is : (m : ℕ) → m < length (data_types core) → (d : Data) × (slice_get (data_types core) m ≡ Some d) × (declared_at (flat_source core) (suc m) ≡ Some (declared (declared_names core) d))
  declared_is m h =
      let there = slice_get_there (data_types core) m h in
      (there.0, there.1, get_map (declared (declared_names core)) (data_types core) m there.0 there.1)

  declared_fields_good : (cs : Closeds) (d : Data) → AreGood core cs → (c : Closed) → Among c (fields_of cs (Some (declared (declared_names core) d))) → IsGood core c
  declared_fields_good cs d h c a =
      all_of_have (IsGood core) (λ (k : S.Constructor). unless_ints (field_types cs k.fields)) (map (constructor (data_scope (declared_names core) d)) d.constructors)
      (λ k b. map_have (λ x. Unit {0}) (λ (k : S.Constructor). (e : Closed) → Among e (unless_ints (field_types cs k.fields)) → IsGood core e) (constructor (data_scope (declared_names core) d)) d.constructors
      (λ x t e f. unless_ints_good (field_types cs (fields (constructor_fields (data_scope (declared_names core) d) x)))
      (fields_good (length d.parameters) cs (constructor_fields (data_scope (declared_names core) d) x) h (all_looked_up_sound core d (writtens_of x.fields))) e f)
      (λ x t. tt) k b) c a

  parts_good : (x y : Closed) → IsGood core x → Among y (parts_of (flat_source core) x) → IsGood core y
  parts_good Int y h a = absurd a
  parts_good (Applied (H.Function f) cs) y h a = absurd h
  parts_good (Applied (H.«Type» n) cs) y h a =
      let there = declared_is h.0.0 h.0.2 in
      let same : declared_at (flat_source core) n ≡ Some (declared (declared_names core) there.0) = ap (declared_at (flat_source core)) h.0.1 ∙ there.2 in
      by there.0 same (among_either y (unless_ints cs) (fields_of cs (declared_at (flat_source core) n)) a)
    where
      by : (d : Data) → declared_at (flat_source core) n ≡ Some (declared (declared_names core) d) → Among y (unless_ints cs) ⊎ Among y (fields_of cs (declared_at (flat_source core) n)) → IsGood core y
      by d e (inl b) = unless_ints_good cs h.1 y b
      by d e (inr b) = declared_fields_good cs d h.1 y (subst (λ o. Among y (fields_of cs o)) e b)

  pub types_good : (is ps ts : List Closed) → AreInstances (flat_source core) is → ArePassed is ps → AreTypes (flat_source core) is ps ts → (c : Closed) → Among c ts → IsGood core c
  types_good is ps ts i p h c a = reached_have (IsGood core) (type_roots (flat_source core) is ps) (parts_of (flat_source core)) (type_roots_good is ps i p) parts_good c (h.reached c a)
