-- What names mean is in the program: a data type by its number, a constructor by its number there, a function by its
-- place, a type parameter by its place.
use Rattle.std.proofs.Common.{◌≡◌, ◌≤◌, ◌<◌, ◌+◌, ◌-◌, ◌==◌, ℕ, suc, Bool, true, false, List, [], ◌∷◌, ◌++◌, length, Option, Some, None, slice_get, if◌then◌else◌, refl, subst, arith}
use Rattle.fip_language.specs.Core.{Name, Data, DataConstructor, TypeName, Function, Core, Written, WrittenInt, WrittenName, Writtens, NoWritten, MoreWritten}
use Rattle.fip_language.specs.Declarations.{same_name, data_types}
use Rattle.fip_language.specs.Every.{Every}
use Rattle.fip_trees.specs.Names.{meaning, is_among, names, with_meaning, with_meanings}
use Rattle.fip_trees.specs.declared.decls.TypeHead.{TypeHead}
use Rattle.fip_trees.specs.declared.decls.ConstructorId.{ConstructorId}
use Rattle.data_types.specs.Types as D
use Rattle.data_types.specs.Declarations.{type_meanings, row_meanings, constructor_meanings, function_meanings, parameter_meanings, written_names, declared_names, data_scope, count_tys, meant, looked_up, all_looked_up}

-- ---- what holds of each meaning in a list holds of what a name means

module _ {A : Type 0} (P : A → Type 0) where
  abbrev Each : List (Name × A) → Type 0
  Each es = Every (λ (e : Name × A). P e.1) es

  pub each_both : (es fs : List (Name × A)) → Each es → Each fs → Each (es ++ fs)
  each_both [] fs h k = k
  each_both (e ∷ es) fs h k = (h.0, each_both es fs h.1 k)

  one_of : (b : Bool) (x : A) (o : Option A) (a : A) → P x → (o ≡ Some a → P a) → (if b then Some x else o) ≡ Some a → P a
  one_of true x o a h k e = let same : x ≡ a = cc in subst P same h
  one_of false x o a h k e = k e

  pub meant_by : (es : List (Name × A)) (n : Name) (a : A) → Each es → meaning n es ≡ Some a → P a
  meant_by [] n a h e = absurd (cc)
  meant_by (x ∷ es) n a h e = one_of (same_name n x.0) x.1 (meaning n es) a h.0 (meant_by es n a h.1) e

  each_with_one : (es : List (Name × A)) (n : Name) (a : A) → Each es → P a → Each (with_meaning es n a)
  each_with_one es n a h k = by (is_among n (names es))
    where
      by : (b : Bool) → Each (if b then es else es ++ (n, a) ∷ [])
      by true = h
      by false = each_both es ((n, a) ∷ []) h (k, tt)

  pub each_with : (es fs : List (Name × A)) → Each es → Each fs → Each (with_meanings es fs)
  each_with es [] h k = h
  each_with es (f ∷ fs) h k = each_with (with_meaning es f.0 f.1) fs (each_with_one es f.0 f.1 h k.0) k.1

-- ---- data types

-- the number of one of the data types, from 1
abbrev pub IsType : List Data → TypeHead → Type 0
IsType ds h = (n : ℕ) × (h.number ≡ suc n) × (n < length ds)

types_each : (all : List Data) (i : ℕ) (ds : List Data) → i + length ds ≤ length all → Every (λ (e : Name × TypeHead). IsType all e.1) (type_meanings (suc i) ds)
types_each all i [] h = tt
types_each all i (d ∷ ds) h = ((i, refl, omega (arith, h)), types_each all (suc i) ds (omega (arith, h)))

pub type_there : (core : Core) (x : Name) (h : TypeHead) → meaning x (written_names core).types ≡ Some h → IsType (data_types core) h
type_there core x h e = meant_by (IsType (data_types core)) (written_names core).types x h (types_each (data_types core) 0 (data_types core) (omega arith)) e

pub declared_type_there : (core : Core) (x : Name) (h : TypeHead) → meaning x (declared_names core).types ≡ Some h → IsType (data_types core) h
declared_type_there core x h e =
    meant_by (IsType (data_types core)) (declared_names core).types x h
    (each_with (IsType (data_types core)) [] (written_names core).types tt (types_each (data_types core) 0 (data_types core) (omega arith))) e

-- ---- constructors

-- a data type by its number, and a constructor by its number there
abbrev pub IsConstructor : List Data → ConstructorId → Type 0
IsConstructor ds k = (n : ℕ) × (d : Data) × (k.«data» ≡ suc n) × (slice_get ds n ≡ Some d) × (k.number < length d.constructors)

row_each : (all : List Data) (i c : ℕ) (d : Data) (ks : List DataConstructor) → slice_get all i ≡ Some d → c + length ks ≤ length d.constructors → Every (λ (e : Name × ConstructorId). IsConstructor all e.1) (row_meanings (suc i) c ks)
row_each all i c d [] there h = tt
row_each all i c d (k ∷ ks) there h = ((i, d, refl, there, omega (arith, h)), row_each all i (suc c) d ks there (omega (arith, h)))

-- the rest of a list, from a place on
abbrev IsRest : List Data → ℕ → List Data → Type 0
IsRest all i ds = (k : ℕ) (d : Data) → slice_get ds k ≡ Some d → slice_get all (i + k) ≡ Some d

rest_next : (all : List Data) (i : ℕ) (d : Data) (ds : List Data) → IsRest all i (d ∷ ds) → IsRest all (suc i) ds
rest_next all i d ds h k e f = let same : i + suc k ≡ suc i + k = omega arith in subst (λ n. slice_get all n ≡ Some e) same (h (suc k) e f)

constructors_each : (all : List Data) (i : ℕ) (ds : List Data) → IsRest all i ds → Every (λ (e : Name × ConstructorId). IsConstructor all e.1) (constructor_meanings (suc i) ds)
constructors_each all i [] h = tt
constructors_each all i (d ∷ ds) h =
    let same : i + 0 ≡ i = omega arith in
    each_both (IsConstructor all) (row_meanings (suc i) 0 d.constructors) (constructor_meanings (suc (suc i)) ds)
    (row_each all i 0 d d.constructors (subst (λ n. slice_get all n ≡ Some d) same (h 0 d refl)) (omega arith)) (constructors_each all (suc i) ds (rest_next all i d ds h))

all_rest : (ds : List Data) → IsRest ds 0 ds
all_rest ds k d e = let same : k ≡ 0 + k = omega arith in subst (λ n. slice_get ds n ≡ Some d) same e

pub constructor_there : (core : Core) (x : Name) (k : ConstructorId) → meaning x (written_names core).constructors ≡ Some k → IsConstructor (data_types core) k
constructor_there core x k e = meant_by (IsConstructor (data_types core)) (written_names core).constructors x k (constructors_each (data_types core) 0 (data_types core) (all_rest (data_types core))) e

-- ---- functions

functions_each : (n i : ℕ) (fs : List Function) → i + length fs ≤ n → Every (λ (e : Name × ℕ). e.1 < n) (function_meanings i fs)
functions_each n i [] h = tt
functions_each n i (f ∷ fs) h = (omega (arith, h), functions_each n (suc i) fs (omega (arith, h)))

pub function_there : (core : Core) (x : Name) (f : ℕ) → meaning x (written_names core).functions ≡ Some f → f < length core.functions
function_there core x f e = meant_by (λ n. n < length core.functions) (written_names core).functions x f (functions_each (length core.functions) 0 core.functions (omega arith)) e

-- ---- type parameters, and types that are looked up

parameters_each : (n k : ℕ) (ps : List TypeName) → k + length ps ≤ n → Every (λ (e : Name × ℕ). e.1 < n) (parameter_meanings k ps)
parameters_each n k [] h = tt
parameters_each n k (p ∷ ps) h = (omega (arith, h), parameters_each n (suc k) ps (omega (arith, h)))

parameter_there : (d : Data) (x : Name) (k : ℕ) → meaning x (with_meanings [] (parameter_meanings 0 d.parameters)) ≡ Some k → k < length d.parameters
parameter_there d x k e =
    meant_by (λ n. n < length d.parameters) (with_meanings [] (parameter_meanings 0 d.parameters)) x k
    (each_with (λ n. n < length d.parameters) [] (parameter_meanings 0 d.parameters) tt (parameters_each (length d.parameters) 0 d.parameters (omega arith))) e

-- of a data type with so many parameters: its parameters and the data types it names are there
abbrev mutual
  pub IsSoundTy : ℕ → ℕ → D.Ty → Type 0
  IsSoundTy types arity D.Given = Unit {0}
  IsSoundTy types arity (D.Parameter k) = k < arity
  IsSoundTy types arity (D.Applied t ts) = (t < types) × AreSoundTys types arity ts

  pub AreSoundTys : ℕ → ℕ → D.Tys → Type 0
  AreSoundTys types arity D.NoTys = Unit {0}
  AreSoundTys types arity (D.MoreTys t ts) = IsSoundTy types arity t × AreSoundTys types arity ts

sound_parameter : (types arity k : ℕ) (b : Bool) → k < arity → IsSoundTy types arity (if b then D.Parameter k else D.Given)
sound_parameter types arity k true h = h
sound_parameter types arity k false h = tt

sound_type : (types arity n : ℕ) (us : D.Tys) (b : Bool) → n - 1 < types → AreSoundTys types arity us → IsSoundTy types arity (if b then D.Applied (n - 1) us else D.Given)
sound_type types arity n us true h k = (h, k)
sound_type types arity n us false h k = tt

sound_meant : (types arity : ℕ) (o : Option ℕ) (q : Option TypeHead) (us : D.Tys) → ((k : ℕ) → o ≡ Some k → k < arity) → ((h : TypeHead) → q ≡ Some h → h.number - 1 < types) → AreSoundTys types arity us → IsSoundTy types arity (meant o q us)
sound_meant types arity (Some k) q us a b h = sound_parameter types arity k (count_tys us == 0) (a k refl)
sound_meant types arity None None us a b h = tt
sound_meant types arity None (Some g) us a b h = sound_type types arity g.number us (g.arity == count_tys us) (b g refl) h

module _ (core : Core) (d : Data) where
  number_below : (x : Name) (h : TypeHead) → meaning x (declared_names core).types ≡ Some h → h.number - 1 < length (data_types core)
  number_below x h e = let there = declared_type_there core x h e in let below = there.2 in let same = there.1 in omega (arith, below, same)

  mutual
    pub looked_up_sound : (w : Written) → IsSoundTy (length (data_types core)) (length d.parameters) (looked_up (data_scope (declared_names core) d) w)
    looked_up_sound (WrittenInt p) = tt
    looked_up_sound (WrittenName n p ws) =
        sound_meant (length (data_types core)) (length d.parameters) (meaning n (data_scope (declared_names core) d).parameters) (meaning n (declared_names core).types)
        (all_looked_up (data_scope (declared_names core) d) ws) (parameter_there d n) (number_below n) (all_looked_up_sound ws)

    pub all_looked_up_sound : (ws : Writtens) → AreSoundTys (length (data_types core)) (length d.parameters) (all_looked_up (data_scope (declared_names core) d) ws)
    all_looked_up_sound NoWritten = tt
    all_looked_up_sound (MoreWritten w ws) = (looked_up_sound w, all_looked_up_sound ws)
