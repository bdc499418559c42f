-- Each type and each function that is reached is made of data types and functions of the program, and what is given for
-- a type parameter is a type, for a function parameter a function.
use Rattle.std.proofs.Common.{◌≡◌, ◌<◌, ◌==◌, ◌⊎◌, inl, inr, ℕ, zero, suc, Bool, true, false, List, [], ◌∷◌, ◌++◌, length, map, Option, Some, None, slice_get, if◌then◌else◌, refl, sym, ap, ◌∙◌, subst, arith}
use Rattle.std.specs.List.{list_any}
use Rattle.fip_language.specs.Core.{Static, TypeParameter, FunctionParameter, Core, Written, WrittenInt, WrittenName, Writtens, NoWritten, MoreWritten}
use Rattle.fip_language.specs.Declarations.{data_types}
use Rattle.fip_language.specs.Every.{Among}
use Rattle.fip_language.specs.Mentions.{all_of}
use Rattle.fip_trees.specs.Names.{meaning}
use Rattle.fip_trees.specs.declared.decls.TypeHead.{TypeHead}
use Rattle.data_types.specs.Declarations.{written_names}
use Rattle.reached_instances.specs.closed_types.declared.closed.Head.TheVariants as H
use Rattle.reached_instances.specs.closed_types.Closed.{Closed, Closeds, Int, Applied, NoClosed, MoreClosed, closed_at}
use Rattle.reached_instances.specs.closed_types.Source.{Instance, statics_at, given_type, given_function, type_at, function_at, if_type, if_function, static_places}
use Rattle.reached_instances.specs.closed_types.Uses.{closed_type, closed_types, named_type, applied_to, both, declared_type, or_int, closed_function, closed_arguments, named_use, declared_use, applied_function, all_given, fit_if_known, types_given, statics_meant, count}
use Rattle.reached_instances.specs.closed_types.Numbering.{Way, Reached, with_new, with_all, firsts}
use Rattle.static_params.specs.FlatSource.{flat_source}
use Rattle.static_params.proofs.Meanings.{type_there, function_there}
pub use Rattle.fip_language.proofs.Facts.{get_map, get_within as below}
pub use Rattle.reached_instances.proofs.closed_types.Numbered.{among_either}

-- ---- lists

-- what all of a list give has a property that each gives
pub all_of_have : {A B : Type 0} (P : B → Type 0) (f : A → List B) (xs : List A) → ((x : A) → Among x xs → (y : B) → Among y (f x) → P y) → (y : B) → Among y (all_of f xs) → P y
all_of_have P f [] h y a = absurd a
all_of_have P f (x ∷ xs) h y a = by (among_either y (f x) (all_of f xs) a) (all_of_have P f xs (λ z b. h z (inr b)) y)
  where
    by : Among y (f x) ⊎ Among y (all_of f xs) → (Among y (all_of f xs) → P y) → P y
    by (inl b) k = h x (inl refl) y b
    by (inr b) k = k b

new_among : {A : Type 0} (b : Bool) (xs : List A) (x y : A) → Among y (if b then xs else xs ++ x ∷ []) → Among y xs ⊎ (y ≡ x)
new_among true xs x y h = inl h
new_among false xs x y h = by (among_either y xs (x ∷ []) h)
  where
    by : Among y xs ⊎ Among y (x ∷ []) → Among y xs ⊎ (y ≡ x)
    by (inl a) = inl a
    by (inr (inl e)) = inr e
    by (inr (inr n)) = absurd n

with_all_among : {A : Type 0} (same : A → A → Bool) (xs ys : List A) (y : A) → Among y (with_all same xs ys) → Among y xs ⊎ Among y ys
with_all_among same xs [] y h = inl h
with_all_among same xs (z ∷ ys) y h = by (with_all_among same (with_new same xs z) ys y h)
  where
    first : Among y xs ⊎ (y ≡ z) → Among y xs ⊎ Among y (z ∷ ys)
    first (inl a) = inl a
    first (inr e) = inr (inl e)

    by : Among y (with_new same xs z) ⊎ Among y ys → Among y xs ⊎ Among y (z ∷ ys)
    by (inl a) = first (new_among (list_any (λ w. same z w) xs) xs z y a)
    by (inr b) = inr (inr b)

pub firsts_among : {A : Type 0} (same : A → A → Bool) (ys : List A) (y : A) → Among y (firsts same ys) → Among y ys
firsts_among same ys y h = by (with_all_among same [] ys y h)
  where
    by : Among y [] ⊎ Among y ys → Among y ys
    by (inl a) = absurd a
    by (inr b) = b

along : {A : Type 0} (P : A → Type 0) (next : A → List A) → ((x y : A) → P x → Among y (next x) → P y) → (x : A) (over : List A) (z : A) → Way next x over z → P x → P z
along P next step x [] z w h = subst P w h
along P next step x (y ∷ over) z w h = along P next step y over z w.1 (step x y h w.0)

-- what the roots have, and what each hands on, all have that are reached
pub reached_have : {A : Type 0} (P : A → Type 0) (roots : List A) (next : A → List A) → ((x : A) → Among x roots → P x) → ((x y : A) → P x → Among y (next x) → P y) → (z : A) → Reached roots next z → P z
reached_have P roots next first step z r = along P next step r.root r.over z r.way (first r.root r.among)

-- ---- types and functions of a program

-- the number of a data type, from 1
abbrev pub IsNumber : Core → ℕ → Type 0
IsNumber core n = (m : ℕ) × (n ≡ suc m) × (m < length (data_types core))

abbrev mutual
  pub IsGood : Core → Closed → Type 0
  IsGood core Int = Unit {0}
  IsGood core (Applied (H.«Type» n) cs) = IsNumber core n × AreGood core cs
  IsGood core (Applied (H.Function f) cs) = ⊥

  pub AreGood : Core → Closeds → Type 0
  AreGood core NoClosed = Unit {0}
  AreGood core (MoreClosed c cs) = IsGood core c × AreGood core cs

abbrev mutual
  pub IsGoodFunction : Core → Closed → Type 0
  IsGoodFunction core Int = ⊥
  IsGoodFunction core (Applied (H.«Type» n) cs) = ⊥
  IsGoodFunction core (Applied (H.Function f) cs) = (f < length core.functions) × AreGiven core (statics_at (flat_source core) f) cs

  pub AreGiven : Core → List Static → Closeds → Type 0
  AreGiven core xs NoClosed = Unit {0}
  AreGiven core [] (MoreClosed c cs) = ⊥
  AreGiven core (TypeParameter n p ∷ xs) (MoreClosed c cs) = IsGood core c × AreGiven core xs cs
  AreGiven core (FunctionParameter n p ps r ∷ xs) (MoreClosed c cs) = IsGoodFunction core c × AreGiven core xs cs

module _ (core : Core) where
  -- ---- what is given

  type_at_good : (xs : List Static) (cs : Closeds) (k : ℕ) (c : Closed) → AreGiven core xs cs → if_type (slice_get xs k) (closed_at cs k) ≡ Some c → IsGood core c
  type_at_good [] cs k c h e = absurd (cc)
  type_at_good (TypeParameter n p ∷ xs) NoClosed zero c h e = absurd (cc)
  type_at_good (TypeParameter n p ∷ xs) (MoreClosed d cs) zero c h e = let same : d ≡ c = cc in subst (IsGood core) same h.0
  type_at_good (FunctionParameter n p ps r ∷ xs) cs zero c h e = absurd (cc)
  type_at_good (TypeParameter n p ∷ xs) NoClosed (suc k) c h e = type_at_good xs NoClosed k c tt e
  type_at_good (FunctionParameter n p ps r ∷ xs) NoClosed (suc k) c h e = type_at_good xs NoClosed k c tt e
  type_at_good (TypeParameter n p ∷ xs) (MoreClosed d cs) (suc k) c h e = type_at_good xs cs k c h.1 e
  type_at_good (FunctionParameter n p ps r ∷ xs) (MoreClosed d cs) (suc k) c h e = type_at_good xs cs k c h.1 e

  function_at_good : (xs : List Static) (cs : Closeds) (k : ℕ) (c : Closed) → AreGiven core xs cs → if_function (slice_get xs k) (closed_at cs k) ≡ Some c → IsGoodFunction core c
  function_at_good [] cs k c h e = absurd (cc)
  function_at_good (FunctionParameter n p ps r ∷ xs) NoClosed zero c h e = absurd (cc)
  function_at_good (FunctionParameter n p ps r ∷ xs) (MoreClosed d cs) zero c h e = let same : d ≡ c = cc in subst (IsGoodFunction core) same h.0
  function_at_good (TypeParameter n p ∷ xs) cs zero c h e = absurd (cc)
  function_at_good (TypeParameter n p ∷ xs) NoClosed (suc k) c h e = function_at_good xs NoClosed k c tt e
  function_at_good (FunctionParameter n p ps r ∷ xs) NoClosed (suc k) c h e = function_at_good xs NoClosed k c tt e
  function_at_good (TypeParameter n p ∷ xs) (MoreClosed d cs) (suc k) c h e = function_at_good xs cs k c h.1 e
  function_at_good (FunctionParameter n p ps r ∷ xs) (MoreClosed d cs) (suc k) c h e = function_at_good xs cs k c h.1 e

  -- what is given in an instance is for its function's parameters
  abbrev pub IsHere : Instance → Type 0
  IsHere here = AreGiven core (statics_at (flat_source core) here.function) here.given

  type_of_good : (here : Instance) (o : Option ℕ) (c : Closed) → IsHere here → type_at (statics_at (flat_source core) here.function) here.given o ≡ Some c → IsGood core c
  type_of_good here None c h e = absurd (cc)
  type_of_good here (Some k) c h e = type_at_good (statics_at (flat_source core) here.function) here.given k c h e

  function_of_good : (here : Instance) (o : Option ℕ) (c : Closed) → IsHere here → function_at (statics_at (flat_source core) here.function) here.given o ≡ Some c → IsGoodFunction core c
  function_of_good here None c h e = absurd (cc)
  function_of_good here (Some k) c h e = function_at_good (statics_at (flat_source core) here.function) here.given k c h e

  -- ---- types that are written

  if_some : {A : Type 0} (b : Bool) (o : Option A) (a : A) → (if b then o else None) ≡ Some a → o ≡ Some a
  if_some true o a e = e
  if_some false o a e = absurd (cc)

  applied_good : (n : ℕ) (o : Option Closeds) (c : Closed) → IsNumber core n → ((cs : Closeds) → o ≡ Some cs → AreGood core cs) → applied_to n o ≡ Some c → IsGood core c
  applied_good n None c k h e = absurd (cc)
  applied_good n (Some cs) c k h e = let same : Applied (H.«Type» n) cs ≡ c = cc in subst (IsGood core) same (k, h cs refl)

  named_good : (o : Option Closed) (q : Option TypeHead) (n : ℕ) (r : Option Closeds) (c : Closed) → ((d : Closed) → o ≡ Some d → IsGood core d) → ((h : TypeHead) → q ≡ Some h → IsNumber core h.number) → ((cs : Closeds) → r ≡ Some cs → AreGood core cs) → named_type o q n r ≡ Some c → IsGood core c
  named_good (Some g) q n r c a b h e = let same : Some g ≡ Some c = if_some (n == 0) (Some g) c e in a c same
  named_good None None n r c a b h e = absurd (cc)
  named_good None (Some t) n r c a b h e = applied_good t.number r c (b t refl) h (if_some (t.arity == n) (applied_to t.number r) c e)

  both_good : (o : Option Closed) (q : Option Closeds) (cs : Closeds) → both o q ≡ Some cs → (c : Closed) × (ds : Closeds) × (o ≡ Some c) × (q ≡ Some ds) × (MoreClosed c ds ≡ cs)
  both_good None q cs e = absurd (cc)
  both_good (Some c) None cs e = absurd (cc)
  both_good (Some c) (Some ds) cs e = (c, ds, refl, refl, (let f : MoreClosed c ds ≡ cs = cc in f))

  mutual
    pub closed_type_good : (here : Instance) (w : Written) (c : Closed) → IsHere here → closed_type (flat_source core) here w ≡ Some c → IsGood core c
    closed_type_good here (WrittenInt p) c h e = let same : Int ≡ c = cc in subst (IsGood core) same tt
    closed_type_good here (WrittenName x p ws) c h e =
        named_good (given_type (flat_source core) here x) (meaning x (written_names core).types) (count ws) (closed_types (flat_source core) here ws) c
        (λ d f. type_of_good here (meaning x (static_places (statics_at (flat_source core) here.function))) d h f)
        (λ k f. type_there core x k f) (λ cs f. closed_types_good here ws cs h f) e

    pub closed_types_good : (here : Instance) (ws : Writtens) (cs : Closeds) → IsHere here → closed_types (flat_source core) here ws ≡ Some cs → AreGood core cs
    closed_types_good here NoWritten cs h e = let same : NoClosed ≡ cs = cc in subst (AreGood core) same tt
    closed_types_good here (MoreWritten w ws) cs h e =
        let parts = both_good (closed_type (flat_source core) here w) (closed_types (flat_source core) here ws) cs e in
        subst (AreGood core) parts.4 (closed_type_good here w parts.0 h parts.2, closed_types_good here ws parts.1 h parts.3)

  or_int_good : (o : Option Closed) → ((c : Closed) → o ≡ Some c → IsGood core c) → IsGood core (or_int o)
  or_int_good None h = tt
  or_int_good (Some c) h = h c refl

  pub declared_type_good : (here : Instance) (w : Written) → IsHere here → IsGood core (declared_type (flat_source core) here w)
  declared_type_good here w h = or_int_good (closed_type (flat_source core) here w) (λ c e. closed_type_good here w c h e)

  -- ---- functions that are used

  -- arguments, each of them none or what its parameter requires
  abbrev AreOptions : List Static → List (Option Closed) → Type 0
  AreOptions xs [] = Unit {0}
  AreOptions [] (o ∷ os) = o ≡ None
  AreOptions (TypeParameter n p ∷ xs) (o ∷ os) = ((c : Closed) → o ≡ Some c → IsGood core c) × AreOptions xs os
  AreOptions (FunctionParameter n p ps r ∷ xs) (o ∷ os) = ((c : Closed) → o ≡ Some c → IsGoodFunction core c) × AreOptions xs os

  given_good : (xs : List Static) (os : List (Option Closed)) (cs : Closeds) → AreOptions xs os → all_given os ≡ Some cs → AreGiven core xs cs
  given_good xs [] cs h e = let same : NoClosed ≡ cs = cc in subst (AreGiven core xs) same tt
  given_good [] (o ∷ os) cs h e = let parts = both_good o (all_given os) cs e in let none : Some parts.0 ≡ None = sym parts.2 ∙ h in absurd (cc)
  given_good (TypeParameter n p ∷ xs) (o ∷ os) cs h e =
      let parts = both_good o (all_given os) cs e in
      subst (AreGiven core (TypeParameter n p ∷ xs)) parts.4 (h.0 parts.0 parts.2, given_good xs os parts.1 h.1 parts.3)
  given_good (FunctionParameter n p ps r ∷ xs) (o ∷ os) cs h e =
      let parts = both_good o (all_given os) cs e in
      subst (AreGiven core (FunctionParameter n p ps r ∷ xs)) parts.4 (h.0 parts.0 parts.2, given_good xs os parts.1 h.1 parts.3)

  function_good : (f : ℕ) (o : Option Closeds) (c : Closed) → f < length core.functions → ((cs : Closeds) → o ≡ Some cs → AreGiven core (statics_at (flat_source core) f) cs) → applied_function f o ≡ Some c → IsGoodFunction core c
  function_good f None c k h e = absurd (cc)
  function_good f (Some cs) c k h e = let same : Applied (H.Function f) cs ≡ c = cc in subst (IsGoodFunction core) same (k, h cs refl)

  use_good : (o : Option Closed) (q : Option ℕ) (n : ℕ) (os : List (Option Closed)) (c : Closed) → ((d : Closed) → o ≡ Some d → IsGoodFunction core d) → ((f : ℕ) → q ≡ Some f → f < length core.functions) → AreOptions (statics_meant (flat_source core) q) os → named_use (flat_source core) o q n os ≡ Some c → IsGoodFunction core c
  use_good (Some g) q n os c a b h e = let same : Some g ≡ Some c = if_some (n == 0) (Some g) c e in a c same
  use_good None None n os c a b h e = absurd (cc)
  use_good None (Some f) n os c a b h e =
      let use_is = if_some (length (statics_at (flat_source core) f) == n) (declared_use (flat_source core) f os) c e in
      let given = if_some (fit_if_known (flat_source core) f (statics_at (flat_source core) f) os (types_given (statics_at (flat_source core) f) os)) (applied_function f (all_given os)) c use_is in
      function_good f (all_given os) c (b f refl) (λ cs k. given_good (statics_at (flat_source core) f) os cs h k) given

  mutual
    pub closed_function_good : (here : Instance) (w : Written) (c : Closed) → IsHere here → closed_function (flat_source core) here w ≡ Some c → IsGoodFunction core c
    closed_function_good here (WrittenInt p) c h e = absurd (cc)
    closed_function_good here (WrittenName x p ws) c h e =
        use_good (given_function (flat_source core) here x) (meaning x (written_names core).functions) (count ws)
        (closed_arguments (flat_source core) here (statics_meant (flat_source core) (meaning x (written_names core).functions)) ws) c
        (λ d f. function_of_good here (meaning x (static_places (statics_at (flat_source core) here.function))) d h f)
        (λ k f. function_there core x k f) (arguments_good here (statics_meant (flat_source core) (meaning x (written_names core).functions)) ws h) e

    arguments_good : (here : Instance) (xs : List Static) (ws : Writtens) → IsHere here → AreOptions xs (closed_arguments (flat_source core) here xs ws)
    arguments_good here xs NoWritten h = tt
    arguments_good here [] (MoreWritten w ws) h = refl
    arguments_good here (TypeParameter n p ∷ xs) (MoreWritten w ws) h = ((λ c e. closed_type_good here w c h e), arguments_good here xs ws h)
    arguments_good here (FunctionParameter n p ps r ∷ xs) (MoreWritten w ws) h = ((λ c e. closed_function_good here w c h e), arguments_good here xs ws h)
