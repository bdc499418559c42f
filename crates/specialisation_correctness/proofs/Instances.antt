-- The instances that are numbered are functions of the program, with functions where their parameters require
-- functions; each call of an instance reaches one, whose number the call has.
use Rattle.std.proofs.Common.{◌≡◌, ◌⊎◌, inl, inr, ℕ, zero, suc, ◌+◌, ◌<◌, ◌==◌, not, Bool, true, false, List, [], ◌∷◌, ◌++◌, length, map, reverse, cond, Option, Some, None, option_and_then, slice_get, if◌then◌else◌, nat_lt, refl, sym, ap, ◌∙◌, subst, arith}
use Rattle.std.specs.List.{position_or_len}
use Rattle.std.proofs.lemmas.Bool.Decides.{nat_tests}
use Rattle.std.proofs.lemmas.List.{reverse-append}
use Rattle.source_report.specs.fip_language.Core.{Name, Written, WrittenInt, WrittenName, Writtens, NoWritten, MoreWritten, Static, TypeParameter, FunctionParameter, Function, Core}
use Rattle.source_report.specs.fip_language.Every.{Among}
use Rattle.source_report.specs.fip_language.Mentions.{all_of}
use Rattle.source_report.specs.fip_language.Stack.{CallSite, sites_in_block}
use Rattle.source_report.specs.fip_language.Statics.{callee}
use Rattle.source_report.specs.fip_trees.Names.{meaning}
use Rattle.source_report.specs.data_types.Declarations.{written_names}
use Rattle.source_report.specs.reached_instances.closed_types.declared.closed.Head.TheVariants as H
use Rattle.source_report.specs.reached_instances.closed_types.Closed.{Closed, Closeds, Int, Applied, NoClosed, MoreClosed, same_closed, closed_at}
use Rattle.source_report.specs.reached_instances.closed_types.Source.{Declared, Source, Instance, statics_at, static_places, if_function, function_at, given_function}
use Rattle.source_report.specs.reached_instances.closed_types.Uses.{types_given, fit_if_known, all_given, applied_function, declared_use, named_use, statics_meant, closed_function, closed_arguments, count, use_faults}
use Rattle.source_report.specs.reached_instances.closed_types.Instances.{roots, roots_from, root_if, use_at, place_of, put_in_order, order_on, calls, if_there, calls_in, calls_from, faults_in, faults_of, all_faults, AreInstances}
use Rattle.source_report.specs.reached_instances.closed_types.Numbering.{numbered_of}
use Rattle.source_report.specs.static_params.FlatProgram.{Numbers, number_in, or_zero, flat_call}
use Rattle.source_report.proofs.reached_instances.closed_types.ClosedTrees.{closed_exact}
use Rattle.source_report.proofs.reached_instances.closed_types.Numbered.{numbered_next, reached_in}
use Rattle.specialisation_correctness.specs.Named.{named}
use Rattle.specialisation_correctness.proofs.Lookups.{function_meant}
use Rattle.specialisation_correctness.proofs.Places.{source_with, There, both_some, IsHere, by_name, closed_function_named, closed_function_there}
use Rattle.source_report.proofs.cell_lower.fip_language.Facts.{if_some, nat_lt_of as less_is}
pub use Rattle.source_report.proofs.cell_lower.fip_language.Facts.{get_map as map_at, map_at_inverse as at_map}
use Rattle.specialisation_correctness.proofs.Arguments.{among_left, among_right}

-- ---- lists

pub among_either : {A : Type 0} (x : A) (xs ys : List A) → Among x (xs ++ ys) → Among x xs ⊎ Among x ys
among_either x [] ys h = inr h
among_either x (y ∷ xs) ys (inl e) = inl (inl e)
among_either x (y ∷ xs) ys (inr h) = later (among_either x xs ys h)
  where
    later : Among x xs ⊎ Among x ys → Among x (y ∷ xs) ⊎ Among x ys
    later (inl a) = inl (inr a)
    later (inr b) = inr b

among_of : {A B : Type 0} (f : A → List B) (x : A) (y : B) (xs : List A) → Among x xs → Among y (f x) → Among y (all_of f xs)
among_of f x y [] h g = absurd h
among_of f x y (z ∷ xs) (inl e) g = among_left y (f z) (all_of f xs) (subst (λ w. Among y (f w)) e g)
among_of f x y (z ∷ xs) (inr h) g = among_right y (f z) (all_of f xs) (among_of f x y xs h g)

of_have : {A B : Type 0} (P : B → Type 0) (f : A → List B) (xs : List A) → ((x : A) (y : B) → Among y (f x) → P y) → (y : B) → Among y (all_of f xs) → P y
of_have P f [] h y a = absurd a
of_have P f (x ∷ xs) h y a = by (among_either y (f x) (all_of f xs) a) (of_have P f xs h y)
  where
    by : Among y (f x) ⊎ Among y (all_of f xs) → (Among y (all_of f xs) → P y) → P y
    by (inl b) k = h x y b
    by (inr b) k = k b

among_map : {A B : Type 0} (f : A → B) (x : A) (xs : List A) → Among x xs → Among (f x) (map f xs)
among_map f x [] h = absurd h
among_map f x (y ∷ xs) (inl e) = inl (ap f e)
among_map f x (y ∷ xs) (inr h) = inr (among_map f x xs h)

pub at_among : {A : Type 0} (xs : List A) (i : ℕ) (x : A) → slice_get xs i ≡ Some x → Among x xs
at_among [] i x e = absurd (cc)
at_among (y ∷ xs) zero x e = let s : y ≡ x = cc in inl (sym s)
at_among (y ∷ xs) (suc i) x e = inr (at_among xs i x e)

none_append : {A : Type 0} (xs ys : List A) → xs ++ ys ≡ [] → (xs ≡ []) × (ys ≡ [])
none_append [] ys e = (refl, e)
none_append (x ∷ xs) ys e = absurd (cc)

pub none_of_each : {A B : Type 0} (f : A → List B) (xs : List A) → all_of f xs ≡ [] → (x : A) → Among x xs → f x ≡ []
none_of_each f [] e x h = absurd h
none_of_each f (y ∷ xs) e x (inl s) = ap f s ∙ (none_append (f y) (all_of f xs) e).0
none_of_each f (y ∷ xs) e x (inr h) = none_of_each f xs (none_append (f y) (all_of f xs) e).1 x h

none_of_numbered : {A V : Type 0} (f : ℕ → A → List V) (k : ℕ) (xs : List A) → numbered_of f k xs ≡ [] → (x : A) → Among x xs → (i : ℕ) × (f i x ≡ [])
none_of_numbered f k [] e x h = absurd h
none_of_numbered f k (y ∷ xs) e x (inl s) = (k, ap (f k) s ∙ (none_append (f k y) (numbered_of f (suc k) xs) e).0)
none_of_numbered f k (y ∷ xs) e x (inr h) = none_of_numbered f (suc k) xs (none_append (f k y) (numbered_of f (suc k) xs) e).1 x h

-- where each gives one, the one at a place
pub one_at : {A B : Type 0} (f : A → List B) (xs : List A) → ((x : A) → Among x xs → (d : B) × (f x ≡ d ∷ [])) → (i : ℕ) (x : A) (d : B) → slice_get xs i ≡ Some x → f x ≡ d ∷ [] → slice_get (all_of f xs) i ≡ Some d
one_at f [] h i x d e g = absurd (cc)
one_at f (y ∷ xs) h zero x d e g =
    let s : y ≡ x = cc in
    ap (λ l. slice_get (l ++ all_of f xs) 0) (ap f s ∙ g)
one_at f (y ∷ xs) h (suc i) x d e g =
    let o = h y (inl refl) in
    ap (λ l. slice_get (l ++ all_of f xs) (suc i)) o.1 ∙ one_at f xs (λ z a. h z (inr a)) i x d e g

-- ---- the number of a tree is its place

record IsPlace (c : Closed) (xs : List Closed) : Type 0 where
  pub within : position_or_len (same_closed c) xs < length xs
  pub there : slice_get xs (position_or_len (same_closed c) xs) ≡ Some c

place_next : (b : Bool) (c y : Closed) (xs : List Closed) → same_closed c y ≡ b → (Among c xs → IsPlace c xs) → Among c (y ∷ xs) → (cond (not b) (1 + position_or_len (same_closed c) xs) 0 < suc (length xs)) × (slice_get (y ∷ xs) (cond (not b) (1 + position_or_len (same_closed c) xs) 0) ≡ Some c)
place_next true c y xs e h a = (omega arith, ap Some (sym (closed_exact.yes c y e)))
place_next false c y xs e h (inl s) = absurd (closed_exact.no c y e s)
place_next false c y xs e h (inr a) =
    let r = h a in
    let w = r.within in
    let n : 1 + position_or_len (same_closed c) xs ≡ suc (position_or_len (same_closed c) xs) = omega arith in
    (omega (arith, w), ap (slice_get (y ∷ xs)) n ∙ r.there)

place_is : (c : Closed) (xs : List Closed) → Among c xs → IsPlace c xs
place_is c [] h = absurd h
place_is c (y ∷ xs) h = let r = place_next (same_closed c y) c y xs refl (place_is c xs) h in record { within = r.0; there = r.1 }

pub record IsNumbered (c : Closed) (xs : List Closed) : Type 0 where
  pub number : ℕ
  pub is : number_in xs c ≡ Some number
  pub there : slice_get xs number ≡ Some c

pub numbered_there : (c : Closed) (xs : List Closed) → Among c xs → IsNumbered c xs
numbered_there c xs h =
    let r = place_is c xs h in
    record {
      number = position_or_len (same_closed c) xs;
      is = ap (λ b. cond b (Some (position_or_len (same_closed c) xs)) None) (less_is (position_or_len (same_closed c) xs) (length xs) r.within);
      there = r.there;
    }

-- ---- calls in text order are the calls

put_first : (b : Bool) (u v : Written) (vs ws : List Written) → Among u ws → Among u (if b then v ∷ ws else u ∷ v ∷ vs)
put_first true u v vs ws h = inr h
put_first false u v vs ws h = inl refl

put_there : (u : Written) (vs : List Written) → Among u (put_in_order u vs)
put_there u [] = inl refl
put_there u (v ∷ vs) = put_first (nat_lt (place_of u).at (place_of v).at) u v vs (put_in_order u vs) (put_there u vs)

put_other : (b : Bool) (u v w : Written) (vs ws : List Written) → (Among w vs → Among w ws) → Among w (v ∷ vs) → Among w (if b then v ∷ ws else u ∷ v ∷ vs)
put_other true u v w vs ws h (inl e) = inl e
put_other true u v w vs ws h (inr a) = inr (h a)
put_other false u v w vs ws h a = inr a

put_keeps : (u w : Written) (vs : List Written) → Among w vs → Among w (put_in_order u vs)
put_keeps u w [] a = absurd a
put_keeps u w (v ∷ vs) a = put_other (nat_lt (place_of u).at (place_of v).at) u v w vs (put_in_order u vs) (put_keeps u w vs) a

order_keeps : (w : Written) (vs us : List Written) → Among w vs → Among w (order_on vs us)
order_keeps w vs [] a = a
order_keeps w vs (u ∷ us) a = order_keeps w (put_in_order u vs) us (put_keeps u w vs a)

order_has : (w : Written) (vs us : List Written) → Among w us → Among w (order_on vs us)
order_has w vs [] a = absurd a
order_has w vs (u ∷ us) (inl e) = order_keeps w (put_in_order u vs) us (subst (λ x. Among x (put_in_order u vs)) (sym e) (put_there u vs))
order_has w vs (u ∷ us) (inr a) = order_has w (put_in_order u vs) us a

among_reverse : (w : Written) (xs : List Written) → Among w xs → Among w (reverse xs)
among_reverse w [] a = absurd a
among_reverse w (x ∷ xs) a = subst (λ l. Among w l) (sym (reverse-append (x ∷ []) xs)) (by a (among_reverse w xs))
  where
    by : Among w (x ∷ xs) → (Among w xs → Among w (reverse xs)) → Among w (reverse xs ++ reverse (x ∷ []))
    by (inl e) h = among_right w (reverse xs) (x ∷ []) (inl e)
    by (inr b) h = among_left w (reverse xs) (x ∷ []) (h b)

pub called : (f : Function) (c : CallSite) → Among c (sites_in_block true f.body) → Among (use_at c) (calls f)
called f c a = let us = map use_at (sites_in_block true f.body) in among_reverse (use_at c) (order_on [] us) (order_has (use_at c) [] us (among_map use_at c (sites_in_block true f.body) a))

-- ---- each instance is a function of the program

abbrev mutual
  pub IsFunctionTree : Source → Closed → Type 0
  IsFunctionTree s Int = ⊥
  IsFunctionTree s (Applied (H.«Type» n) cs) = ⊥
  IsFunctionTree s (Applied (H.Function f) cs) = There (slice_get s.functions f) × AreGiven s (statics_at s f) cs

  pub AreGiven : Source → List Static → Closeds → Type 0
  AreGiven s xs NoClosed = Unit {0}
  AreGiven s [] (MoreClosed c cs) = ⊥
  AreGiven s (TypeParameter n p ∷ xs) (MoreClosed c cs) = AreGiven s xs cs
  AreGiven s (FunctionParameter n p ps r ∷ xs) (MoreClosed c cs) = IsFunctionTree s c × AreGiven s xs cs

abbrev pub instance_at : ℕ → Closeds → Instance
instance_at f cs = record { function = f; given = cs }

module _ (core : Core) (ts : List Declared) where
  abbrev from : Source
  from = source_with core ts

  function_given : (xs : List Static) (cs : Closeds) (k : ℕ) (c : Closed) → AreGiven from xs cs → if_function (slice_get xs k) (closed_at cs k) ≡ Some c → IsFunctionTree from c
  function_given [] cs k c h e = absurd (cc)
  function_given (FunctionParameter n p ps r ∷ xs) NoClosed zero c h e = absurd (cc)
  function_given (FunctionParameter n p ps r ∷ xs) (MoreClosed d cs) zero c h e = let same : d ≡ c = cc in subst (IsFunctionTree from) same h.0
  function_given (TypeParameter n p ∷ xs) cs zero c h e = absurd (cc)
  function_given (TypeParameter n p ∷ xs) NoClosed (suc k) c h e = function_given xs NoClosed k c tt e
  function_given (FunctionParameter n p ps r ∷ xs) NoClosed (suc k) c h e = function_given xs NoClosed k c tt e
  function_given (TypeParameter n p ∷ xs) (MoreClosed d cs) (suc k) c h e = function_given xs cs k c h e
  function_given (FunctionParameter n p ps r ∷ xs) (MoreClosed d cs) (suc k) c h e = function_given xs cs k c h.1 e

  given_by : (xs : List Static) (cs : Closeds) (o : Option ℕ) (c : Closed) → AreGiven from xs cs → function_at xs cs o ≡ Some c → IsFunctionTree from c
  given_by xs cs None c h e = absurd (cc)
  given_by xs cs (Some k) c h e = function_given xs cs k c h e

  -- arguments, each of them none or what its parameter requires
  abbrev AreOptions : List Static → List (Option Closed) → Type 0
  AreOptions xs [] = Unit {0}
  AreOptions [] (o ∷ os) = o ≡ None
  AreOptions (TypeParameter n p ∷ xs) (o ∷ os) = AreOptions xs os
  AreOptions (FunctionParameter n p ps r ∷ xs) (o ∷ os) = ((c : Closed) → o ≡ Some c → IsFunctionTree from c) × AreOptions xs os

  all_are_given : (xs : List Static) (os : List (Option Closed)) (cs : Closeds) → AreOptions xs os → all_given os ≡ Some cs → AreGiven from xs cs
  all_are_given xs [] cs h e = let same : NoClosed ≡ cs = cc in subst (AreGiven from xs) same tt
  all_are_given [] (o ∷ os) cs h e = let b = both_some o (all_given os) cs e in let none : Some b.first ≡ None = sym b.is_first ∙ h in absurd (cc)
  all_are_given (TypeParameter n p ∷ xs) (o ∷ os) cs h e =
      let b = both_some o (all_given os) cs e in
      subst (AreGiven from (TypeParameter n p ∷ xs)) b.is (all_are_given xs os b.rest h b.is_rest)
  all_are_given (FunctionParameter n p ps r ∷ xs) (o ∷ os) cs h e =
      let b = both_some o (all_given os) cs e in
      subst (AreGiven from (FunctionParameter n p ps r ∷ xs)) b.is (h.0 b.first b.is_first, all_are_given xs os b.rest h.1 b.is_rest)

  function_tree : (f : ℕ) (o : Option Closeds) (c : Closed) → There (slice_get core.functions f) → ((cs : Closeds) → o ≡ Some cs → AreGiven from (statics_at from f) cs) → applied_function f o ≡ Some c → IsFunctionTree from c
  function_tree f None c k h e = absurd (cc)
  function_tree f (Some cs) c k h e = let same : Applied (H.Function f) cs ≡ c = cc in subst (IsFunctionTree from) same (k, h cs refl)

  use_tree : (o : Option Closed) (q : Option ℕ) (n : ℕ) (os : List (Option Closed)) (c : Closed) → ((d : Closed) → o ≡ Some d → IsFunctionTree from d) → ((f : ℕ) → q ≡ Some f → There (slice_get core.functions f)) → AreOptions (statics_meant from q) os → named_use from o q n os ≡ Some c → IsFunctionTree from c
  use_tree (Some g) q n os c a b h e = a c (if_some (n == 0) (Some g) c e)
  use_tree None None n os c a b h e = absurd (cc)
  use_tree None (Some f) n os c a b h e =
      let used = if_some (length (statics_at from f) == n) (declared_use from f os) c e in
      let given = if_some (fit_if_known from f (statics_at from f) os (types_given (statics_at from f) os)) (applied_function f (all_given os)) c used in
      function_tree f (all_given os) c (b f refl) (λ cs k. all_are_given (statics_at from f) os cs h k) given

  meant_there : (x : Name) (f : ℕ) → meaning x (written_names core).functions ≡ Some f → There (slice_get core.functions f)
  meant_there x f e =
      let r = function_meant x 0 core.functions f e in
      let n = r.is in
      let place : f ≡ r.place = omega (arith, n) in
      (r.function, ap (slice_get core.functions) place ∙ r.there)

  mutual
    closed_function_tree : (here : Instance) (w : Written) (c : Closed) → AreGiven from (statics_at from here.function) here.given → closed_function from here w ≡ Some c → IsFunctionTree from c
    closed_function_tree here (WrittenInt p) c h e = absurd (cc)
    closed_function_tree here (WrittenName x p ws) c h e =
        let q = meaning x (written_names core).functions in
        use_tree (given_function from here x) q (count ws) (closed_arguments from here (statics_meant from q) ws) c
        (λ d f. given_by (statics_at from here.function) here.given (meaning x (static_places (statics_at from here.function))) d h f)
        (meant_there x) (argument_trees here (statics_meant from q) ws h) e

    argument_trees : (here : Instance) (xs : List Static) (ws : Writtens) → AreGiven from (statics_at from here.function) here.given → AreOptions xs (closed_arguments from here xs ws)
    argument_trees here xs NoWritten h = tt
    argument_trees here [] (MoreWritten w ws) h = refl
    argument_trees here (TypeParameter n p ∷ xs) (MoreWritten w ws) h = argument_trees here xs ws h
    argument_trees here (FunctionParameter n p ps r ∷ xs) (MoreWritten w ws) h = ((λ c e. closed_function_tree here w c h e), argument_trees here xs ws h)

  root_tree : (xs : List Static) (i : ℕ) → There (slice_get core.functions i) → (c : Closed) → Among c (root_if xs i) → IsFunctionTree from c
  root_tree [] i h c (inl e) = subst (IsFunctionTree from) (sym e) (h, tt)
  root_tree [] i h c (inr n) = absurd n
  root_tree (x ∷ xs) i h c a = absurd a

  -- the functions from place i on
  abbrev pub IsRest : ℕ → List Function → Type 0
  IsRest i fs = (k : ℕ) (f : Function) → slice_get fs k ≡ Some f → slice_get core.functions (i + k) ≡ Some f

  rest_first : (i : ℕ) (f : Function) (fs : List Function) → IsRest i (f ∷ fs) → slice_get core.functions i ≡ Some f
  rest_first i f fs h = let n : i + 0 ≡ i = omega arith in subst (λ k. slice_get core.functions k ≡ Some f) n (h 0 f refl)

  rest_next : (i : ℕ) (f : Function) (fs : List Function) → IsRest i (f ∷ fs) → IsRest (suc i) fs
  rest_next i f fs h k g e = let n : i + suc k ≡ suc i + k = omega arith in subst (λ k. slice_get core.functions k ≡ Some g) n (h (suc k) g e)

  roots_trees : (i : ℕ) (fs : List Function) → IsRest i fs → (c : Closed) → Among c (roots_from i fs) → IsFunctionTree from c
  roots_trees i [] h c a = absurd a
  roots_trees i (f ∷ fs) h c a = by (among_either c (root_if f.statics i) (roots_from (suc i) fs) a) (roots_trees (suc i) fs (rest_next i f fs h) c)
    where
      by : Among c (root_if f.statics i) ⊎ Among c (roots_from (suc i) fs) → (Among c (roots_from (suc i) fs) → IsFunctionTree from c) → IsFunctionTree from c
      by (inl b) k = root_tree f.statics i (f, rest_first i f fs h) c b
      by (inr b) k = k b

  all_rest : IsRest 0 core.functions
  all_rest k f e = let n : k ≡ 0 + k = omega arith in subst (λ j. slice_get core.functions j ≡ Some f) n e

  there_tree : (P : Closed → Type 0) (o : Option Closed) → ((c : Closed) → o ≡ Some c → P c) → (c : Closed) → Among c (if_there o) → P c
  there_tree P None h c a = absurd a
  there_tree P (Some d) h c (inl e) = subst P (sym e) (h d refl)
  there_tree P (Some d) h c (inr n) = absurd n

  calls_trees : (here : Instance) (o : Option Function) → AreGiven from (statics_at from here.function) here.given → (c : Closed) → Among c (calls_in from here o) → IsFunctionTree from c
  calls_trees here None h c a = absurd a
  calls_trees here (Some f) h c a =
      of_have (IsFunctionTree from) (λ (u : Written). if_there (closed_function from here u)) (calls f)
      (λ u d e. there_tree (IsFunctionTree from) (closed_function from here u) (λ c k. closed_function_tree here u c h k) d e) c a

  next_tree : (x y : Closed) → IsFunctionTree from x → Among y (calls_from from x) → IsFunctionTree from y
  next_tree Int y h a = absurd a
  next_tree (Applied (H.«Type» n) cs) y h a = absurd a
  next_tree (Applied (H.Function f) cs) y h a = calls_trees (instance_at f cs) (slice_get core.functions f) h.1 y a

  pub instance_trees : (cs : List Closed) → AreInstances from cs → (c : Closed) → Among c cs → IsFunctionTree from c
  instance_trees cs h c a = reached_in same_closed closed_exact (roots from) (calls_from from) (IsFunctionTree from) (roots_trees 0 core.functions all_rest) next_tree c (h.reached c a)

  -- ---- what a call reaches is numbered

  module _ (ns : Numbers) (instances : AreInstances from ns.instances) (unbroken : all_faults from ns.instances ≡ []) (f : ℕ) (cs : Closeds) (fn : Function) (there : slice_get core.functions f ≡ Some fn) (among : Among (Applied (H.Function f) cs) ns.instances) where
    abbrev here : Instance
    here = instance_at f cs

    use_unbroken : (u : Written) → Among u (calls fn) → (i : ℕ) × (use_faults from i here u ≡ [])
    use_unbroken u a =
        let r = none_of_numbered (faults_of from) 0 ns.instances unbroken (Applied (H.Function f) cs) among in
        (r.0, none_of_each (λ (u : Written). use_faults from r.0 here u) (calls fn) (sym (ap (faults_in from r.0 here) there) ∙ r.1) u a)

    reached_numbered : (u : Written) (d : Closed) → Among u (calls fn) → closed_function from here u ≡ Some d → Among d ns.instances
    reached_numbered u d a e =
        numbered_next same_closed closed_exact (roots from) (calls_from from) ns.instances instances (Applied (H.Function f) cs) d among
        (subst (λ o. Among d (calls_in from here o)) (sym there)
        (among_of (λ (u : Written). if_there (closed_function from here u)) u d (calls fn) a (subst (λ o. Among d (if_there o)) (sym e) (inl refl))))

    -- the number of a call is that of the instance that its name means
    pub call_reached : (is : IsHere core here) (c : CallSite) → Among c (sites_in_block true fn.body) → slice_get (map (named core) ns.instances) (flat_call from ns here c.name c.place c.statics) ≡ Some (callee core (by_name core ts here is) c.name c.statics)
    call_reached is c a =
        let u = use_at c in
        let stands = called fn c a in
        let free = use_unbroken u stands in
        let d = closed_function_there core ts here is free.0 u free.1 in
        let n = numbered_there d.0 ns.instances (reached_numbered u d.0 stands d.1) in
        let number : flat_call from ns here c.name c.place c.statics ≡ n.number = ap (λ o. or_zero (option_and_then (number_in ns.instances) o)) d.1 ∙ ap or_zero n.is in
        ap (slice_get (map (named core) ns.instances)) number
        ∙ map_at (named core) ns.instances n.number d.0 n.there
        ∙ ap Some (closed_function_named core ts here is u d.0 d.1)
