-- In an instance that is given what its parameters require, what is written means by place what it means by name:
-- types, functions with their static arguments, and the functions that are called.
use Rattle.std.proofs.Common.{◌≡◌, ℕ, ◌-◌, ◌==◌, ◌&&◌, not, Bool, true, false, List, [], ◌∷◌, ◌++◌, length, Option, Some, None, slice_get, if◌then◌else◌, refl, sym, ap, ◌∙◌, arith}
use Rattle.std.proofs.lemmas.Bool.Decides.{nat_tests}
use Rattle.source_report.specs.fip_language.declared.Place.{Place}
use Rattle.source_report.specs.fip_language.declared.rule.Rule.TheVariants.{E12, E23}
use Rattle.source_report.specs.fip_language.Core.{Name, Written, WrittenInt, WrittenName, Writtens, NoWritten, MoreWritten, Static, TypeParameter, FunctionParameter, Function, Core}
use Rattle.source_report.specs.fip_language.Declarations.{data_types}
use Rattle.source_report.specs.fip_language.Statics as ByClosed
use Rattle.source_report.specs.fip_language.Statics.{given_or, statics_of}
use Rattle.source_report.specs.fip_trees.Names.{meaning}
use Rattle.source_report.specs.fip_trees.declared.decls.TypeHead.{TypeHead}
use Rattle.source_report.specs.fip_trees.declared.least.Violation.{Violation}
use Rattle.source_report.specs.data_types.Declarations.{written_names}
use Rattle.source_report.specs.data_types.Faults.{repeats, static_mentions}
use Rattle.source_report.proofs.data_types.Exact.{none_left, none_right}
use Rattle.source_report.specs.reached_instances.closed_types.declared.closed.Head.TheVariants as H
use Rattle.source_report.specs.reached_instances.closed_types.Closed.{Closed, Closeds, Int, Applied, NoClosed, MoreClosed}
use Rattle.source_report.specs.reached_instances.closed_types.Source.{Declared, Source, Instance, statics_at, statics_or_none, static_places, type_at, function_at, given_type, given_function}
use Rattle.source_report.specs.reached_instances.closed_types.Uses.{broken, when, count, type_faults, types_faults, type_name_faults, applied_to, named_type, both, closed_type, closed_types, types_given, all_fit, static_fits, fit_if_known, all_given, applied_function, declared_use, named_use, statics_meant, closed_function, closed_arguments, misfit, misfits, misfits_if_known, name_faults, use_faults, arguments_faults}
use Rattle.specialisation_correctness.specs.Named.{data_name, function_name, head_name, named, all_named}
use Rattle.specialisation_correctness.proofs.Lookups.{function_meant, type_meant, places_all, named_if, type_named, function_named}
use Rattle.source_report.proofs.cell_lower.fip_language.Facts.{if_some, same_number}

-- the source of a core form, with any table of data types
abbrev pub source_with : Core → List Declared → Source
source_with core ts = record { names = written_names core; types = ts; functions = core.functions }

-- ---- lists of options

pub record BothSome (o : Option Closed) (q : Option Closeds) (cs : Closeds) : Type 0 where
  pub first : Closed
  pub rest : Closeds
  pub is_first : o ≡ Some first
  pub is_rest : q ≡ Some rest
  pub is : MoreClosed first rest ≡ cs

pub both_some : (o : Option Closed) (q : Option Closeds) (cs : Closeds) → both o q ≡ Some cs → BothSome o q cs
both_some None q cs e = absurd (cc)
both_some (Some c) None cs e = absurd (cc)
both_some (Some c) (Some ds) cs e = record { first = c; rest = ds; is_first = refl; is_rest = refl; is = (let f : MoreClosed c ds ≡ cs = cc in f) }

none_when : (b : Bool) (v : Violation) → when (not b) v ≡ [] → b ≡ true
none_when true v e = refl
none_when false v e = absurd (cc)

-- an option that has something
abbrev pub There : {A : Type 0} → Option A → Type 0
There {A = A} o = (a : A) × (o ≡ Some a)

there_if : {A : Type 0} (b : Bool) (o : Option A) → b ≡ true → There o → There (if b then o else None)
there_if true o e h = h
there_if false o e h = absurd (cc)

both_there : (o : Option Closed) (q : Option Closeds) → There o → There q → There (both o q)
both_there o q h k = (MoreClosed h.0 k.0, ap (λ x. both x q) h.1 ∙ ap (both (Some h.0)) k.1)

-- ---- the instance

-- the instance of a place is that of this function, whose static parameters have different names
pub record IsHere (core : Core) (here : Instance) : Type 0 where
  pub function : Function
  pub there : slice_get core.functions here.function ≡ Some function
  pub once : repeats [] (static_mentions function.statics) ≡ []

module _ (core : Core) (ts : List Declared) (here : Instance) (is : IsHere core here) where
  abbrev pub s : Source
  s = source_with core ts

  abbrev pub by_name : ByClosed.Instance
  by_name = record { function = is.function; given = all_named core here.given }

  statics_are : statics_at s here.function ≡ is.function.statics
  statics_are = ap statics_or_none is.there

  type_here : (x : Name) → named_if core (given_type s here x) ≡ ByClosed.given_type by_name x
  type_here x =
      ap (λ xs. named_if core (type_at xs here.given (meaning x (static_places xs)))) statics_are
      ∙ ap (λ ps. named_if core (type_at is.function.statics here.given (meaning x ps))) (places_all is.function.statics is.once)
      ∙ type_named core [] x is.function.statics here.given is.once

  pub function_here : (x : Name) → named_if core (given_function s here x) ≡ ByClosed.given_function by_name x
  function_here x =
      ap (λ xs. named_if core (function_at xs here.given (meaning x (static_places xs)))) statics_are
      ∙ ap (λ ps. named_if core (function_at is.function.statics here.given (meaning x ps))) (places_all is.function.statics is.once)
      ∙ function_named core [] x is.function.statics here.given is.once

  -- ---- types

  head_is : (x : Name) (h : TypeHead) → meaning x (written_names core).types ≡ Some h → head_name core (H.«Type» h.number) ≡ x
  head_is x h e =
      let r = type_meant x 1 (data_types core) h e in
      let n = r.is in
      let place : h.number - 1 ≡ r.place = omega (arith, n) in
      ap (λ k. data_name (slice_get (data_types core) k)) place ∙ ap data_name r.there ∙ r.name

  applied_named : (n : ℕ) (r : Option Closeds) (x : Name) (rs : ByClosed.Closeds) (c : Closed) → head_name core (H.«Type» n) ≡ x → ((cs : Closeds) → r ≡ Some cs → all_named core cs ≡ rs) → applied_to n r ≡ Some c → named core c ≡ ByClosed.ClosedName x rs
  applied_named n None x rs c h k e = absurd (cc)
  applied_named n (Some cs) x rs c h k e =
      let same : Applied (H.«Type» n) cs ≡ c = cc in
      ap (named core) (sym same) ∙ ap (λ y. ByClosed.ClosedName y (all_named core cs)) h ∙ ap (ByClosed.ClosedName x) (k cs refl)

  given_named : (n : ℕ) (g c : Closed) (q : Option ByClosed.Closed) (d : ByClosed.Closed) → named_if core (Some g) ≡ q → (if n == 0 then Some g else None) ≡ Some c → named core c ≡ given_or q d
  given_named n g c q d f e =
      let same : Some g ≡ Some c = if_some (n == 0) (Some g) c e in
      let it : g ≡ c = cc in
      ap (named core) (sym it) ∙ ap (λ o. given_or o d) f

  type_is : (o : Option Closed) (q : Option ByClosed.Closed) (t : Option TypeHead) (n : ℕ) (r : Option Closeds) (x : Name) (rs : ByClosed.Closeds) (c : Closed) → named_if core o ≡ q → ((h : TypeHead) → t ≡ Some h → head_name core (H.«Type» h.number) ≡ x) → ((cs : Closeds) → r ≡ Some cs → all_named core cs ≡ rs) → named_type o t n r ≡ Some c → named core c ≡ given_or q (ByClosed.ClosedName x rs)
  type_is (Some g) q t n r x rs c f h k e = given_named n g c q (ByClosed.ClosedName x rs) f e
  type_is None q None n r x rs c f h k e = absurd (cc)
  type_is None q (Some t) n r x rs c f h k e =
      applied_named t.number r x rs c (h t refl) k (if_some (t.arity == n) (applied_to t.number r) c e)
      ∙ ap (λ o. given_or o (ByClosed.ClosedName x rs)) f

  mutual
    pub closed_type_named : (w : Written) (c : Closed) → closed_type s here w ≡ Some c → named core c ≡ ByClosed.closed_type by_name w
    closed_type_named (WrittenInt p) c e = let same : Int ≡ c = cc in ap (named core) (sym same)
    closed_type_named (WrittenName x p ws) c e =
        type_is (given_type s here x) (ByClosed.given_type by_name x) (meaning x (written_names core).types) (count ws) (closed_types s here ws) x (ByClosed.closed_types by_name ws) c
        (type_here x) (head_is x) (closed_types_named ws) e

    closed_types_named : (ws : Writtens) (cs : Closeds) → closed_types s here ws ≡ Some cs → all_named core cs ≡ ByClosed.closed_types by_name ws
    closed_types_named NoWritten cs e = let same : NoClosed ≡ cs = cc in ap (all_named core) (sym same)
    closed_types_named (MoreWritten w ws) cs e =
        let b = both_some (closed_type s here w) (closed_types s here ws) cs e in
        ap (all_named core) (sym b.is)
        ∙ ap (λ d. ByClosed.MoreClosed d (all_named core b.rest)) (closed_type_named w b.first b.is_first)
        ∙ ap (ByClosed.MoreClosed (ByClosed.closed_type by_name w)) (closed_types_named ws b.rest b.is_rest)

  -- ---- functions

  applied_function_named : (f : ℕ) (o : Option Closeds) (x : Name) (rs : ByClosed.Closeds) (c : Closed) → head_name core (H.Function f) ≡ x → ((cs : Closeds) → o ≡ Some cs → all_named core cs ≡ rs) → applied_function f o ≡ Some c → named core c ≡ ByClosed.ClosedName x rs
  applied_function_named f None x rs c h k e = absurd (cc)
  applied_function_named f (Some cs) x rs c h k e =
      let same : Applied (H.Function f) cs ≡ c = cc in
      ap (named core) (sym same) ∙ ap (λ y. ByClosed.ClosedName y (all_named core cs)) h ∙ ap (ByClosed.ClosedName x) (k cs refl)

  -- what a name means: the function at a place
  abbrev Means : Name → Option ℕ → Type 0
  Means x q = (f : ℕ) → q ≡ Some f → (head_name core (H.Function f) ≡ x) × (statics_of core x ≡ statics_at s f)

  means : (x : Name) → Means x (meaning x (written_names core).functions)
  means x f e =
      let r = function_meant x 0 core.functions f e in
      let n = r.is in
      let place : f ≡ r.place = omega (arith, n) in
      let there : slice_get core.functions f ≡ Some r.function = ap (slice_get core.functions) place ∙ r.there in
      (ap function_name there ∙ r.name, ap ByClosed.statics_or_none r.by_name ∙ sym (ap statics_or_none there))

  function_is : (o : Option Closed) (q : Option ByClosed.Closed) (t : Option ℕ) (n : ℕ) (os : List (Option Closed)) (x : Name) (rs : ByClosed.Closeds) (c : Closed) → named_if core o ≡ q → Means x t → ((f : ℕ) (cs : Closeds) → t ≡ Some f → all_given os ≡ Some cs → all_named core cs ≡ rs) → named_use s o t n os ≡ Some c → named core c ≡ given_or q (ByClosed.ClosedName x rs)
  function_is (Some g) q t n os x rs c f h k e = given_named n g c q (ByClosed.ClosedName x rs) f e
  function_is None q None n os x rs c f h k e = absurd (cc)
  function_is None q (Some t) n os x rs c f h k e =
      let used = if_some (length (statics_at s t) == n) (declared_use s t os) c e in
      let given = if_some (fit_if_known s t (statics_at s t) os (types_given (statics_at s t) os)) (applied_function t (all_given os)) c used in
      applied_function_named t (all_given os) x rs c (h t refl).0 (λ cs g. k t cs refl g) given
      ∙ ap (λ o. given_or o (ByClosed.ClosedName x rs)) f

  mutual
    pub closed_function_named : (w : Written) (c : Closed) → closed_function s here w ≡ Some c → named core c ≡ ByClosed.closed_function core by_name w
    closed_function_named (WrittenInt p) c e = absurd (cc)
    closed_function_named (WrittenName x p ws) c e =
        let t = meaning x (written_names core).functions in
        let arguments = closed_arguments s here (statics_meant s t) ws in
        function_is (given_function s here x) (ByClosed.given_function by_name x) t (count ws) arguments x (ByClosed.closed_statics core by_name (statics_of core x) ws) c
        (function_here x) (means x)
        (λ f cs g k. arguments_named (statics_meant s t) ws cs k ∙ ap (λ xs. ByClosed.closed_statics core by_name xs ws) (ap (statics_meant s) g ∙ sym (means x f g).1)) e

    arguments_named : (xs : List Static) (ws : Writtens) (cs : Closeds) → all_given (closed_arguments s here xs ws) ≡ Some cs → all_named core cs ≡ ByClosed.closed_statics core by_name xs ws
    arguments_named [] NoWritten cs e = let same : NoClosed ≡ cs = cc in ap (all_named core) (sym same)
    arguments_named (x ∷ xs) NoWritten cs e = let same : NoClosed ≡ cs = cc in ap (all_named core) (sym same)
    arguments_named [] (MoreWritten w ws) cs e = absurd (cc)
    arguments_named (TypeParameter n p ∷ xs) (MoreWritten w ws) cs e =
        let b = both_some (closed_type s here w) (all_given (closed_arguments s here xs ws)) cs e in
        ap (all_named core) (sym b.is)
        ∙ ap (λ d. ByClosed.MoreClosed d (all_named core b.rest)) (closed_type_named w b.first b.is_first)
        ∙ ap (ByClosed.MoreClosed (ByClosed.closed_type by_name w)) (arguments_named xs ws b.rest b.is_rest)
    arguments_named (FunctionParameter n p ps r ∷ xs) (MoreWritten w ws) cs e =
        let b = both_some (closed_function s here w) (all_given (closed_arguments s here xs ws)) cs e in
        ap (all_named core) (sym b.is)
        ∙ ap (λ d. ByClosed.MoreClosed d (all_named core b.rest)) (closed_function_named w b.first b.is_first)
        ∙ ap (ByClosed.MoreClosed (ByClosed.closed_function core by_name w)) (arguments_named xs ws b.rest b.is_rest)

  -- ---- what breaks no rule is there

  type_there : (i : ℕ) (o : Option Closed) (t : Option TypeHead) (x : Name) (p : Place) (n : ℕ) (r : Option Closeds) → type_name_faults i o t x p n ≡ [] → There r → There (named_type o t n r)
  type_there i (Some g) t x p n r e h = there_if (n == 0) (Some g) (none_when (n == 0) (broken E12 p i x) e) (g, refl)
  type_there i None None x p n r e h = absurd (cc)
  type_there i None (Some t) x p n r e h = there_if (t.arity == n) (applied_to t.number r) (none_when (t.arity == n) (broken E12 p i x) e) (Applied (H.«Type» t.number) h.0, ap (applied_to t.number) h.1)

  mutual
    closed_type_there : (i : ℕ) (w : Written) → type_faults s i here w ≡ [] → There (closed_type s here w)
    closed_type_there i (WrittenInt p) e = (Int, refl)
    closed_type_there i (WrittenName x p ws) e =
        let fs = types_faults s i here ws in
        let gs = type_name_faults i (given_type s here x) (meaning x (written_names core).types) x p (count ws) in
        type_there i (given_type s here x) (meaning x (written_names core).types) x p (count ws) (closed_types s here ws) (none_right fs gs e) (closed_types_there i ws (none_left fs gs e))

    closed_types_there : (i : ℕ) (ws : Writtens) → types_faults s i here ws ≡ [] → There (closed_types s here ws)
    closed_types_there i NoWritten e = (NoClosed, refl)
    closed_types_there i (MoreWritten w ws) e =
        both_there (closed_type s here w) (closed_types s here ws) (closed_type_there i w (none_left (type_faults s i here w) (types_faults s i here ws) e)) (closed_types_there i ws (none_right (type_faults s i here w) (types_faults s i here ws) e))

  both_true : (a b : Bool) → a ≡ true → b ≡ true → (a && b) ≡ true
  both_true true b e f = f
  both_true false b e f = e

  fitting_more : (i : ℕ) (there : Instance) (x : Static) (xs : List Static) (w : Written) (ws : Writtens) (o : Option Closed) (os : List (Option Closed)) → (misfits s i there xs ws os ≡ [] → all_fit s there xs os ≡ true) → misfits s i there (x ∷ xs) (MoreWritten w ws) (o ∷ os) ≡ [] → all_fit s there (x ∷ xs) (o ∷ os) ≡ true
  fitting_more i there x xs w ws o os h e =
      let fs = when (not (static_fits s there x o)) (misfit i w) in
      both_true (static_fits s there x o) (all_fit s there xs os) (none_when (static_fits s there x o) (misfit i w) (none_left fs (misfits s i there xs ws os) e)) (h (none_right fs (misfits s i there xs ws os) e))

  all_fitting : (i : ℕ) (there : Instance) (xs : List Static) (ws : Writtens) (ys : List Static) → misfits s i there xs ws (closed_arguments s here ys ws) ≡ [] → all_fit s there xs (closed_arguments s here ys ws) ≡ true
  all_fitting i there [] ws ys e = refl
  all_fitting i there (x ∷ xs) NoWritten ys e = refl
  all_fitting i there (x ∷ xs) (MoreWritten w ws) [] e = fitting_more i there x xs w ws None (closed_arguments s here [] ws) (all_fitting i there xs ws []) e
  all_fitting i there (x ∷ xs) (MoreWritten w ws) (TypeParameter n p ∷ ys) e = fitting_more i there x xs w ws (closed_type s here w) (closed_arguments s here ys ws) (all_fitting i there xs ws ys) e
  all_fitting i there (x ∷ xs) (MoreWritten w ws) (FunctionParameter n p ps r ∷ ys) e = fitting_more i there x xs w ws (closed_function s here w) (closed_arguments s here ys ws) (all_fitting i there xs ws ys) e

  -- static arguments that break no rule are there, each of them
  abbrev AreThere : List Static → List (Option Closed) → Type 0
  AreThere xs os = There (all_given os) × There (types_given xs os)

  fits_there : (f : ℕ) (os : List (Option Closed)) (o : Option Closeds) → There o → ((cs : Closeds) → o ≡ Some cs → all_fit s (record { function = f; given = cs }) (statics_at s f) os ≡ true) → fit_if_known s f (statics_at s f) os o ≡ true
  fits_there f os o h k = ap (fit_if_known s f (statics_at s f) os) h.1 ∙ k h.0 h.1

  use_there : (i f : ℕ) (ws : Writtens) → AreThere (statics_at s f) (closed_arguments s here (statics_at s f) ws) → misfits_if_known s i f ws (closed_arguments s here (statics_at s f) ws) (types_given (statics_at s f) (closed_arguments s here (statics_at s f) ws)) ≡ [] → There (declared_use s f (closed_arguments s here (statics_at s f) ws))
  use_there i f ws h e =
      let os = closed_arguments s here (statics_at s f) ws in
      let ds = types_given (statics_at s f) os in
      there_if (fit_if_known s f (statics_at s f) os ds) (applied_function f (all_given os))
      (fits_there f os ds h.1 (λ cs g. all_fitting i (record { function = f; given = cs }) (statics_at s f) ws (statics_at s f) (sym (ap (misfits_if_known s i f ws os) g) ∙ e)))
      (Applied (H.Function f) h.0.0, ap (applied_function f) h.0.1)

  size_by : (b : Bool) (v : Violation) (vs : List Violation) → (if b then vs else v ∷ []) ≡ [] → (b ≡ true) × (vs ≡ [])
  size_by true v vs e = (refl, e)
  size_by false v vs e = absurd (cc)

  function_there : (i : ℕ) (o : Option Closed) (t : Option ℕ) (x : Name) (p : Place) (ws : Writtens) → ((f : ℕ) → t ≡ Some f → length (statics_at s f) ≡ count ws → arguments_faults s i here (statics_at s f) ws ≡ [] → AreThere (statics_at s f) (closed_arguments s here (statics_at s f) ws)) → name_faults s i o t x p ws (closed_arguments s here (statics_meant s t) ws) (arguments_faults s i here (statics_meant s t) ws) ≡ [] → There (named_use s o t (count ws) (closed_arguments s here (statics_meant s t) ws))
  function_there i (Some g) t x p ws h e = there_if (count ws == 0) (Some g) (none_when (count ws == 0) (broken E23 p i x) e) (g, refl)
  function_there i None None x p ws h e = absurd (cc)
  function_there i None (Some f) x p ws h e =
      let vs = arguments_faults s i here (statics_at s f) ws in
      let os = closed_arguments s here (statics_at s f) ws in
      let ms = misfits_if_known s i f ws os (types_given (statics_at s f) os) in
      let size = size_by (length (statics_at s f) == count ws) (broken E23 p i x) (vs ++ ms) e in
      there_if (length (statics_at s f) == count ws) (declared_use s f os) size.0
      (use_there i f ws (h f refl (same_number (length (statics_at s f)) (count ws) size.0) (none_left vs ms size.1)) (none_right vs ms size.1))

  mutual
    pub closed_function_there : (i : ℕ) (w : Written) → use_faults s i here w ≡ [] → There (closed_function s here w)
    closed_function_there i (WrittenInt p) e = absurd (cc)
    closed_function_there i (WrittenName x p ws) e =
        function_there i (given_function s here x) (meaning x (written_names core).functions) x p ws (λ f g size k. arguments_there i (statics_at s f) ws size k) e

    arguments_there : (i : ℕ) (xs : List Static) (ws : Writtens) → length xs ≡ count ws → arguments_faults s i here xs ws ≡ [] → AreThere xs (closed_arguments s here xs ws)
    arguments_there i [] NoWritten n e = ((NoClosed, refl), (NoClosed, refl))
    arguments_there i (x ∷ xs) NoWritten n e = absurd (omega (arith, n))
    arguments_there i [] (MoreWritten w ws) n e = absurd (omega (arith, n))
    arguments_there i (TypeParameter m p ∷ xs) (MoreWritten w ws) n e =
        let fs = type_faults s i here w in
        let gs = arguments_faults s i here xs ws in
        let one = closed_type_there i w (none_left fs gs e) in
        let rest = arguments_there i xs ws (omega (arith, n)) (none_right fs gs e) in
        (both_there (closed_type s here w) (all_given (closed_arguments s here xs ws)) one rest.0, both_there (closed_type s here w) (types_given xs (closed_arguments s here xs ws)) one rest.1)
    arguments_there i (FunctionParameter m p ps r ∷ xs) (MoreWritten w ws) n e =
        let fs = use_faults s i here w in
        let gs = arguments_faults s i here xs ws in
        let one = closed_function_there i w (none_left fs gs e) in
        let rest = arguments_there i xs ws (omega (arith, n)) (none_right fs gs e) in
        (both_there (closed_function s here w) (all_given (closed_arguments s here xs ws)) one rest.0, both_there (Some Int) (types_given xs (closed_arguments s here xs ws)) (Int, refl) rest.1)
