-- Names that are looked up in the lists of what they mean, and in the program itself, mean the same: the first
-- declaration of the name.
use Rattle.std.proofs.Common.{◌≡◌, inl, inr, ℕ, zero, suc, ◌+◌, ◌||◌, Bool, true, false, List, [], ◌∷◌, ◌++◌, length, Option, Some, None, option_map, slice_get, if◌then◌else◌, refl, sym, ap, ◌∙◌, subst, arith}
use Rattle.std.proofs.lemmas.List.Folds.{list_any-append}
use Rattle.std.proofs.lemmas.Slice.Eq.{bytes_eq-Decides}
use Rattle.source_report.specs.fip_language.declared.rule.Rule.TheVariants.{E10}
use Rattle.source_report.specs.fip_language.Core.{Name, Data, DataConstructor, Function, Core, Static, TypeParameter, FunctionParameter}
use Rattle.source_report.specs.fip_language.Declarations.{same_name, function_in, constructor_among, constructor_in, or_else}
use Rattle.source_report.specs.fip_language.Declarations as ByName
use Rattle.source_report.specs.fip_language.Every.{Among}
use Rattle.source_report.specs.fip_language.Mentions.{Mention, mention}
use Rattle.source_report.specs.fip_language.Statics as ByClosed
use Rattle.source_report.specs.fip_language.Statics.{type_among, function_among}
use Rattle.source_report.specs.fip_trees.Names.{meaning, is_among, names}
use Rattle.source_report.specs.fip_trees.declared.decls.TypeHead.{TypeHead}
use Rattle.source_report.specs.fip_trees.declared.decls.ConstructorId.{ConstructorId}
use Rattle.source_report.specs.fip_trees.declared.least.Violation.{Violation}
use Rattle.source_report.specs.data_types.Declarations.{type_meanings, row_meanings, constructor_meanings, function_meanings}
use Rattle.source_report.specs.data_types.Faults.{repeats, broken, function_mentions, static_mentions}
use Rattle.source_report.proofs.data_types.Repeats.{all_new, mention_names}
use Rattle.source_report.specs.reached_instances.closed_types.Closed.{Closed, Closeds, NoClosed, MoreClosed}
use Rattle.source_report.specs.reached_instances.closed_types.Source.{static_name, static_meanings, static_places, if_type, if_function, type_at, function_at}
use Rattle.specialisation_correctness.specs.Named.{named, all_named}
use Rattle.source_report.proofs.cell_lower.fip_language.Facts.{or_first as or_left, or_last as or_right}

-- ---- names

pub same_is : (x y : Name) → same_name x y ≡ true → x ≡ y
same_is x y e = (bytes_eq-Decides x y).0 e

pub same_self : (x : Name) → same_name x x ≡ true
same_self x = (bytes_eq-Decides x x).1 refl

not_same : (x y : Name) → same_name x y ≡ false → x ≡ y → ⊥
not_same x y e f = let g : same_name x y ≡ true = subst (λ z. same_name x z ≡ true) f (same_self x) in absurd (cc)

none_here : (c : Bool) (v : Violation) (xs ys : List Violation) → (if c then v ∷ xs else ys) ≡ [] → (c ≡ false) × (ys ≡ [])
none_here true v xs ys h = absurd (cc)
none_here false v xs ys h = (refl, h)

among_more : (n m : Name) (seen : List Name) → is_among n seen ≡ true → is_among n (seen ++ m ∷ []) ≡ true
among_more n m seen e = list_any-append (same_name n) seen (m ∷ []) ∙ or_left (is_among n seen) (is_among n (m ∷ [])) e

among_last : (n m : Name) (seen : List Name) → same_name n m ≡ true → is_among n (seen ++ m ∷ []) ≡ true
among_last n m seen e = list_any-append (same_name n) seen (m ∷ []) ∙ or_right (is_among n seen) (is_among n (m ∷ [])) (or_left (same_name n m) false e)

-- a name that was seen is nowhere else
seen_apart : (n m : Name) (seen : List Name) → is_among n seen ≡ true → is_among m seen ≡ false → same_name n m ≡ true → ⊥
seen_apart n m seen e f g = let h : n ≡ m = same_is n m g in let k : is_among m seen ≡ true = subst (λ x. is_among x seen ≡ true) h e in absurd (cc)

seen_once : (ms : List Mention) (seen : List Name) (n : Name) (m : Mention) → repeats seen ms ≡ [] → is_among n seen ≡ true → Among m ms → same_name n m.name ≡ true → ⊥
seen_once [] seen n m h e a g = a
seen_once (x ∷ ms) seen n m h e (inl s) g =
    let r = none_here (is_among x.name seen) (broken E10 x.place x.name) (repeats seen ms) (repeats (seen ++ x.name ∷ []) ms) h in
    seen_apart n x.name seen e r.0 (subst (λ (y : Mention). same_name n y.name ≡ true) s g)
seen_once (x ∷ ms) seen n m h e (inr a) g =
    let r = none_here (is_among x.name seen) (broken E10 x.place x.name) (repeats seen ms) (repeats (seen ++ x.name ∷ []) ms) h in
    seen_once ms (seen ++ x.name ∷ []) n m r.1 (among_more n x.name seen e) a g

-- ---- functions

-- a function by its place, from i on
pub record IsFunction (x : Name) (i : ℕ) (fs : List Function) (k : ℕ) : Type 0 where
  pub place : ℕ
  pub is : k ≡ i + place
  pub function : Function
  pub there : slice_get fs place ≡ Some function
  pub by_name : function_in x fs ≡ Some function
  pub name : function.name ≡ x

function_by : (b : Bool) (x : Name) (i : ℕ) (f : Function) (fs : List Function) (k : ℕ) → same_name x f.name ≡ b → (meaning x (function_meanings (suc i) fs) ≡ Some k → IsFunction x (suc i) fs k) → (if b then Some i else meaning x (function_meanings (suc i) fs)) ≡ Some k → IsFunction x i (f ∷ fs) k
function_by true x i f fs k same later e =
    let here : i ≡ k = cc in
    record { place = 0; is = omega (arith, here); function = f; there = refl; by_name = ap (λ b. if b then Some f else function_in x fs) same; name = sym (same_is x f.name same) }
function_by false x i f fs k same later e =
    let r = later e in
    let n = r.is in
    record { place = suc r.place; is = omega (arith, n); function = r.function; there = r.there; by_name = ap (λ b. if b then Some f else function_in x fs) same ∙ r.by_name; name = r.name }

pub function_meant : (x : Name) (i : ℕ) (fs : List Function) (k : ℕ) → meaning x (function_meanings i fs) ≡ Some k → IsFunction x i fs k
function_meant x i [] k e = absurd (cc)
function_meant x i (f ∷ fs) k e = function_by (same_name x f.name) x i f fs k refl (function_meant x (suc i) fs k) e

mentioned : (fs : List Function) (j : ℕ) (f : Function) → slice_get fs j ≡ Some f → Among (mention f.name f.place) (function_mentions fs)
mentioned [] j f e = absurd (cc)
mentioned (g ∷ fs) zero f e = let s : g ≡ f = cc in inl (ap (λ (h : Function). mention h.name h.place) (sym s))
mentioned (g ∷ fs) (suc j) f e = inr (mentioned fs j f e)

first_by : (b : Bool) (f g : Function) (fs : List Function) → same_name f.name g.name ≡ b → (b ≡ true → ⊥) → function_in f.name fs ≡ Some f → (if b then Some g else function_in f.name fs) ≡ Some f
first_by true f g fs same apart e = absurd (apart refl)
first_by false f g fs same apart e = e

-- where no name is declared twice, each function is what its name means
pub function_first : (seen : List Name) (fs : List Function) (j : ℕ) (f : Function) → repeats seen (function_mentions fs) ≡ [] → slice_get fs j ≡ Some f → function_in f.name fs ≡ Some f
function_first seen [] j f h e = absurd (cc)
function_first seen (g ∷ fs) zero f h e =
    let s : g ≡ f = cc in
    ap (λ b. if b then Some g else function_in f.name fs) (ap (same_name f.name) (ap (λ (k : Function). k.name) s) ∙ same_self f.name) ∙ ap Some s
function_first seen (g ∷ fs) (suc j) f h e =
    let r = none_here (is_among g.name seen) (broken E10 g.place g.name) (repeats seen (function_mentions fs)) (repeats (seen ++ g.name ∷ []) (function_mentions fs)) h in
    first_by (same_name f.name g.name) f g fs refl
    (λ t. seen_once (function_mentions fs) (seen ++ g.name ∷ []) g.name (mention f.name f.place) r.1 (among_last g.name g.name seen (same_self g.name)) (mentioned fs j f e) (subst (λ x. same_name g.name x ≡ true) (sym (same_is f.name g.name t)) (same_self g.name)))
    (function_first (seen ++ g.name ∷ []) fs j f r.1 e)

-- ---- data types

pub record IsDataType (x : Name) (i : ℕ) (ds : List Data) (h : TypeHead) : Type 0 where
  pub place : ℕ
  pub is : h.number ≡ i + place
  pub type : Data
  pub there : slice_get ds place ≡ Some type
  pub name : type.name ≡ x

abbrev head_of : ℕ → Data → TypeHead
head_of i d = record { number = i; arity = length d.parameters }

type_by : (b : Bool) (x : Name) (i : ℕ) (d : Data) (ds : List Data) (h : TypeHead) → same_name x d.name ≡ b → (meaning x (type_meanings (suc i) ds) ≡ Some h → IsDataType x (suc i) ds h) → (if b then Some (head_of i d) else meaning x (type_meanings (suc i) ds)) ≡ Some h → IsDataType x i (d ∷ ds) h
type_by true x i d ds h same later e =
    let here : head_of i d ≡ h = cc in
    let n : i ≡ h.number = ap (λ (k : TypeHead). k.number) here in
    record { place = 0; is = omega (arith, n); type = d; there = refl; name = sym (same_is x d.name same) }
type_by false x i d ds h same later e =
    let r = later e in
    let n = r.is in
    record { place = suc r.place; is = omega (arith, n); type = r.type; there = r.there; name = r.name }

pub type_meant : (x : Name) (i : ℕ) (ds : List Data) (h : TypeHead) → meaning x (type_meanings i ds) ≡ Some h → IsDataType x i ds h
type_meant x i [] h e = absurd (cc)
type_meant x i (d ∷ ds) h e = type_by (same_name x d.name) x i d ds h refl (type_meant x (suc i) ds h) e

-- ---- constructors

-- the same constructor, or none both times
abbrev pub SameConstructor : Option ConstructorId → Option ByName.Declared → Type 0
SameConstructor None None = Unit {0}
SameConstructor None (Some d) = ⊥
SameConstructor (Some k) None = ⊥
SameConstructor (Some k) (Some d) = d.number ≡ k.number

row_by : (b : Bool) (t c : ℕ) (k : DataConstructor) (o : Option ConstructorId) (q r : Option ByName.Declared) → SameConstructor o (or_else q r) → SameConstructor (if b then Some (record { «data» = t; number = c }) else o) (or_else (if b then Some (record { type = t; number = c; fields = k.fields }) else q) r)
row_by true t c k o q r h = refl
row_by false t c k o q r h = h

row_meant : (x : Name) (t c : ℕ) (ks : List DataConstructor) (es : List (Name × ConstructorId)) (o : Option ByName.Declared) → SameConstructor (meaning x es) o → SameConstructor (meaning x (row_meanings t c ks ++ es)) (or_else (constructor_among x t c ks) o)
row_meant x t c [] es o h = h
row_meant x t c (k ∷ ks) es o h = row_by (same_name x k.name) t c k (meaning x (row_meanings t (suc c) ks ++ es)) (constructor_among x t (suc c) ks) o (row_meant x t (suc c) ks es o h)

pub constructor_meant : (x : Name) (t : ℕ) (ds : List Data) → SameConstructor (meaning x (constructor_meanings t ds)) (constructor_in x t ds)
constructor_meant x t [] = tt
constructor_meant x t (d ∷ ds) = row_meant x t 0 d.constructors (constructor_meanings (suc t) ds) (constructor_in x (suc t) ds) (constructor_meant x (suc t) ds)

-- ---- static parameters

places_names : (k : ℕ) (xs : List Static) → names (static_meanings k xs) ≡ mention_names (static_mentions xs)
places_names k [] = refl
places_names k (TypeParameter n p ∷ xs) = ap (λ l. n ∷ l) (places_names (suc k) xs)
places_names k (FunctionParameter n p ps r ∷ xs) = ap (λ l. n ∷ l) (places_names (suc k) xs)

pub places_all : (xs : List Static) → repeats [] (static_mentions xs) ≡ [] → static_places xs ≡ static_meanings 0 xs
places_all xs h = all_new (static_meanings 0 xs) [] (static_mentions xs) (places_names 0 xs) h

if_suc : (b : Bool) (k : ℕ) (o q : Option ℕ) → o ≡ option_map suc q → (if b then Some (suc k) else o) ≡ option_map suc (if b then Some k else q)
if_suc true k o q h = refl
if_suc false k o q h = h

shifted : (n : Name) (k : ℕ) (xs : List Static) → meaning n (static_meanings (suc k) xs) ≡ option_map suc (meaning n (static_meanings k xs))
shifted n k [] = refl
shifted n k (x ∷ xs) = if_suc (same_name n (static_name x)) k (meaning n (static_meanings (suc (suc k)) xs)) (meaning n (static_meanings (suc k) xs)) (shifted n (suc k) xs)

type_next : (x : Static) (xs : List Static) (c : Closed) (cs : Closeds) (o : Option ℕ) → type_at (x ∷ xs) (MoreClosed c cs) (option_map suc o) ≡ type_at xs cs o
type_next x xs c cs None = refl
type_next x xs c cs (Some k) = refl

function_next : (x : Static) (xs : List Static) (c : Closed) (cs : Closeds) (o : Option ℕ) → function_at (x ∷ xs) (MoreClosed c cs) (option_map suc o) ≡ function_at xs cs o
function_next x xs c cs None = refl
function_next x xs c cs (Some k) = refl

if_none_type : (o : Option Static) → if_type o None ≡ None
if_none_type None = refl
if_none_type (Some (TypeParameter n p)) = refl
if_none_type (Some (FunctionParameter n p ps r)) = refl

if_none_function : (o : Option Static) → if_function o None ≡ None
if_none_function None = refl
if_none_function (Some (TypeParameter n p)) = refl
if_none_function (Some (FunctionParameter n p ps r)) = refl

no_type_given : (xs : List Static) (o : Option ℕ) → type_at xs NoClosed o ≡ None
no_type_given xs None = refl
no_type_given xs (Some k) = if_none_type (slice_get xs k)

no_function_given : (xs : List Static) (o : Option ℕ) → function_at xs NoClosed o ≡ None
no_function_given xs None = refl
no_function_given xs (Some k) = if_none_function (slice_get xs k)

-- a name that was seen is no parameter that comes later
no_type : (seen : List Name) (n : Name) (xs : List Static) (cs : ByClosed.Closeds) → repeats seen (static_mentions xs) ≡ [] → is_among n seen ≡ true → type_among n xs cs ≡ None
no_type seen n [] cs h e = refl
no_type seen n (x ∷ xs) ByClosed.NoClosed h e = refl
no_type seen n (TypeParameter m p ∷ xs) (ByClosed.MoreClosed c cs) h e =
    let r = none_here (is_among m seen) (broken E10 p m) (repeats seen (static_mentions xs)) (repeats (seen ++ m ∷ []) (static_mentions xs)) h in
    by (same_name n m) refl r.0 (no_type (seen ++ m ∷ []) n xs cs r.1 (among_more n m seen e))
  where
    by : (b : Bool) → same_name n m ≡ b → is_among m seen ≡ false → type_among n xs cs ≡ None → (if b then Some c else type_among n xs cs) ≡ None
    by true s f k = absurd (seen_apart n m seen e f s)
    by false s f k = k
no_type seen n (FunctionParameter m p ps q ∷ xs) (ByClosed.MoreClosed c cs) h e =
    let r = none_here (is_among m seen) (broken E10 p m) (repeats seen (static_mentions xs)) (repeats (seen ++ m ∷ []) (static_mentions xs)) h in
    no_type (seen ++ m ∷ []) n xs cs r.1 (among_more n m seen e)

no_function : (seen : List Name) (n : Name) (xs : List Static) (cs : ByClosed.Closeds) → repeats seen (static_mentions xs) ≡ [] → is_among n seen ≡ true → function_among n xs cs ≡ None
no_function seen n [] cs h e = refl
no_function seen n (x ∷ xs) ByClosed.NoClosed h e = refl
no_function seen n (TypeParameter m p ∷ xs) (ByClosed.MoreClosed c cs) h e =
    let r = none_here (is_among m seen) (broken E10 p m) (repeats seen (static_mentions xs)) (repeats (seen ++ m ∷ []) (static_mentions xs)) h in
    no_function (seen ++ m ∷ []) n xs cs r.1 (among_more n m seen e)
no_function seen n (FunctionParameter m p ps q ∷ xs) (ByClosed.MoreClosed c cs) h e =
    let r = none_here (is_among m seen) (broken E10 p m) (repeats seen (static_mentions xs)) (repeats (seen ++ m ∷ []) (static_mentions xs)) h in
    by (same_name n m) refl r.0 (no_function (seen ++ m ∷ []) n xs cs r.1 (among_more n m seen e))
  where
    by : (b : Bool) → same_name n m ≡ b → is_among m seen ≡ false → function_among n xs cs ≡ None → (if b then Some c else function_among n xs cs) ≡ None
    by true s f k = absurd (seen_apart n m seen e f s)
    by false s f k = k

-- What is given for a parameter is looked up by its place, or by its name.
module _ (core : Core) where
  abbrev pub named_if : Option Closed → Option ByClosed.Closed
  named_if = option_map (named core)

  pub type_named : (seen : List Name) (n : Name) (xs : List Static) (cs : Closeds) → repeats seen (static_mentions xs) ≡ [] → named_if (type_at xs cs (meaning n (static_meanings 0 xs))) ≡ type_among n xs (all_named core cs)
  type_named seen n [] cs h = refl
  type_named seen n (x ∷ xs) NoClosed h = ap named_if (no_type_given (x ∷ xs) (meaning n (static_meanings 0 (x ∷ xs))))
  type_named seen n (TypeParameter m p ∷ xs) (MoreClosed c cs) h =
      let r = none_here (is_among m seen) (broken E10 p m) (repeats seen (static_mentions xs)) (repeats (seen ++ m ∷ []) (static_mentions xs)) h in
      by (same_name n m) (type_named (seen ++ m ∷ []) n xs cs r.1)
    where
      by : (b : Bool) → named_if (type_at xs cs (meaning n (static_meanings 0 xs))) ≡ type_among n xs (all_named core cs) → named_if (type_at (TypeParameter m p ∷ xs) (MoreClosed c cs) (if b then Some 0 else meaning n (static_meanings 1 xs))) ≡ (if b then Some (named core c) else type_among n xs (all_named core cs))
      by true k = refl
      by false k = ap (λ o. named_if (type_at (TypeParameter m p ∷ xs) (MoreClosed c cs) o)) (shifted n 0 xs) ∙ ap named_if (type_next (TypeParameter m p) xs c cs (meaning n (static_meanings 0 xs))) ∙ k
  type_named seen n (FunctionParameter m p ps q ∷ xs) (MoreClosed c cs) h =
      let r = none_here (is_among m seen) (broken E10 p m) (repeats seen (static_mentions xs)) (repeats (seen ++ m ∷ []) (static_mentions xs)) h in
      by (same_name n m) refl r.1 (type_named (seen ++ m ∷ []) n xs cs r.1)
    where
      by : (b : Bool) → same_name n m ≡ b → repeats (seen ++ m ∷ []) (static_mentions xs) ≡ [] → named_if (type_at xs cs (meaning n (static_meanings 0 xs))) ≡ type_among n xs (all_named core cs) → named_if (type_at (FunctionParameter m p ps q ∷ xs) (MoreClosed c cs) (if b then Some 0 else meaning n (static_meanings 1 xs))) ≡ type_among n xs (all_named core cs)
      by true s g k = sym (no_type (seen ++ m ∷ []) n xs (all_named core cs) g (among_last n m seen s))
      by false s g k = ap (λ o. named_if (type_at (FunctionParameter m p ps q ∷ xs) (MoreClosed c cs) o)) (shifted n 0 xs) ∙ ap named_if (type_next (FunctionParameter m p ps q) xs c cs (meaning n (static_meanings 0 xs))) ∙ k

  pub function_named : (seen : List Name) (n : Name) (xs : List Static) (cs : Closeds) → repeats seen (static_mentions xs) ≡ [] → named_if (function_at xs cs (meaning n (static_meanings 0 xs))) ≡ function_among n xs (all_named core cs)
  function_named seen n [] cs h = refl
  function_named seen n (x ∷ xs) NoClosed h = ap named_if (no_function_given (x ∷ xs) (meaning n (static_meanings 0 (x ∷ xs))))
  function_named seen n (FunctionParameter m p ps q ∷ xs) (MoreClosed c cs) h =
      let r = none_here (is_among m seen) (broken E10 p m) (repeats seen (static_mentions xs)) (repeats (seen ++ m ∷ []) (static_mentions xs)) h in
      by (same_name n m) (function_named (seen ++ m ∷ []) n xs cs r.1)
    where
      by : (b : Bool) → named_if (function_at xs cs (meaning n (static_meanings 0 xs))) ≡ function_among n xs (all_named core cs) → named_if (function_at (FunctionParameter m p ps q ∷ xs) (MoreClosed c cs) (if b then Some 0 else meaning n (static_meanings 1 xs))) ≡ (if b then Some (named core c) else function_among n xs (all_named core cs))
      by true k = refl
      by false k = ap (λ o. named_if (function_at (FunctionParameter m p ps q ∷ xs) (MoreClosed c cs) o)) (shifted n 0 xs) ∙ ap named_if (function_next (FunctionParameter m p ps q) xs c cs (meaning n (static_meanings 0 xs))) ∙ k
  function_named seen n (TypeParameter m p ∷ xs) (MoreClosed c cs) h =
      let r = none_here (is_among m seen) (broken E10 p m) (repeats seen (static_mentions xs)) (repeats (seen ++ m ∷ []) (static_mentions xs)) h in
      by (same_name n m) refl r.1 (function_named (seen ++ m ∷ []) n xs cs r.1)
    where
      by : (b : Bool) → same_name n m ≡ b → repeats (seen ++ m ∷ []) (static_mentions xs) ≡ [] → named_if (function_at xs cs (meaning n (static_meanings 0 xs))) ≡ function_among n xs (all_named core cs) → named_if (function_at (TypeParameter m p ∷ xs) (MoreClosed c cs) (if b then Some 0 else meaning n (static_meanings 1 xs))) ≡ function_among n xs (all_named core cs)
      by true s g k = sym (no_function (seen ++ m ∷ []) n xs (all_named core cs) g (among_last n m seen s))
      by false s g k = ap (λ o. named_if (function_at (TypeParameter m p ∷ xs) (MoreClosed c cs) o)) (shifted n 0 xs) ∙ ap named_if (function_next (TypeParameter m p) xs c cs (meaning n (static_meanings 0 xs))) ∙ k
