-- The rows of the table of a program whose declarations break no rule: constructors with names of their own, and with few
-- fields. And its functions have names of their own.
-- Idea: a row is that of a data type that is declared; no name is declared twice, by E10, and E14 requires few fields.
use Rattle.std.proofs.Common.{◌≡◌, ◌∙◌, ◌<◌, ◌≤◌, inl, ℕ, zero, suc, Bool, true, false, nat_lt, ◌||◌, List, [], ◌∷◌, ◌++◌, length, Some, slice_get, refl, sym, ap, subst, arith, if◌then◌else◌}
use Rattle.std.specs.Prelude.{codes}
use Rattle.std.proofs.lemmas.Bool.Decides.{nat_tests}
use Rattle.std.proofs.lemmas.List.Folds.{list_any-append}
use Rattle.std.proofs.lemmas.Option.{same_Some}
use Rattle.std.proofs.lemmas.Slice.Eq.{bytes_eq-Decides}
use Rattle.fip_language.specs.declared.rule.Rule.TheVariants.{E10, E14}
use Rattle.fip_language.specs.Core.{Name, Written, DataConstructor, Data, Core}
use Rattle.fip_language.specs.Declarations.{same_name, bool_type, data_types}
use Rattle.fip_language.specs.Mentions.{Mention, mention}
use Rattle.fip_language.specs.Table.{Shape, Table, shapes}
use Rattle.fip_language.proofs.Words.{map_at}
use Rattle.fip_base.specs.CoreView.{writtens_of}
use Rattle.fip_trees.specs.declared.least.Violation.{Violation}
use Rattle.fip_trees.specs.Least.{In}
use Rattle.fip_trees.specs.Names.{Names, is_among}
use Rattle.data_types.specs.Answers.{Violates}
use Rattle.data_types.specs.Declarations.{Scope, data_scope, declared_names, all_looked_up}
use Rattle.data_types.specs.Faults.{broken, when, repeats, row_mentions, constructor_mentions, type_name_mentions, type_mentions, function_mentions, size_faults, field_faults, data_faults, all_data_faults, all_function_faults, name_faults, written_violations}
use Rattle.data_types.proofs.Exact.{none_left, none_right}
use Rattle.data_types.proofs.Repeats.{repeats_append, seen_after}
use Rattle.static_params.specs.Answers.{AreFew}
use Rattle.reached_instances.specs.closed_types.Closed.{Closeds}
use Rattle.static_params.specs.FlatProgram.{Numbers, flat_program, numbers_of, flat_constructor}
use Rattle.reached_instances.specs.closed_types.Source as S
use Rattle.reached_instances.specs.closed_types.TypeInstances.{field_types}
use Rattle.static_params.specs.FlatSource.{flat_source, constructor, declared, fields}
use Rattle.static_params.proofs.TableRows.{shapes_below, row_there, IsRow}
use Rattle.fip_language.proofs.Facts.{or_first as or_left, or_last as or_right}
use Rattle.data_types.proofs.Repeats.{none_here}

-- ---- no name twice

same_is : (x y : Name) → same_name x y ≡ true → x ≡ y
same_is x y e = (bytes_eq-Decides x y).0 e

same_self : (x : Name) → same_name x x ≡ true
same_self x = (bytes_eq-Decides x x).1 refl

among_more : (n m : Name) (seen : List Name) → is_among n seen ≡ true → is_among n (seen ++ m ∷ []) ≡ true
among_more n m seen e = list_any-append (same_name n) seen (m ∷ []) ∙ or_left (is_among n seen) (is_among n (m ∷ [])) e

among_last : (n : Name) (seen : List Name) → is_among n (seen ++ n ∷ []) ≡ true
among_last n seen = list_any-append (same_name n) seen (n ∷ []) ∙ or_right (is_among n seen) (is_among n (n ∷ [])) (or_left (same_name n n) false (same_self n))

-- a name that was seen doesn't come again
not_again : (ms : List Mention) (seen : List Name) (n : Name) (i : ℕ) (m : Mention) → repeats seen ms ≡ [] → is_among n seen ≡ true → slice_get ms i ≡ Some m → m.name ≡ n → ⊥
not_again [] seen n i m h e at same = absurd (cc)
not_again (x ∷ ms) seen n zero m h e at same =
    let r = none_here (is_among x.name seen) (broken E10 x.place x.name) (repeats seen ms) (repeats (seen ++ x.name ∷ []) ms) h in
    let here : x ≡ m = same_Some x m at in
    let t : is_among x.name seen ≡ true = subst (λ y. is_among y seen ≡ true) (sym (ap (λ (y : Mention). y.name) here ∙ same)) e in
    absurd (let f = r.0 in cc)
not_again (x ∷ ms) seen n (suc i) m h e at same =
    let r = none_here (is_among x.name seen) (broken E10 x.place x.name) (repeats seen ms) (repeats (seen ++ x.name ∷ []) ms) h in
    not_again ms (seen ++ x.name ∷ []) n i m r.1 (among_more n x.name seen e) at same

pub one_place : (ms : List Mention) (seen : List Name) (i j : ℕ) (m n : Mention) → repeats seen ms ≡ [] → slice_get ms i ≡ Some m → slice_get ms j ≡ Some n → m.name ≡ n.name → i ≡ j
one_place [] seen i j m n h a b same = absurd (cc)
one_place (x ∷ ms) seen zero zero m n h a b same = refl
one_place (x ∷ ms) seen zero (suc j) m n h a b same =
    let r = none_here (is_among x.name seen) (broken E10 x.place x.name) (repeats seen ms) (repeats (seen ++ x.name ∷ []) ms) h in
    let here : x ≡ m = same_Some x m a in
    absurd (not_again ms (seen ++ x.name ∷ []) x.name j n r.1 (among_last x.name seen) b (sym (ap (λ (y : Mention). y.name) here ∙ same)))
one_place (x ∷ ms) seen (suc i) zero m n h a b same =
    let r = none_here (is_among x.name seen) (broken E10 x.place x.name) (repeats seen ms) (repeats (seen ++ x.name ∷ []) ms) h in
    let here : x ≡ n = same_Some x n b in
    absurd (not_again ms (seen ++ x.name ∷ []) x.name i m r.1 (among_last x.name seen) a (same ∙ sym (ap (λ (y : Mention). y.name) here)))
one_place (x ∷ ms) seen (suc i) (suc j) m n h a b same =
    let r = none_here (is_among x.name seen) (broken E10 x.place x.name) (repeats seen ms) (repeats (seen ++ x.name ∷ []) ms) h in
    ap suc (one_place ms (seen ++ x.name ∷ []) i j m n r.1 a b same)

-- a row's constructors, as they are mentioned
mention_at : (ks : List DataConstructor) (c : ℕ) (k : DataConstructor) → slice_get ks c ≡ Some k → slice_get (row_mentions ks) c ≡ Some (mention k.name k.place)
mention_at [] c k e = absurd (cc)
mention_at (x ∷ ks) zero k e = ap (λ (y : DataConstructor). Some (mention y.name y.place)) (same_Some x k e)
mention_at (x ∷ ks) (suc c) k e = mention_at ks c k e

-- no row says a name twice
row_once : (ds : List Data) (seen : List Name) (t : ℕ) (d : Data) → repeats seen (constructor_mentions ds) ≡ [] → slice_get ds t ≡ Some d → (names : List Name) × (repeats names (row_mentions d.constructors) ≡ [])
row_once [] seen t d h e = absurd (cc)
row_once (x ∷ ds) seen zero d h e =
    let both = sym (repeats_append (row_mentions x.constructors) (constructor_mentions ds) seen) ∙ h in
    (seen, subst (λ (y : Data). repeats seen (row_mentions y.constructors) ≡ []) (same_Some x d e) (none_left (repeats seen (row_mentions x.constructors)) _ both))
row_once (x ∷ ds) seen (suc t) d h e =
    let both = sym (repeats_append (row_mentions x.constructors) (constructor_mentions ds) seen) ∙ h in
    row_once ds (seen_after seen (row_mentions x.constructors)) t d (none_right (repeats seen (row_mentions x.constructors)) _ both) e

-- ---- few fields

few_at : (ks : List DataConstructor) (c : ℕ) (k : DataConstructor) → size_faults ks ≡ [] → slice_get ks c ≡ Some k → length k.fields ≤ 16
few_at [] c k h e = absurd (cc)
few_at (x ∷ ks) zero k h e =
    let one : when (nat_lt 16 (length x.fields)) (broken E14 x.place x.name) ≡ [] = none_left (when (nat_lt 16 (length x.fields)) (broken E14 x.place x.name)) (size_faults ks) h in
    let here : length x.fields ≡ length k.fields = ap (λ (y : DataConstructor). length y.fields) (same_Some x k e) in
    let le = by (nat_lt 16 (length x.fields)) refl one in
    omega (arith, le, here)
  where
    by : (b : Bool) → nat_lt 16 (length x.fields) ≡ b → when b (broken E14 x.place x.name) ≡ [] → length x.fields ≤ 16
    by true f g = absurd (cc)
    by false f g = grind (arith, nat_tests)
few_at (x ∷ ks) (suc c) k h e = few_at ks c k (none_right (when (nat_lt 16 (length x.fields)) (broken E14 x.place x.name)) (size_faults ks) h) e

sizes_at : (ns : Names) (ds : List Data) (t : ℕ) (d : Data) → all_data_faults ns ds ≡ [] → slice_get ds t ≡ Some d → size_faults d.constructors ≡ []
sizes_at ns [] t d h e = absurd (cc)
sizes_at ns (x ∷ ds) zero d h e =
    let one : data_faults ns x ≡ [] = none_left (data_faults ns x) (all_data_faults ns ds) h in
    let last : size_faults x.constructors ≡ [] = none_right (field_faults (data_scope ns x) x.constructors) (size_faults x.constructors) (none_right (repeats [] (type_name_mentions x.parameters)) _ one) in
    subst (λ (y : Data). size_faults y.constructors ≡ []) (same_Some x d e) last
sizes_at ns (x ∷ ds) (suc t) d h e = sizes_at ns ds t d (none_right (data_faults ns x) (all_data_faults ns ds) h) e

-- as many types as are written
as_many : (numbers : Numbers) (given : Closeds) (s : Scope) (ws : List Written) → length (numbers_of numbers (field_types given (fields (all_looked_up s (writtens_of ws))))) ≡ length ws
as_many numbers given s [] = refl
as_many numbers given s (w ∷ ws) = ap suc (as_many numbers given s ws)

-- ---- the table

pub nothing_in : (vs : List Violation) → ((v : Violation) → In v vs → ⊥) → vs ≡ []
nothing_in [] h = refl
nothing_in (v ∷ vs) h = absurd (h v (inl refl))

bool_once : repeats [] (row_mentions bool_type.constructors) ≡ []
bool_once = refl

bool_few : size_faults bool_type.constructors ≡ []
bool_few = refl

module _ (core : Core) (unbroken : (v : Violation) → Violates core v → ⊥) (ns : Numbers) (few : AreFew (flat_source core) ns) where
  abbrev pub tb : Table
  tb = (flat_program (flat_source core) ns).types

  abbrev pub names : Names
  names = declared_names core

  pub written : written_violations core ≡ []
  written = nothing_in (written_violations core) (λ v h. unbroken v (inl h))

  constructors_once : repeats (codes "False" ∷ codes "True" ∷ []) (constructor_mentions core.types) ≡ []
  constructors_once =
      let ts = repeats (codes "bool" ∷ []) (type_mentions core.types) in
      let ks = repeats (codes "False" ∷ codes "True" ∷ []) (constructor_mentions core.types) in
      let fs = repeats [] (function_mentions core.functions) in
      none_left ks fs (none_right ts (ks ++ fs) (none_left (name_faults core) _ written))

  pub functions_once : repeats [] (function_mentions core.functions) ≡ []
  functions_once =
      let ts = repeats (codes "bool" ∷ []) (type_mentions core.types) in
      let ks = repeats (codes "False" ∷ codes "True" ∷ []) (constructor_mentions core.types) in
      let fs = repeats [] (function_mentions core.functions) in
      none_right ks fs (none_right ts (ks ++ fs) (none_left (name_faults core) _ written))

  data_part : all_data_faults names core.types ≡ []
  data_part = none_left (all_data_faults names core.types) (all_function_faults names core.functions) (none_right (name_faults core) _ written)

  data_once : (t : ℕ) (d : Data) → slice_get (data_types core) t ≡ Some d → (seen : List Name) × (repeats seen (row_mentions d.constructors) ≡ [])
  data_once zero d e = ([], subst (λ (y : Data). repeats [] (row_mentions y.constructors) ≡ []) (same_Some bool_type d e) bool_once)
  data_once (suc t) d e = row_once core.types (codes "False" ∷ codes "True" ∷ []) t d constructors_once e

  data_few : (t : ℕ) (d : Data) → slice_get (data_types core) t ≡ Some d → size_faults d.constructors ≡ []
  data_few zero d e = subst (λ (y : Data). size_faults y.constructors ≡ []) (same_Some bool_type d e) bool_few
  data_few (suc t) d e = sizes_at names core.types t d data_part e

  -- a shape of the table is that of a constructor which is declared
  pub record IsDeclaredShape (t c : ℕ) (s : Shape) : Type 0 where
    pub place : ℕ
    pub data_type : Data
    pub there : slice_get (data_types core) place ≡ Some data_type
    pub arguments : Closeds
    pub declares : DataConstructor
    pub at : slice_get data_type.constructors c ≡ Some declares
    pub same : flat_constructor ns arguments (constructor (data_scope names data_type) declares) ≡ s

  abbrev Row : ℕ → Type 0
  Row t = IsRow core ns few.passed few.instances.instances few.given few.types t

  row_at : (t : ℕ) → t < length tb → Row t
  row_at t h = row_there core ns few.passed few.instances.instances few.given few.types t h

  declared_by : (t c : ℕ) (s : Shape) → (r : Row t) → slice_get (shapes tb t) c ≡ Some s → IsDeclaredShape t c s
  declared_by t c s r e =
      let a = map_at (flat_constructor ns r.arguments) (declared names r.«data»).constructors c s (subst (λ ss. slice_get ss c ≡ Some s) r.row e) in
      let b = map_at (constructor (data_scope names r.«data»)) r.«data».constructors c a.0 a.1 in
      record { place = r.number; data_type = r.«data»; there = r.there; arguments = r.arguments; declares = b.0; at = b.1; same = ap (flat_constructor ns r.arguments) b.2 ∙ a.2 }

  pub declared_shape : (t c : ℕ) (s : Shape) → slice_get (shapes tb t) c ≡ Some s → IsDeclaredShape t c s
  declared_shape t c s e = declared_by t c s (row_at t (shapes_below tb t c s e)) e

  pub unlike : (t c d : ℕ) (s r : Shape) → slice_get (shapes tb t) c ≡ Some s → slice_get (shapes tb t) d ≡ Some r → s.name ≡ r.name → c ≡ d
  unlike t c d s r e f same =
      let row = row_at t (shapes_below tb t c s e) in
      let x = map_at (flat_constructor ns row.arguments) (declared names row.«data»).constructors c s (subst (λ ss. slice_get ss c ≡ Some s) row.row e) in
      let y = map_at (flat_constructor ns row.arguments) (declared names row.«data»).constructors d r (subst (λ ss. slice_get ss d ≡ Some r) row.row f) in
      let v = map_at (constructor (data_scope names row.«data»)) row.«data».constructors c x.0 x.1 in
      let w = map_at (constructor (data_scope names row.«data»)) row.«data».constructors d y.0 y.1 in
      let left : v.0.name ≡ s.name = ap (λ (k : S.Constructor). k.name) v.2 ∙ ap (λ (z : Shape). z.name) x.2 in
      let right : w.0.name ≡ r.name = ap (λ (k : S.Constructor). k.name) w.2 ∙ ap (λ (z : Shape). z.name) y.2 in
      let once = data_once row.number row.«data» row.there in
      one_place (row_mentions row.«data».constructors) once.0 c d (mention v.0.name v.0.place) (mention w.0.name w.0.place) once.1
      (mention_at row.«data».constructors c v.0 v.1) (mention_at row.«data».constructors d w.0 w.1) (left ∙ same ∙ sym right)

  pub narrow : (t c : ℕ) (s : Shape) → slice_get (shapes tb t) c ≡ Some s → length s.fields ≤ 16
  narrow t c s e =
      let x = declared_shape t c s e in
      let small = few_at x.data_type.constructors c x.declares (data_few x.place x.data_type x.there) x.at in
      let many = as_many ns x.arguments (data_scope names x.data_type) x.declares.fields in
      let same = ap (λ (z : Shape). length z.fields) x.same in
      omega (arith, small, many, same)
