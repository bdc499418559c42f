-- What a code that is headed as a program reports shares with it: the types and which of them are scalar, the headers of
-- the functions, and that all types that are named are in the table.
use Rattle.std.proofs.Common.{◌≡◌, ◌<◌, ◌≤◌, ◌+◌, ◌^◌, ◌&&◌, ◌==◌, inl, inr, ℕ, zero, suc, Bool, true, false, nat_lt, List, [], ◌∷◌, length, map, Option, Some, None, slice_get, if◌then◌else◌, refl, sym, ap, ◌∙◌, subst, arith}
use Rattle.std.proofs.lemmas.Option.{none-some, same_Some}
use Rattle.lowering_soundness.specs.fip_language.declared.FunKind.{FunKind}
use Rattle.lowering_soundness.specs.fip_language.Every.{Among}
use Rattle.lowering_soundness.specs.fip_language.SoundTable.{AreTypes as AreKnown}
use Rattle.lowering_soundness.specs.fip_language.Table.{Shape, Table, shapes, constructors, is_scalar, all_bare}
use Rattle.lowering_soundness.specs.fip_base.declared.plain.Param.{Param}
use Rattle.lowering_soundness.specs.fip_base.TableView.{fields_at}
use Rattle.lowering_soundness.specs.fip_trees.Tree.{Instance, Program}
use Rattle.lowering_soundness.specs.fip_rules.World as R
use Rattle.derivation_correctness.proofs.static_params.GoodTypes.{below}
use Rattle.derivation_correctness.proofs.static_params.TypeRows.{there_among}
use Rattle.lowering_soundness.specs.type_check.Found.{or_found}
use Rattle.lowering_soundness.specs.type_check.Typing.{Makes}
use Rattle.lowering_soundness.specs.type_check.World as W
use Rattle.lowering_soundness.specs.cell_code.Plain.{PlainCode, results_of}
use Rattle.lowering_soundness.specs.code_rules.Codes.{params_of, credits_of}
use Rattle.lowering_soundness.specs.code_rules.Headers.{are_types}
use Rattle.lowering_soundness.specs.code_rules.Tables.{bool_shapes}
use Rattle.lowering_soundness.specs.code_rules.Types.{is_type, is_scalar_type}
use Rattle.lowering_soundness.proofs.separation_kinds.Basics.{below_is}
use Rattle.lowering_soundness.specs.lowering_relation.LoweredFunctions.{IsSettingOf}
use Rattle.lowering_soundness.specs.lowering_relation.Known.{joined}
use Rattle.lowering_soundness.specs.lowering_relation.Values.{Setting}
use Rattle.lowering_soundness.specs.Laid.{IsFunctionOf, Shares}
use Rattle.lowering_soundness.specs.Placed.{AreTypes, ParamsTyped, Callees}
use Rattle.lowering_soundness.proofs.Giving.{and_to}
use Rattle.derivation_correctness.specs.cell_lower.Shape.{Header}
use Rattle.derivation_correctness.specs.source_report.WellFormed.{IsKnownInstance, IsWellFormed, type_of}
use Rattle.compiler_correctness.specs.Headed.{IsHeaded}
use Rattle.compiler_correctness.proofs.SoundnessFunctions.{function_there}

-- ---- types of the table

pub in_table : (tb : Table) (t : ℕ) → t ≤ length tb → is_type tb t ≡ true
in_table tb t h = below_is t (suc (length tb)) (omega (arith, h))

all_in_table : (tb : Table) (ts : List ℕ) → AreKnown tb ts → are_types tb ts ≡ true
all_in_table tb [] h = refl
all_in_table tb (t ∷ ts) h = and_to (is_type tb t) (are_types tb ts) (in_table tb t h.0) (all_in_table tb ts h.1)

code_types : (c : PlainCode) (ts : List ℕ) → AreKnown c.types ts → AreTypes c ts
code_types c [] h = tt
code_types c (t ∷ ts) h = (in_table c.types t h.0, code_types c ts h.1)

params_typed : (c : PlainCode) (ps : List Param) → AreKnown c.types (map type_of ps) → ParamsTyped c ps
params_typed c [] h = tt
params_typed c (p ∷ ps) h = (in_table c.types p.ty h.0, params_typed c ps h.1)

pub scalar_in_table : (tb : Table) (t : ℕ) → is_type tb t ≡ true → is_scalar tb t ≡ is_scalar_type tb t
scalar_in_table tb t h = sym (ap (λ b. b && is_scalar tb t) h)

-- ---- the types that constructors make

numbered_below : (es : List ℕ) (t d : ℕ) → W.is_number (W.numbered es t) d ≡ true → t ≤ length es
numbered_below es zero d h = omega arith
numbered_below es (suc n) d h = by (slice_get es n) refl h
  where
    by : (o : Option ℕ) → slice_get es n ≡ o → W.is_number o d ≡ true → suc n ≤ length es
    by None e g = absurd (cc)
    by (Some x) e g = (let z = below es n x e in omega (arith, z))

narrow_is : (n t : ℕ) → W.narrow n ≡ Some t → n ≡ t
narrow_is n t h = by (nat_lt n (2 ^ 32)) h
  where
    by : (b : Bool) → (if b then Some n else None) ≡ Some t → n ≡ t
    by true e = same_Some n t e
    by false e = absurd (none-some t e)

declared_step : (n m t : ℕ) (b : Bool) (o : Option ℕ) → 0 < n → (o ≡ Some t → t < n + suc m) → or_found (if b then W.narrow n else None) o ≡ Some t → t < n + suc m
declared_step n m t false o low later g = later g
declared_step n m t true o low later g = by (W.narrow n) refl g
  where
    by : (q : Option ℕ) → W.narrow n ≡ q → or_found q o ≡ Some t → t < n + suc m
    by None e f = later f
    by (Some i) e f = (let z = narrow_is n i e in let y = same_Some i t f in omega (arith, z, y))

declared_below : (es : List ℕ) (n d t : ℕ) → 0 < n → W.first_declared es n d ≡ Some t → t < n + length es
declared_below [] n d t low h = absurd (none-some t h)
declared_below (e ∷ es) n d t low h =
    declared_step n (length es) t (e == d) (W.first_declared es (suc n) d) low (λ g. (let z = declared_below es (suc n) d t (omega arith) g in omega (arith, z))) h

plain_below : (arities es : List ℕ) (d t : ℕ) → W.plain_in arities es 1 d ≡ Some t → t ≤ length es
plain_below arities es d t h = by (W.is_number (W.numbered arities d) 0) h
  where
    by : (b : Bool) → (if b then W.first_declared es 1 d else None) ≡ Some t → t ≤ length es
    by true e = (let z = declared_below es 1 d t (omega arith) e in omega (arith, z))
    by false e = absurd (none-some t e)

makes_below : (p : Program) (b : Bool) (d t : ℕ) → Makes (W.world p) b d t → t ≤ length p.declaring
makes_below p true d t h = numbered_below p.declaring t d h
makes_below p false d t h = plain_below p.arities p.declaring d t h

-- ---- the fields of constructors, and the results of instances

fields_known : (tb : Table) (ss : List Shape) (c : ℕ) → ((d : ℕ) (s : Shape) → slice_get ss d ≡ Some s → AreKnown tb s.fields) → AreKnown tb (fields_at ss c)
fields_known tb [] c h = tt
fields_known tb (s ∷ ss) zero h = h 0 s refl
fields_known tb (s ∷ ss) (suc c) h = fields_known tb ss c (λ d r e. h (suc d) r e)

results_known : (tb : Table) (ds : List Instance) (g : ℕ) → ((d : Instance) → Among d ds → AreKnown tb d.results) → AreKnown tb (W.head_or_none (slice_get (map W.head_of ds) g)).results
results_known tb [] g h = tt
results_known tb (d ∷ ds) zero h = h d (inl refl)
results_known tb (d ∷ ds) (suc g) h = results_known tb ds g (λ e a. h e (inr a))

head_at : (ds : List Instance) (g : ℕ) (d : Instance) → slice_get ds g ≡ Some d → W.head_or_none (slice_get (map W.head_of ds) g) ≡ W.head_of d
head_at [] g d e = absurd (none-some d e)
head_at (x ∷ ds) zero d e = ap W.head_of (same_Some x d e)
head_at (x ∷ ds) (suc g) d e = head_at ds g d e

-- ---- the program and its code

module _ (p : Program) (c : PlainCode) (headed : IsHeaded p c) (formed : IsWellFormed p) where
  to_code : (ts : List ℕ) → AreKnown p.types ts → AreKnown c.types ts
  to_code ts h = subst (λ tb. AreKnown tb ts) (sym headed.types) h

  known_at : (g : ℕ) (d : Instance) → slice_get p.instances g ≡ Some d → IsKnownInstance p d
  known_at g d e = formed.instances d (there_among p.instances g d e)

  pub parameters_typed : (g : ℕ) (d : Instance) → slice_get p.instances g ≡ Some d → ParamsTyped c d.params
  parameters_typed g d e = params_typed c d.params (to_code (map type_of d.params) (known_at g d e).parameters)

module _ (p : Program) (c : PlainCode) (st : Setting) (headed : IsHeaded p c) (setting : IsSettingOf p st) (formed : IsWellFormed p) where
  from_setting : (g : ℕ) (d : Instance) → slice_get st.instances g ≡ Some d → slice_get p.instances g ≡ Some d
  from_setting g d e = sym (ap (λ ds. slice_get ds g) setting.instances) ∙ e

  function_of_instance : (g n : ℕ) (d : Instance) → joined (slice_get st.functions g) ≡ Some n → slice_get st.instances g ≡ Some d → IsFunctionOf c n d
  function_of_instance g n d e there =
      let at = from_setting g d there in
      let f = function_there p c headed g n d (sym (setting.functions g) ∙ e) at in
      record {
        there = below c.functions n f.0 f.1;
        params = ap params_of f.1 ∙ ap (λ (h : Header). h.signature.params) f.2;
        credits = ap credits_of f.1 ∙ ap (λ (h : Header). h.signature.credits) f.2;
        results = ap results_of f.1 ∙ ap (λ (h : Header). h.signature.results) f.2;
        typed = all_in_table c.types d.results (to_code p c headed formed d.results (known_at p c headed formed g d at).results);
      }

  pub shared : constructors p.types 1 ≡ bool_shapes → Shares c st (W.world p)
  shared bool = record {
    types = sym headed.types;
    scalars = λ t is. setting.scalar t ∙ ap (λ tb. is_scalar tb t) (sym headed.types) ∙ scalar_in_table c.types t is;
    bool = bool_scalar bool;
    functions = λ g f d e there. function_of_instance g f d e there;
    made = λ b d t h. (
        let z = makes_below p b d t h in
        let y = formed.declared in
        let x = ap length headed.types in
        in_table c.types t (omega (arith, z, y, x)));
  }
    where
      bool_scalar : constructors p.types 1 ≡ bool_shapes → is_scalar_type c.types 1 ≡ true
      bool_scalar e =
          let one = in_table p.types 1 (let z = formed.bool in omega (arith, z)) in
          ap (λ tb. is_scalar_type tb 1) headed.types ∙ sym (scalar_in_table p.types 1 one) ∙ ap all_bare e

  pub called : (k : FunKind) → Callees c st (W.world p) (R.world p k)
  called k = record {
    same = sym setting.instances;
    heads = λ g d e. head_at p.instances g d (from_setting g d e);
    typed = λ g d e. params_typed c d.params (to_code p c headed formed (map type_of d.params) (known_at p c headed formed g d (from_setting g d e)).parameters);
    results = λ g. code_types c _ (to_code p c headed formed _ (results_known p.types p.instances g (λ d a. (formed.instances d a).results)));
    fields = λ t d. code_types c _ (to_code p c headed formed _ (type_fields t d));
    scalars = λ t is. ap (λ tb. is_scalar tb t) (sym headed.types) ∙ scalar_in_table c.types t is;
  }
    where
      type_fields : (t d : ℕ) → AreKnown p.types (W.fields_of (W.world p) t d)
      type_fields zero d = tt
      type_fields (suc t) d = fields_known p.types (shapes p.types t) d (λ k s e. formed.fields t k s e)
