-- The functions of a code that is headed as a program reports: each is that of an instance, with the instance's header;
-- there are few, and no two have one name, since no two roots have.
use Rattle.std.proofs.Common.{◌≡◌, ◌<◌, ◌≤◌, ◌+◌, ℕ, zero, suc, Bool, true, false, List, [], ◌∷◌, length, map, Option, Some, None, slice_get, option_map, if◌then◌else◌, refl, sym, ap, ◌∙◌, subst, arith}
use Rattle.std.proofs.lemmas.Option.{none-some, same_Some, slice_get-map}
use Rattle.lowering_soundness.specs.fip_language.declared.FunKind.{FunKind}
use Rattle.lowering_soundness.specs.fip_language.declared.FunKind.TheVariants.{Fip, Fbip, Fun}
use Rattle.lowering_soundness.specs.fip_language.declared.limits.TheConstants.{MOST_INSTANCES}
use Rattle.lowering_soundness.proofs.fip_language.Words.{map_at}
use Rattle.lowering_soundness.specs.fip_trees.declared.groups.Member.{Member}
use Rattle.lowering_soundness.specs.fip_trees.Tree.{Instance, Program}
use Rattle.lowering_soundness.specs.fip_trees.SoundProgram.{IsSoundProgram}
use Rattle.lowering_soundness.specs.cell_code.declared.code.Code.{Code}
use Rattle.lowering_soundness.specs.cell_code.declared.code.Function.{Function}
use Rattle.lowering_soundness.specs.tail_groups.Members.{AreMembers}
use Rattle.derivation_correctness.proofs.static_params.TableRows.{map_length}
use Rattle.lowering_soundness.specs.cell_code.Plain.{PlainFunction, PlainCode, plain_function, plain, function_at}
use Rattle.lowering_soundness.specs.code_rules.Tables.{AreSoundTables}
use Rattle.lowering_soundness.specs.lowering_relation.LoweredBodies.{has_function, one_more, if_function, function_of}
use Rattle.derivation_correctness.specs.cell_lower.Limits.{is_ruled, registers}
use Rattle.derivation_correctness.specs.cell_lower.Shape.{Header, header, header_of, entry_name, and_if, headers_from, headers, plain_header}
use Rattle.derivation_correctness.proofs.cell_lower.Headers.{IsOfInstance, instance_there}
use Rattle.derivation_correctness.specs.source_report.Report.{IsTyped}
use Rattle.compiler_correctness.proofs.SoundTypes.{typed_sound, tables_are_sound}
use Rattle.compiler_correctness.specs.Headed.{IsHeaded}

-- ---- the header of an instance's function

first_header : (k : FunKind) (n : ℕ) (h : Header) (hs : List Header) → if_function (has_function k) ≡ Some n → slice_get (and_if (is_ruled k) h hs) n ≡ Some h
first_header Fip n h hs e = (let z : n ≡ 0 = sym (same_Some 0 n e) in ap (slice_get (h ∷ hs)) z)
first_header Fbip n h hs e = (let z : n ≡ 0 = sym (same_Some 0 n e) in ap (slice_get (h ∷ hs)) z)
first_header Fun n h hs e = absurd (none-some n e)

later_header : (k : FunKind) (o : Option ℕ) (n : ℕ) (g h : Header) (hs : List Header) → ((m : ℕ) → o ≡ Some m → slice_get hs m ≡ Some h) → one_more (has_function k) o ≡ Some n → slice_get (and_if (is_ruled k) g hs) n ≡ Some h
later_header k None n g h hs rest e = absurd (none-some n e)
later_header Fip (Some m) n g h hs rest e = (let z : n ≡ suc m = sym (same_Some (suc m) n e) in ap (slice_get (g ∷ hs)) z ∙ rest m refl)
later_header Fbip (Some m) n g h hs rest e = (let z : n ≡ suc m = sym (same_Some (suc m) n e) in ap (slice_get (g ∷ hs)) z ∙ rest m refl)
later_header Fun (Some m) n g h hs rest e = (let z : n ≡ m = sym (same_Some m n e) in ap (slice_get hs) z ∙ rest m refl)

header_there : (ms : List Member) (i : ℕ) (ds : List Instance) (g n : ℕ) (d : Instance) → function_of ds g ≡ Some n → slice_get ds g ≡ Some d → slice_get (headers_from ms i ds) n ≡ Some (header_of (registers ms (i + g)) d)
header_there ms i [] g n d e there = absurd (none-some d there)
header_there ms i (x ∷ xs) zero n d e there =
    let z : i ≡ i + zero = omega arith in
    first_header x.kind n (header_of (registers ms i) x) (headers_from ms (suc i) xs) e
    ∙ ap (λ (y : Instance). Some (header_of (registers ms i) y)) (same_Some x d there)
    ∙ ap (λ k. Some (header_of (registers ms k) d)) z
header_there ms i (x ∷ xs) (suc g) n d e there =
    let z : suc i + g ≡ i + suc g = omega arith in
    later_header x.kind (function_of xs g) n (header_of (registers ms i) x) (header_of (registers ms (i + suc g)) d) (headers_from ms (suc i) xs)
    (λ m q. header_there ms (suc i) xs g m d q there ∙ ap (λ k. Some (header_of (registers ms k) d)) z) e

-- ---- how many there are

headers_few : (ms : List Member) (i : ℕ) (ds : List Instance) → length (headers_from ms i ds) ≤ length ds
headers_few ms i [] = omega arith
headers_few ms i (d ∷ ds) = by (is_ruled d.kind) (headers_few ms (suc i) ds)
  where
    by : (b : Bool) → length (headers_from ms (suc i) ds) ≤ length ds → length (and_if b (header_of (registers ms i) d) (headers_from ms (suc i) ds)) ≤ suc (length ds)
    by true z = (omega (arith, z))
    by false z = (omega (arith, z))

-- ---- a code

root_of : (d : Instance) → 0 < length (entry_name d) → (d.root ≡ true) × (entry_name d ≡ d.name)
root_of d h = by d.root refl h
  where
    by : (b : Bool) → d.root ≡ b → 0 < length (if b then d.name else []) → (d.root ≡ true) × (entry_name d ≡ d.name)
    by true e h = (e, ap (λ b. if b then d.name else []) e)
    by false e h = absurd (let z : ⊥ = omega (arith, h) in z)

zeroth : (n : ℕ) → 0 + n ≡ n
zeroth n = omega arith

module _ (p : Program) (c : PlainCode) (h : IsHeaded p c) where
  -- the function of an instance
  pub function_there : (g n : ℕ) (d : Instance) → function_of p.instances g ≡ Some n → slice_get p.instances g ≡ Some d → (f : PlainFunction) × (function_at c n ≡ Some f) × (plain_header f ≡ header_of (registers h.members g) d)
  function_there g n d e there =
      map_at plain_header c.functions n (header_of (registers h.members g) d) (ap (λ hs. slice_get hs n) h.functions ∙ header_there h.members 0 p.instances g n d e there ∙ ap (λ k. Some (header_of (registers h.members k) d)) (zeroth g))

  header_at : (n : ℕ) (f : PlainFunction) → function_at c n ≡ Some f → slice_get (headers h.members p.instances) n ≡ Some (plain_header f)
  header_at n f e = ap (λ hs. slice_get hs n) (sym h.functions) ∙ slice_get-map plain_header c.functions n ∙ ap (option_map plain_header) e

  -- the instance of a function
  of_instance : (n : ℕ) (f : PlainFunction) → function_at c n ≡ Some f → IsOfInstance p.instances n (plain_header f)
  of_instance n f e = instance_there h.members 0 p.instances n (plain_header f) (header_at n f e)

  pub few_functions : length p.instances ≤ MOST_INSTANCES → length c.functions ≤ MOST_INSTANCES
  few_functions few =
      let z = headers_few h.members 0 p.instances in
      let e = map_length plain_header c.functions in
      let y = ap length h.functions in
      omega (arith, few, z, e, y)

  named : (n : ℕ) (f : PlainFunction) (x : IsOfInstance p.instances n (plain_header f)) → 0 < length f.name → (x.instance.root ≡ true) × (f.name ≡ x.instance.name)
  named n f x some =
      let called : f.name ≡ entry_name x.instance = ap (λ (h : Header). h.name) x.is in
      let r = root_of x.instance (subst (λ s. 0 < length s) called some) in
      (r.0, called ∙ r.1)

  pub names_apart : IsSoundProgram p → (m n : ℕ) (f g : PlainFunction) → function_at c m ≡ Some f → function_at c n ≡ Some g → 0 < length f.name → f.name ≡ g.name → m ≡ n
  names_apart sound m n f g a b some same =
      let x = of_instance m f a in
      let y = of_instance n g b in
      let r = named m f x some in
      let s = named n g y (subst (λ s. 0 < length s) same some) in
      let place = sound.roots x.place y.place x.instance y.instance x.there y.there r.0 s.0 (sym r.1 ∙ same ∙ s.1) in
      same_Some m n (sym x.function ∙ ap (function_of p.instances) place ∙ y.function)

-- ---- its tables

pub sound_tables : (source : List ℕ) (p : Program) (c : PlainCode) → IsTyped source p → IsHeaded p c → AreSoundTables c
sound_tables source p c typed h =
    let sound = typed_sound source p typed in
    tables_are_sound source p c typed h.types (few_functions p c h sound.few) (names_apart p c h sound)

-- ---- a code in memory

pub plain_headers : (fs : List Function) → map plain_header (map plain_function fs) ≡ map header fs
plain_headers [] = refl
plain_headers (f ∷ fs) = ap (λ r. header f ∷ r) (plain_headers fs)

pub headed_in_memory : (p : Program) (ms : List Member) (code : Code) → AreMembers p.instances ms → code.types ≡ p.types → map header code.functions.items ≡ headers ms p.instances → IsHeaded p (plain code)
headed_in_memory p ms code found types functions = record { types = types; members = ms; found = found; functions = plain_headers code.functions.items ∙ functions }
