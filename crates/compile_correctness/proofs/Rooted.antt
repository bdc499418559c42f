-- The function of a code of a source that has the entry's name is that of the entry's root, and is headed as this reports;
-- and each root that isn't plain has one.
use Rattle.std.proofs.Common.{◌≡◌, ◌∙◌, ◌<◌, ℕ, zero, suc, Bool, true, false, List, [], ◌∷◌, length, map, Option, Some, None, slice_get, option_map, if◌then◌else◌, inl, inr, refl, sym, ap, subst, arith}
use Rattle.std.specs.Prelude.{bytes_eq}
use Rattle.std.proofs.lemmas.Option.{none-some, same_Some, slice_get-map}
use Rattle.std.proofs.lemmas.Slice.Eq.{bytes_eq-Decides}
use Rattle.command_run.specs.cell_lower.fip_language.declared.FunKind.{FunKind}
use Rattle.command_run.specs.cell_lower.fip_language.declared.FunKind.TheVariants.{Fip, Fbip, Fun}
use Rattle.command_run.specs.cell_lower.fip_language.Every.{Among}
use Rattle.command_run.specs.cell_lower.fip_base.declared.refusal.Refusal.{Refusal}
use Rattle.command_run.specs.fip_trees.Tree.{Instance, Program}
use Rattle.command_run.specs.cell_lower.cell_code.CodeKinds.{code_kind}
use Rattle.command_run.specs.cell_lower.cell_code.Plain.{PlainFunction, PlainCode, function_at}
use Rattle.command_run.specs.lowering_relation.LoweredBodies.{has_function, one_more, if_function, function_of}
use Rattle.command_run.specs.cell_lower.Shape.{Header, header_of, headers}
use Rattle.command_run.proofs.compiler_correctness.SoundTypes.{typed_sound}
use Rattle.command_run.specs.source_report.Report.{IsAccepted}
use Rattle.command_run.proofs.source_report.Once.{accepted_once}
use Rattle.command_run.proofs.compiler_correctness.Headers.{typed_named}
use Rattle.command_run.specs.command_source.Codes.{has_named, names_one}
use Rattle.command_run.specs.command_source.ProgramCode.{IsCodeOfSource}
use Rattle.command_run.specs.command_source.Roots.{root_named}
use Rattle.command_run.specs.command_source.Wanted.{MissesCode}
use Rattle.command_run.specs.command_eval.EvalAnswer.{Entry}
use Rattle.command_run.proofs.command_eval.Meant.{typed_of}
use Rattle.command_run.proofs.machine_correctness.Entries.{plain_header, IsNamed, named}
use Rattle.command_run.proofs.CodeOnce.{long}
use Rattle.command_run.proofs.Entry.{IsRootAt, root_at, header_at}

-- ---- a function is that of an instance that isn't plain

ruled_first : (k : FunKind) (n : ℕ) → if_function (has_function k) ≡ Some n → k ≡ Fun → ⊥
ruled_first Fip n e f = absurd (cc)
ruled_first Fbip n e f = absurd (cc)
ruled_first Fun n e f = none-some n e

one_of : (b : Bool) (o : Option ℕ) (n : ℕ) → one_more b o ≡ Some n → (m : ℕ) × (o ≡ Some m)
one_of b None n e = absurd (none-some n e)
one_of b (Some m) n e = (m, refl)

pub ruled_at : (ds : List Instance) (i n : ℕ) (d : Instance) → function_of ds i ≡ Some n → slice_get ds i ≡ Some d → d.kind ≡ Fun → ⊥
ruled_at [] i n d e at = absurd (none-some d at)
ruled_at (x ∷ ds) zero n d e at = ruled_first d.kind n (subst (λ (y : Instance). if_function (has_function y.kind) ≡ Some n) (same_Some x d at) e)
ruled_at (x ∷ ds) (suc i) n d e at = let m = one_of (has_function x.kind) (function_of ds i) n e in ruled_at ds i m.0 d m.1 at

-- a root of the name is found
pub root_found : (name : List ℕ) (ds : List Instance) (i : ℕ) (d : Instance) → slice_get ds i ≡ Some d → d.root ≡ true → d.name ≡ name → root_named name ds ≡ None → ⊥
root_found name [] i d at root same e = none-some d at
root_found name (x ∷ ds) zero d at root same e =
    let own = same_Some x d at in
    let there : x.root ≡ true = ap (λ (y : Instance). y.root) own ∙ root in
    let eq : bytes_eq x.name name ≡ true = (bytes_eq-Decides x.name name).1 (ap (λ (y : Instance). y.name) own ∙ same) in
    by x.root (bytes_eq x.name name) there eq e
  where
    by : (b c : Bool) → b ≡ true → c ≡ true → (if b then (if c then Some x else root_named name ds) else root_named name ds) ≡ None → ⊥
    by true true p q k = none-some x (sym k)
    by true false p q k = absurd (cc)
    by false c p q k = absurd (cc)
root_found name (x ∷ ds) (suc i) d at root same e = by x.root (bytes_eq x.name name) (root_found name ds i d at root same) e
  where
    by : (b c : Bool) → (root_named name ds ≡ None → ⊥) → (if b then (if c then Some x else root_named name ds) else root_named name ds) ≡ None → ⊥
    by true true later k = none-some x (sym k)
    by true false later k = later k
    by false c later k = later k

-- ---- the function of a name is that of a root

module _ (source name : List ℕ) (code : PlainCode) (of' : IsCodeOfSource source code) (n : ℕ) (f : PlainFunction) (there : function_at code n ≡ Some f) (called : f.name ≡ name) (some : name ≡ [] → ⊥) where
  pub instance_named : IsNamed of'.program code n f
  instance_named = named of'.program of'.lowered.members code n f of'.lowered.types (of'.lowered.functions) there (subst (λ x. 0 < length x) (sym called) (long name some))

  module _ (p : Program) (accepted : IsAccepted source p) where
    pub program_same : of'.program ≡ p
    program_same = accepted_once source of'.program p of'.accepted accepted

    pub instance_there : slice_get p.instances instance_named.place ≡ Some instance_named.instance
    instance_there = subst (λ (q : Program). slice_get q.instances instance_named.place ≡ Some instance_named.instance) program_same instance_named.there

    -- a root of this name is that one
    pub place_same : (i : ℕ) (d : Instance) → slice_get p.instances i ≡ Some d → d.root ≡ true → d.name ≡ name → instance_named.place ≡ i
    place_same i d at root same =
        (typed_sound source p (typed_of source p accepted)).roots instance_named.place i instance_named.instance d instance_there at instance_named.root root (sym instance_named.name ∙ called ∙ sym same)

    pub instance_same : (d : Instance) → IsRootAt name p.instances d → instance_named.instance ≡ d
    instance_same d r = same_Some instance_named.instance d (sym instance_there ∙ ap (slice_get p.instances) (place_same r.place d r.there r.root r.named) ∙ r.there)

    -- so the name is no plain root's, and some root's
    pub not_missed : (r : Refusal) → MissesCode (root_named name p.instances) name r → ⊥
    not_missed r misses = by (root_named name p.instances) refl misses
      where
        its : function_of p.instances instance_named.place ≡ Some n
        its = subst (λ (q : Program). function_of q.instances instance_named.place ≡ Some n) program_same instance_named.of'.function

        by : (o : Option Instance) → root_named name p.instances ≡ o → MissesCode o name r → ⊥
        by None e m = root_found name p.instances instance_named.place instance_named.instance instance_there instance_named.root (sym instance_named.name ∙ called) e
        by (Some d) e m = ruled_at p.instances instance_named.place n instance_named.instance its instance_there (ap (λ (z : Instance). z.kind) (instance_same d (root_at name p.instances d e)) ∙ m.0)

  -- what the header says is what the root says
  pub record IsHeadedBy (d : Instance) : Type 0 where
    pub kind : f.kind ≡ code_kind d.kind
    pub params : f.params ≡ d.params
    pub credits : f.credits ≡ d.credits
    pub results : f.results ≡ d.results

  pub headed_by : (entry : Entry source name) → IsHeadedBy entry.root
  headed_by entry =
      let same = instance_same entry.program entry.accepted entry.root (root_at name entry.program.instances entry.root entry.named) in
      let is : plain_header f ≡ header_of instance_named.registers entry.root = instance_named.headed ∙ ap (header_of instance_named.registers) same in
      record {
        kind = ap (λ (q : Header). q.signature.kind) is;
        params = ap (λ (q : Header). q.signature.params) is;
        credits = ap (λ (q : Header). q.signature.credits) is;
        results = ap (λ (q : Header). q.signature.results) is;
      }

-- ---- a name is found

pub name_there : (name : List ℕ) (fs : List PlainFunction) (n : ℕ) (f : PlainFunction) → slice_get fs n ≡ Some f → f.name ≡ name → has_named name fs ≡ true
name_there name [] n f at is = absurd (none-some f at)
name_there name (g ∷ fs) zero f at is =
    let same : g.name ≡ name = ap (λ (h : PlainFunction). h.name) (same_Some g f at) ∙ is in
    ap (λ b. if b then true else has_named name fs) ((bytes_eq-Decides g.name name).1 same)
name_there name (g ∷ fs) (suc n) f at is = by (bytes_eq g.name name) (name_there name fs n f at is)
  where
    by : (b : Bool) → has_named name fs ≡ true → (if b then true else has_named name fs) ≡ true
    by true h = refl
    by false h = h

pub names_there : (name : List ℕ) (fs : List PlainFunction) (n : ℕ) (f : PlainFunction) → (name ≡ [] → ⊥) → slice_get fs n ≡ Some f → f.name ≡ name → names_one name fs ≡ true
names_there [] fs n f some at is = absurd (some refl)
names_there (b ∷ name) fs n f some at is = name_there (b ∷ name) fs n f at is

-- a function of the name
pub record HasName (name : List ℕ) (fs : List PlainFunction) : Type 0 where
  pub number : ℕ
  pub function : PlainFunction
  pub there : slice_get fs number ≡ Some function
  pub called : function.name ≡ name

name_found : (name : List ℕ) (fs : List PlainFunction) → has_named name fs ≡ true → HasName name fs
name_found name [] e = absurd (cc)
name_found name (f ∷ fs) e = by (bytes_eq f.name name) refl (name_found name fs) e
  where
    by : (b : Bool) → bytes_eq f.name name ≡ b → (has_named name fs ≡ true → HasName name fs) → (if b then true else has_named name fs) ≡ true → HasName name (f ∷ fs)
    by true same later h = record { number = 0; function = f; there = refl; called = (bytes_eq-Decides f.name name).0 same }
    by false same later h = let x = later h in record { number = suc x.number; function = x.function; there = x.there; called = x.called }

pub names_found : (name : List ℕ) (fs : List PlainFunction) → names_one name fs ≡ true → HasName name fs × (name ≡ [] → ⊥)
names_found [] fs e = absurd (cc)
names_found (b ∷ name) fs e = (name_found (b ∷ name) fs e, λ none. let z : suc (length name) ≡ 0 = ap length none in absurd (omega (arith, z)))

-- ---- a root that isn't plain has a function of its name

pub function_with : (fs : List PlainFunction) (m : ℕ) (h : Header) → slice_get (map plain_header fs) m ≡ Some h → (g : PlainFunction) × (slice_get fs m ≡ Some g) × (plain_header g ≡ h)
function_with [] m h e = absurd (none-some h e)
function_with (g ∷ fs) zero h e = (g, refl, same_Some (plain_header g) h e)
function_with (g ∷ fs) (suc m) h e = function_with fs m h e

pub among_at : {A : Type 0} (xs : List A) (i : ℕ) (x : A) → slice_get xs i ≡ Some x → Among x xs
among_at [] i x e = absurd (none-some x e)
among_at (y ∷ xs) zero x e = inl (sym (same_Some y x e))
among_at (y ∷ xs) (suc i) x e = inr (among_at xs i x e)

pub root_has_function : (source name : List ℕ) (code : PlainCode) (of' : IsCodeOfSource source code) (d : Instance) → root_named name of'.program.instances ≡ Some d → (d.kind ≡ Fun → ⊥) → names_one name code.functions ≡ true
root_has_function source name code of' d e ruled =
    let r = root_at name of'.program.instances d e in
    let x = header_at of'.lowered.members 0 of'.program.instances r.place d r.there ruled in
    let headers_are : map plain_header code.functions ≡ headers of'.lowered.members of'.program.instances = of'.lowered.functions in
    let y = function_with code.functions x.0 (header_of x.1 d) (ap (λ hs. slice_get hs x.0) headers_are ∙ x.2) in
    let called : (y.0).name ≡ name = ap (λ (q : Header). q.name) y.2 ∙ (ap (λ b. if b then d.name else []) r.root ∙ r.named) in
    let some = (typed_named source of'.program (typed_of source of'.program of'.accepted) d (among_at of'.program.instances r.place d r.there)).0.1 in
    let none : name ≡ [] → ⊥ = λ z. let zero_long : length d.name ≡ 0 = ap length (r.named ∙ z) in absurd (omega (arith, some, zero_long)) in
    names_there name code.functions x.0 y.0 none y.1 called
