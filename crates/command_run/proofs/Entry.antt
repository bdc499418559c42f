-- The function that is run of an accepted source is that of the entry: its header is the root's.
-- Idea: the root of the name has a function, which has the name too; and of a name a sound code has one function.
use Rattle.std.proofs.Common.{◌≡◌, ◌∙◌, ◌<◌, ℕ, zero, suc, Bool, true, false, List, [], ◌∷◌, length, map, Option, Some, None, slice_get, option_map, if◌then◌else◌, refl, sym, ap, subst}
use Rattle.std.specs.Prelude.{bytes_eq}
use Rattle.std.proofs.lemmas.Option.{none-some, same_Some, slice_get-map}
use Rattle.std.proofs.lemmas.Slice.Eq.{bytes_eq-Decides}
use Rattle.fip_language.specs.declared.FunKind.{FunKind}
use Rattle.fip_language.specs.declared.FunKind.TheVariants.{Fip, Fbip, Fun}
use Rattle.fip_language.specs.SoundTable.{IsSoundTable}
use Rattle.command_eval.specs.machine_correctness.fip_trees.declared.groups.Member.{Member}
use Rattle.command_eval.specs.machine_correctness.fip_trees.Tree.{Instance, Program}
use Rattle.command_eval.specs.machine_correctness.tail_groups.Members.{AreMembers}
use Rattle.fip_machine.specs.cell_code.declared.code.Code.{Code}
use Rattle.fip_machine.specs.cell_code.declared.code.Function.{Function}
use Rattle.command_eval.specs.machine_correctness.cell_lower.Limits.{is_ruled, registers}
use Rattle.command_eval.specs.machine_correctness.cell_lower.Shape.{Header, header, header_of, and_if, headers_from, headers}
use Rattle.command_eval.specs.machine_correctness.separation.Codes.{HasLiterals}
use Rattle.command_eval.specs.machine_correctness.code_rules.Breaks.{IsSound}
use Rattle.fip_machine.specs.cell_code.CodeKinds.{code_kind}
use Rattle.fip_machine.specs.cell_code.Plain.{plain_function, plain}
use Rattle.command_eval.specs.machine_correctness.source_report.Report.{IsTyped}
use Rattle.command_eval.proofs.machine_correctness.source_report.Once.{accepted_once}
use Rattle.command_eval.specs.command_source.Entries.{Chosen}
use Rattle.command_eval.specs.command_source.ProgramCode.{IsEntryOf}
use Rattle.command_eval.specs.command_source.Roots.{root_named}
use Rattle.command_eval.specs.command_source.Wanted.{Compiled, IsCompiled, IsReady}
use Rattle.command_eval.proofs.machine_correctness.Entries.{headers_of}
use Rattle.command_eval.specs.EvalAnswer.{Entry}
use Rattle.command_eval.proofs.Meant.{typed_of}
use Rattle.command_eval.proofs.SoundTypes.{typed_sound}
use Rattle.command_eval.specs.machine_correctness.Starts.{IsCodeOf}
use Rattle.command_run.proofs.Bounded.{one_of_name}

-- ---- the root of a name

pub record IsRootAt (name : List ℕ) (ds : List Instance) (d : Instance) : Type 0 where
  pub place : ℕ
  pub there : slice_get ds place ≡ Some d
  pub root : d.root ≡ true
  pub named : d.name ≡ name

pub root_at : (name : List ℕ) (ds : List Instance) (d : Instance) → root_named name ds ≡ Some d → IsRootAt name ds d
root_at name [] d e = absurd (none-some d e)
root_at name (x ∷ ds) d e = by x.root (bytes_eq x.name name) refl refl (root_at name ds d) e
  where
    later : IsRootAt name ds d → IsRootAt name (x ∷ ds) d
    later r = record { place = suc r.place; there = r.there; root = r.root; named = r.named }

    by : (b c : Bool) → x.root ≡ b → bytes_eq x.name name ≡ c → (root_named name ds ≡ Some d → IsRootAt name ds d) → (if b then (if c then Some x else root_named name ds) else root_named name ds) ≡ Some d → IsRootAt name (x ∷ ds) d
    by true true r n rest e =
        let same = same_Some x d e in
        record { place = 0; there = e; root = subst (λ (y : Instance). y.root ≡ true) same r; named = subst (λ (y : Instance). y.name ≡ name) same ((bytes_eq-Decides x.name name).0 n) }
    by true false r n rest e = later (rest e)
    by false c r n rest e = later (rest e)

compiled_root : (o : Option Instance) → IsCompiled o → (d : Instance) × (o ≡ Some d) × (d.kind ≡ Fun → ⊥)
compiled_root None h = absurd h
compiled_root (Some d) h = (d, refl, h)

-- ---- its function

header_first : (k : FunKind) (h : Header) (hs : List Header) → (k ≡ Fun → ⊥) → slice_get (and_if (is_ruled k) h hs) 0 ≡ Some h
header_first Fip h hs some = refl
header_first Fbip h hs some = refl
header_first Fun h hs some = absurd (some refl)

header_after : (k : FunKind) (h g : Header) (hs : List Header) (m : ℕ) → slice_get hs m ≡ Some g → (j : ℕ) × (slice_get (and_if (is_ruled k) h hs) j ≡ Some g)
header_after Fip h g hs m e = (suc m, e)
header_after Fbip h g hs m e = (suc m, e)
header_after Fun h g hs m e = (m, e)

pub header_at : (ms : List Member) (i : ℕ) (ds : List Instance) (place : ℕ) (d : Instance) → slice_get ds place ≡ Some d → (d.kind ≡ Fun → ⊥) → (m : ℕ) × (k : ℕ) × (slice_get (headers_from ms i ds) m ≡ Some (header_of k d))
header_at ms i [] place d e some = absurd (none-some d e)
header_at ms i (x ∷ ds) zero d e some =
    let same : x ≡ d = same_Some x d e in
    let ruled : x.kind ≡ Fun → ⊥ = subst (λ (y : Instance). y.kind ≡ Fun → ⊥) (sym same) some in
    (0, registers ms i, header_first x.kind (header_of (registers ms i) x) (headers_from ms (suc i) ds) ruled ∙ ap (λ y. Some (header_of (registers ms i) y)) same)
header_at ms i (x ∷ ds) (suc place) d e some =
    let r = header_at ms (suc i) ds place d e some in
    let j = header_after x.kind (header_of (registers ms i) x) (header_of r.1 d) (headers_from ms (suc i) ds) r.0 r.2 in
    (j.0, r.1, j.1)

function_with : (fs : List Function) (m : ℕ) (h : Header) → slice_get (map header fs) m ≡ Some h → (g : Function) × (slice_get fs m ≡ Some g) × (header g ≡ h)
function_with [] m h e = absurd (none-some h e)
function_with (g ∷ fs) zero h e = (g, refl, same_Some (header g) h e)
function_with (g ∷ fs) (suc m) h e = function_with fs m h e

pub record IsEntry {source name : List ℕ} (r : Chosen) (entry : Entry source name) (g : Function) : Type 0 where
  pub at : slice_get r.checked.code.functions.items r.entry ≡ Some g
  pub kind : g.kind ≡ code_kind (entry.root).kind
  pub params : g.params ≡ (entry.root).params
  pub credits : g.credits.items ≡ (entry.root).credits
  pub results : g.results ≡ (entry.root).results
  pub named : g.name ≡ name
  pub some : 0 < length g.name

module _ (source name : List ℕ) (r : Chosen) (ready : IsReady source (Compiled name)) (h : IsEntryOf source name r) where
  abbrev pub code : Code
  code = r.checked.code

  abbrev pub program : Program
  program = (h.code).program

  abbrev pub types : IsTyped source program
  types = typed_of source program (h.code).accepted

  pub sound : IsSound (plain code)
  sound = (h.code).sound

  pub table_sound : IsSoundTable code.types
  table_sound = subst IsSoundTable (sym ((h.code).lowered).types) (typed_sound source program types)

  pub headed : map header code.functions.items ≡ headers ((h.code).lowered).members program.instances
  headed = sym (headers_of code.functions.items) ∙ ((h.code).lowered).functions

  compiled : IsCompiled (root_named name program.instances)
  compiled = subst (λ (p : Program). IsCompiled (root_named name p.instances)) (accepted_once source ready.program program ready.accepted (h.code).accepted) ready.has

  pub found : (d : Instance) × (root_named name program.instances ≡ Some d) × (d.kind ≡ Fun → ⊥)
  found = compiled_root (root_named name program.instances) compiled

  abbrev pub entry : Entry source name
  entry = record { core = types.flat.core; parsed = types.flat.declared.parsed; program = program; accepted = (h.code).accepted; root = found.0; named = found.1 }

  abbrev pub function : Function
  function = (h.named).function

  pub is_entry : IsEntry r entry function
  is_entry =
      let d : Instance = found.0 in
      let root = root_at name program.instances d found.1 in
      let x = header_at ((h.code).lowered).members 0 program.instances root.place d root.there found.2 in
      let y = function_with code.functions.items x.0 (header_of x.1 d) (ap (λ hs. slice_get hs x.0) headed ∙ x.2) in
      let called : (y.0).name ≡ name = ap (λ (q : Header). q.name) y.2 ∙ (ap (λ b. if b then d.name else []) root.root ∙ root.named) in
      let some : 0 < length (y.0).name = subst (λ s. 0 < length s) (sym called) (h.named).some in
      let one : x.0 ≡ r.entry = one_of_name (plain code) x.0 r.entry (plain_function y.0) (plain_function function) sound
      (slice_get-map plain_function code.functions.items x.0 ∙ ap (option_map plain_function) y.1)
      (slice_get-map plain_function code.functions.items r.entry ∙ ap (option_map plain_function) (h.named).there)
      some (called ∙ sym (h.named).named) in
      let same : y.0 ≡ function = same_Some y.0 function (sym y.1 ∙ (ap (slice_get code.functions.items) one ∙ (h.named).there)) in
      let is : header function ≡ header_of x.1 d = ap header (sym same) ∙ y.2 in
      record {
        at = (h.named).there;
        kind = ap (λ (q : Header). q.signature.kind) is;
        params = ap (λ (q : Header). q.signature.params) is;
        credits = ap (λ (q : Header). q.signature.credits) is;
        results = ap (λ (q : Header). q.signature.results) is;
        named = (h.named).named;
        some = subst (λ s. 0 < length s) (sym (h.named).named) (h.named).some;
      }

  pub code_of : HasLiterals (plain code) → IsCodeOf source (entry.core) code
  code_of literals = record {
    program = program;
    members = ((h.code).lowered).members;
    parsed = entry.parsed;
    accepted = (h.code).accepted;
    types = ((h.code).lowered).types;
    functions = headed;
    lowered = ((h.code).lowered).lowered;
    is_sound = record { sound = sound; literals = literals };
  }

  pub members_found : (literals : HasLiterals (plain code)) → AreMembers (code_of literals).program.instances (code_of literals).members
  unfolding code_of
  members_found literals = ((h.code).lowered).found
