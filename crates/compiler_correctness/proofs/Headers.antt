-- The headers of the functions of a source's program: none is plain, and each name is empty or that of a function of the
-- source.
use Rattle.std.proofs.Common.{◌≡◌, ◌≤◌, inl, inr, ℕ, suc, Bool, true, false, List, [], ◌∷◌, length, map, Option, Some, None, slice_get, if◌then◌else◌, refl, sym, subst, arith}
use Rattle.lowering_soundness.specs.fip_language.declared.FunKind.{FunKind}
use Rattle.lowering_soundness.specs.cell_code.CodeKinds.{code_kind}
use Rattle.lowering_soundness.specs.cell_code.declared.code.CodeKind.{CodeKind}
use Rattle.lowering_soundness.specs.cell_code.declared.code.CodeKind.TheVariants as CodeKinds
use Rattle.lowering_soundness.specs.fip_language.declared.FunKind.TheVariants.{Fip, Fbip, Fun}
use Rattle.lowering_soundness.specs.fip_language.declared.limits.TheConstants.{MOST_SOURCE_BYTES}
use Rattle.lowering_soundness.specs.fip_language.Core as C
use Rattle.lowering_soundness.specs.fip_language.Core.{Core}
use Rattle.lowering_soundness.specs.fip_language.Every.{Every, Among}
use Rattle.lowering_soundness.proofs.fip_language.Words.{every_among}
use Rattle.lowering_soundness.specs.fip_trees.declared.groups.Member.{Member}
use Rattle.lowering_soundness.specs.fip_trees.Tree as T
use Rattle.lowering_soundness.specs.fip_trees.Tree.{Program}
use Rattle.source_safety.specs.reached_instances.closed_types.declared.closed.Head.TheVariants as H
use Rattle.source_safety.specs.reached_instances.closed_types.Closed as Z
use Rattle.source_safety.specs.reached_instances.closed_types.Closed.{Closed, Applied}
use Rattle.source_safety.specs.reached_instances.closed_types.Source.{Source, Instance}
use Rattle.derivation_correctness.specs.static_params.FlatProgram.{Numbers, instance_if, instances_of, flat_program}
use Rattle.derivation_correctness.specs.static_params.FlatSource.{flat_source}
use Rattle.derivation_correctness.proofs.static_params.GoodTypes.{all_of_have}
use Rattle.derivation_correctness.proofs.static_params.TypeRows.{there_among}
use Rattle.lowering_soundness.specs.type_check.World.{world}
use Rattle.lowering_soundness.specs.type_check.Faults.{fill_instance, filled}
use Rattle.derivation_correctness.specs.cell_lower.Limits.{is_ruled, registers}
use Rattle.derivation_correctness.specs.cell_lower.Shape.{Header, header_of, and_if, headers_from}
use Rattle.derivation_correctness.specs.source_report.Report.{IsFlat, IsTyped}
use Rattle.derivation_correctness.specs.code_file.Spelling.{function_name_text}
use Rattle.derivation_correctness.specs.code_file.CodeText.{code_kind_text}
use Rattle.derivation_correctness.specs.lower_frame.Spelled.{IsSpelt}
use Rattle.compiler_correctness.proofs.Names.{NamedFunction}
use Rattle.compiler_correctness.proofs.Tokens.{IsProperName}
use Rattle.compiler_correctness.proofs.Texts.{function_name_spelt}
use Rattle.compiler_correctness.proofs.Types.{parsed_names}

-- an instance has the name of a function
abbrev pub IsNamed : T.Instance → Type 0
IsNamed d = IsProperName d.name × (length d.name ≤ MOST_SOURCE_BYTES)

module _ (core : Core) (ns : Numbers) (named : Every (NamedFunction MOST_SOURCE_BYTES) core.functions) where
  abbrev s : Source
  s = flat_source core

  from_option : (here : Instance) (o : Option C.Function) → ((f : C.Function) → o ≡ Some f → Among f core.functions) → (d : T.Instance) → Among d (instance_if s ns here o) → IsNamed d
  from_option here None h d a = absurd a
  from_option here (Some f) h d (inl e) = subst IsNamed (sym e) (every_among (NamedFunction MOST_SOURCE_BYTES) f core.functions named (h f refl))
  from_option here (Some f) h d (inr n) = absurd n

  from_closed : (c : Closed) (d : T.Instance) → Among d (instances_of s ns c) → IsNamed d
  from_closed Z.Int d a = absurd a
  from_closed (Applied (H.«Type» n) cs) d a = absurd a
  from_closed (Applied (H.Function f) cs) d a =
      from_option (record { function = f; given = cs }) (slice_get core.functions f) (λ g e. there_among core.functions f g e) d a

  all_named : (d : T.Instance) → Among d (flat_program s ns).instances → IsNamed d
  all_named d a = all_of_have IsNamed (instances_of s ns) ns.instances (λ c b e f. from_closed c e f) d a

pub from_map : {A B : Type 0} (P : B → Type 0) (f : A → B) (xs : List A) → ((x : A) → Among x xs → P (f x)) → (y : B) → Among y (map f xs) → P y
from_map P f [] h y a = absurd a
from_map P f (x ∷ xs) h y (inl e) = subst P (sym e) (h x (inl refl))
from_map P f (x ∷ xs) h y (inr a) = from_map P f xs (λ z b. h z (inr b)) y a

filled_named : (p : Program) → ((d : T.Instance) → Among d p.instances → IsNamed d) → (d : T.Instance) → Among d (filled p).instances → IsNamed d
filled_named p h = from_map IsNamed (fill_instance (world p)) p.instances (λ d a. h d a)

flat_all_named : (source : List ℕ) (p : Program) → IsFlat source p → (d : T.Instance) → Among d p.instances → IsNamed d
flat_all_named source p h =
    subst (λ (q : Program). (d : T.Instance) → Among d q.instances → IsNamed d) (sym h.is)
    (all_named h.core h.numbers (parsed_names source h.core h.declared.parsed).1)

pub typed_named : (source : List ℕ) (p : Program) → IsTyped source p → (d : T.Instance) → Among d p.instances → IsNamed d
typed_named source p h =
    subst (λ (q : Program). (d : T.Instance) → Among d q.instances → IsNamed d) (sym h.is)
    (filled_named h.untyped (flat_all_named source h.untyped h.flat))

-- ---- headers

-- the kind and the name of a header have a text
pub record IsHeaderSpelt (h : Header) : Type 0 where
  pub kind : IsSpelt (code_kind_text h.signature.kind)
  pub name : IsSpelt (function_name_text h.name)

no_name : IsSpelt (function_name_text [])
no_name = function_name_spelt [] refl (omega arith)

entry_spelt : (root : Bool) (name : List ℕ) → IsSpelt (function_name_text name) → IsSpelt (function_name_text (if root then name else []))
entry_spelt true name h = h
entry_spelt false name h = no_name

kind_spelt : (k : CodeKind) → IsSpelt (code_kind_text k)
kind_spelt CodeKinds.Fip = refl
kind_spelt CodeKinds.Fbip = refl

header_spelt : (n : ℕ) (d : T.Instance) → IsNamed d → IsHeaderSpelt (header_of n d)
header_spelt n d named =
    let short = named.1 in
    record { kind = kind_spelt (code_kind d.kind); name = entry_spelt d.root d.name (function_name_spelt d.name named.0.0 (omega (arith, short))) }

one_spelt : (n : ℕ) (d : T.Instance) (hs : List Header) → IsNamed d → (k : FunKind) → d.kind ≡ k → Every IsHeaderSpelt hs → Every IsHeaderSpelt (and_if (is_ruled k) (header_of n d) hs)
one_spelt n d hs named Fip e h = (header_spelt n d named, h)
one_spelt n d hs named Fbip e h = (header_spelt n d named, h)
one_spelt n d hs named Fun e h = h

headers_spelt : (ms : List Member) (i : ℕ) (ds : List T.Instance) → ((d : T.Instance) → Among d ds → IsNamed d) → Every IsHeaderSpelt (headers_from ms i ds)
headers_spelt ms i [] named = tt
headers_spelt ms i (d ∷ ds) named =
    one_spelt (registers ms i) d (headers_from ms (suc i) ds) (named d (inl refl)) d.kind refl (headers_spelt ms (suc i) ds (λ x a. named x (inr a)))

pub typed_headers_spelt : (source : List ℕ) (p : Program) (ms : List Member) → IsTyped source p → Every IsHeaderSpelt (headers_from ms 0 p.instances)
typed_headers_spelt source p ms h = headers_spelt ms 0 p.instances (typed_named source p h)
