-- A function of a code that has a name is that of an instance without static parameters of this name, and is headed as
-- this reports.
-- Idea: the headers of the functions are those of the instances that aren't plain, in their order, and so are numbered
-- the functions of instances; and only a root gives its function a name.
use Rattle.std.proofs.Common.{◌≡◌, ◌<◌, ℕ, zero, suc, Bool, true, false, List, [], ◌∷◌, length, map, Some, slice_get, option_map, if◌then◌else◌, refl, sym, ap, ap₂, ◌∙◌, subst, arith}
use Rattle.std.proofs.lemmas.Option.{none-some, same_Some, slice_get-map}
use Rattle.fip_machine.specs.fip_language.declared.FunKind.{FunKind}
use Rattle.fip_machine.specs.fip_language.declared.FunKind.TheVariants.{Fip, Fbip, Fun}
use Rattle.compiler_correctness.specs.fip_trees.declared.groups.Member.{Member}
use Rattle.compiler_correctness.specs.fip_trees.Tree.{Instance, Program}
use Rattle.fip_machine.specs.cell_code.Plain.{PlainFunction, PlainCode, function_at}
use Rattle.run_loading.specs.code_rules.Codes.{params_of}
use Rattle.compiler_correctness.specs.lowering_relation.LoweredBodies.{has_function, one_more, if_function, function_of}
use Rattle.compiler_correctness.specs.lowering_simulation.CellEnds.{IsFunctionOf}
use Rattle.compiler_correctness.specs.cell_lower.Limits.{is_ruled, registers}
pub use Rattle.compiler_correctness.specs.cell_lower.Shape.{plain_header}
pub use Rattle.compiler_correctness.proofs.SoundnessFunctions.{plain_headers as headers_of}
use Rattle.compiler_correctness.specs.cell_lower.Shape.{Header, header_of, entry_name, and_if, headers_from, headers}

-- a header is that of an instance whose function has number n
record IsHeaded (ds : List Instance) (n : ℕ) (h : Header) : Type 0 where
  pub place : ℕ
  pub instance : Instance
  pub there : slice_get ds place ≡ Some instance
  pub function : function_of ds place ≡ Some n
  pub registers : ℕ
  pub is : h ≡ header_of registers instance

here : (d : Instance) (ds : List Instance) (r : ℕ) (h : Header) → has_function d.kind ≡ true → Some (header_of r d) ≡ Some h → IsHeaded (d ∷ ds) 0 h
here d ds r h k e = record { place = 0; instance = d; there = refl; function = ap if_function k; registers = r; is = sym (same_Some (header_of r d) h e) }

following : (d : Instance) (ds : List Instance) (n m : ℕ) (h : Header) (b : Bool) → has_function d.kind ≡ b → one_more b (Some n) ≡ Some m → IsHeaded ds n h → IsHeaded (d ∷ ds) m h
following d ds n m h b k e x = record { place = suc x.place; instance = x.instance; there = x.there; function = ap₂ one_more k x.function ∙ e; registers = x.registers; is = x.is }

one_step : (d : Instance) (ds : List Instance) (r : ℕ) (hs : List Header) (n : ℕ) (h : Header) → ((m : ℕ) → slice_get hs m ≡ Some h → IsHeaded ds m h) → (k : FunKind) → d.kind ≡ k → slice_get (and_if (is_ruled k) (header_of r d) hs) n ≡ Some h → IsHeaded (d ∷ ds) n h
one_step d ds r hs zero h rest Fip k e = here d ds r h (ap has_function k) e
one_step d ds r hs (suc n) h rest Fip k e = following d ds n (suc n) h true (ap has_function k) refl (rest n e)
one_step d ds r hs zero h rest Fbip k e = here d ds r h (ap has_function k) e
one_step d ds r hs (suc n) h rest Fbip k e = following d ds n (suc n) h true (ap has_function k) refl (rest n e)
one_step d ds r hs n h rest Fun k e = following d ds n n h false (ap has_function k) refl (rest n e)

headed : (ms : List Member) (i : ℕ) (ds : List Instance) (n : ℕ) (h : Header) → slice_get (headers_from ms i ds) n ≡ Some h → IsHeaded ds n h
headed ms i [] n h e = absurd (none-some h e)
headed ms i (d ∷ ds) n h e = one_step d ds (registers ms i) (headers_from ms (suc i) ds) n h (λ m x. headed ms (suc i) ds m h x) d.kind refl e

root_of : (d : Instance) → 0 < length (entry_name d) → (d.root ≡ true) × (entry_name d ≡ d.name)
root_of d h = by d.root refl h
  where
    by : (b : Bool) → d.root ≡ b → 0 < length (if b then d.name else []) → (d.root ≡ true) × (entry_name d ≡ d.name)
    by true e h = (e, ap (λ b. if b then d.name else []) e)
    by false e h = absurd (omega (arith, h))

-- the instance of a function that has a name
pub record IsNamed (program : Program) (c : PlainCode) (n : ℕ) (f : PlainFunction) : Type 0 where
  pub place : ℕ
  pub instance : Instance
  pub there : slice_get program.instances place ≡ Some instance
  pub root : instance.root ≡ true
  pub name : f.name ≡ instance.name
  pub registers : ℕ
  pub headed : plain_header f ≡ header_of registers instance
  pub of' : IsFunctionOf program place c n

pub named : (program : Program) (members : List Member) (c : PlainCode) (n : ℕ) (f : PlainFunction) → c.types ≡ program.types → map plain_header c.functions ≡ headers members program.instances → function_at c n ≡ Some f → 0 < length f.name → IsNamed program c n f
named program members c n f types functions is some =
    let at : slice_get (map plain_header c.functions) n ≡ Some (plain_header f) = slice_get-map plain_header c.functions n ∙ ap (option_map plain_header) is in
    let x = headed members 0 program.instances n (plain_header f) (ap (λ hs. slice_get hs n) (sym functions) ∙ at) in
    let called : f.name ≡ entry_name x.instance = ap (λ (h : Header). h.name) x.is in
    let root = root_of x.instance (subst (λ s. 0 < length s) called some) in
    let takes : f.params ≡ x.instance.params = ap (λ (h : Header). h.signature.params) x.is in
    record {
      place = x.place;
      instance = x.instance;
      there = x.there;
      root = root.0;
      name = called ∙ root.1;
      registers = x.registers;
      headed = x.is;
      of' = record {
        function = x.function;
        types = types;
        takes = λ d e. ap params_of is ∙ (takes ∙ ap (λ (d : Instance). d.params) (same_Some x.instance d (sym x.there ∙ e)));
      };
    }
