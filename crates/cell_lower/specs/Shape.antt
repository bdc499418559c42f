-- What a code says of its functions beside their instructions and labels. It has one for each instance that isn't
-- plain, in the order of the instances' numbers: of its kind, with its parameters, header credits and results, and with
-- as many registers as the program's groups tell. Only an instance that can be an entry gives its function a name.
--
-- Where instance 0 is fip, 1 plain and 2 fbip, the code has two functions: 0 is that of instance 0 and 1 that of
-- instance 2.
use Rattle.std.specs.Prelude.{ℕ, suc, Bool, true, false, List, [], ◌∷◌, if◌then◌else◌}
use Rattle.fip_base.specs.declared.plain.Param.{Param}
use Rattle.fip_trees.specs.declared.groups.Member.{Member}
use Rattle.fip_trees.specs.Tree.{Name, Instance}
use Rattle.cell_code.specs.CodeKinds.{code_kind}
use Rattle.cell_code.specs.declared.code.CodeKind.{CodeKind}
use Rattle.cell_code.specs.declared.code.Function.{Function}
use Rattle.cell_code.specs.Plain.{PlainFunction}
use Rattle.cell_lower.specs.Limits.{is_ruled, registers}

-- what a caller knows of a function
pub record Signature : Type 0 where
  pub kind : CodeKind
  pub params : List Param
  pub credits : List ℕ
  pub results : List ℕ

-- a function's signature, name and number of registers
pub record Header : Type 0 where
  pub signature : Signature
  pub name : Name
  pub registers : ℕ

abbrev pub header : Function → Header
header f = record {
  signature = record { kind = f.kind; params = f.params; credits = f.credits.items; results = f.results };
  name = f.name;
  registers = f.registers;
}

abbrev pub plain_header : PlainFunction → Header
plain_header f = record {
  signature = record { kind = f.kind; params = f.params; credits = f.credits; results = f.results };
  name = f.name;
  registers = f.registers;
}

-- the empty name is that of no entry
abbrev pub entry_name : Instance → Name
entry_name d = if d.root then d.name else []

-- the header of the function of an instance with n registers
abbrev pub header_of : ℕ → Instance → Header
header_of n d = record {
  signature = record { kind = code_kind d.kind; params = d.params; credits = d.credits; results = d.results };
  name = entry_name d;
  registers = n;
}

abbrev pub and_if : Bool → Header → List Header → List Header
and_if true h hs = h ∷ hs
and_if false h hs = hs

-- the headers of the functions of some instances, numbered from i on
abbrev pub headers_from : List Member → ℕ → List Instance → List Header
headers_from ms i [] = []
headers_from ms i (d ∷ ds) = and_if (is_ruled d.kind) (header_of (registers ms i) d) (headers_from ms (suc i) ds)

-- those of a program's instances
abbrev pub headers : List Member → List Instance → List Header
headers ms ds = headers_from ms 0 ds

abbrev pub signature_of : Header → Signature
signature_of h = h.signature

abbrev pub name_of : Header → Name
name_of h = h.name

abbrev pub registers_of : Header → ℕ
registers_of h = h.registers
