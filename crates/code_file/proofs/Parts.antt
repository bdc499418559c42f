-- What is left to read of a function after some of its fields.
use Rattle.std.proofs.Common.{ℕ, List}
use Rattle.cell_code.specs.declared.code.CodeKind.{CodeKind}
use Rattle.fip_base.specs.declared.plain.Param.{Param}
use Rattle.cell_code.specs.declared.code.Instr.{Instr}
use Rattle.code_file.specs.declared.tags.Version.{Version}
use Rattle.cell_code.specs.Plain.{LabelMap, PlainFunction}
use Rattle.code_file.specs.Reading.{Reader, Give, ◌>>=◌, two_reader, list_reader, function_name_reader, code_kind_reader, params_reader, credits_reader, instrs_reader, labels_reader}

-- a function: its labels depend on the number of its registers
abbrev pub function_of : CodeKind → List ℕ → List Param → List ℕ → List ℕ → ℕ → List Instr → List LabelMap → PlainFunction
function_of kind name params credits results registers instrs labels = record { kind = kind; name = name; params = params; credits = credits; results = results; registers = registers; instrs = instrs; labels = labels }

-- what is read after some of its fields
abbrev pub part8 : Version → CodeKind → List ℕ → List Param → List ℕ → List ℕ → ℕ → List Instr → List LabelMap → Reader PlainFunction
part8 v kind name params credits results registers instrs labels = Give (function_of kind name params credits results registers instrs labels)

abbrev pub part7 : Version → CodeKind → List ℕ → List Param → List ℕ → List ℕ → ℕ → List Instr → Reader PlainFunction
part7 v kind name params credits results registers instrs = labels_reader registers >>= part8 v kind name params credits results registers instrs

abbrev pub part6 : Version → CodeKind → List ℕ → List Param → List ℕ → List ℕ → ℕ → Reader PlainFunction
part6 v kind name params credits results registers = instrs_reader >>= part7 v kind name params credits results registers

abbrev pub part5 : Version → CodeKind → List ℕ → List Param → List ℕ → List ℕ → Reader PlainFunction
part5 v kind name params credits results = two_reader >>= part6 v kind name params credits results

abbrev pub part4 : Version → CodeKind → List ℕ → List Param → List ℕ → Reader PlainFunction
part4 v kind name params credits = list_reader >>= part5 v kind name params credits

abbrev pub part3 : Version → CodeKind → List ℕ → List Param → Reader PlainFunction
part3 v kind name params = credits_reader v >>= part4 v kind name params

abbrev pub part2 : Version → CodeKind → List ℕ → Reader PlainFunction
part2 v kind name = params_reader >>= part3 v kind name

abbrev pub part1 : Version → CodeKind → Reader PlainFunction
part1 v kind = function_name_reader >>= part2 v kind

abbrev pub part0 : Version → Reader PlainFunction
part0 v = code_kind_reader >>= part1 v
