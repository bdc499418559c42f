-- What is run or evaluated: a code or a program, and one of its functions.
use Rattle.std.specs.Prelude.{◌≡◌, ◌<◌, ℕ, List, length, Some, slice_get}
use Rattle.cell_code.specs.declared.code.Code.{Code}
use Rattle.cell_code.specs.declared.code.Function.{Function}
use Rattle.cell_code.specs.Plain.{plain}
use Rattle.code_verify.specs.Checked.{Checked}
use Rattle.fip_trees.specs.Tree.{Instance, Program}
use Rattle.fip_trees.specs.declared.program.Typed.{Typed}
use Rattle.program_front.specs.source_report.Report.{IsAccepted}
use Rattle.command_source.specs.Codes.{IsSoundFile, IsSpelt}
use Rattle.command_source.specs.Roots.{root_named}

-- a code that was verified, and the number of the function that is run
pub record Chosen : Type 0 where
  pub checked : Checked
  pub entry : ℕ

-- what each of them keeps to: the function is there, and the code has a file
pub record CanBeChosen (code : Code) (entry : ℕ) : Type 0 where
  pub within : entry < length code.functions.items
  pub spelt : IsSpelt (plain code)

-- function n has this name, which isn't empty
pub record IsNamed (name : List ℕ) (functions : List Function) (n : ℕ) : Type 0 where
  pub some : 0 < length name
  pub function : Function
  pub there : slice_get functions n ≡ Some function
  pub named : function.name ≡ name

-- The bytes are the file of the code, which is sound, and the function that is run has this name, which isn't empty.
pub record IsFunctionOf (bytes name : List ℕ) (r : Chosen) : Type 0 where
  pub file : IsSoundFile bytes (plain r.checked.code)
  pub named : IsNamed name r.checked.code.functions.items r.entry

-- a typed program, and the number of the instance that is evaluated
pub record Rooted : Type 0 where
  pub typed : Typed
  pub entry : ℕ

-- The program is that of the source, and instance i its first root of this name.
pub record IsRootedIn (source name : List ℕ) (p : Program) (i : ℕ) : Type 0 where
  pub accepted : IsAccepted source p
  pub root : Instance
  pub there : slice_get p.instances i ≡ Some root
  pub named : root_named name p.instances ≡ Some root
