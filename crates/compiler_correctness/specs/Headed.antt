-- Which code is headed as a program reports: its types are the program's, and it has a function for each fip and fbip
-- instance, in the order of their numbers: of the instance's kind, with its parameters, header credits and results,
-- with as many registers as the program's groups report, and with its name where it is a root. Of the instructions and
-- label maps this says nothing.
--
-- Of a program with the instances `fip rev` and `fun dup` it is a code with one function, which is fip and named rev.
use Rattle.std.specs.Prelude.{◌≡◌, List, map}
use Rattle.lowering_soundness.specs.fip_trees.declared.groups.Member.{Member}
use Rattle.lowering_soundness.specs.fip_trees.Tree.{Program}
use Rattle.lowering_soundness.specs.tail_groups.Members.{AreMembers}
use Rattle.lowering_soundness.specs.cell_code.Plain.{PlainCode}
use Rattle.derivation_correctness.specs.cell_lower.Shape.{headers, plain_header}

pub record IsHeaded (p : Program) (c : PlainCode) : Type 0 where
  pub types : c.types ≡ p.types
  pub members : List Member
  pub found : AreMembers p.instances members
  pub functions : map plain_header c.functions ≡ headers members p.instances
