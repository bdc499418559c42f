-- What callers see of a code that was verified: the code, and for each function what it needs of the stack, where it is
-- fip.
use Rattle.std.specs.Prelude.{List, Option}
use Rattle.fip_base.specs.declared.plain.Stack.{Stack}
use Rattle.cell_code.specs.declared.code.Code.{Code}

pub record Checked : Type 0 where
  pub code : Code
  pub stacks : List (Option Stack)
