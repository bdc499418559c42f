-- How large the code of a program is. The function of an instance with n registers has at most 16 * (n + 16)
-- instructions for each of the instance's places, and 8 label maps (code_size says what the places are).
--
-- The reversal of a list has 7 registers and 17 places, so at most 6,256 instructions and 136 label maps.
use Rattle.std.specs.Prelude.{◌≡◌, ◌≤◌, ℕ, List, Some, length, slice_get}
use Rattle.fip_language.specs.Table.{Table}
use Rattle.fip_trees.specs.declared.groups.Member.{Member}
use Rattle.fip_trees.specs.Tree.{Instance, Program}
use Rattle.cell_code.specs.declared.code.Function.{Function}
use Rattle.lower_parts.specs.lowering_relation.LoweredBodies.{function_of}
use Rattle.lower_parts.specs.code_size.Bounds.{most_for, most_labels}
use Rattle.lower_parts.specs.code_size.Places.{places}
use Rattle.cell_lower.specs.Limits.{registers}

pub record IsSmall (tb : Table) (n : ℕ) (d : Instance) (f : Function) : Type 0 where
  pub few_instructions : length f.instrs.items ≤ most_for n (places tb d)
  pub few_labels : length f.labels.items ≤ most_labels tb d

-- so it is with the function of each instance, whose registers the program's groups tell
abbrev pub AreSmall : Program → List Member → List Function → Type 0
AreSmall p ms fs =
    (g n : ℕ) (d : Instance) (f : Function) → slice_get p.instances g ≡ Some d →
    function_of p.instances g ≡ Some n → slice_get fs n ≡ Some f → IsSmall p.types (registers ms g) d f
