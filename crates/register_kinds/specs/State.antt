-- What the registers of a function are seen as: the kinds that are known of them, and the label maps of the function,
-- which stay as they are. `lent` and `reached` are what this crate alone keeps: the registers that a step looks at,
-- and, while a cell is taken apart, the heirs that they reach.
use Rattle.std.specs.Prelude.{ℕ, Bool, List, [], drop, length, Option, None, option_and_then, ◌+◌, ◌==◌}
use Rattle.std.specs.Prelude.{if◌then◌else◌}
use Rattle.kind_domain.specs.fip_language.Table.{Table}
use Rattle.kind_domain.specs.fip_base.declared.plain.Param.{Param}
use Rattle.kind_domain.specs.cell_code.declared.kind.Kind.{Kind}
use Rattle.kind_domain.specs.cell_code.Plain.{LabelMap, PlainCode}
use Rattle.kind_domain.specs.code_rules.Handing.{pass_all, hand_all, lend_all, kept_if}

pub record RegisterState : Type 0 where
  pub kinds : List Kind
  pub maps : List LabelMap
  pub lent : List ℕ
  pub reached : List (Option ℕ)

-- A code with these types. What a function's header and entry mean depends on no more of a code.
abbrev pub of_types : Table → PlainCode
of_types w = record { types = w; functions = [] }

-- What is left behind the arguments of a call of a function with these parameters and credits, where they fit: the same
-- as `arguments`, which looks the function up.
abbrev pub handed : Table → Bool → List Kind → List Param → List ℕ → List ℕ → Option (List Kind)
handed w tail ks ps cs rs =
    if length rs == length ps + length cs then
    option_and_then (λ left. kept_if (lend_all w tail left ps rs) left)
    (option_and_then (λ left. hand_all left cs (drop (length ps) rs)) (pass_all w ks ps rs))
    else None
