-- What is known of the registers where a function is entered. The parameters are first: one of a scalar type is a
-- scalar, another is owned with any constructor, or, where it is borrowed, lies in a tree of a frame below. The credits
-- of the header follow, and all other registers are Gone.
use Rattle.std.specs.Prelude.{ℕ, zero, suc, ◌+◌, ◌-◌, List, [], ◌∷◌, ◌++◌, None, length, map, if◌then◌else◌}
use Rattle.cell_code.specs.fip_language.Table.{Table}
use Rattle.cell_code.specs.fip_base.declared.plain.Param.{Param}
use Rattle.cell_code.specs.declared.kind.Kind.{Kind}
use Rattle.cell_code.specs.declared.kind.Kind.TheVariants.{Gone, Scalar, Owned, Lent, Credit}
use Rattle.cell_code.specs.Plain.{PlainFunction, PlainCode}
use Rattle.code_rules.specs.Types.{is_scalar_type, all}

abbrev pub param_kind : Table → Param → Kind
param_kind w p =
    if is_scalar_type w p.ty then Scalar p.ty else
    (if p.lent then Lent p.ty (all w p.ty) None None else Owned p.ty (all w p.ty))

abbrev pub gones : ℕ → List Kind
gones zero = []
gones (suc n) = Gone ∷ gones n

abbrev pub entry : PlainCode → PlainFunction → List Kind
entry c f =
    (map (param_kind c.types) f.params ++ map Credit f.credits)
    ++ gones (f.registers - (length f.params + length f.credits))
