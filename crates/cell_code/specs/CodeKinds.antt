-- The kind of a function that has code: fip, or fbip. A function of the language that is fip has fip code; of the others
-- those that have code have fbip code.
use Rattle.std.specs.Prelude.{Bool, true, false, if◌then◌else◌}
use Rattle.fip_base.specs.fip_language.declared.FunKind.{FunKind}
use Rattle.fip_base.specs.fip_language.declared.FunKind.TheVariants as K
use Rattle.fip_base.specs.fip_language.Kinds as kinds
use Rattle.cell_code.specs.declared.code.CodeKind.{CodeKind}
use Rattle.cell_code.specs.declared.code.CodeKind.TheVariants.{Fip, Fbip}

-- it makes no cell and frees none
abbrev pub is_fip : CodeKind → Bool
is_fip Fip = true
is_fip Fbip = false

-- the kind of the code of a function of this kind
abbrev pub code_kind : FunKind → CodeKind
code_kind k = if kinds.is_fip k then Fip else Fbip

-- the kind of the language that a kind of code is
abbrev pub fun_kind : CodeKind → FunKind
fun_kind Fip = K.Fip
fun_kind Fbip = K.Fbip
