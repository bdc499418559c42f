-- The code of a function is fip just where the function is.
use Rattle.std.proofs.Common.{refl, ◌≡◌}
use Rattle.fip_base.specs.fip_language.declared.FunKind.{FunKind}
use Rattle.fip_base.specs.fip_language.declared.FunKind.TheVariants.{Fip, Fbip, Fun}
use Rattle.fip_base.specs.fip_language.Kinds as K
use Rattle.cell_code.specs.CodeKinds.{is_fip, code_kind}

pub code_is_fip : (k : FunKind) → is_fip (code_kind k) ≡ K.is_fip k
code_is_fip Fip = refl
code_is_fip Fbip = refl
code_is_fip Fun = refl
