-- The two questions on a function's kind that the rules ask.
use Rattle.std.specs.Prelude.{Bool, true, false}
use Rattle.fip_language.specs.declared.FunKind.{FunKind}
use Rattle.fip_language.specs.declared.FunKind.TheVariants.{Fip, Fbip, Fun}

-- it makes no cell and frees none
abbrev pub is_fip : FunKind → Bool
is_fip Fip = true
is_fip Fbip = false
is_fip Fun = false

-- the rules of ownership and credits speak of it: fip and fbip functions
abbrev pub is_ruled : FunKind → Bool
is_ruled Fip = true
is_ruled Fbip = true
is_ruled Fun = false
