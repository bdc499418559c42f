-- The types of parameters, in their order.
use Rattle.std.specs.Prelude.{ℕ, List, map}
use Rattle.fip_base.specs.declared.plain.Param.{Param}

-- the types of parameters
abbrev pub types_of : List Param → List ℕ
types_of params = map (λ (p : Param). p.ty) params
