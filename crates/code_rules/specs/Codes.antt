-- What the rules of sound code read of a code: what the numbers of functions mean, and what a label map says.
use Rattle.std.specs.Prelude.{ℕ, Bool, false, List, [], ◌∷◌, Option, Some, None, ◌==◌}
use Rattle.std.specs.Prelude.{if◌then◌else◌, not}
use Rattle.cell_code.specs.fip_base.declared.plain.Param.{Param}
use Rattle.cell_code.specs.declared.kind.Kind.{Kind}
use Rattle.cell_code.specs.Plain.{LabelMap, PlainFunction, PlainCode, function_at}
pub use Rattle.cell_code.specs.CodeKinds.{is_fip, code_kind, fun_kind}

abbrev pub params_of : Option PlainFunction → List Param
params_of None = []
params_of (Some f) = f.params

-- the parameters of function g; a number that is no function's has none
abbrev pub params : PlainCode → ℕ → List Param
params c g = params_of (function_at c g)

abbrev pub credits_of : Option PlainFunction → List ℕ
credits_of None = []
credits_of (Some f) = f.credits

-- the sizes of the credits that a caller of function g hands over
abbrev pub credits : PlainCode → ℕ → List ℕ
credits c g = credits_of (function_at c g)

abbrev pub is_weak : Option PlainFunction → Bool
is_weak None = false
is_weak (Some f) = not (is_fip f.kind)

-- Function g is there, and isn't fip.
abbrev pub is_weaker : PlainCode → ℕ → Bool
is_weaker c g = is_weak (function_at c g)

-- what the label map of an instruction says, where it has one
abbrev pub label_at : List LabelMap → ℕ → Option (List Kind)
label_at [] i = None
label_at (m ∷ ms) i = if m.at == i then Some m.kinds else label_at ms i
