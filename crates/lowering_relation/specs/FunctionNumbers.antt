-- Which function of a code is that of an instance: fip and fbip instances have the functions 0, 1 and so on, in their
-- order, and a plain one has none. Of instances that are fip, plain and fbip the functions are 0, none and 1.
use Rattle.std.specs.Prelude.{ℕ, zero, suc, Bool, true, false, List, [], ◌∷◌, Option, Some, None}
use Rattle.tree_semantics.specs.fip_language.declared.FunKind.{FunKind}
use Rattle.tree_semantics.specs.fip_language.declared.FunKind.TheVariants.{Fip, Fbip, Fun}
use Rattle.credit_check.specs.fip_trees.Tree.{Instance}

abbrev pub has_function : FunKind → Bool
has_function Fip = true
has_function Fbip = true
has_function Fun = false

abbrev pub one_more : Bool → Option ℕ → Option ℕ
one_more b None = None
one_more false (Some f) = Some f
one_more true (Some f) = Some (suc f)

abbrev pub if_function : Bool → Option ℕ
if_function true = Some 0
if_function false = None

-- the number of the function of an instance: instances that aren't plain have one, in their order
abbrev pub function_of : List Instance → ℕ → Option ℕ
function_of [] g = None
function_of (d ∷ ds) zero = if_function (has_function d.kind)
function_of (d ∷ ds) (suc g) = one_more (has_function d.kind) (function_of ds g)
