-- For private contracts and proofs alone: which function of its code a program's instance has, and what runs of the
-- functions hold of the stack. The instances that aren't plain have functions, in their order.
--
-- Of a program with the roots rev, which is fip, dup, which is plain, and len, which is fbip, rev has function 0, dup has
-- none and len has function 1.
use Rattle.std.specs.Prelude.{◌≡◌, ℕ, suc, ◌+◌, List, [], ◌∷◌, ◌++◌, Option, Some, None, bytes_eq, if◌then◌else◌}
use Rattle.fip_language.specs.declared.FunKind.{FunKind}
use Rattle.fip_language.specs.declared.rule.Rule.TheVariants.{E70, E71}
use Rattle.fip_language.specs.Kinds.{is_ruled}
use Rattle.fip_base.specs.declared.plain.Stack.{Stack}
use Rattle.fip_base.specs.declared.refusal.Refusal.{Refusal}
use Rattle.fip_trees.specs.declared.groups.Member.{Member}
use Rattle.fip_trees.specs.Tree.{Instance}
use Rattle.command_source.specs.Roots.{held}
use Rattle.command_source.specs.Wanted.{of_entry}

-- what a run of an instance holds of the stack, where it has a function
abbrev pub stack_if : Instance → Option Stack → List (Option Stack)
stack_if d stack = if is_ruled d.kind then stack ∷ [] else []

-- what runs of the functions of these instances, of numbers from n on, hold of the stack
abbrev pub function_stacks : List Member → ℕ → List Instance → List (Option Stack)
function_stacks ms n [] = []
function_stacks ms n (d ∷ ds) = stack_if d (held ms n) ++ function_stacks ms (suc n) ds

-- how many functions an instance has
abbrev pub functions_of : Instance → ℕ
functions_of d = if is_ruled d.kind then 1 else 0

-- the function of an instance of this kind, where n functions are before it
abbrev pub function_if : FunKind → ℕ → Option ℕ
function_if kind n = if is_ruled kind then Some n else None

-- the function of the first root of a name, if there is such a root, and if it has one; n functions are before these
abbrev pub root_function : ℕ → List ℕ → List Instance → Option (Option ℕ)
root_function n name [] = None
root_function n name (d ∷ ds) =
    if d.root then if bytes_eq d.name name then Some (function_if d.kind n)
    else root_function (n + functions_of d) name ds else root_function (n + functions_of d) name ds

-- why there is no function
abbrev pub MissesFunction : Option (Option ℕ) → List ℕ → Refusal → Type 0
MissesFunction None name r = r ≡ of_entry E70 name
MissesFunction (Some None) name r = r ≡ of_entry E71 name
MissesFunction (Some (Some n)) name r = ⊥
