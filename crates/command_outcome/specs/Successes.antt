-- The texts of commands that succeed.
use Rattle.std.specs.Prelude.{ℕ, List, [], ◌∷◌, ◌++◌, Option, None, Some, codes}
use Rattle.std.specs.Fmt.{decimal, signed_decimal}
use Rattle.fip_base.specs.fip_language.declared.FunKind.{FunKind}
use Rattle.fip_base.specs.fip_language.declared.FunKind.TheVariants.{Fip, Fbip, Fun}
use Rattle.fip_base.specs.declared.plain.Stack.{Stack}
use Rattle.command_outcome.specs.declared.success.Ends.{Ends}
use Rattle.command_outcome.specs.Texts.{line_end}

abbrev pub kind_name : FunKind → List ℕ
kind_name Fip = codes "fip"
kind_name Fbip = codes "fbip"
kind_name Fun = codes "fun"

-- the mark of a credit of a size
abbrev pub credit_text : ℕ → List ℕ
credit_text size = codes " +" ++ decimal size

abbrev pub credits_text : List ℕ → List ℕ
credits_text [] = []
credits_text (size ∷ sizes) = credit_text size ++ credits_text sizes

-- what a run holds of the stack at the most, where that is known
abbrev pub held_text : Option Stack → List ℕ
held_text None = []
held_text (Some stack) = codes " stack " ++ (decimal stack.frames
    ++ (codes " frames " ++ (decimal stack.words ++ codes " words")))

-- the line of a function, as in `push fip +2 stack 0 frames 6 words`
abbrev pub function_text : List ℕ → FunKind → List ℕ → Option Stack → List ℕ
function_text name kind credits stack = name
    ++ (codes " " ++ (kind_name kind ++ (credits_text credits ++ (held_text stack ++ line_end))))

-- the line that a program is derived
abbrev pub derived_text : List ℕ
derived_text = codes "derived\n"

-- the least and the greatest key
abbrev pub end_text : Option Ends → List ℕ
end_text None = codes "least none\ngreatest none\n"
end_text (Some ends) = codes "least " ++ (signed_decimal ends.least
    ++ (codes "\ngreatest " ++ (signed_decimal ends.greatest ++ line_end)))

-- the lines of a tree that was made of keys: how many keys and nodes, the least and the greatest key
abbrev pub tree_text : ℕ → ℕ → Option Ends → List ℕ
tree_text keys nodes ends = codes "keys " ++ (decimal keys
    ++ (codes "\nnodes " ++ (decimal nodes ++ (codes "\n" ++ end_text ends))))
