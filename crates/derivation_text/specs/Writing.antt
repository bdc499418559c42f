-- It serves the proof of what write_derivation gives: the text of nodes that are in a list, where for each open node
-- the number of its parts that are still to come is kept.
use Rattle.std.specs.Prelude.{ℕ, ◌-◌, nat_lt, if◌then◌else◌, List, [], ◌∷◌, ◌++◌}
use Rattle.derivation_trees.specs.Trees.{Head}
use Rattle.derivation_text.specs.ProofText.{rule_text, variables_text, credits_text}

-- a node without its parts
abbrev pub head_text : Head → List ℕ
head_text h = rule_text h.rule ++ 91 ∷ variables_text h.variables (124 ∷ credits_text h.credits (93 ∷ []))

-- After a node, by the open nodes' numbers, the innermost first: the comma before a further part, or the ends of
-- nodes.
unfoldable pub ends_text : List ℕ → List ℕ
ends_text [] = []
ends_text (c ∷ cs) = if nat_lt 1 c then 44 ∷ [] else 41 ∷ ends_text cs

-- the numbers then
unfoldable pub after_ends : List ℕ → List ℕ
after_ends [] = []
after_ends (c ∷ cs) = if nat_lt 1 c then (c - 1) ∷ cs else after_ends cs

unfoldable pub nodes_text : List ℕ → List Head → List ℕ
nodes_text cs [] = []
nodes_text cs (h ∷ hs) =
    head_text h ++ (if nat_lt 0 h.parts then 40 ∷ nodes_text (h.parts ∷ cs) hs
    else ends_text cs ++ nodes_text (after_ends cs) hs)

-- the last first
unfoldable pub turned : List ℕ → List ℕ
turned [] = []
turned (c ∷ cs) = turned cs ++ c ∷ []
