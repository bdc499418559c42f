-- The input of the run that makes a tree of a seed's keys, and the lines that are printed of it.
--
-- The input is three lines: the list of the keys, a list of as many pads Pad4(0, 0, 0, 0), and Leaf. The keys are the
-- numbers of the seed, as for the turns of tasks. For the seed 1 and one key they are `Cons(1103527590, Nil)`,
-- `Cons(Pad4(0, 0, 0, 0), Nil)` and `Leaf`; and of Node(Black, Leaf, 1103527590, Leaf) the lines `keys 1`, `nodes 1`,
-- `least 1103527590` and `greatest 1103527590` are printed.
use Rattle.std.specs.Prelude.{ℕ, zero, suc, ℤ, List, [], ◌∷◌, ◌++◌, length, codes, int_le}
use Rattle.std.specs.Prelude.{Option, Some, None, if◌then◌else◌}
use Rattle.std.specs.Fmt.{decimal}
use Rattle.fip_language.specs.Values.{Value, Int, Node, Values, End, More}
use Rattle.command_outcome.specs.Successes.{tree_text}
use Rattle.command_outcome.specs.declared.success.Ends.{Ends}
use Rattle.task_semantics.specs.Draws.{numbers}

-- ---- its input

-- `, ` is after each of these items, and `Cons(` before it; then `Nil` and as many `)`
abbrev pub closing : ℕ → List ℕ
closing zero = codes "\n"
closing (suc n) = codes ")" ++ closing n

abbrev pub keys_line : List ℕ → ℕ → List ℕ
keys_line [] n = codes "Nil" ++ closing n
keys_line (k ∷ ks) n = codes "Cons(" ++ (decimal k ++ (codes ", " ++ keys_line ks (suc n)))

abbrev pub pads_line : ℕ → ℕ → List ℕ
pads_line zero n = codes "Nil" ++ closing n
pads_line (suc m) n = codes "Cons(Pad4(0, 0, 0, 0), " ++ pads_line m (suc n)

abbrev pub gen_input : ℕ → ℕ → List ℕ
gen_input seed count = keys_line (numbers count seed) 0 ++ (pads_line count 0 ++ codes "Leaf\n")

-- ---- the nodes of a tree

-- the keys of its nodes, each before those of the nodes below it; a node has a color, a tree, a key and a tree
abbrev pub keys_of : Value → List ℤ
keys_of (Node c (More color (More left (More (Int k) (More right End))))) = k ∷ (keys_of left ++ keys_of right)
keys_of v = []

-- the ends of these keys, with one key more
abbrev pub with_key : ℤ → Option Ends → Ends
with_key k None = record { least = k; greatest = k }
with_key k (Some e) = record {
  least = if int_le k e.least then k else e.least;
  greatest = if int_le e.greatest k then k else e.greatest;
}

abbrev pub ends_of : List ℤ → Option Ends
ends_of [] = None
ends_of (k ∷ ks) = Some (with_key k (ends_of ks))

-- the lines, by how many keys were given and by those of the nodes
abbrev pub lines_of_keys : ℕ → List ℤ → List ℕ
lines_of_keys count keys = tree_text count (length keys) (ends_of keys)

abbrev pub lines_of_tree : ℕ → Value → List ℕ
lines_of_tree count tree = lines_of_keys count (keys_of tree)

-- the tree is the first of the results
abbrev pub keys_of_first : Values → List ℤ
keys_of_first End = []
keys_of_first (More tree vs) = keys_of tree

abbrev pub lines_of_results : ℕ → Values → List ℕ
lines_of_results count results = lines_of_keys count (keys_of_first results)
