-- It serves the proof of what `check` does: trees by the places of their roots in a list of nodes.
use Rattle.std.specs.Prelude.{◌≡◌, ◌<◌, ◌≤◌, ◌-◌, ℕ, ◌+◌, Bool, true, false, List, length, get_or, slice_get}
use Rattle.derivation_trees.specs.declared.derivation.Node.{Node}
use Rattle.ownership_calculus.specs.Terms.{Item, Own, Credit as Size, given}
use Rattle.derivation_check.specs.Owned.{Rising, IsOwned, AreOwned, is_weaken, owned, root, roots}
use Rattle.derivation_trees.specs.Trees.{Tree, Missing, Branch, Trees, NoTrees, MoreTrees, heads, span_of, row, tree_at}

abbrev pub at : List Node → ℕ → Tree
at ns i = tree_at (heads ns) i

-- n trees, the first one at place i
abbrev pub parts : List Node → ℕ → ℕ → Trees
parts ns i n = row (tree_at (heads ns)) (heads ns) i n

-- the place after the tree at place i
abbrev pub following : List Node → ℕ → ℕ
following ns i = i + span_of (slice_get (heads ns) i)

-- a node at place i, with its parts
abbrev pub branch : List Node → ℕ → Node → Tree
branch ns i n = Branch n.rule n.variables.items n.credits.items (parts ns (i + 1) n.parts)

-- numbers that rise
abbrev pub IsRising : List ℕ → Type 0
IsRising xs = (n : ℕ) × (d : ℕ) × Rising n d xs

abbrev pub flag : Bool → ℕ
flag true = 1
flag false = 0

-- of the numbers at 256 places of the whole, from start on, it is known how often each was counted
abbrev pub Marked : List Bool → ℕ → List ℕ → (ℕ → ℕ) → Type 0
Marked seen start whole c =
    (k : ℕ) → start ≤ k → k < start + 256 → k < length whole → flag (get_or seen (k - start) false)
    ≡ c (get_or whole k 0)

-- a node whose parts begin at place j
abbrev pub node_with : List Node → ℕ → Node → Tree
node_with ns j n = Branch n.rule n.variables.items n.credits.items (parts ns j n.parts)

abbrev pub weakens : Tree → Bool
weakens Missing = false
weakens (Branch r xs cs ts) = is_weaken r

-- t is the part of a node that weakens
abbrev pub Leaves : Bool → ℕ → Tree → Tree → Type 0
Leaves fip d Missing t = ⊥
Leaves fip d (Branch r xs cs ts) t =
    (is_weaken r ≡ true) × (fip ≡ false) × (ts ≡ MoreTrees t NoTrees) × IsOwned d t
    × ((i : Item) → root t i ≤ owned xs cs i)

-- what some trees have is just this
abbrev pub Parted : ℕ → List ℕ → (ℕ → ℕ) → Trees → Type 0
Parted d xs n ts =
    AreOwned d ts × ((x : ℕ) → given x xs ≡ roots ts (Own x)) × ((k : ℕ) → n k ≡ roots ts (Size k))

-- a node whose parts are owned, and which has what they have together and these
abbrev pub Split : ℕ → Tree → (Item → ℕ) → Type 0
Split d Missing these = ⊥
Split d (Branch r xs cs ts) these = AreOwned d ts × ((i : Item) → owned xs cs i ≡ these i + roots ts i)
