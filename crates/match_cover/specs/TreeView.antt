-- The trees of the code.
use Rattle.std.specs.Prelude.{◌≡◌, ℕ, suc, if◌then◌else◌, ◌+◌, ◌<◌, ◌≤◌, List, [], ◌∷◌, Option, Some, None, slice_get}
use Rattle.fip_language.specs.declared.limits.TheConstants.{MOST_BRANCHES}
use Rattle.match_knowledge.specs.declared.verdicts.Verdict.TheVariants.{Asks}
use Rattle.fip_language.specs.Values.{Value}
use Rattle.fip_language.specs.Table.{Table, HasType}
use Rattle.match_knowledge.specs.Patterns.{Pattern, Patterns, NoPatterns, MorePatterns}
use Rattle.match_knowledge.specs.Known.{Known, Open, Knowns, NoKnowns, MoreKnowns, compare, is_asks}
use Rattle.match_knowledge.specs.Left.{IsMatch}
use Rattle.match_cover.specs.DecisionTree.{Decision, Leaf, Branch, Done, Split, split_at, first_live, branches, tree_at}
use Rattle.match_cover.specs.DecisionTree.{pick, chosen, TestsOnce}
use Rattle.match_cover.specs.declared.trees.Tree.{Tree}
use Rattle.match_cover.specs.declared.trees.Tree.TheOpen as D
use Rattle.match_cover.specs.declared.trees.Tree.TheFolds.{fold-Tree}
use Rattle.match_cover.specs.declared.trees.First.{First}
use Rattle.match_cover.specs.declared.trees.First.TheVariants as F
use Rattle.match_cover.specs.declared.trees.Grown.{Grown}

abbrev pub tree_step : D.Tree-F Decision → Decision
tree_step (D.Leaf i) = Leaf i
tree_step (D.Branch at q a b) = Branch at.items q a.value b.value

abbrev pub tree_view : Tree → Decision
tree_view = fold-Tree Decision tree_step

-- row i asks, and it is the first that isn't ruled out
abbrev pub IsSplit : List Pattern → Known → ℕ → Type 0
IsSplit rows k i = (p : Pattern) × (slice_get rows i ≡ Some p) × (first_live 0 rows k ≡ Split p) × (compare p k ≡ Asks)

abbrev pub IsFirst : List Pattern → Known → First → Type 0
IsFirst rows k (F.Done i) = first_live 0 rows k ≡ Done i
IsFirst rows k (F.Split i) = IsSplit rows k i

-- the tree where it has at most so many branches, and how many are left
abbrev pub IsGrown : Table → List Pattern → Known → ℕ → Option Grown → Type 0
IsGrown tb rows k budget None = budget < branches (tree_at tb rows k)
IsGrown tb rows k budget (Some g) =
    (tree_view g.tree ≡ tree_at tb rows k) × (g.left + branches (tree_at tb rows k) ≡ budget)

-- the branch of two trees at a pattern's first open test
abbrev pub IsSplitTree : Pattern → Known → Tree → Grown → Grown → Type 0
IsSplitTree p k held failed g = tree_view g.tree ≡ split_at p k (tree_view held) (tree_view failed.tree)

-- the first of the rows from i on is the first of all
abbrev pub SameFirst : List Pattern → Known → ℕ → List Pattern → Type 0
SameFirst all k i rows = first_live i rows k ≡ first_live 0 all k

-- the position, where the first j fields were passed
abbrev pub raise : ℕ → List ℕ → List ℕ
raise j [] = []
raise j (i ∷ is) = (j + i) ∷ is

-- how many fields are before the first that asks (all, where none does)
abbrev pub asking : Patterns → Knowns → ℕ
asking NoPatterns ks = 0
asking (MorePatterns p ps) NoKnowns = 0
asking (MorePatterns p ps) (MoreKnowns k ks) = if is_asks (compare p k) then 0 else suc (asking ps ks)

-- The tree is the one that the rules give and has at most 1,024 branches; it picks, for each value of the type, the
-- first clause that matches, and no path tests a position twice against the same question.
pub record IsTree (tb : Table) (t : ℕ) (rows : List Pattern) (d : Decision) : Type 0 where
  pub written : d ≡ tree_at tb rows (Open [])
  pub few : branches d ≤ MOST_BRANCHES
  pub picks : (v : Value) → HasType tb t v → pick d v ≡ chosen 0 rows v
  pub once : TestsOnce [] d

-- there is none exactly where the tree that the rules give has more than 1,024 branches
abbrev pub IsDecision : Table → ℕ → List Pattern → Option Tree → Type 0
IsDecision tb t rows None = MOST_BRANCHES < branches (tree_at tb rows (Open []))
IsDecision tb t rows (Some d) = IsTree tb t rows (tree_view d)

-- the answer for the match with these rows
abbrev pub AnswersTree : Table → List Pattern → Option Tree → Type 0
AnswersTree tb rows o = (t : ℕ) → IsMatch tb t rows → IsDecision tb t rows o
