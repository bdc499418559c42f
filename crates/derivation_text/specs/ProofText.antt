-- The text of a derivation: a line for each of its entries. The line of the entry of instance 3, whose tree is a node
-- of the rule CALL that uses up the variables 0 and 4 and two credits of size 1, and whose one part is a node of the
-- rule VAR that uses up the variable 4, is
--
--     3 CALL[0 4|1:2](VAR[4|])
--
-- and after it a line feed. A derivation has one text. It is read again where the numbers of its instances, of each
-- node's variables and of each node's sizes rise and are within their bounds, and no node lies too deep.
--
-- Each function here gives the text of something, and after it the text rest.
use Rattle.std.specs.Prelude.{◌≡◌, ◌≤◌, ℕ, suc, codes, List, [], ◌∷◌, ◌++◌}
use Rattle.std.specs.Fmt.{decimal}
use Rattle.fip_language.specs.declared.limits.TheConstants.{MOST_FIELDS}
use Rattle.derivation_trees.specs.declared.derivation.RuleName.{RuleName}
use Rattle.derivation_trees.specs.declared.derivation.RuleName.TheVariants as R
use Rattle.derivation_trees.specs.declared.derivation.Credit.{Credit}
use Rattle.derivation_trees.specs.Derivations.{Tree, Missing, Branch, Trees, NoTrees, MoreTrees, Entry}

-- the name of a rule
abbrev pub rule_text : RuleName → List ℕ
rule_text R.Variable = codes "VAR"
rule_text R.Scalar = codes "SCALAR"
rule_text R.Tuple = codes "TUPLE"
rule_text R.Atom = codes "ATOM"
rule_text R.Reuse = codes "REUSE"
rule_text R.Let = codes "LET"
rule_text R.Call = codes "CALL"
rule_text R.Match = codes "MATCH"
rule_text R.TakingMatch = codes "MATCH!"
rule_text R.Weaken = codes "WEAKEN"

-- further variables, each after a space
abbrev pub more_variables : List ℕ → List ℕ → List ℕ
more_variables [] rest = rest
more_variables (v ∷ vs) rest = 32 ∷ decimal v ++ more_variables vs rest

-- variables, with a space between them
abbrev pub variables_text : List ℕ → List ℕ → List ℕ
variables_text [] rest = rest
variables_text (v ∷ vs) rest = decimal v ++ more_variables vs rest

-- a size, a colon and a count
abbrev pub credit_text : Credit → List ℕ → List ℕ
credit_text c rest = decimal c.size ++ (58 ∷ (decimal c.count ++ rest))

abbrev pub more_credits : List Credit → List ℕ → List ℕ
more_credits [] rest = rest
more_credits (c ∷ cs) rest = 32 ∷ credit_text c (more_credits cs rest)

abbrev pub credits_text : List Credit → List ℕ → List ℕ
credits_text [] rest = rest
credits_text (c ∷ cs) rest = credit_text c (more_credits cs rest)

abbrev mutual
  -- a node: its rule, in brackets its variables and its credits with a bar between them, and its parts
  pub tree_text : Tree → List ℕ → List ℕ
  tree_text Missing rest = rest
  tree_text (Branch rule vs cs ts) rest =
      rule_text rule ++ 91 ∷ variables_text vs (124 ∷ credits_text cs (93 ∷ parts_text ts rest))

  -- parts in parentheses, with a comma between them; nothing where there are none
  pub parts_text : Trees → List ℕ → List ℕ
  parts_text NoTrees rest = rest
  parts_text (MoreTrees t ts) rest = 40 ∷ tree_text t (more_parts ts rest)

  pub more_parts : Trees → List ℕ → List ℕ
  more_parts NoTrees rest = 41 ∷ rest
  more_parts (MoreTrees t ts) rest = 44 ∷ tree_text t (more_parts ts rest)

-- an instance's number, a space, its node and a line feed
abbrev pub line_text : Entry → List ℕ → List ℕ
line_text e rest = decimal e.instance ++ 32 ∷ tree_text e.tree (10 ∷ rest)

-- all lines
abbrev pub lines_text : List Entry → List ℕ
lines_text [] = []
lines_text (e ∷ es) = line_text e (lines_text es)

-- The greatest number that is in a text.
abbrev pub GREATEST : ℕ
GREATEST = 4294967295

-- Variables that rise, from this number on.
abbrev pub AreVariables : ℕ → List ℕ → Type 0
AreVariables least [] = Unit {0}
AreVariables least (v ∷ vs) = (least ≤ v) × (v ≤ GREATEST) × AreVariables (suc v) vs

-- Credits whose sizes rise, from this size on. Of each size there is at least one.
abbrev pub AreCredits : ℕ → List Credit → Type 0
AreCredits least [] = Unit {0}
AreCredits least (c ∷ cs) =
    (least ≤ c.size) × (c.size ≤ MOST_FIELDS) × (1 ≤ c.count) × (c.count ≤ GREATEST) × AreCredits (suc c.size) cs

-- How deep a node may lie; the root of a line lies 1 deep.
abbrev pub DEEPEST : ℕ
DEEPEST = 10000

abbrev mutual
  -- a node that lies so deep, with all below it
  pub IsNode : ℕ → Tree → Type 0
  IsNode depth Missing = ⊥
  IsNode depth (Branch rule vs cs ts) =
      (depth ≤ DEEPEST) × AreVariables 0 vs × AreCredits 1 cs × AreNodes (suc depth) ts

  pub AreNodes : ℕ → Trees → Type 0
  AreNodes depth NoTrees = Unit {0}
  AreNodes depth (MoreTrees t ts) = IsNode depth t × AreNodes depth ts

-- Entries whose instances' numbers rise, from this number on.
abbrev pub AreEntries : ℕ → List Entry → Type 0
AreEntries least [] = Unit {0}
AreEntries least (e ∷ es) =
    (least ≤ e.instance) × (e.instance ≤ GREATEST) × IsNode 1 e.tree × AreEntries (suc e.instance) es

-- The bytes are the text of a derivation that can be read.
abbrev pub IsProofText : List ℕ → List Entry → Type 0
IsProofText bytes es = AreEntries 0 es × (bytes ≡ lines_text es)
