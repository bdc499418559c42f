-- Nodes as trees with a place in them, and what may still come at each spot.
use Rattle.std.proofs.Common.{◌≡◌, ◌⊎◌, ℕ, suc, ◌+◌, ◌<◌, ◌≤◌, List, [], ◌∷◌, ◌++◌, map, true}
use Rattle.fip_language.specs.declared.limits.TheConstants.{MOST_FIELDS}
use Rattle.derivation_trees.specs.declared.derivation.RuleName.{RuleName}
use Rattle.derivation_trees.specs.declared.derivation.RuleName.TheVariants as R
use Rattle.derivation_trees.specs.declared.derivation.Credit.{Credit}
use Rattle.derivation_trees.specs.Trees.{Tree, Branch, Trees, NoTrees, MoreTrees, Entry, Head, count, flat, flat_all}
use Rattle.derivation_text.specs.declared.spot.Spot.{Spot}
use Rattle.derivation_text.specs.declared.spot.Spot.TheVariants as S
use Rattle.derivation_text.specs.ProofText.{more_variables, variables_text, more_credits, credits_text, tree_text, parts_text, more_parts, lines_text, GREATEST, DEEPEST, AreVariables, AreCredits, IsNode, AreNodes, AreEntries}
use Rattle.derivation_text.specs.Machine.{begins, Building, Made, State, is_match}
use Rattle.derivation_text.proofs.Numbers.{Follow, Want, Going}

-- ---- a tree that is not yet whole

-- whole nodes beside one another; or an open node with the parts that are whole, within what is around it
pub data Zipper : Type 0 where
  Roots : (done : Trees) → Zipper
  Part : (rule : RuleName) (variables : List ℕ) (credits : List Credit) (done : Trees) (outer : Zipper) → Zipper

abbrev pub join : Trees → Trees → Trees
join NoTrees us = us
join (MoreTrees t ts) us = MoreTrees t (join ts us)

abbrev pub snoc : Trees → Tree → Trees
snoc ts t = join ts (MoreTrees t NoTrees)

abbrev pub add : Zipper → Tree → Zipper
add (Roots ds) t = Roots (snoc ds t)
add (Part r vs cs ds o) t = Part r vs cs (snoc ds t) o

abbrev pub close : Zipper → Zipper
close (Roots ds) = Roots ds
close (Part r vs cs ds o) = add o (Branch r vs cs ds)

abbrev pub depth : Zipper → ℕ
depth (Roots ds) = 0
depth (Part r vs cs ds o) = suc (depth o)

abbrev pub open_head : RuleName → List ℕ → List Credit → ℕ → Head
open_head r vs cs n = record { rule = r; variables = vs; credits = cs; parts = n; span = 1 }

-- the nodes in a list, where the innermost open one has n more parts than those that are whole
abbrev pub front : Zipper → ℕ → List Head
front (Roots ds) n = flat_all ds
front (Part r vs cs ds o) n = front o 1 ++ open_head r vs cs (count ds + n) ∷ flat_all ds

abbrev pub made : Zipper → List Head
made z = front z 0

abbrev pub zippers : Building Zipper
zippers = record {
  none = Roots NoTrees;
  depth = depth;
  opened = λ z r vs cs. Part r vs cs NoTrees z;
  closed = close;
  made = made;
}

-- ---- what may still come

abbrev pub made_of : Entry → Made
made_of e = record { instance = e.instance; nodes = flat e.tree }

abbrev pub mades : List Entry → List Made
mades = map made_of

abbrev pub finished : ℕ → Trees → Made
finished i ds = record { instance = i; nodes = flat_all ds }

-- the lines that were read, the instance of this line, and its nodes so far
pub record Place : Type 0 where
  pub lines : List Made
  pub instance : ℕ
  pub nodes : Zipper

-- the lines after this one
abbrev pub Lines : List Made → ℕ → Trees → List ℕ → List Made → Type 0
Lines ls i ds bs x = (es : List Entry) × (bs ≡ 10 ∷ lines_text es) × AreEntries (suc i) es × (x ≡ ls ++ finished i ds ∷ mades es)

-- after the node t, a further part of the innermost open node
abbrev pub Finish : List Made → ℕ → Zipper → Tree → List ℕ → List Made → Type 0
Finish ls i (Roots ds) t bs x = Lines ls i (snoc ds t) bs x
Finish ls i (Part r vs cs ds o) t bs x = (ts : Trees) × (rest : List ℕ) × AreNodes (suc (suc (depth o))) ts × (bs ≡ more_parts ts rest)
    × Finish ls i o (Branch r vs cs (join ds (MoreTrees t ts))) rest x

-- the same where it is among the parts already
abbrev pub After : List Made → ℕ → Zipper → List ℕ → List Made → Type 0
After ls i (Roots ds) bs x = Lines ls i ds bs x
After ls i (Part r vs cs ds o) bs x = (ts : Trees) × (rest : List ℕ) × AreNodes (suc (suc (depth o))) ts × (bs ≡ more_parts ts rest)
    × Finish ls i o (Branch r vs cs (join ds ts)) rest x

-- after the bracket of the innermost open node
abbrev pub AfterHead : List Made → ℕ → Zipper → List ℕ → List Made → Type 0
AfterHead ls i (Roots ds) bs x = Lines ls i ds bs x
AfterHead ls i (Part r vs cs ds o) bs x = (ts : Trees) × (rest : List ℕ) × AreNodes (suc (suc (depth o))) ts × (bs ≡ parts_text ts rest)
    × Finish ls i o (Branch r vs cs (join ds ts)) rest x

abbrev pub BeforeNode : Place → List ℕ → List Made → Type 0
BeforeNode k bs x = (t : Tree) × (rest : List ℕ) × IsNode (suc (depth k.nodes)) t × (bs ≡ tree_text t rest) × Finish k.lines k.instance k.nodes t rest x

abbrev pub HeadRest : Place → RuleName → List ℕ → List Credit → List ℕ → List Made → Type 0
HeadRest k r vs cs bs x = (ts : Trees) × (rest : List ℕ) × AreNodes (suc (suc (depth k.nodes))) ts × (bs ≡ 93 ∷ parts_text ts rest)
    × Finish k.lines k.instance k.nodes (Branch r vs cs ts) rest x

abbrev pub CreditsFrom : Place → RuleName → List ℕ → List Credit → ℕ → List ℕ → List Made → Type 0
CreditsFrom k r vs cs least bs x = (ds : List Credit) × (rest : List ℕ) × AreCredits least ds × (bs ≡ credits_text ds rest) × HeadRest k r vs (cs ++ ds) rest x

abbrev pub MoreCredits : Place → RuleName → List ℕ → List Credit → ℕ → List ℕ → List Made → Type 0
MoreCredits k r vs cs least bs x = (ds : List Credit) × (rest : List ℕ) × AreCredits least ds × (bs ≡ more_credits ds rest) × HeadRest k r vs (cs ++ ds) rest x

abbrev pub VariablesFrom : Place → RuleName → List ℕ → ℕ → List ℕ → List Made → Type 0
VariablesFrom k r vs least bs x = (us : List ℕ) × (rest : List ℕ) × AreVariables least us × (bs ≡ variables_text us (124 ∷ rest)) × CreditsFrom k r (vs ++ us) [] 1 rest x

abbrev pub MoreVariables : Place → RuleName → List ℕ → ℕ → List ℕ → List Made → Type 0
MoreVariables k r vs least bs x = (us : List ℕ) × (rest : List ℕ) × AreVariables least us × (bs ≡ more_variables us (124 ∷ rest)) × CreditsFrom k r (vs ++ us) [] 1 rest x

-- after letters of a rule's name; that of a match may go on
abbrev pub Named : Place → RuleName → List ℕ → List ℕ → List Made → Type 0
Named k r letters bs x = ((rest : List ℕ) × (bs ≡ letters ++ 91 ∷ rest) × VariablesFrom k r [] 0 rest x)
    ⊎ ((rest : List ℕ) × (is_match r ≡ true) × (bs ≡ letters ++ 33 ∷ 91 ∷ rest) × VariablesFrom k R.TakingMatch [] 0 rest x)

-- ---- after numbers

abbrev pub AfterLine : List Made → Follow
AfterLine ls m more x = (rest : List ℕ) × (more ≡ 32 ∷ rest) × BeforeNode (record { lines = ls; instance = m; nodes = Roots NoTrees }) rest x

abbrev pub AfterVariable : Place → RuleName → List ℕ → Follow
AfterVariable k r vs m more x = MoreVariables k r (vs ++ m ∷ []) (suc m) more x

abbrev pub AfterCount : Place → RuleName → List ℕ → List Credit → ℕ → Follow
AfterCount k r vs cs size m more x = MoreCredits k r vs (cs ++ record { size = size; count = m } ∷ []) (suc size) more x

abbrev pub AfterSize : Place → RuleName → List ℕ → List Credit → Follow
AfterSize k r vs cs size more x = (rest : List ℕ) × (more ≡ 58 ∷ rest) × Want 1 GREATEST (AfterCount k r vs cs size) rest x

-- ---- at each spot

abbrev pub at : State Zipper → Place
at s = record { lines = s.lines; instance = s.instance; nodes = s.nodes }

abbrev pub Residual : Spot → State Zipper → List ℕ → List Made → Type 0
Residual S.Line s bs x = (es : List Entry) × AreEntries s.least es × (bs ≡ lines_text es) × (x ≡ s.lines ++ mades es)
Residual S.LineNumber s bs x = Going s.number s.least GREATEST (AfterLine s.lines) bs x
Residual S.Rule s bs x = BeforeNode (at s) bs x
Residual S.Name s bs x = Named (at s) s.rule s.letters bs x
Residual S.Variables s bs x = VariablesFrom (at s) s.rule s.variables s.least bs x
Residual S.Variable s bs x = Want s.least GREATEST (AfterVariable (at s) s.rule s.variables) bs x
Residual S.VariableNumber s bs x = Going s.number s.least GREATEST (AfterVariable (at s) s.rule s.variables) bs x
Residual S.Credits s bs x = CreditsFrom (at s) s.rule s.variables s.credits s.least bs x
Residual S.Size s bs x = Want s.least MOST_FIELDS (AfterSize (at s) s.rule s.variables s.credits) bs x
Residual S.SizeNumber s bs x = Going s.number s.least MOST_FIELDS (AfterSize (at s) s.rule s.variables s.credits) bs x
Residual S.Count s bs x = Want s.least GREATEST (AfterCount (at s) s.rule s.variables s.credits s.size) bs x
Residual S.CountNumber s bs x = Going s.number s.least GREATEST (AfterCount (at s) s.rule s.variables s.credits s.size) bs x
Residual S.Head s bs x = AfterHead s.lines s.instance s.nodes bs x
Residual S.Node s bs x = After s.lines s.instance s.nodes bs x

abbrev pub Completes : State Zipper → List ℕ → List Made → Type 0
Completes s bs x = Residual s.spot s bs x

-- ---- states that are met

abbrev pub IsPart : Zipper → Type 0
IsPart (Roots ds) = ⊥
IsPart (Part r vs cs ds o) = Unit {0}

abbrev pub Fit : Spot → State Zipper → Type 0
Fit S.Line s = Unit {0}
Fit S.LineNumber s = begins s.number s.least GREATEST ≡ true
Fit S.Rule s = depth s.nodes < DEEPEST
Fit S.Name s = depth s.nodes < DEEPEST
Fit S.Variables s = depth s.nodes < DEEPEST
Fit S.Variable s = (depth s.nodes < DEEPEST) × (s.least ≤ GREATEST)
Fit S.VariableNumber s = (depth s.nodes < DEEPEST) × (begins s.number s.least GREATEST ≡ true)
Fit S.Credits s = depth s.nodes < DEEPEST
Fit S.Size s = (depth s.nodes < DEEPEST) × (s.least ≤ MOST_FIELDS)
Fit S.SizeNumber s = (depth s.nodes < DEEPEST) × (begins s.number s.least MOST_FIELDS ≡ true)
Fit S.Count s = (depth s.nodes < DEEPEST) × (s.least ≤ GREATEST)
Fit S.CountNumber s = (depth s.nodes < DEEPEST) × (begins s.number s.least GREATEST ≡ true)
Fit S.Head s = IsPart s.nodes × (depth s.nodes ≤ DEEPEST)
Fit S.Node s = depth s.nodes < DEEPEST

abbrev pub Good : State Zipper → Type 0
Good s = Fit s.spot s
