-- Texts written one after the other.
use Rattle.std.proofs.Common.{◌≡◌, ℕ, suc, ◌-◌, ◌<◌, List, [], ◌∷◌, ◌++◌, refl, sym, ap, ap₂, ◌∙◌, append_assoc, arith}
use Rattle.std.specs.Prelude.{nat_lt}
use Rattle.std.specs.Fmt.{decimal}
use Rattle.std.proofs.lemmas.Bool.{lt-ltb, le-ltb}
use Rattle.std.proofs.lemmas.List.{append-nil}
use Rattle.derivation_trees.specs.declared.derivation.Credit.{Credit}
use Rattle.derivation_trees.specs.declared.derivation.Line.{Line}
use Rattle.derivation_trees.specs.Trees.{Tree, Missing, Branch, Trees, NoTrees, MoreTrees, Head, heads, count, size_all, flat, flat_all, entry}
use Rattle.derivation_trees.specs.WholeTrees.{IsWhole, AreWhole, IsTree}
use Rattle.derivation_text.specs.ProofText.{rule_text, more_variables, variables_text, credit_text, more_credits, credits_text, tree_text, parts_text, more_parts}
use Rattle.derivation_text.specs.Writing.{head_text, ends_text, after_ends, nodes_text}
use Rattle.derivation_text.proofs.Digits.{if_yes, if_not}

-- ---- what is after a text

more_variables_on : (vs rest : List ℕ) → more_variables vs rest ≡ more_variables vs [] ++ rest
more_variables_on [] rest = refl
more_variables_on (v ∷ vs) rest = ap (λ l. 32 ∷ decimal v ++ l) (more_variables_on vs rest) ∙ ap (λ l. 32 ∷ l) (sym (append_assoc (decimal v) (more_variables vs []) rest))

pub variables_on : (vs rest : List ℕ) → variables_text vs rest ≡ variables_text vs [] ++ rest
variables_on [] rest = refl
variables_on (v ∷ vs) rest = ap (λ l. decimal v ++ l) (more_variables_on vs rest) ∙ sym (append_assoc (decimal v) (more_variables vs []) rest)

pub credit_on : (c : Credit) (rest : List ℕ) → credit_text c rest ≡ credit_text c [] ++ rest
credit_on c rest =
    ap (λ l. decimal c.size ++ (58 ∷ l)) (ap (λ l. l ++ rest) (sym (append-nil (decimal c.count))))
    ∙ sym (append_assoc (decimal c.size) (58 ∷ (decimal c.count ++ [])) rest)

more_credits_on : (cs : List Credit) (rest : List ℕ) → more_credits cs rest ≡ more_credits cs [] ++ rest
more_credits_on [] rest = refl
more_credits_on (c ∷ cs) rest =
    ap (λ l. 32 ∷ l) (credit_on c (more_credits cs rest) ∙ ap (λ l. credit_text c [] ++ l) (more_credits_on cs rest)
    ∙ sym (append_assoc (credit_text c []) (more_credits cs []) rest) ∙ ap (λ l. l ++ rest) (sym (credit_on c (more_credits cs []))))

pub credits_on : (cs : List Credit) (rest : List ℕ) → credits_text cs rest ≡ credits_text cs [] ++ rest
credits_on [] rest = refl
credits_on (c ∷ cs) rest =
    credit_on c (more_credits cs rest) ∙ ap (λ l. credit_text c [] ++ l) (more_credits_on cs rest)
    ∙ sym (append_assoc (credit_text c []) (more_credits cs []) rest) ∙ ap (λ l. l ++ rest) (sym (credit_on c (more_credits cs [])))

-- a head, and then its parts
pub head_on : (h : Head) (rest : List ℕ) → head_text h ++ rest ≡ rule_text h.rule ++ 91 ∷ variables_text h.variables (124 ∷ credits_text h.credits (93 ∷ rest))
head_on h rest =
    append_assoc (rule_text h.rule) (91 ∷ variables_text h.variables (124 ∷ credits_text h.credits (93 ∷ []))) rest
    ∙ ap (λ l. rule_text h.rule ++ 91 ∷ l) (
    ap (λ l. l ++ rest) (variables_on h.variables (124 ∷ credits_text h.credits (93 ∷ [])))
    ∙ append_assoc (variables_text h.variables []) (124 ∷ credits_text h.credits (93 ∷ [])) rest
    ∙ sym (variables_on h.variables (124 ∷ (credits_text h.credits (93 ∷ []) ++ rest)))
    ∙ ap (λ l. variables_text h.variables (124 ∷ l)) (
    ap (λ l. l ++ rest) (credits_on h.credits (93 ∷ [])) ∙ append_assoc (credits_text h.credits []) (93 ∷ []) rest ∙ sym (credits_on h.credits (93 ∷ rest))))

-- ---- nodes in a list

abbrev after : List ℕ → List Head → List ℕ
after cs hs = ends_text cs ++ nodes_text (after_ends cs) hs

-- after the last part of an open node, and after one that isn't the last
after_last : (cs : List ℕ) (hs : List Head) → after (1 ∷ cs) hs ≡ 41 ∷ after cs hs
unfolding ends_text after_ends
after_last cs hs = refl

after_part : (n : ℕ) (cs : List ℕ) (hs : List Head) → after (suc (suc n) ∷ cs) hs ≡ 44 ∷ nodes_text (suc n ∷ cs) hs
unfolding ends_text after_ends
after_part n cs hs =
    let e = lt-ltb 1 (suc (suc n)) (omega arith) in
    let m : suc (suc n) - 1 ≡ suc n = omega arith in
    ap₂ (λ a b. a ++ nodes_text b hs) (if_yes (nat_lt 1 (suc (suc n))) (44 ∷ []) (41 ∷ ends_text cs) e)
    (if_yes (nat_lt 1 (suc (suc n))) ((suc (suc n) - 1) ∷ cs) (after_ends cs) e ∙ ap (λ k. k ∷ cs) m)

pub nodes_leaf : (cs : List ℕ) (h : Head) (hs : List Head) → h.parts ≡ 0 → nodes_text cs (h ∷ hs) ≡ head_text h ++ after cs hs
unfolding nodes_text
nodes_leaf cs h hs e = ap (λ l. head_text h ++ l) (if_not (nat_lt 0 h.parts) (40 ∷ nodes_text (h.parts ∷ cs) hs) (after cs hs) (le-ltb 0 h.parts (omega (arith, e))))

pub nodes_parts : (cs : List ℕ) (h : Head) (hs : List Head) → 0 < h.parts → nodes_text cs (h ∷ hs) ≡ head_text h ++ 40 ∷ nodes_text (h.parts ∷ cs) hs
unfolding nodes_text
nodes_parts cs h hs lt = ap (λ l. head_text h ++ l) (if_yes (nat_lt 0 h.parts) (40 ∷ nodes_text (h.parts ∷ cs) hs) (after cs hs) (lt-ltb 0 h.parts lt))

mutual
  tree_written : (t : Tree) (cs : List ℕ) (hs : List Head) → IsWhole t → nodes_text cs (flat t ++ hs) ≡ tree_text t (after cs hs)
  tree_written Missing cs hs w = absurd w
  tree_written (Branch r vs ks NoTrees) cs hs w =
      let h : Head = record { rule = r; variables = vs; credits = ks; parts = 0; span = 1 } in
      nodes_leaf cs h hs refl ∙ head_on h (after cs hs)
  tree_written (Branch r vs ks (MoreTrees t ts)) cs hs w =
      let h : Head = record { rule = r; variables = vs; credits = ks; parts = suc (count ts); span = suc (size_all (MoreTrees t ts)) } in
      nodes_parts cs h (flat_all (MoreTrees t ts) ++ hs) (omega arith)
      ∙ head_on h (40 ∷ nodes_text (suc (count ts) ∷ cs) (flat_all (MoreTrees t ts) ++ hs))
      ∙ ap (λ l. rule_text r ++ 91 ∷ variables_text vs (124 ∷ credits_text ks (93 ∷ 40 ∷ l)))
      (ap (nodes_text (suc (count ts) ∷ cs)) (append_assoc (flat t) (flat_all ts) hs)
      ∙ tree_written t (suc (count ts) ∷ cs) (flat_all ts ++ hs) w.0 ∙ ap (tree_text t) (parts_written ts cs hs w.1))

  parts_written : (ts : Trees) (cs : List ℕ) (hs : List Head) → AreWhole ts → after (suc (count ts) ∷ cs) (flat_all ts ++ hs) ≡ more_parts ts (after cs hs)
  parts_written NoTrees cs hs w = after_last cs hs
  parts_written (MoreTrees t ts) cs hs w =
      after_part (count ts) cs (flat_all (MoreTrees t ts) ++ hs)
      ∙ ap (λ l. 44 ∷ l) (ap (nodes_text (suc (count ts) ∷ cs)) (append_assoc (flat t) (flat_all ts) hs)
      ∙ tree_written t (suc (count ts) ∷ cs) (flat_all ts ++ hs) w.0 ∙ ap (tree_text t) (parts_written ts cs hs w.1))

-- the nodes of a line
pub nodes_written : (l : Line) → IsTree l → nodes_text [] (heads l.nodes.items) ≡ tree_text (entry l).tree []
unfolding ends_text after_ends nodes_text
nodes_written l h = ap (nodes_text []) (h.1 ∙ sym (append-nil (flat (entry l).tree))) ∙ tree_written (entry l).tree [] [] h.0

-- ---- a text after another one

mutual
  pub tree_on : (t : Tree) (rest : List ℕ) → IsWhole t → tree_text t rest ≡ tree_text t [] ++ rest
  tree_on Missing rest w = absurd w
  tree_on (Branch r vs cs ts) rest w =
      let h : Head = record { rule = r; variables = vs; credits = cs; parts = 0; span = 1 } in
      sym (head_on h (parts_text ts rest)) ∙ ap (λ l. head_text h ++ l) (parts_on ts rest w) ∙ sym (append_assoc (head_text h) (parts_text ts []) rest)
      ∙ ap (λ l. l ++ rest) (head_on h (parts_text ts []))

  pub parts_on : (ts : Trees) (rest : List ℕ) → AreWhole ts → parts_text ts rest ≡ parts_text ts [] ++ rest
  parts_on NoTrees rest w = refl
  parts_on (MoreTrees t ts) rest w = ap (λ l. 40 ∷ l) (
      tree_on t (more_parts ts rest) w.0 ∙ ap (λ l. tree_text t [] ++ l) (more_on ts rest w.1) ∙ sym (append_assoc (tree_text t []) (more_parts ts []) rest)
      ∙ ap (λ l. l ++ rest) (sym (tree_on t (more_parts ts []) w.0)))

  pub more_on : (ts : Trees) (rest : List ℕ) → AreWhole ts → more_parts ts rest ≡ more_parts ts [] ++ rest
  more_on NoTrees rest w = refl
  more_on (MoreTrees t ts) rest w = ap (λ l. 44 ∷ l) (
      tree_on t (more_parts ts rest) w.0 ∙ ap (λ l. tree_text t [] ++ l) (more_on ts rest w.1) ∙ sym (append_assoc (tree_text t []) (more_parts ts []) rest)
      ∙ ap (λ l. l ++ rest) (sym (tree_on t (more_parts ts []) w.0)))
