-- The writers' loops: an item after another.
use Rattle.std.proofs.Common.{◌≡◌, ℕ, zero, suc, ◌+◌, ◌-◌, ◌<◌, ◌≤◌, List, [], ◌∷◌, ◌++◌, length, drop, map, get_or, refl, sym, ap, ap₂, ◌∙◌, subst, append_assoc, arith}
use Rattle.std.specs.Prelude.{nat_lt}
use Rattle.std.specs.Fmt.{decimal}
use Rattle.std.proofs.lemmas.Bool.{lt-ltb, le-ltb}
use Rattle.std.proofs.lemmas.List.{append-nil, drop_more}
use Rattle.derivation_trees.specs.declared.derivation.Credit.{Credit}
use Rattle.derivation_trees.specs.declared.derivation.Node.{Node}
use Rattle.derivation_trees.specs.declared.derivation.Line.{Line}
use Rattle.derivation_trees.specs.Trees.{Head, head, heads, entry}
use Rattle.derivation_trees.specs.WholeTrees.{IsTree, AreTrees}
use Rattle.derivation_text.specs.ProofText.{rule_text, more_variables, variables_text, credit_text, more_credits, credits_text, tree_text, line_text, lines_text}
use Rattle.derivation_text.specs.Writing.{head_text, ends_text, after_ends, nodes_text, turned}
use Rattle.derivation_text.proofs.Digits.{if_yes, if_not}
use Rattle.derivation_text.proofs.Written.{variables_on, credit_on, credits_on, nodes_leaf, nodes_parts, nodes_written, tree_on}
use Rattle.fip_language.proofs.Facts.{drop_end as drop_all}

-- ---- variables and credits

pub variable_next : (vs : List ℕ) (i v : ℕ) (t t1 t2 o : List ℕ) → i < length vs → v ≡ get_or vs i 0 → t1 ≡ t ++ 32 ∷ [] → t2 ≡ t1 ++ decimal v → t ++ more_variables (drop i vs) [] ≡ o → t2 ++ more_variables (drop (i + 1) vs) [] ≡ o
variable_next vs i v t t1 t2 o lt e f g h =
    ap (λ l. l ++ more_variables (drop (i + 1) vs) []) (g ∙ ap (λ l. l ++ decimal v) f ∙ append_assoc t (32 ∷ []) (decimal v))
    ∙ append_assoc t (32 ∷ decimal v) (more_variables (drop (i + 1) vs) [])
    ∙ ap (λ n. t ++ more_variables (n ∷ drop (i + 1) vs) []) e ∙ ap (λ l. t ++ more_variables l []) (sym (drop_more vs i 0 lt)) ∙ h

pub variables_done : (vs : List ℕ) (i : ℕ) (t o : List ℕ) → length vs ≤ i → t ++ more_variables (drop i vs) [] ≡ o → t ≡ o
variables_done vs i t o le h = sym (append-nil t) ∙ ap (λ l. t ++ more_variables l []) (sym (drop_all vs i le)) ∙ h

pub credit_next : (cs : List Credit) (i : ℕ) (c : Credit) (t t1 t2 o : List ℕ) → i < length cs → c ≡ get_or cs i c → t1 ≡ t ++ 32 ∷ [] → t2 ≡ t1 ++ credit_text c [] → t ++ more_credits (drop i cs) [] ≡ o → t2 ++ more_credits (drop (i + 1) cs) [] ≡ o
credit_next cs i c t t1 t2 o lt e f g h =
    let rest = more_credits (drop (i + 1) cs) [] in
    ap (λ l. l ++ rest) (g ∙ ap (λ l. l ++ credit_text c []) f ∙ append_assoc t (32 ∷ []) (credit_text c []))
    ∙ append_assoc t (32 ∷ credit_text c []) rest ∙ ap (λ l. t ++ 32 ∷ l) (sym (credit_on c rest))
    ∙ ap (λ k. t ++ more_credits (k ∷ drop (i + 1) cs) []) e ∙ ap (λ l. t ++ more_credits l []) (sym (drop_more cs i c lt)) ∙ h

pub credits_done : (cs : List Credit) (i : ℕ) (t o : List ℕ) → length cs ≤ i → t ++ more_credits (drop i cs) [] ≡ o → t ≡ o
credits_done cs i t o le h = sym (append-nil t) ∙ ap (λ l. t ++ more_credits l []) (sym (drop_all cs i le)) ∙ h

-- ---- ends of nodes

pub turned_push : (xs : List ℕ) (x : ℕ) → turned (xs ++ x ∷ []) ≡ x ∷ turned xs
unfolding turned
turned_push [] x = refl
turned_push (y ∷ xs) x = ap (λ l. l ++ y ∷ []) (turned_push xs x)

ends_part : (p : ℕ) (cs : List ℕ) → 1 < p → (ends_text (p ∷ cs) ≡ 44 ∷ []) × (after_ends (p ∷ cs) ≡ (p - 1) ∷ cs)
unfolding ends_text after_ends
ends_part p cs lt =
    let e = lt-ltb 1 p lt in
    (if_yes (nat_lt 1 p) (44 ∷ []) (41 ∷ ends_text cs) e, if_yes (nat_lt 1 p) ((p - 1) ∷ cs) (after_ends cs) e)

ends_last : (p : ℕ) (cs : List ℕ) → p ≤ 1 → (ends_text (p ∷ cs) ≡ 41 ∷ ends_text cs) × (after_ends (p ∷ cs) ≡ after_ends cs)
unfolding ends_text after_ends
ends_last p cs le =
    let e = le-ltb 1 p le in
    (if_not (nat_lt 1 p) (44 ∷ []) (41 ∷ ends_text cs) e, if_not (nat_lt 1 p) ((p - 1) ∷ cs) (after_ends cs) e)

-- the innermost open node goes on
pub comma_text : (here inner : List ℕ) (p : ℕ) (t t1 o : List ℕ) → here ≡ inner ++ p ∷ [] → 1 < p → t1 ≡ t ++ 44 ∷ [] → t ++ ends_text (turned here) ≡ o → t1 ≡ o
comma_text here inner p t t1 o e lt f h =
    f ∙ ap (λ l. t ++ l) (sym (ends_part p (turned inner) lt).0) ∙ ap (λ l. t ++ ends_text l) (sym (ap turned e ∙ turned_push inner p)) ∙ h

pub comma_open : (here inner next : List ℕ) (p : ℕ) (o : List ℕ) → here ≡ inner ++ p ∷ [] → 1 < p → next ≡ inner ++ (p - 1) ∷ [] → after_ends (turned here) ≡ o → turned next ≡ o
comma_open here inner next p o e lt f h =
    ap turned f ∙ turned_push inner (p - 1) ∙ sym (ends_part p (turned inner) lt).1 ∙ ap after_ends (sym (ap turned e ∙ turned_push inner p)) ∙ h

-- it ends
pub close_text : (here inner : List ℕ) (p : ℕ) (t t1 o : List ℕ) → here ≡ inner ++ p ∷ [] → p ≤ 1 → t1 ≡ t ++ 41 ∷ [] → t ++ ends_text (turned here) ≡ o → t1 ++ ends_text (turned inner) ≡ o
close_text here inner p t t1 o e le f h =
    ap (λ l. l ++ ends_text (turned inner)) f ∙ append_assoc t (41 ∷ []) (ends_text (turned inner))
    ∙ ap (λ l. t ++ l) (sym (ends_last p (turned inner) le).0) ∙ ap (λ l. t ++ ends_text l) (sym (ap turned e ∙ turned_push inner p)) ∙ h

pub close_open : (here inner : List ℕ) (p : ℕ) (o : List ℕ) → here ≡ inner ++ p ∷ [] → p ≤ 1 → after_ends (turned here) ≡ o → after_ends (turned inner) ≡ o
close_open here inner p o e le h = sym (ends_last p (turned inner) le).1 ∙ ap after_ends (sym (ap turned e ∙ turned_push inner p)) ∙ h

-- none is open
pub ended_text : (here : List ℕ) (t o : List ℕ) → here ≡ [] → t ++ ends_text (turned here) ≡ o → t ≡ o
unfolding ends_text turned
ended_text here t o e h = sym (append-nil t) ∙ ap (λ l. t ++ ends_text (turned l)) (sym e) ∙ h

pub ended_open : (here : List ℕ) (o : List ℕ) → here ≡ [] → after_ends (turned here) ≡ o → turned here ≡ o
unfolding after_ends turned
ended_open here o e h = ap turned e ∙ ap (λ l. after_ends (turned l)) (sym e) ∙ h

-- ---- nodes

pub node_open : (t t1 t2 here next : List ℕ) (h : Head) (hs : List Head) → t1 ≡ t ++ head_text h → t2 ≡ t1 ++ 40 ∷ [] → next ≡ here ++ h.parts ∷ [] → 0 < h.parts → t2 ++ nodes_text (turned next) hs ≡ t ++ nodes_text (turned here) (h ∷ hs)
node_open t t1 t2 here next h hs e f g lt =
    ap₂ (λ l cs. l ++ nodes_text cs hs) (f ∙ ap (λ l. l ++ 40 ∷ []) e) (ap turned g ∙ turned_push here h.parts)
    ∙ append_assoc (t ++ head_text h) (40 ∷ []) (nodes_text (h.parts ∷ turned here) hs)
    ∙ append_assoc t (head_text h) (40 ∷ nodes_text (h.parts ∷ turned here) hs)
    ∙ ap (λ l. t ++ l) (sym (nodes_parts (turned here) h hs lt))

pub node_leaf : (t t1 t2 here next : List ℕ) (h : Head) (hs : List Head) → t1 ≡ t ++ head_text h → t2 ≡ t1 ++ ends_text (turned here) → turned next ≡ after_ends (turned here) → h.parts ≡ 0 → t2 ++ nodes_text (turned next) hs ≡ t ++ nodes_text (turned here) (h ∷ hs)
node_leaf t t1 t2 here next h hs e f g z =
    ap₂ (λ l cs. l ++ nodes_text cs hs) (f ∙ ap (λ l. l ++ ends_text (turned here)) e) g
    ∙ append_assoc (t ++ head_text h) (ends_text (turned here)) (nodes_text (after_ends (turned here)) hs)
    ∙ append_assoc t (head_text h) (ends_text (turned here) ++ nodes_text (after_ends (turned here)) hs)
    ∙ ap (λ l. t ++ l) (sym (nodes_leaf (turned here) h hs z))

pub node_next : (ns : List Node) (i : ℕ) (n : Node) (t t1 here next o : List ℕ) → i < length ns → n ≡ get_or ns i n → ((hs : List Head) → t1 ++ nodes_text (turned next) hs ≡ t ++ nodes_text (turned here) (head n ∷ hs)) → t ++ nodes_text (turned here) (heads (drop i ns)) ≡ o → t1 ++ nodes_text (turned next) (heads (drop (i + 1) ns)) ≡ o
node_next ns i n t t1 here next o lt e f h =
    f (heads (drop (i + 1) ns)) ∙ ap (λ m. t ++ nodes_text (turned here) (head m ∷ heads (drop (i + 1) ns))) e
    ∙ ap (λ l. t ++ nodes_text (turned here) (heads l)) (sym (drop_more ns i n lt)) ∙ h

pub nodes_done : (ns : List Node) (i : ℕ) (t here o : List ℕ) → length ns ≤ i → t ++ nodes_text (turned here) (heads (drop i ns)) ≡ o → t ≡ o
unfolding nodes_text
nodes_done ns i t here o le h = sym (append-nil t) ∙ ap (λ l. t ++ nodes_text (turned here) (heads l)) (sym (drop_all ns i le)) ∙ h

pub nodes_begun : (ns : List Node) (t : List ℕ) → t ++ nodes_text (turned []) (heads ns) ≡ t ++ nodes_text [] (heads ns)
unfolding turned
nodes_begun ns t = refl

-- ---- lines

line_on : (l : Line) (rest : List ℕ) → IsTree l → line_text (entry l) rest ≡ line_text (entry l) [] ++ rest
line_on l rest w =
    let e = entry l in
    ap (λ k. decimal e.instance ++ 32 ∷ k) (tree_on e.tree (10 ∷ rest) w.0 ∙ sym (append_assoc (tree_text e.tree []) (10 ∷ []) rest) ∙ ap (λ k. k ++ rest) (sym (tree_on e.tree (10 ∷ []) w.0)))
    ∙ sym (append_assoc (decimal e.instance) (32 ∷ tree_text e.tree (10 ∷ [])) rest)

pub line_written : (l : Line) (t t1 t2 t3 t4 : List ℕ) → IsTree l → t1 ≡ t ++ decimal l.instance → t2 ≡ t1 ++ 32 ∷ [] → t3 ≡ t2 ++ nodes_text [] (heads l.nodes.items) → t4 ≡ t3 ++ 10 ∷ [] → t4 ≡ t ++ line_text (entry l) []
line_written l t t1 t2 t3 t4 w e f g h =
    let e0 = entry l in
    let n = nodes_text [] (heads l.nodes.items) in
    h ∙ ap (λ k. k ++ 10 ∷ []) (g ∙ ap (λ k. k ++ n) (f ∙ ap (λ k. k ++ 32 ∷ []) e))
    ∙ append_assoc ((t ++ decimal l.instance) ++ 32 ∷ []) n (10 ∷ [])
    ∙ append_assoc (t ++ decimal l.instance) (32 ∷ []) (n ++ 10 ∷ [])
    ∙ append_assoc t (decimal l.instance) (32 ∷ (n ++ 10 ∷ []))
    ∙ ap (λ k. t ++ (decimal l.instance ++ 32 ∷ k)) (ap (λ k. k ++ 10 ∷ []) (nodes_written l w) ∙ sym (tree_on e0.tree (10 ∷ []) w.0))

trees_at : (ls : List Line) (i : ℕ) (l : Line) → AreTrees ls → i < length ls → l ≡ get_or ls i l → IsTree l
trees_at [] i l w lt e = absurd (omega arith)
trees_at (k ∷ ls) zero l w lt e = subst IsTree (sym e) w.0
trees_at (k ∷ ls) (suc i) l w lt e = trees_at ls i l w.1 (omega arith) e

pub line_next : (ls : List Line) (i : ℕ) (l : Line) (t t1 o : List ℕ) → AreTrees ls → i < length ls → l ≡ get_or ls i l → (IsTree l → t1 ≡ t ++ line_text (entry l) []) → t ++ lines_text (map entry (drop i ls)) ≡ o → t1 ++ lines_text (map entry (drop (i + 1) ls)) ≡ o
line_next ls i l t t1 o w lt e f h =
    let v = trees_at ls i l w lt e in
    let rest = lines_text (map entry (drop (i + 1) ls)) in
    ap (λ k. k ++ rest) (f v) ∙ append_assoc t (line_text (entry l) []) rest ∙ ap (λ k. t ++ k) (sym (line_on l rest v))
    ∙ ap (λ m. t ++ lines_text (entry m ∷ map entry (drop (i + 1) ls))) e ∙ ap (λ k. t ++ lines_text (map entry k)) (sym (drop_more ls i l lt)) ∙ h

pub lines_done : (ls : List Line) (i : ℕ) (t o : List ℕ) → length ls ≤ i → t ++ lines_text (map entry (drop i ls)) ≡ o → t ≡ o
lines_done ls i t o le h = sym (append-nil t) ∙ ap (λ k. t ++ lines_text (map entry k)) (sym (drop_all ls i le)) ∙ h

-- ---- heads

pub head_written : (h : Head) (t t1 t2 t3 t4 t5 t6 : List ℕ) → t1 ≡ t ++ rule_text h.rule → t2 ≡ t1 ++ 91 ∷ [] → t3 ≡ t2 ++ variables_text h.variables [] → t4 ≡ t3 ++ 124 ∷ [] → t5 ≡ t4 ++ credits_text h.credits [] → t6 ≡ t5 ++ 93 ∷ [] → t6 ≡ t ++ head_text h
head_written h t t1 t2 t3 t4 t5 t6 e f g i j k =
    let r = rule_text h.rule in
    let vs = variables_text h.variables [] in
    let cs = credits_text h.credits [] in
    k ∙ ap (λ l. l ++ 93 ∷ []) (j ∙ ap (λ l. l ++ cs) (i ∙ ap (λ l. l ++ 124 ∷ []) (g ∙ ap (λ l. l ++ vs) (f ∙ ap (λ l. l ++ 91 ∷ []) e))))
    ∙ append_assoc ((((t ++ r) ++ 91 ∷ []) ++ vs) ++ 124 ∷ []) cs (93 ∷ [])
    ∙ append_assoc (((t ++ r) ++ 91 ∷ []) ++ vs) (124 ∷ []) (cs ++ 93 ∷ [])
    ∙ append_assoc ((t ++ r) ++ 91 ∷ []) vs (124 ∷ (cs ++ 93 ∷ []))
    ∙ append_assoc (t ++ r) (91 ∷ []) (vs ++ 124 ∷ (cs ++ 93 ∷ []))
    ∙ append_assoc t r (91 ∷ (vs ++ 124 ∷ (cs ++ 93 ∷ [])))
    ∙ ap (λ l. t ++ (r ++ 91 ∷ (vs ++ 124 ∷ l))) (sym (credits_on h.credits (93 ∷ [])))
    ∙ ap (λ l. t ++ (r ++ 91 ∷ l)) (sym (variables_on h.variables (124 ∷ credits_text h.credits (93 ∷ []))))
