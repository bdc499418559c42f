-- On each side fewer tests are left.
use Rattle.std.proofs.Common.{◌≡◌, ℕ, zero, suc, ◌<◌, ◌≤◌, List, [], ◌∷◌, Some, Bool, true, false, refl, sym, ap, ◌∙◌, subst, arith}
use Rattle.std.specs.Prelude.{if◌then◌else◌, slice_get}
use Rattle.match_knowledge.specs.declared.heads.Head.{Head}
use Rattle.match_knowledge.specs.declared.verdicts.Verdict.TheVariants.{Asks}
use Rattle.match_knowledge.specs.ValueHeads.{same_head}
use Rattle.match_knowledge.specs.Patterns.{Pattern, Any, Test, Patterns, NoPatterns, MorePatterns, nodes, nodes_all, row_nodes}
use Rattle.match_knowledge.specs.Known.{Known, Open, Is, Knowns, NoKnowns, MoreKnowns, is_in, compare, compare_all, is_asks, opens, settle, side, side_all, tests, tests_all, row_tests}
use Rattle.match_knowledge.proofs.Facts.{same_is, same_refl}
use Rattle.match_knowledge.proofs.VerdictFacts.{if_asks}
use Rattle.match_knowledge.proofs.Split.{asks_is, both_asks, is_asking}

-- never more tests than the pattern has
if_most : (b : Bool) (n m : ℕ) → n ≤ m → (if b then n else 0) ≤ m
if_most true n m h = h
if_most false n m h = omega arith

if_most_not : (b : Bool) (n : ℕ) → (if b then 0 else n) ≤ n
if_most_not true n = omega arith
if_most_not false n = omega arith

mutual
  pub at_most : (p : Pattern) (k : Known) → tests p k ≤ nodes p
  at_most Any k = omega arith
  at_most (Test t h ps) (Open out) = if_most_not (is_in h out) (suc (nodes_all ps))
  at_most (Test t h ps) (Is g ks) = if_most (same_head h g) (tests_all ps ks) (suc (nodes_all ps)) (let m = all_most ps ks in omega arith)

  pub all_most : (ps : Patterns) (ks : Knowns) → tests_all ps ks ≤ nodes_all ps
  all_most NoPatterns ks = omega arith
  all_most (MorePatterns p ps) NoKnowns = omega arith
  all_most (MorePatterns p ps) (MoreKnowns k ks) = let a = at_most p k in let b = all_most ps ks in omega arith

le_is : (h g : Head) (n m : ℕ) (out : List Head) → is_in g out ≡ false → n ≤ m → (s : Bool) → same_head h g ≡ s → (if s then n else 0) ≤ (if is_in h out then 0 else suc m)
le_is h g n m out e l false q = omega arith
le_is h g n m out e l true q = subst (λ b. n ≤ (if b then 0 else suc m)) (sym (ap (λ z. is_in z out) (same_is h g q) ∙ e)) (omega arith)

le_out : (b d : Bool) (n : ℕ) → (if (if b then true else d) then 0 else n) ≤ (if d then 0 else n)
le_out true true n = omega arith
le_out true false n = omega arith
le_out false true n = omega arith
le_out false false n = omega arith

le_settle : (b : Bool) (g h : Head) (ps qs : Patterns) (out : List Head) (t : ℕ) → is_in g out ≡ false → tests (Test t h qs) (settle b g ps out) ≤ tests (Test t h qs) (Open out)
le_settle true g h ps qs out t e = le_is h g (tests_all qs (opens ps)) (nodes_all qs) out e (all_most qs (opens ps)) (same_head h g) refl
le_settle false g h ps qs out t e = le_out (same_head g h) (is_in h out) (suc (nodes_all qs))

le_if : (b : Bool) (n m : ℕ) → n ≤ m → (if b then n else 0) ≤ (if b then m else 0)
le_if true n m h = h
le_if false n m h = omega arith

le_more : (b : Bool) (p q : Pattern) (ps qs : Patterns) (k : Known) (ks : Knowns) → (c : Bool) → (c ≡ true → tests q (side b p k) ≤ tests q k) → (c ≡ false → tests_all qs (side_all b ps ks) ≤ tests_all qs ks) → tests_all (MorePatterns q qs) (if c then MoreKnowns (side b p k) ks else MoreKnowns k (side_all b ps ks)) ≤ tests_all (MorePatterns q qs) (MoreKnowns k ks)
le_more b p q ps qs k ks true f g = let h = f refl in omega arith
le_more b p q ps qs k ks false f g = let h = g refl in omega arith

mutual
  pub no_more : (b : Bool) (p q : Pattern) (k : Known) → compare p k ≡ Asks → tests q (side b p k) ≤ tests q k
  no_more b p Any k e = omega arith
  no_more b Any (Test u h qs) k e = cc
  no_more b (Test t g ps) (Test u h qs) (Open out) e = le_settle b g h ps qs out u (if_asks (is_in g out) e)
  no_more b (Test t g ps) (Test u h qs) (Is f ks) e = le_if (same_head h f) (tests_all qs (side_all b ps ks)) (tests_all qs ks) (let w = asks_is (compare_all ps ks) (same_head g f) e in none_more b ps qs ks w.1)

  pub none_more : (b : Bool) (ps qs : Patterns) (ks : Knowns) → compare_all ps ks ≡ Asks → tests_all qs (side_all b ps ks) ≤ tests_all qs ks
  none_more b ps NoPatterns ks e = omega arith
  none_more b NoPatterns (MorePatterns q qs) ks e = cc
  none_more b (MorePatterns p ps) (MorePatterns q qs) NoKnowns e = cc
  none_more b (MorePatterns p ps) (MorePatterns q qs) (MoreKnowns k ks) e = le_more b p q ps qs k ks (is_asks (compare p k)) (λ c. no_more b p q k (is_asking (compare p k) c)) (λ c. none_more b ps qs ks (both_asks (compare p k) (compare_all ps ks) e c))

lt_settle : (b : Bool) (g : Head) (ps : Patterns) (out : List Head) (t : ℕ) → is_in g out ≡ false → tests (Test t g ps) (settle b g ps out) < tests (Test t g ps) (Open out)
lt_settle true g ps out t e = subst (λ b. (if same_head g g then tests_all ps (opens ps) else 0) < (if b then 0 else suc (nodes_all ps))) (sym e) (let h = if_most (same_head g g) (tests_all ps (opens ps)) (nodes_all ps) (all_most ps (opens ps)) in omega arith)
lt_settle false g ps out t e = subst (λ b. (if (if same_head g g then true else is_in g out) then 0 else suc (nodes_all ps)) < (if b then 0 else suc (nodes_all ps))) (sym e) (subst (λ b. (if (if b then true else is_in g out) then 0 else suc (nodes_all ps)) < suc (nodes_all ps)) (sym (same_refl g)) (omega arith))

lt_if : (b : Bool) (n m : ℕ) → b ≡ true → n < m → (if b then n else 0) < (if b then m else 0)
lt_if true n m e h = h
lt_if false n m e h = cc

lt_more : (b : Bool) (p : Pattern) (ps : Patterns) (k : Known) (ks : Knowns) → (c : Bool) → (c ≡ true → tests p (side b p k) < tests p k) → (c ≡ false → tests_all ps (side_all b ps ks) < tests_all ps ks) → tests_all (MorePatterns p ps) (if c then MoreKnowns (side b p k) ks else MoreKnowns k (side_all b ps ks)) < tests_all (MorePatterns p ps) (MoreKnowns k ks)
lt_more b p ps k ks true f g = let h = f refl in omega arith
lt_more b p ps k ks false f g = let h = g refl in omega arith

mutual
  pub fewer : (b : Bool) (p : Pattern) (k : Known) → compare p k ≡ Asks → tests p (side b p k) < tests p k
  fewer b Any k e = cc
  fewer b (Test t g ps) (Open out) e = lt_settle b g ps out t (if_asks (is_in g out) e)
  fewer b (Test t g ps) (Is f ks) e = let w = asks_is (compare_all ps ks) (same_head g f) e in lt_if (same_head g f) (tests_all ps (side_all b ps ks)) (tests_all ps ks) w.0 (all_fewer b ps ks w.1)

  pub all_fewer : (b : Bool) (ps : Patterns) (ks : Knowns) → compare_all ps ks ≡ Asks → tests_all ps (side_all b ps ks) < tests_all ps ks
  all_fewer b NoPatterns ks e = cc
  all_fewer b (MorePatterns p ps) NoKnowns e = cc
  all_fewer b (MorePatterns p ps) (MoreKnowns k ks) e = lt_more b p ps k ks (is_asks (compare p k)) (λ c. fewer b p k (is_asking (compare p k) c)) (λ c. all_fewer b ps ks (both_asks (compare p k) (compare_all ps ks) e c))

pub rows_no_more : (b : Bool) (p : Pattern) (rows : List Pattern) (k : Known) → compare p k ≡ Asks → row_tests rows (side b p k) ≤ row_tests rows k
rows_no_more b p [] k e = omega arith
rows_no_more b p (q ∷ rows) k e = let h = no_more b p q k e in let r = rows_no_more b p rows k e in omega arith

-- the measure of the search
pub rows_fewer : (b : Bool) (p : Pattern) (i : ℕ) (rows : List Pattern) (k : Known) → slice_get rows i ≡ Some p → compare p k ≡ Asks → row_tests rows (side b p k) < row_tests rows k
rows_fewer b p i [] k s e = cc
rows_fewer b p zero (q ∷ rows) k s e =
    let same : q ≡ p = cc in
    let h : tests q (side b p k) < tests q k = subst (λ z. tests z (side b p k) < tests z k) (sym same) (fewer b p k e) in
    let r = rows_no_more b p rows k e in
    omega arith
rows_fewer b p (suc i) (q ∷ rows) k s e =
    let h = no_more b p q k e in
    let r = rows_fewer b p i rows k s e in
    omega arith

pub rows_most : (rows : List Pattern) (k : Known) → row_tests rows k ≤ row_nodes rows
rows_most [] k = omega arith
rows_most (p ∷ rows) k = let a = at_most p k in let b = rows_most rows k in omega arith
